use Rattle.std.proofs.Common.{◌≡◌, map, drop}
use Rattle.std.specs.Prelude.{nat_eq}
use Rattle.std.specs.List.{list_any, starts_with}
use Rattle.axi4_rules.proofs.draft.begins_with_any.Given as goal

abbrev pub invariant-loop-key : goal.invariant-loop-key
invariant-loop-key l =
    list_any (starts_with nat_eq l.field) (map (λ k. k.now) l.keys)
    ≡ list_any (starts_with nat_eq l.field) (map (λ k. k.now) (drop l.key-index l.keys))
