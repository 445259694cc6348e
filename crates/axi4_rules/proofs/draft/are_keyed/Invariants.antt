use Rattle.std.proofs.Common.{◌≡◌, map, drop}
use Rattle.std.specs.List.{list_all}
use Rattle.axi4_rules.specs.Lines.{is_keyed}
use Rattle.axi4_rules.proofs.draft.are_keyed.Given as goal

abbrev pub invariant-loop-field : goal.invariant-loop-field
invariant-loop-field l =
    list_all is_keyed (map (λ f. f.now) l.fields) ≡ list_all is_keyed (map (λ f. f.now) (drop l.field-index l.fields))
