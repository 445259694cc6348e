use Rattle.std.proofs.Common.{◌≡◌, ◌++◌, map, drop}
use Rattle.std.specs.Option.{option_to_list, option_map}
use Rattle.axi4_rules.specs.Lines.{values}
use Rattle.axi4_rules.proofs.values.optional.Given as goal

abbrev pub invariant-loop-field : goal.invariant-loop-field
invariant-loop-field l =
    values l.key (map (λ f. f.now) l.fields)
    ≡ option_to_list (option_map (λ t. t.now) l.found) ++ values l.key (map (λ f. f.now) (drop l.field-index l.fields))
