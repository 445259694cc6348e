use Rattle.std.proofs.Common.{map}
use Rattle.std.proofs.lemmas.List.Elements.{All-same}
use Rattle.std.proofs.lemmas.List.Sorted.{All-permutation}
use Rattle.parser_grammar.specs.Views.{item_of}
use Rattle.types.specs.Faults.{byte_of}
use Rattle.suite_over_dump.specs.declared.standing.Named.{Named}
use Rattle.suite_over_dump.specs.declared.standing.Standing.{Standing}
use Rattle.suite_over_dump.specs.Standing.{IsWritten, StandsIn}
use Rattle.suite_over_dump.proofs.standing.repeated_in.Goals as goal

pub returns : goal.returns
returns c = λ s.
    let items = map item_of c.args.items.now in
    let Written = λ (n : Named). IsWritten items n.name in
    let Stands = λ (one : Standing). StandsIn s items (byte_of one.fault) in
    let names = All-permutation Written _ _ c.in_ok-sort_by_key.ensures.permutation c.in_ok-names.ensures in
    All-permutation Stands _ _ c.in_ok-sort_by_key-2.ensures.permutation
    (c.in_ok-all.ensures s items (All-same Written _ _ c.as_slice.ensures.value names))
