use Rattle.parser_grammar.specs.Views.{sequence_of}
use Rattle.types_names.specs.Views.{scope_of, columns_in}
use Rattle.types_names.specs.Faults.{sequence_faults}
use Rattle.types_names.specs.Columns.{sequence_signals}
use Rattle.types_names.proofs.FaultLaws.{no_faults-parts}
use Rattle.types_names.proofs.ColumnLaws.{listed-parts}
use Rattle.types.proofs.drafted_assertion.antecedent_of.Goals as goal

pub draft_of-requires-clause-sound : goal.draft_of-requires-clause-sound
draft_of-requires-clause-sound c = λ k.
    let s = scope_of c.args.scope.now in
    let whole = rw c.in-Implication.is at (c.requires.sound k) in
    rw c.deref.ensures
    (no_faults-parts (sequence_faults s k (sequence_of c.in-Implication.antecedent.value))
    (sequence_faults s k (sequence_of c.in-Implication.field-3.value)) whole).0

pub draft_of-requires-clause-listed : goal.draft_of-requires-clause-listed
draft_of-requires-clause-listed c =
    let s = scope_of c.args.scope.now in
    let whole = rw c.in-Implication.is at c.requires.listed in
    rw c.deref.ensures
    (listed-parts (columns_in c.args.columns.now)
    (sequence_signals s (sequence_of c.in-Implication.antecedent.value))
    (sequence_signals s (sequence_of c.in-Implication.field-3.value)) whole).0
