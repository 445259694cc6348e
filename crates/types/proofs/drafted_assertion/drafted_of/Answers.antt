use Rattle.std.specs.Prelude.{option_map}
use Rattle.parser_grammar.specs.Views.{boxed_of, property_of}
use Rattle.types.specs.Views.{draft_of}
use Rattle.types_names.specs.Views.{scope_of, columns_in}
use Rattle.types_names.specs.Faults.{optional_faults, property_faults}
use Rattle.types_names.specs.Columns.{optional_signals, property_signals}
use Rattle.types_names.proofs.FaultLaws.{no_faults-parts}
use Rattle.types_names.proofs.ColumnLaws.{listed-parts}
use Rattle.types.proofs.ReadingLaws.{extends_on}
use Rattle.types.proofs.DraftedLaws.{antecedent_grows, disabled_grows}
use Rattle.types.proofs.drafted_assertion.drafted_of.Goals as goal

pub disabling_of-requires-clause-sound : goal.disabling_of-requires-clause-sound
disabling_of-requires-clause-sound c = λ k.
    (no_faults-parts (optional_faults (scope_of c.args.scope.now) k (option_map boxed_of c.args.assertion.now.disable))
    (property_faults (scope_of c.args.scope.now) k (property_of c.args.assertion.now.property))
    (c.requires.sound k)).0

pub disabling_of-requires-clause-listed : goal.disabling_of-requires-clause-listed
disabling_of-requires-clause-listed c =
    (listed-parts (columns_in c.args.columns.now)
    (optional_signals (scope_of c.args.scope.now) (option_map boxed_of c.args.assertion.now.disable))
    (property_signals (scope_of c.args.scope.now) (property_of c.args.assertion.now.property))
    c.requires.listed).0

pub antecedent_of-requires-clause-sound : goal.antecedent_of-requires-clause-sound
antecedent_of-requires-clause-sound c = λ k.
    (no_faults-parts (optional_faults (scope_of c.args.scope.now) k (option_map boxed_of c.args.assertion.now.disable))
    (property_faults (scope_of c.args.scope.now) k (property_of c.args.assertion.now.property))
    (c.requires.sound k)).1

pub antecedent_of-requires-clause-listed : goal.antecedent_of-requires-clause-listed
antecedent_of-requires-clause-listed c =
    (listed-parts (columns_in c.args.columns.now)
    (optional_signals (scope_of c.args.scope.now) (option_map boxed_of c.args.assertion.now.disable))
    (property_signals (scope_of c.args.scope.now) (property_of c.args.assertion.now.property))
    c.requires.listed).1

pub consequent_of-requires-clause-sound : goal.consequent_of-requires-clause-sound
consequent_of-requires-clause-sound c = λ k.
    (no_faults-parts (optional_faults (scope_of c.args.scope.now) k (option_map boxed_of c.args.assertion.now.disable))
    (property_faults (scope_of c.args.scope.now) k (property_of c.args.assertion.now.property))
    (c.requires.sound k)).1

pub consequent_of-requires-clause-listed : goal.consequent_of-requires-clause-listed
consequent_of-requires-clause-listed c =
    (listed-parts (columns_in c.args.columns.now)
    (optional_signals (scope_of c.args.scope.now) (option_map boxed_of c.args.assertion.now.disable))
    (property_signals (scope_of c.args.scope.now) (property_of c.args.assertion.now.property))
    c.requires.listed).1

pub returns-clause-drafted : goal.returns-clause-drafted
returns-clause-drafted c =
    let s = scope_of c.args.scope.now in
    let cs = columns_in c.args.columns.now in
    let later = c.in_ok-consequent.ensures.grows in
    let more =
    extends_on c.disabling_of.new.booleans.items c.antecedent_of.new.booleans.items
    c.consequent_of.new.booleans.items c.in_ok-antecedent.ensures.grows later in
    record {
      name = c.in_ok-name.ensures;
      first = c.is_first.ensures;
      antecedent =
          antecedent_grows s cs c.antecedent_of.new.booleans.items c.consequent_of.new.booleans.items later
          (property_of c.args.assertion.now.property) (draft_of c.in_ok-antecedent.antecedent.value)
          c.in_ok-antecedent.ensures.reads;
      consequent = c.in_ok-consequent.ensures.reads;
      antecedent_at = c.antecedent_at.ensures;
      consequent_at = c.consequent_at.ensures;
      disabling =
          disabled_grows s cs c.disabling_of.new.booleans.items c.consequent_of.new.booleans.items more
          (option_map boxed_of c.args.assertion.now.disable) c.in_ok-disabling.disabling
          c.in_ok-disabling.ensures.disabled;
    }
