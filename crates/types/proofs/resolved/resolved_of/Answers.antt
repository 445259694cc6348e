use Rattle.types.specs.Views.{draft_of}
use Rattle.std.proofs.Common.{length}
use Rattle.parser_grammar.specs.Views.{property_of}
use Rattle.types_names.specs.Views.{scope_of, columns_in}
use Rattle.types.proofs.ResolvedLaws.{antecedent_below, consequent_below}
use Rattle.types.proofs.resolved.resolved_of.Goals as goal

pub entry_in-requires : goal.entry_in-requires
entry_in-requires c = λ p i.
    c.requires.entries p
    (antecedent_below (scope_of c.args.scope.now) (columns_in c.args.columns.now) c.drafted_of.new.booleans.items
    (length c.args.table.now) c.requires.declared (property_of c.args.assertion.now.property)
    (draft_of c.in_ok-drafted.drafted.antecedent.value) c.in_ok-drafted.ensures.drafted.antecedent p
    (rw c.deref.ensures at i))

pub entry_in-requires-2 : goal.entry_in-requires-2
entry_in-requires-2 c = λ p i.
    c.requires.entries p
    (consequent_below (scope_of c.args.scope.now) (columns_in c.args.columns.now) c.drafted_of.new.booleans.items
    (length c.args.table.now) c.requires.declared (property_of c.args.assertion.now.property)
    (draft_of c.in_ok-drafted.drafted.consequent.value) c.in_ok-drafted.ensures.drafted.consequent p
    (rw c.deref-2.ensures at i))

pub returns-clause-resolved : goal.returns-clause-resolved
returns-clause-resolved c = λ bodies table.
    let d = c.in_ok-drafted.ensures.drafted in
    record {
      antecedent = draft_of c.in_ok-drafted.drafted.antecedent.value;
      consequent = draft_of c.in_ok-drafted.drafted.consequent.value;
      name = d.name;
      first = d.first;
      reads_antecedent = d.antecedent;
      reads_consequent = d.consequent;
      antecedent_entry = rw c.deref.ensures at (c.in_ok-antecedent.ensures bodies table);
      consequent_entry = rw c.deref-2.ensures at (c.in_ok-consequent.ensures bodies table);
      antecedent_at = d.antecedent_at;
      consequent_at = d.consequent_at;
      disabling = d.disabling;
    }
