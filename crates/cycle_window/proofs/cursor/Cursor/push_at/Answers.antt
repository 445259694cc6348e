use Rattle.std.proofs.Common.{◌∙◌, sym, subst, List, Option, length, ap}
use Rattle.std.proofs.lemmas.List.{take_at}
use Rattle.vcd_reader.specs.declared.step.Change.{Change}
use Rattle.vcd_reader.specs.Held.{steps_in}
use Rattle.cycle_window.specs.Changes.{changes_to, IsTable}
use Rattle.cycle_window.proofs.LastLaws.{last_of-code}
use Rattle.cycle_window.proofs.cursor.Cursor.push_at.Goals as goal

pub push_row-requires-clause-codes : goal.push_row-requires-clause-codes
push_row-requires-clause-codes c = λ code change lt e.
    let step = rw c.steps-steps.ensures at c.advance-self.ensures.table in
    let before = changes_to (steps_in c.args.dump.now) c.args.self.now.at in
    let changes = changes_to (steps_in c.args.dump.now) c.advance-self.result in
    let table = step (subst (λ (t : List (Option Change)). IsTable t before)
    (sym c.deref_mut.ensures.value) c.requires.of.table) in
    let kept =
    take_at _ _ _
    (c.advance-self.ensures.long ∙ ap length c.deref_mut.ensures.value
    ∙ sym c.args.self.now.last.ok.0) in
    let same =
    subst (λ (t : List (Option Change)). IsTable t changes) (sym (c.deref.ensures.value ∙ kept))
    table in
    last_of-code code changes change (sym (same code lt) ∙ e)
