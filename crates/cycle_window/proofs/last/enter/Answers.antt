use Rattle.std.proofs.Common.{
  ◌≡◌,
  ◌∙◌,
  ◌++◌,
  ◌∷◌,
  [],
  sym,
  ap,
  get_or,
  take,
  length,
  append_assoc,
  List,
  subst,
  Option,
  ◌+◌,
}
use Rattle.std.proofs.lemmas.List.{take_more, length-set}
use Rattle.vcd_reader.specs.declared.step.Change.{Change}
use Rattle.cycle_window.specs.Changes.{IsTable}
use Rattle.cycle_window.proofs.LastLaws.{table-set, table-skip}
use Rattle.cycle_window.proofs.last.enter.Goals as goal
use Rattle.cycle_window.proofs.last.enter.Goals.{then-code-last, else-code-last}

abbrev none : Change
none = record { code = 0; high = 0; low = 0 }

pub loop-change-preserved : goal.loop-change-preserved
loop-change-preserved c =
    let inv = c.loop-change.invariant in
    let last = c.loop-change.last in
    let changes = c.args.changes.now in
    let i = c.loop-change.change-index in
    let item = get_or changes i none in
    record {
      long = elim c.if-code-last.branch [
        | then-code-last w ↦ ap length w.last-is ∙ length-set _ _ _ ∙ inv.long
        | else-code-last w ↦ ap length w.last-is ∙ inv.long
      ];
      table = λ earlier table.
          let front = earlier ++ take i changes in
          let more : earlier ++ take (i + 1) changes ≡ front ++ item ∷ [] =
          ap (λ (xs : List Change). earlier ++ xs)
          (take_more changes i none c.loop-change-test.true)
          ∙ sym (append_assoc earlier (take i changes) (item ∷ [])) in
          let here = inv.table earlier table in
          let done : IsTable c.if-code-last.last (front ++ item ∷ []) = elim c.if-code-last.branch [
            | then-code-last w ↦
                subst (λ (l : List (Option Change)). IsTable l (front ++ item ∷ [])) (sym w.last-is)
                (table-set last front item w.if-code-last.true here)
            | else-code-last w ↦
                subst (λ (l : List (Option Change)). IsTable l (front ++ item ∷ [])) (sym w.last-is)
                (table-skip last front item w.if-code-last.false here)
          ] in
          subst (λ (xs : List Change). IsTable c.if-code-last.last xs) (sym more) done;
    }
