use Rattle.std.proofs.Common.{◌∙◌, ℕ, List, [], Option, length, subst, sym, ap, arith}
use Rattle.std.proofs.lemmas.List.{take_at}
use Rattle.vcd_reader.specs.declared.step.Change.{Change}
use Rattle.cycle_window.specs.Changes.{changes_to, IsTable}
use Rattle.cycle_window.specs.Variables.{AreCodesBelow}
use Rattle.cycle_window.proofs.cursor.Cursor.follow.Goals as goal

pub returns-else-len-clause-of : goal.returns-else-len-clause-of
unfolding changes_to
returns-else-len-clause-of c = λ d vs ws old other.
    let long = c.clear_table.ensures.len ∙ ap length c.deref_mut.ensures.value in
    let kept = take_at _ _ _ (long ∙ sym c.args.self.now.last.ok.0) in
    record {
      inside = omega arith;
      table = subst (λ (t : List (Option Change)). IsTable t []) (sym kept) c.clear_table.ensures.table;
      wide = subst (λ (n : ℕ). AreCodesBelow d vs n)
          (sym (ap (λ (t : List (Option Change)). length t) kept ∙ long)) old.wide;
    }
