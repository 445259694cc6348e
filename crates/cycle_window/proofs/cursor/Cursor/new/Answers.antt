use Rattle.std.proofs.Common.{arith, sym, subst, ℕ}
use Rattle.cycle_window.specs.Changes.{changes_to}
use Rattle.cycle_window.specs.Variables.{AreCodesBelow}
use Rattle.cycle_window.proofs.cursor.Cursor.new.Goals as goal

pub returns-clause-of : goal.returns-clause-of
unfolding changes_to
returns-clause-of c = record {
  inside = omega arith;
  table = c.in_ok-last.ensures.table;
  wide = subst (λ (n : ℕ). AreCodesBelow c.args.dump.now c.args.variables.now n)
      (sym c.in_ok-last.ensures.len) c.table_len.ensures;
}
