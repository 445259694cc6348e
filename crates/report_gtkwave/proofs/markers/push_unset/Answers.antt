use Rattle.std.proofs.Common.{◌≡◌, ◌++◌, ◌∙◌, ◌-◌, zero, suc, List, ℕ, sym, ap, arith, append_assoc, append-nil}
use Rattle.std.specs.Prelude.{codes}
use Rattle.report_gtkwave.specs.Saves.{unset_text}
use Rattle.report_gtkwave.proofs.markers.push_unset.Goals as goal

pub loop-left-preserved : goal.loop-left-preserved
unfolding unset_text
loop-left-preserved c =
    let old = c.loop-left.out.items in
    let left = c.loop-left.left - 1 in
    let some : c.loop-left.left ≡ suc left = omega arith in
    c.loop-left.invariant
    ∙ ap (λ (n : ℕ). old ++ unset_text n) some
    ∙ sym (append_assoc old (codes " -1 -1") (unset_text left))
    ∙ ap (λ (l : List ℕ). l ++ unset_text left) (sym c.in_ok-push_text.ensures.is)

pub returns : goal.returns
unfolding unset_text
returns c =
    let new = c.loop-left.out.items in
    let none : c.loop-left.left ≡ zero = omega arith in
    record {
      is = sym (append-nil new) ∙ ap (λ (n : ℕ). new ++ unset_text n) (sym none) ∙ sym c.loop-left.invariant;
    }
