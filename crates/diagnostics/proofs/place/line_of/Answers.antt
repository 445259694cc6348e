use Rattle.std.proofs.Common.{◌≡◌, ◌≤◌, ◌∙◌, ℕ, List, ap, sym, arith, length, min, subst, refl}
use Rattle.std.specs.Prelude.{slice_index}
use Rattle.diagnostics.specs.declared.place.Line.{Line}
use Rattle.diagnostics.specs.Places.{IsLineOf}
use Rattle.diagnostics.proofs.PlaceLaws.{line-next, line-same, line-end, line-kept}
use Rattle.diagnostics.proofs.place.line_of.Goals.{then-bytes-reached-eq10, else-bytes-reached-eq10}
use Rattle.diagnostics.proofs.place.line_of.Goals.{then-from-at, else-from-at}
use Rattle.diagnostics.proofs.place.line_of.Goals as goal

pub loop-reached-preserved : goal.loop-reached-preserved
loop-reached-preserved c =
    let text = c.args.text.now in
    let i = c.loop-reached.reached in
    let read = ap (λ (bs : List ℕ). slice_index bs i) c.as_bytes-bytes.ensures.value in
    let long = ap (λ (bs : List ℕ). length bs) c.as_bytes-bytes.ensures.value in
    let end = c.min-reached-end.ensures in
    let lt = c.loop-reached-test.true in
    elim c.if-bytes-reached-eq10.branch [
      | then-bytes-reached-eq10 w ↦
          line-next text i c.loop-reached.line _ c.utf8.text (omega (arith, long, end, lt))
          (sym read ∙ w.if-bytes-reached-eq10.true) c.loop-reached.invariant
          (ap (λ (l : Line). l.number) w.line-is) (ap (λ (l : Line). l.start) w.line-is) refl
      | else-bytes-reached-eq10 w ↦
          line-same text i c.loop-reached.line _ (omega (arith, long, end, lt))
          (λ e. w.if-bytes-reached-eq10.false (read ∙ e)) c.loop-reached.invariant
          (ap (λ (l : Line). l.number) w.line-is) (ap (λ (l : Line). l.start) w.line-is) refl
    ]

pub returns-clause-line : goal.returns-clause-line
returns-clause-line c =
    let text = c.args.text.now in
    let long : length c.as_bytes-bytes.result.now ≡ length text =
    ap (λ (bs : List ℕ). length bs) c.as_bytes-bytes.ensures.value in
    let end = c.min-reached-end.ensures in
    let from : c.if-from-at.line.reached ≤ min c.args.at (length text) = elim c.if-from-at.branch [
      | then-from-at w ↦
          let is = ap (λ (l : Line). l.reached) w.line-is in
          let low = w.if-from-at.true in
          let high = c.requires.reached in
          omega (arith, is, low, high)
      | else-from-at w ↦
          let is = ap (λ (l : Line). l.reached) w.line-is in
          let none = w.first-line.ensures.reached in
          omega (arith, is, none)
    ] in
    let all = c.loop-reached-test.false in
    let up = c.loop-reached.auto.reached-end in
    let high : c.loop-reached.reached ≤ c.min-reached-end.result = up (omega (arith, from, end, long)) in
    let at : c.loop-reached.reached ≡ min c.args.at (length text) = omega (arith, all, high, end, long) in
    line-end text c.args.at c.loop-reached.line
    (subst (λ (n : ℕ). IsLineOf text n c.loop-reached.line) at c.loop-reached.invariant)

pub returns-clause-reached : goal.returns-clause-reached
returns-clause-reached c =
    line-kept c.args.text.now c.loop-reached.reached c.loop-reached.line c.loop-reached.invariant
