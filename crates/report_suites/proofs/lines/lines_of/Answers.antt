use Rattle.std.proofs.Common.{
  ◌≡◌,
  ◌∙◌,
  ℕ,
  ◌+◌,
  [],
  ◌∷◌,
  ◌++◌,
  List,
  map,
  take,
  sym,
  ap,
  subst,
  add-one,
}
use Rattle.std.proofs.Math.Seq.{take-suc}
use Rattle.std.proofs.lemmas.List.{map-append}
use Rattle.assertions.specs.declared.assertion.Assertion.{Assertion}
use Rattle.report_lines.specs.Lines.{LineData, line}
use Rattle.report_suites.specs.Judged.{AreLinesOver, IsJudgedLine}
use Rattle.report_suites.proofs.LineLaws.{more_lines}
use Rattle.report_suites.proofs.lines.lines_of.Goals as goal

pub loop-assertion-preserved : goal.loop-assertion-preserved
loop-assertion-preserved c =
    let suite = c.args.suite.now in
    let signals = c.args.rows.now.signals in
    let all = c.args.suite.now.assertions.items in
    let items = c.deref-assertion-items.result.now in
    let i = c.loop-assertion.assertion-index in
    let a = c.assertion-item.result in
    let l = c.in_ok-line.line in
    let lines = c.loop-assertion.lines.items in
    let front : take (i + 1) items ≡ take i items ++ a ∷ [] =
    ap (λ (k : ℕ). take k items) (add-one i) ∙ take-suc items i a c.loop-assertion-test.true
    ∙ ap (λ (b : Assertion). take i items ++ b ∷ []) (sym c.assertion-item.is) in
    let more : take (i + 1) all ≡ take i all ++ a ∷ [] =
    ap (take (i + 1)) (sym c.deref-assertion-items.ensures.value) ∙ front
    ∙ ap (λ (seen : List Assertion). take i seen ++ a ∷ [])
    c.deref-assertion-items.ensures.value in
    let last : map line c.push.new.self.items ≡ map line lines ++ line l ∷ [] =
    ap (map line) c.in_ok-push.ensures.items ∙ map-append line lines (l ∷ []) in
    let pushed =
    more_lines (IsJudgedLine suite signals) a (line l) c.in_ok-line.ensures (take i all)
    (map line lines) c.loop-assertion.invariant in
    subst (λ (seen : List Assertion).
    AreLinesOver suite signals seen (map line c.push.new.self.items)) (sym more)
    (subst (λ (ls : List LineData). AreLinesOver suite signals (take i all ++ a ∷ []) ls) (sym last)
    pushed)
