use Rattle.std.proofs.Common.{◌≤◌, ◌<◌, ℕ, List, length, ap, sym, refl, ◌∙◌, subst, arith}
use Rattle.std.specs.Prelude.{IsUtf8}
use Rattle.std.specs.List.{All}
use Rattle.std.specs.Str.{IsCharBoundary}
use Rattle.std.proofs.lemmas.List.Elements.{All-head, All-tail}
use Rattle.diagnostics.specs.declared.front.Refusal.{Refusal}
use Rattle.diagnostics.specs.Blanked.{blanked}
use Rattle.diagnostics.specs.Items.{start_of, stop_of}
use Rattle.diagnostics.specs.Linted.{refusing, HasStood}
use Rattle.diagnostics.proofs.BlankLaws.{IsUtf8-blanked}
use Rattle.diagnostics.proofs.LintLaws.{told-beside, length-more}
use Rattle.diagnostics.proofs.lint_all.each_other.Goals as goal

pub loop-refusal-preserved : goal.loop-refusal-preserved
loop-refusal-preserved g c =
    let by =
    refusing (g.F.FrontEnd.refuses c.args.front.now) (g.F.FrontEnd.stands c.args.front.now)
    (g.F.FrontEnd.refuses_alone c.args.front.now c.args.text.now) in
    let ends = c.args.ends.now in
    let text = c.args.text.now in
    let item = c.item_from-item.result in
    let left = c.loop-refusal.left.items in
    let one = c.in-Some.refusal in
    let Stood = λ (r : Refusal). HasStood by ends text r.at in
    let all = subst (All Stood) c.in-Some.ensures.steps.0 c.loop-refusal.invariant.stood in
    let here : HasStood by ends text one.at = All-head Stood one c.next.new.self.rest.items all in
    let span = c.in-Some-span_of_item.span in
    let inside = c.if-not-stands_in.ensures refl in
    let now = c.as_slice.ensures.value in
    let begins = c.in-Some-span_of_item.ensures.begins in
    let stops =
    c.in-Some-span_of_item.ensures.stops
    ∙ ap (λ (t : List ℕ). stop_of (length t) ends item) now in
    let long = ap (λ (n : ℕ). stop_of n ends item) c.loop-refusal.invariant.long in
    let next =
    c.blank.ensures.blanked
    ∙ ap (λ (n : ℕ). blanked left n span.end) begins
    ∙ ap (λ (n : ℕ). blanked left (start_of ends item) n) stops in
    let pushed = c.in_ok-push.ensures.items in
    let many = length-more c.loop-refusal.refusals.items c.push.new.self.items one pushed in
    let low : start_of ends item ≤ one.at = subst (λ (n : ℕ). n ≤ one.at) begins inside.0 in
    let high : one.at < stop_of (length text) ends item = subst (λ (n : ℕ). one.at < n) (stops ∙ long) inside.1 in
    record {
      told = told-beside by ends text left _ c.loop-refusal.refusals.items _ one item
          c.loop-refusal.invariant.told here low high pushed next;
      utf8 = subst (λ (l : List ℕ). IsUtf8 l) (sym c.blank.ensures.blanked)
          (IsUtf8-blanked left span.start span.end c.loop-refusal.invariant.utf8
          (subst (λ (t : List ℕ). IsCharBoundary t span.start) now c.in-Some-span_of_item.ensures.start)
          (subst (λ (t : List ℕ). IsCharBoundary t span.end) now c.in-Some-span_of_item.ensures.end));
      long = c.blank.ensures.long ∙ c.loop-refusal.invariant.long;
      stood = All-tail Stood one c.next.new.self.rest.items all;
      more = omega (arith, many, c.loop-refusal.invariant.more);
    }
