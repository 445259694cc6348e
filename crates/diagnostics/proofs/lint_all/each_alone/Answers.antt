use Rattle.std.proofs.Common.{◌≡◌, ℕ, List, Option, length, ap, sym, ◌∙◌, subst, arith}
use Rattle.std.specs.Prelude.{IfSome, IsUtf8}
use Rattle.std.specs.Str.{IsCharBoundary}
use Rattle.diagnostics.specs.declared.front.Refusal.{Refusal}
use Rattle.diagnostics.specs.Blanked.{blanked}
use Rattle.diagnostics.specs.Items.{start_of, stop_of}
use Rattle.diagnostics.specs.Linted.{refusing}
use Rattle.diagnostics.proofs.BlankLaws.{IsUtf8-blanked}
use Rattle.diagnostics.proofs.LintLaws.{begun, told-alone, length-more}
use Rattle.diagnostics.proofs.lint_all.each_alone.Goals as goal

pub loop-item-init : goal.loop-item-init
loop-item-init g c =
    let by =
    refusing (g.F.FrontEnd.refuses c.args.front.now) (g.F.FrontEnd.stands c.args.front.now)
    (g.F.FrontEnd.refuses_alone c.args.front.now c.args.text.now) in
    let same = c.in_ok-left.ensures.items ∙ c.as_bytes.ensures.value in
    record {
      told = begun by c.args.ends.now c.args.text.now c.in_ok-left.left.items c.new-refusals.result.items
          c.new-refusals.ensures.items same;
      same = λ _. same;
      utf8 = subst (λ (l : List ℕ). IsUtf8 l) (sym same) c.utf8.text;
      long = ap (λ (l : List ℕ). length l) same;
    }

pub loop-item-preserved : goal.loop-item-preserved
loop-item-preserved g c =
    let apart = g.F.FrontEnd.refuses_alone c.args.front.now c.args.text.now in
    let by =
    refusing (g.F.FrontEnd.refuses c.args.front.now) (g.F.FrontEnd.stands c.args.front.now) apart in
    let ends = c.args.ends.now in
    let item = c.loop-item.item in
    let left = c.loop-item.left.items in
    let heard =
    subst (λ (o : Option Refusal). IfSome o (λ (x : Refusal). apart (start_of ends item)
    (stop_of (length c.args.text.now) ends item) x.at)) c.in-Some.is c.in_ok-refusal.ensures in
    let span = c.in-Some-span_of_item.span in
    let now = c.as_slice.ensures.value in
    let next =
    c.blank.ensures.blanked
    ∙ ap (λ (n : ℕ). blanked left n span.end) c.in-Some-span_of_item.ensures.begins
    ∙ ap (λ (n : ℕ). blanked left (start_of ends item) n)
    (c.in-Some-span_of_item.ensures.stops ∙ ap (λ (t : List ℕ). stop_of (length t) ends item) now) in
    let pushed = c.in_ok-push.ensures.items in
    let many = length-more c.loop-item.refusals.items c.push.new.self.items c.in-Some.refusal pushed in
    record {
      told = told-alone by ends c.args.text.now left _ c.loop-item.refusals.items _ c.in-Some.refusal item
          c.loop-item.invariant.told heard pushed next;
      same = λ none.
          let short : length c.push.new.self.items ≡ 0 = ap (λ (xs : List Refusal). length xs) none in
          absurd (omega (arith, many, short));
      utf8 = subst (λ (l : List ℕ). IsUtf8 l) (sym c.blank.ensures.blanked)
          (IsUtf8-blanked left span.start span.end c.loop-item.invariant.utf8
          (subst (λ (t : List ℕ). IsCharBoundary t span.start) now c.in-Some-span_of_item.ensures.start)
          (subst (λ (t : List ℕ). IsCharBoundary t span.end) now c.in-Some-span_of_item.ensures.end));
      long = c.blank.ensures.long ∙ c.loop-item.invariant.long;
    }
