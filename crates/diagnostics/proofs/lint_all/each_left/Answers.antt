use Rattle.std.proofs.Common.{◌≡◌, ℕ, List, length, sym, ap, ◌∙◌, subst, arith}
use Rattle.std.specs.Prelude.{IsUtf8}
use Rattle.std.specs.Str.{IsCharBoundary}
use Rattle.std.proofs.lemmas.List.Elements.{All-weaker}
use Rattle.diagnostics.specs.declared.front.Refusal.{Refusal}
use Rattle.diagnostics.specs.Blanked.{blanked}
use Rattle.diagnostics.specs.Linted.{refusing, without, HasStood}
use Rattle.diagnostics.proofs.BlankLaws.{IsUtf8-blanked}
use Rattle.diagnostics.proofs.LintLaws.{told-more, told-last, length-more, places}
use Rattle.diagnostics.proofs.lint_all.each_left.Goals as goal

pub returns-in_default-span_of-clause-told : goal.returns-in_default-span_of-clause-told
returns-in_default-span_of-clause-told g c =
    let by =
    refusing (g.F.FrontEnd.refuses c.args.front.now) (g.F.FrontEnd.stands c.args.front.now)
    (g.F.FrontEnd.refuses_alone c.args.front.now c.args.text.now) in
    let now = c.text_of-now.ensures ∙ c.as_slice.ensures.value in
    let heard = rw c.in-Some.is at c.in_ok-refusal.ensures in
    let refused = subst (λ (t : List ℕ). g.F.FrontEnd.refuses c.args.front.now t c.in-Some.refusal.at) now heard in
    told-last by c.args.ends.now c.args.text.now c.loop-round.left.items c.loop-round.refusals.items _
    c.in-Some.refusal c.loop-round.invariant.told refused c.in_ok-push.ensures.items

pub each_other-requires-clause-told : goal.each_other-requires-clause-told
each_other-requires-clause-told g c =
    let by =
    refusing (g.F.FrontEnd.refuses c.args.front.now) (g.F.FrontEnd.stands c.args.front.now)
    (g.F.FrontEnd.refuses_alone c.args.front.now c.args.text.now) in
    let now = c.text_of-now.ensures ∙ c.as_slice.ensures.value in
    let heard = rw c.in-Some.is at c.in_ok-refusal.ensures in
    let refused = subst (λ (t : List ℕ). g.F.FrontEnd.refuses c.args.front.now t c.in-Some.refusal.at) now heard in
    let span = c.in-Some-span_of.span in
    let next =
    c.blank.ensures.blanked
    ∙ ap (λ (t : List ℕ). blanked t span.start span.end) (sym now)
    ∙ c.in-Some-span_of.ensures.without
    ∙ ap (λ (t : List ℕ). without t c.args.ends.now c.in-Some.refusal.at) now in
    told-more by c.args.ends.now c.args.text.now c.loop-round.left.items _ c.loop-round.refusals.items
    _ c.in-Some.refusal c.loop-round.invariant.told refused c.in_ok-push-2.ensures.items next

pub each_other-requires-clause-utf8 : goal.each_other-requires-clause-utf8
each_other-requires-clause-utf8 g c =
    let now = c.text_of-now.ensures ∙ c.as_slice.ensures.value in
    let span = c.in-Some-span_of.span in
    subst (λ (l : List ℕ). IsUtf8 l) (sym c.blank.ensures.blanked)
    (IsUtf8-blanked c.loop-round.left.items span.start span.end c.loop-round.invariant.utf8
    (subst (λ (t : List ℕ). IsCharBoundary t span.start) now c.in-Some-span_of.ensures.start)
    (subst (λ (t : List ℕ). IsCharBoundary t span.end) now c.in-Some-span_of.ensures.end))

pub each_other-requires-clause-stood : goal.each_other-requires-clause-stood
each_other-requires-clause-stood g c =
    let by =
    refusing (g.F.FrontEnd.refuses c.args.front.now) (g.F.FrontEnd.stands c.args.front.now)
    (g.F.FrontEnd.refuses_alone c.args.front.now c.args.text.now) in
    let now = c.text_of-now.ensures ∙ c.as_slice.ensures.value in
    All-weaker (λ (r : Refusal). g.F.FrontEnd.stands c.args.front.now c.text_of-now.result.now r.at)
    (λ (r : Refusal). HasStood by c.args.ends.now c.args.text.now r.at)
    (λ (r : Refusal) stands. record {
      before = places c.loop-round.refusals.items;
      earlier = c.loop-round.left.items;
      are = c.loop-round.invariant.told;
      stands = subst (λ (t : List ℕ). g.F.FrontEnd.stands c.args.front.now t r.at) now stands;
    }) _ c.in_ok-others.ensures

pub loop-round-preserved : goal.loop-round-preserved
loop-round-preserved g c =
    let many =
    length-more c.loop-round.refusals.items c.push-in-loop-round.new.self.items c.in-Some.refusal
    c.in_ok-push-2.ensures.items in
    let more = c.in_ok-each_other.ensures.more in
    record {
      told = c.in_ok-each_other.ensures.told;
      same = λ none.
          let short : length c.each_other.new.refusals.items ≡ 0 = ap (λ (xs : List Refusal). length xs) none in
          absurd (omega (arith, many, more, short));
      utf8 = c.in_ok-each_other.ensures.utf8;
      long = c.in_ok-each_other.ensures.long;
      many = omega (arith, many, more, c.loop-round.invariant.many);
    }
