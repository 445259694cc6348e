use Rattle.std.proofs.Common.{◌≡◌, ◌+◌, ◌-◌, max, ℕ, List, Bool, refl, sym, ◌∙◌, subst, arith}
use Rattle.std.proofs.lemmas.Bool.{or_right}
use Rattle.std.proofs.lemmas.Result.{IfOk-weaker}
use Rattle.assertions.specs.declared.sequence.Boolean.{Boolean}
use Rattle.assertions.specs.declared.sequence.Boolean.TheVariants.{One}
use Rattle.assertions.specs.declared.sequence.Sequence.{Sequence}
use Rattle.assertions.specs.Segments.{is_match}
use Rattle.assertions.specs.Written.{one_of, after}
use Rattle.assertions.specs.Shapes.{shape}
use Rattle.judging.specs.Tables.{held_at, IsRelation}
use Rattle.judging.proofs.FormLaws.{no_starts, and_law, repeat_law, behind_law, delay_law, lead_law, lies_moved}
use Rattle.judging.proofs.ends.+ends.Goals as goal

pub ends_from-returns-then-not-some_mark : goal.ends_from-returns-then-not-some_mark
ends_from-returns-then-not-some_mark t c = no_starts _ _ _ (sym c.some_mark.ensures ∙ c.if-not-some_mark.true)

pub ends_from-returns-in_ok-fronts-in-Delay : goal.ends_from-returns-in_ok-fronts-in-Delay
ends_from-returns-in_ok-fronts-in-Delay t c =
    let h = held_at c.args.seen.now.values in
    let front =
    subst (λ (s : Sequence). IsRelation (is_match h (shape s)) c.args.starts.now c.in_ok-fronts-in-Delay.fronts)
    c.deref.ensures c.in_ok-fronts-in-Delay.ensures in
    rw c.in-Delay.is
    (IfOk-weaker c.ends_delayed.result _ _
    (λ v all. subst
    (λ (s : Sequence). IsRelation
    (is_match h
    (one_of c.in-Delay.least (c.in-Delay.most - c.in-Delay.least)
    (after One (shape c.in-Delay.first.value) (shape s)))) c.args.starts.now v) c.deref-in-Delay.ensures
    (all (shape c.in-Delay.first.value) front))
    c.ends_delayed.ensures)

pub ends_from-returns-in_ok-bodies-in-Repeat : goal.ends_from-returns-in_ok-bodies-in-Repeat
ends_from-returns-in_ok-bodies-in-Repeat t c =
    let h = held_at c.args.seen.now.values in
    let every = c.in_ok-every-in-Repeat.every.items in
    let bodies = c.in_ok-bodies-in-Repeat.bodies in
    let body =
    subst (λ (s : Sequence). IsRelation (is_match h (shape s)) c.as_slice.result.now bodies)
    c.deref-in-Repeat.ensures c.in_ok-bodies-in-Repeat.ensures in
    let body_is =
    subst (λ (l : List Bool). IsRelation (is_match h (shape c.in-Repeat.body.value)) l bodies)
    c.as_slice.ensures.value body in
    rw c.in-Repeat.is
    (IfOk-weaker c.repetition_of.result _ _
    (λ v all. repeat_law Boolean h (shape c.in-Repeat.body.value) c.in-Repeat.least c.in-Repeat.most c.args.starts.now
    every bodies v c.in_ok-every-in-Repeat.ensures.long (λ k below. c.in_ok-every-in-Repeat.ensures.each k below)
    body_is all)
    c.repetition_of.ensures)

pub ends_from-returns-in_ok-others-in-And : goal.ends_from-returns-in_ok-others-in-And
ends_from-returns-in_ok-others-in-And t c =
    let h = held_at c.args.seen.now.values in
    let one =
    subst (λ (s : Sequence). IsRelation (is_match h (shape s)) c.args.starts.now c.in_ok-ones-in-And.ones)
    c.deref-in-And.ensures c.in_ok-ones-in-And.ensures in
    let other =
    subst (λ (s : Sequence). IsRelation (is_match h (shape s)) c.args.starts.now c.in_ok-others-in-And.others)
    c.deref-in-And-2.ensures c.in_ok-others-in-And.ensures in
    rw c.in-And.is
    (IfOk-weaker c.both.result _ _
    (λ v all. and_law Boolean h (shape c.in-And.one.value) (shape c.in-And.other.value) c.args.starts.now
    c.in_ok-ones-in-And.ones c.in_ok-others-in-And.others v one other all)
    c.both.ensures)

pub ends_behind-returns : goal.ends_behind-returns
ends_behind-returns t c =
    let test : ℕ → ℕ → Bool = is_match (held_at c.args.seen.now.values) (shape c.args.rest.now) in
    let rest =
    subst (λ (l : List Bool). IsRelation test l c.in_ok-rests.rests) c.as_slice.ensures.value
    c.in_ok-rests.ensures in
    IfOk-weaker c.composition_behind.result _ _
    (λ v all. behind_law test c.args.starts.now c.in_ok-begins.begins.items c.args.apart.now c.args.together.now
    c.in_ok-rests.rests v c.in_ok-begins.ensures.long c.in_ok-begins.ensures.moved c.in_ok-begins.ensures.shared
    rest all)
    c.composition_behind.ensures

pub ends_delayed-returns : goal.ends_delayed-returns
ends_delayed-returns t c =
    let h = held_at c.args.seen.now.values in
    let least = c.args.least in
    let most = c.args.most in
    let starts = c.args.starts.now in
    let fronts = c.args.fronts.now in
    let from : c.saturating_sub.result ≡ least - 1 = omega arith in
    let end : c.max-end.result ≡ max least most = omega arith in
    let apart =
    subst (λ n. IsRelation (lies_moved Boolean h One (λ k. or_right _ _ refl) fronts n c.max-end.result) starts
    c.in_ok-apart.apart) from c.in_ok-apart.ensures in
    let apart_is =
    subst (λ n. IsRelation (lies_moved Boolean h One (λ k. or_right _ _ refl) fronts (least - 1) n) starts
    c.in_ok-apart.apart) end apart in
    IfOk-weaker c.ends_behind.result _ _
    (λ v all r front. delay_law Boolean h One (λ k. or_right _ _ refl) r (shape c.args.second.now) least most starts
    fronts c.in_ok-apart.apart c.in_ok-together.together v front apart_is c.in_ok-together.ensures all)
    c.ends_behind.ensures

pub ends_late-returns : goal.ends_late-returns
ends_late-returns t c =
    let h = held_at c.args.seen.now.values in
    let least = c.args.least in
    let most = c.args.most in
    let starts = c.args.starts.now in
    let here = c.in_ok-here.here in
    let end : c.max.result + 1 ≡ max least most + 1 = omega arith in
    let apart_is =
    subst (λ n. IsRelation (lies_moved Boolean h One (λ k. or_right _ _ refl) here least n) starts
    c.in_ok-apart.apart) end c.in_ok-apart.ensures in
    IfOk-weaker c.ends_behind.result _ _
    (λ v all. lead_law Boolean h One (λ k. or_right _ _ refl) (shape c.args.body.now) least most starts here
    c.in_ok-apart.apart c.new-none.result v c.in_ok-here.ensures apart_is c.new-none.ensures all)
    c.ends_behind.ensures
