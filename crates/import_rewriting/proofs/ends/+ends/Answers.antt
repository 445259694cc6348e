use Rattle.std.proofs.Common.{rules, ◌≡◌, false, ap, sym, ◌∙◌, subst, arith}
use Rattle.std.proofs.lemmas.Result.{IfOk-weaker}
use Rattle.assertions.specs.Written.{IsOrdered}
use Rattle.assertions.specs.Emptiness.{admits_empty}
use Rattle.import_properties.specs.Shapes.{written_form}
use Rattle.import_rewriting.proofs.SaysLaws.{says_as}
use Rattle.import_rewriting.proofs.EndsLaws.{Ends, Each, EndsTimes, ends_or, ends_lead, ends_delay, ends_last}
use Rattle.import_rewriting.proofs.EndsLaws.{ends_later, ends_more}
use Rattle.import_rewriting.proofs.ends.+ends.Goals as goal

pub ends_of-returns-in_ok-body-in-Boolean : goal.ends_of-returns-in_ok-body-in-Boolean
ends_of-returns-in_ok-body-in-Boolean t c =
    let s = written_form c.args.consequent.now in
    IfOk-weaker c.unless.result _ _ (λ b says.
    subst (λ a. Ends (written_form a) s (written_form b.value)) (sym c.in-Boolean.is) (λ bound p ss.
    says bound p
    (says_as bound p s (written_form c.in_ok-body-in-Boolean.body.value) (sym c.in_ok-body-in-Boolean.ensures) ss)))
    c.unless.ensures

pub ends_of-returns-in_ok-second-in-Or : goal.ends_of-returns-in_ok-second-in-Or
ends_of-returns-in_ok-second-in-Or t c =
    let s = written_form c.args.consequent.now in
    let r = written_form c.in-Or.first.value in
    let q = written_form c.in-Or.second.value in
    let u = written_form c.in_ok-first-in-Or.first.value in
    let v = written_form c.in_ok-second-in-Or.second.value in
    IfOk-weaker c.both.result _ _ (λ b joined.
    subst (λ a. Ends (written_form a) s (written_form b.value)) (sym c.in-Or.is)
    (ends_or r q s u v (written_form b.value)
    (subst (λ a. Ends (written_form a) s u) c.deref.ensures c.in_ok-first-in-Or.ensures)
    (subst (λ a. Ends (written_form a) s v) c.deref-in-Or.ensures c.in_ok-second-in-Or.ensures) joined))
    c.both.ensures

pub ends_of-returns-in_ok-all-in-Delay : goal.ends_of-returns-in_ok-all-in-Delay
ends_of-returns-in_ok-all-in-Delay t c =
    let s = written_form c.args.consequent.now in
    let r = written_form c.in-Delay.first.value in
    let q = written_form c.in-Delay.second.value in
    let u = written_form c.in_ok-rest-in-Delay.rest.value in
    let v = written_form c.in_ok-all-in-Delay.all.value in
    let ordered = subst (λ a. IsOrdered (written_form a)) c.in-Delay.is c.requires in
    let some_r : admits_empty r ≡ false =
    sym (ap (λ a. admits_empty (written_form a)) c.deref-in-Delay.ensures) ∙ sym c.if-may_be_empty.ensures in
    let some_q : admits_empty q ≡ false =
    sym (ap (λ a. admits_empty (written_form a)) c.deref-else-may_be_empty.ensures) ∙ sym c.if-may_be_empty-2.ensures in
    IfOk-weaker c.ends_of-in-Delay-2.result _ _ (λ b first.
    subst (λ a. Ends (written_form a) s (written_form b.value)) (sym c.in-Delay.is)
    (ends_delay r c.in-Delay.least c.in-Delay.most q s u v (written_form b.value) ordered.1 ordered.2 some_r some_q
    (subst (λ a. Ends (written_form a) s u) c.deref-in-Delay-2.ensures c.in_ok-rest-in-Delay.ensures)
    (subst (λ a. Each c.in-Delay.least c.in-Delay.most (written_form a) v) c.deref-in-Delay-3.ensures
    c.in_ok-all-in-Delay.ensures)
    (subst (λ a. Ends r (written_form a) (written_form b.value)) c.deref-in-Delay-5.ensures
    (subst (λ a. Ends (written_form a) (written_form c.deref-in-Delay-5.result.now) (written_form b.value))
    c.deref-in-Delay-4.ensures first))))
    c.ends_of-in-Delay-2.ensures

pub ends_of-returns-in_ok-rest-in-Lead : goal.ends_of-returns-in_ok-rest-in-Lead
ends_of-returns-in_ok-rest-in-Lead t c =
    let s = written_form c.args.consequent.now in
    let q = written_form c.in-Lead.body.value in
    let u = written_form c.in_ok-rest-in-Lead.rest.value in
    let ordered = subst (λ a. IsOrdered (written_form a)) c.in-Lead.is c.requires in
    let some : admits_empty q ≡ false =
    sym (ap (λ a. admits_empty (written_form a)) c.deref-in-Lead.ensures) ∙ sym c.if-may_be_empty-3.ensures in
    IfOk-weaker c.each_later-in-Lead.result _ _ (λ b all.
    subst (λ a. Ends (written_form a) s (written_form b.value)) (sym c.in-Lead.is)
    (ends_lead c.in-Lead.least c.in-Lead.most q s u (written_form b.value) ordered.1 some
    (subst (λ a. Ends (written_form a) s u) c.deref-in-Lead-2.ensures c.in_ok-rest-in-Lead.ensures)
    (subst (λ a. Each c.in-Lead.least c.in-Lead.most (written_form a) (written_form b.value)) c.deref-in-Lead-3.ensures
    all)))
    c.each_later-in-Lead.ensures

pub ends_of-returns-else-most-eq0 : goal.ends_of-returns-else-most-eq0
ends_of-returns-else-most-eq0 t c =
    let s = written_form c.args.consequent.now in
    IfOk-weaker c.ends_of_repetition.result _ _ (λ b says.
    subst (λ a. Ends (written_form a) s (written_form b.value)) (sym c.in-Repeat.is)
    (subst (λ a. EndsTimes (written_form a) c.in-Repeat.least c.in-Repeat.most s (written_form b.value))
    c.deref-in-Repeat-2.ensures says))
    c.ends_of_repetition.ensures

pub ends_of_repetition-returns-then-most-eq1 : goal.ends_of_repetition-returns-then-most-eq1
ends_of_repetition-returns-then-most-eq1 t c =
    IfOk-weaker c.ends_of.result _ _ (λ b first.
    ends_last (written_form c.args.body.now) (written_form c.args.consequent.now) (written_form b.value) c.args.least
    c.args.most c.requires.ordered c.requires.some c.requires.range c.if-most-eq1.true first)
    c.ends_of.ensures

pub ends_of_repetition-ends_of_repetition-requires :
    goal.ends_of_repetition-ends_of_repetition-requires
ends_of_repetition-ends_of_repetition-requires t c = (
  search rules,
  (
    c.requires.ordered,
    (
      c.requires.some,
      (omega (arith, c.requires.range, c.saturating_sub.ensures), omega (arith, c.requires.ends, c.if-most-eq1.false)),
    ),
  ),
)

pub ends_of_repetition-returns-then-least-gt1 : goal.ends_of_repetition-returns-then-least-gt1
ends_of_repetition-returns-then-least-gt1 t c =
    let s = written_form c.args.consequent.now in
    let u = written_form c.in_ok-rest.rest.value in
    let v = written_form c.in_ok-next.next.value in
    IfOk-weaker c.ends_of-then-least-gt1.result _ _ (λ b first.
    ends_later (written_form c.args.body.now) s u v (written_form b.value) c.args.least c.saturating_sub.result
    c.args.most c.requires.ordered c.requires.some c.requires.ends c.if-least-gt1.true c.saturating_sub.ensures
    c.in_ok-rest.ensures c.in_ok-next.ensures
    (subst (λ a. Ends (written_form c.args.body.now) (written_form a) (written_form b.value)) c.deref.ensures first))
    c.ends_of-then-least-gt1.ensures

pub ends_of_repetition-returns : goal.ends_of_repetition-returns
ends_of_repetition-returns t c =
    let s = written_form c.args.consequent.now in
    let u = written_form c.in_ok-rest.rest.value in
    let v = written_form c.in_ok-next.next.value in
    let x = written_form c.in_ok-all.all.value in
    IfOk-weaker c.ends_of-2.result _ _ (λ b first.
    ends_more (written_form c.args.body.now) s u v x (written_form b.value) c.args.least c.saturating_sub.result
    c.args.most c.requires.ordered c.requires.some c.requires.ends c.if-least-gt1.false c.saturating_sub.ensures
    c.in_ok-rest.ensures c.in_ok-next.ensures
    (λ bound p q ss sv. c.in_ok-all.ensures bound p q
    (says_as bound p s (written_form c.in_ok-copy.copy.value) (sym c.in_ok-copy.ensures) ss) sv)
    (subst (λ a. Ends (written_form c.args.body.now) (written_form a) (written_form b.value)) c.deref-2.ensures first))
    c.ends_of-2.ensures
