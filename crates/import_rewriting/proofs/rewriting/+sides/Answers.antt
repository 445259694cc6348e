use Rattle.std.proofs.Common.{ap, sym, ◌∙◌, subst}
use Rattle.std.proofs.lemmas.Result.{IfOk-weaker}
use Rattle.assertions.specs.Written.{kernel}
use Rattle.import_properties.specs.declared.condition.Condition.TheVariants.{One}
use Rattle.import_properties.specs.Properties.{form_of, implied}
use Rattle.import_properties.specs.Shapes.{written_form}
use Rattle.import_rewriting.specs.Rewriting.{AreSides, AreSidesLater, SaysAfter, IsOpen}
use Rattle.import_rewriting.proofs.SideLaws.{sides_joined, sides_next_of, sides_each_of}
use Rattle.import_rewriting.proofs.rewriting.+sides.Goals as goal

pub sides_later-returns : goal.sides_later-returns
sides_later-returns t c =
    IfOk-weaker c.sides_of.result _ _ (λ b h.
    sides_joined c.args.bound (written_form c.args.antecedent.value) c.args.least c.args.most
    (written_form c.args.end.now) (written_form c.in_ok-joined.joined.value) c.args.body.now
    (written_form b.antecedent.value) (written_form b.consequent.value) c.in_ok-joined.ensures.later h)
    c.sides_of.ensures

pub sides_of-returns-in-Implication : goal.sides_of-returns-in-Implication
sides_of-returns-in-Implication t c =
    let r = written_form c.args.antecedent.value in
    IfOk-weaker c.sides_later.result _ _ (λ b h.
    let a = written_form b.antecedent.value in
    let s = written_form b.consequent.value in
    let later = subst (λ p. AreSidesLater c.args.bound r 0 0 (written_form c.in-Implication.end) p a s)
    c.deref.ensures h in
    subst (λ q. AreSides c.args.bound r q a s) (sym c.in-Implication.is) (record {
      antecedent = later.antecedent;
      consequent = later.consequent;
      same = λ ticks inside. later.same ticks inside;
    }))
    c.sides_later.ensures

pub sides_of-returns-in_ok-ended-in-NextImplication : goal.sides_of-returns-in_ok-ended-in-NextImplication
sides_of-returns-in_ok-ended-in-NextImplication t c =
    let r = written_form c.args.antecedent.value in
    IfOk-weaker c.sides_later-in-NextImplication.result _ _ (λ b h.
    let a = written_form b.antecedent.value in
    let s = written_form b.consequent.value in
    let later = subst (λ p.
    AreSidesLater c.args.bound r 0 0 (written_form c.deref-in-NextImplication.result.now) p a s)
    c.deref-in-NextImplication-2.ensures h in
    subst (λ q. AreSides c.args.bound r q a s) (sym c.in-NextImplication.is) (record {
      antecedent = later.antecedent;
      consequent = later.consequent;
      same = λ ticks inside. subst (λ k. SaysAfter ticks r (implied k (form_of c.in-NextImplication.body.value)) a s)
          (ap (λ x. kernel One (written_form x)) c.deref-in-NextImplication.ensures
          ∙ c.in_ok-ended-in-NextImplication.ensures.ended)
          (later.same ticks inside);
    }))
    c.sides_later-in-NextImplication.ensures

pub sides_of-returns-in_ok-guard-in-If : goal.sides_of-returns-in_ok-guard-in-If
sides_of-returns-in_ok-guard-in-If t c =
    let r = written_form c.args.antecedent.value in
    IfOk-weaker c.sides_later-in-If.result _ _ (λ b h.
    let a = written_form b.antecedent.value in
    let s = written_form b.consequent.value in
    let later = subst (λ p. AreSidesLater c.args.bound r 0 0 (written_form c.deref-in-If.result.now) p a s)
    c.deref-in-If-2.ensures h in
    subst (λ q. AreSides c.args.bound r q a s) (sym c.in-If.is) (record {
      antecedent = later.antecedent;
      consequent = later.consequent;
      same = λ ticks inside. subst (λ k. SaysAfter ticks r (implied (kernel One k) (form_of c.in-If.body.value)) a s)
          (ap written_form c.deref-in-If.ensures ∙ ap written_form c.in_ok-guard-in-If.ensures)
          (later.same ticks inside);
    }))
    c.sides_later-in-If.ensures

pub sides_of-returns-in-Implication-deref : goal.sides_of-returns-in-Implication-deref
sides_of-returns-in-Implication-deref t c =
    let r = written_form c.args.antecedent.value in
    let e = written_form c.in-Implication-deref.end in
    IfOk-weaker c.sides_later-in-Implication-deref.result _ _ (λ b h.
    let a = written_form b.antecedent.value in
    let s = written_form b.consequent.value in
    let later =
    subst (λ p. AreSidesLater c.args.bound r c.in-Next.count c.in-Next.count e p a s)
    c.deref-in-Implication-deref.ensures h in
    let inner = sym c.deref-in-Next.ensures ∙ c.in-Implication-deref.is in
    subst (λ q. AreSides c.args.bound r q a s) (sym c.in-Next.is) (record {
      antecedent = later.antecedent;
      consequent = later.consequent;
      same =
          sides_next_of c.args.bound c.in-Next.count r e c.in-Implication-deref.body.value c.in-Next.body.value a s
          (ap form_of inner) (λ o. subst IsOpen (sym inner) o) later.same;
    }))
    c.sides_later-in-Implication-deref.ensures

pub sides_of-returns-in-Implication-deref-2 : goal.sides_of-returns-in-Implication-deref-2
sides_of-returns-in-Implication-deref-2 t c =
    let r = written_form c.args.antecedent.value in
    let e = written_form c.in-Implication-deref-2.end in
    IfOk-weaker c.sides_later-in-Implication-deref-2.result _ _ (λ b h.
    let a = written_form b.antecedent.value in
    let s = written_form b.consequent.value in
    let later =
    subst (λ p. AreSidesLater c.args.bound r c.in-Always.least c.in-Always.most e p a s)
    c.deref-in-Implication-deref-2.ensures h in
    let inner = sym c.deref-in-Always.ensures ∙ c.in-Implication-deref-2.is in
    subst (λ q. AreSides c.args.bound r q a s) (sym c.in-Always.is) (record {
      antecedent = later.antecedent;
      consequent = later.consequent;
      same =
          sides_each_of c.args.bound c.in-Always.least c.in-Always.most r e c.in-Implication-deref-2.body.value
          c.in-Always.body.value a s (ap form_of inner) (λ o. subst IsOpen (sym inner) o) later.same;
    }))
    c.sides_later-in-Implication-deref-2.ensures
