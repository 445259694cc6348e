use Rattle.std.proofs.Common.{sym, ◌∙◌, subst, Option}
use Rattle.verifier.specs.declared.fault.Fault.{Fault}
use Rattle.verifier.specs.Marks.{found_in}
use Rattle.verifier.specs.Scans.{IsFirstOf}
use Rattle.verifier.proofs.MarkLaws.{join_true, join_false}
use Rattle.verifier.proofs.fault.earlier.Goals as goal

pub returns-then-is_up_to : goal.returns-then-is_up_to
returns-then-is_up_to c = λ section xs ys a b.
    join_true section c.in-Some.one c.in-Some-second.other xs ys (sym c.is_up_to.ensures ∙ c.if-is_up_to.true)
    (subst (λ (o : Option Fault). IsFirstOf xs (found_in section o)) c.in-Some.is a)
    (subst (λ (o : Option Fault). IsFirstOf ys (found_in section o)) c.in-Some-second.is b)

pub returns-else-is_up_to : goal.returns-else-is_up_to
returns-else-is_up_to c = λ section xs ys a b.
    join_false section c.in-Some.one c.in-Some-second.other xs ys (sym c.is_up_to.ensures ∙ c.if-is_up_to.false)
    (subst (λ (o : Option Fault). IsFirstOf xs (found_in section o)) c.in-Some.is a)
    (subst (λ (o : Option Fault). IsFirstOf ys (found_in section o)) c.in-Some-second.is b)
