use Rattle.std.proofs.Common.{refl}
use Rattle.compiler.proofs.WrittenLaws.{writes-then, writes-as, on-ok}
use Rattle.compiler.proofs.counter.sum_code.Goals as goal

pub returns-in_ok-amount_code-in-None-Some : goal.returns-in_ok-amount_code-in-None-Some
returns-in_ok-amount_code-in-None-Some c =
    let two = writes-then c.in_ok-put.ensures c.in_ok-amount_code-in-None-Some.ensures in
    on-ok c.put-in-None-Some.result c.put-in-None-Some.ensures
    (λ last. writes-as (rw (c.in-None-Some.is-0, c.in-None-Some.is-1) refl) (writes-then two last))

pub returns-in_ok-amount_code-in-Some-None : goal.returns-in_ok-amount_code-in-Some-None
returns-in_ok-amount_code-in-Some-None c =
    let two = writes-then c.in_ok-put.ensures c.in_ok-amount_code-in-Some-None.ensures in
    on-ok c.put-in-Some-None.result c.put-in-Some-None.ensures
    (λ last. writes-as (rw (c.in-Some-None.is-0, c.in-Some-None.is-1) refl) (writes-then two last))
