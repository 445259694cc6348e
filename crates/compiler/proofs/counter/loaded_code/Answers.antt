use Rattle.std.proofs.Common.{refl}
use Rattle.compiler.proofs.WrittenLaws.{writes-then, writes-as, on-ok}
use Rattle.compiler.proofs.counter.loaded_code.Goals as goal

pub returns-in_ok-sum_code-in-Some : goal.returns-in_ok-sum_code-in-Some
returns-in_ok-sum_code-in-Some c =
    let two = writes-then c.in_ok-rule_code-in-Some.ensures c.in_ok-sum_code-in-Some.ensures in
    on-ok c.put.result c.put.ensures
    (λ last. writes-as (rw c.in-Some.is refl) (writes-then two last))
