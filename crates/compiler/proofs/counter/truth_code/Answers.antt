use Rattle.std.proofs.Common.{refl}
use Rattle.compiler.proofs.WrittenLaws.{writes-then, writes-as, on-ok}
use Rattle.compiler.proofs.counter.truth_code.Goals as goal

pub returns : goal.returns
returns c =
    on-ok c.test_bit.result c.test_bit.ensures
    (λ last. writes-as (rw c.width-width.ensures.own refl)
    (writes-then c.in_ok-expression_code.ensures last))
