use Rattle.std.proofs.Common.{refl}
use Rattle.compiler.proofs.WrittenLaws.{writes-then, writes-as, on-ok}
use Rattle.compiler.proofs.counter.number_code.Goals as goal

pub returns : goal.returns
returns c =
    on-ok c.cut.result c.cut.ensures
    (λ last. writes-as (rw (c.max.ensures, c.width-own.ensures.own) refl)
    (writes-then c.in_ok-expression_code.ensures last))
