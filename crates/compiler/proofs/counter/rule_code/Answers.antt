use Rattle.compiler.proofs.WrittenLaws.{writes-then, on-ok}
use Rattle.compiler.proofs.counter.rule_code.Goals as goal

pub returns : goal.returns
returns c =
    on-ok c.number_code.result c.number_code.ensures
    (λ last. writes-then c.in_ok-truth_code.ensures last)
