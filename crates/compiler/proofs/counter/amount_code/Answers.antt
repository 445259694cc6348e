use Rattle.compiler.proofs.WrittenLaws.{writes-then, on-ok}
use Rattle.compiler.proofs.counter.amount_code.Goals as goal

pub returns : goal.returns
returns c =
    on-ok c.put-2.result c.put-2.ensures
    (λ last. writes-then c.in_ok-rule_code.ensures (writes-then c.in_ok-put.ensures last))
