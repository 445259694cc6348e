use Rattle.compiler.proofs.WrittenLaws.{writes-then, on-ok}
use Rattle.compiler.proofs.sample_code.store_code.Goals as goal

pub returns : goal.returns
returns c =
    on-ok c.put.result c.put.ensures (λ last. writes-then c.in_ok-counter_code.ensures last)
