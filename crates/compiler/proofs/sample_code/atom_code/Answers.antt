use Rattle.compiler.proofs.WrittenLaws.{writes-then, on-ok}
use Rattle.compiler.proofs.sample_code.atom_code.Goals as goal

pub returns : goal.returns
returns c =
    on-ok c.put.result c.put.ensures (λ last. writes-then c.in_ok-truth_code.ensures last)
