use Rattle.vcd_segments.proofs.ChunkLaws.{readings-are-chunks}
use Rattle.vcd_segments.proofs.laws.chunk_law.Goals as goal

pub returns : goal.returns
returns c = readings-are-chunks
