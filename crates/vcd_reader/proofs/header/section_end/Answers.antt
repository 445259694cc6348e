use Rattle.std.proofs.Common.{sym}
use Rattle.vcd_reader.proofs.header.section_end.Goals as goal

pub returns-then-is_section_end-clause-behind : goal.returns-then-is_section_end-clause-behind
returns-then-is_section_end-clause-behind c = (c.in-Some.from, sym c.if-is_section_end.ensures)
