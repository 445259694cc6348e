use Rattle.vcd_segments.proofs.PieceLaws.{tokens-are-cut, tokens-tell-on, body-is-told, body-is-cut}
use Rattle.vcd_segments.proofs.laws.cut_law.Goals as goal

pub returns : goal.returns
returns c = record {
  tokens = tokens-are-cut;
  on = tokens-tell-on;
  told = body-is-told;
  cut = body-is-cut;
}
