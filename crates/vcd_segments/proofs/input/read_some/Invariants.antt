use Rattle.std.proofs.Common.{◌≡◌, ◌-◌, length}
use Rattle.std.specs.Io.KnownBytes.{Consumes}
use Rattle.vcd_segments.proofs.input.read_some.Given as goal

abbrev pub invariant-loop-piece : goal.invariant-loop-piece
invariant-loop-piece g l = record {
  bytes : Consumes (g.S.Source.state l.fn.source).remaining (g.S.Source.state l.source).remaining
      l.out.items;
  done : (g.S.Source.state l.source).failures ≡ (g.S.Source.state l.fn.source).failures;
}

abbrev pub decreases-loop-piece : goal.decreases-loop-piece
decreases-loop-piece g l = l.want - length l.out.items
