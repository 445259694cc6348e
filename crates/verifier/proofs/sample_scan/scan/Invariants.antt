use Rattle.std.proofs.Common.{◌≡◌, length}
use Rattle.verifier.specs.Rules.{sample_rules}
use Rattle.verifier.specs.Views.{frame_data}
use Rattle.verifier.specs.Arrivals.{HoldsFrom}
use Rattle.verifier.specs.Scans.{HasRead}
use Rattle.verifier.proofs.sample_scan.scan.Given as goal

abbrev pub invariant-code : goal.invariant-code
invariant-code l =
    record {
      read : HasRead (sample_rules (frame_data l.frame)) 0 l.code (HoldsFrom l.pc l.pending) l.longest (length l.code)
          l.pc l.pc;
      long : length l.pending ≡ length l.code;
    }
