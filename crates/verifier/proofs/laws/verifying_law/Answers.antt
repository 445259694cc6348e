use Rattle.verifier.proofs.ProgramLaws.{formed, faultless, longest_is_least}
use Rattle.verifier.proofs.LimitFaultLaws.{acceptable, acceptable_faultless}
use Rattle.verifier.proofs.ShortLaws.{accepted, accepted_acceptable}
use Rattle.verifier.proofs.laws.verifying_law.Goals as goal

pub returns : goal.returns
returns c =
    record {
      accepted = λ p. (λ none. accepted p (acceptable p none), λ a. acceptable_faultless p (accepted_acceptable p a));
      formed = λ p. (formed p, λ h. faultless p h.0 h.1);
      stack = λ p table typed short. longest_is_least p table typed short;
    }
