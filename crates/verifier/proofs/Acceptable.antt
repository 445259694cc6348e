-- What is accepted, in two parts: its code is well formed, and its declared limits are enough.
use Rattle.std.specs.Prelude.{◌≤◌}
use Rattle.bytecode_programs.specs.Values.{ProgramData}
use Rattle.verifier.specs.Limits.{farthest}
use Rattle.verifier.specs.Programs.{IsWellFormed, HasRoom, least_stack, least_attempts}
use Rattle.verifier.specs.Programs.{least_obligations, least_budget}

-- the declared limits are at least the least
pub record IsWithinLimits (p : ProgramData) : Type 0 where
  pub history : farthest p.sample ≤ p.header.limits.history
  pub stack : least_stack p ≤ p.header.limits.stack
  pub attempts : least_attempts p ≤ p.header.limits.attempts
  pub obligations : least_obligations p ≤ p.header.limits.obligations
  pub budget : least_budget p ≤ p.header.limits.budget

pub record IsAcceptable (p : ProgramData) : Type 0 where
  pub formed : IsWellFormed p
  pub room : HasRoom p
  pub limits : IsWithinLimits p
