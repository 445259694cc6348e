-- Declarations that can't be written out.
use Rattle.std.specs.Prelude.{◌≡◌, ◌⊎◌, ℕ, List}
use Rattle.types.specs.Drafts.{Draft, IsCyclic}
use Rattle.types.specs.Sweeps.{Reaches}

-- The declaration at p reaches itself, or uses, directly or through others, one that does.
pub record ReachesCycle {B : Type 0} (bodies : List (Draft B)) (p : ℕ) : Type 0 where
  pub place : ℕ
  pub cyclic : IsCyclic bodies place
  pub reached : (p ≡ place) ⊎ Reaches bodies p place
