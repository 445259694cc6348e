-- Marks on declarations that reach a goal.
use Rattle.std.specs.Prelude.{◌≡◌, ◌⊎◌, ℕ, List, Bool, true, false}
use Rattle.types.specs.Drafts.{Draft, IsNumberIn, uses_at, reaches_by}
use Rattle.types.specs.Marks.{some_use, mark_at, leads_to_goal}

-- the declaration at p reaches the goal
abbrev pub Reaches : {B : Type 0} → List (Draft B) → ℕ → ℕ → Type 0
Reaches bodies p goal = (more : ℕ) × reaches_by bodies more p goal

-- each marked declaration reaches the goal
abbrev pub AreSound : {B : Type 0} → List (Draft B) → ℕ → List Bool → Type 0
AreSound bodies goal marks = (p : ℕ) → mark_at marks p ≡ true → Reaches bodies p goal

-- each of these has a mark or is left
abbrev pub Covers : List Bool → List ℕ → ℕ → Type 0
Covers marks left p = (mark_at marks p ≡ true) ⊎ IsNumberIn p left

-- none of these uses the goal or a mark
abbrev pub AreQuiet : {B : Type 0} → List (Draft B) → ℕ → List Bool → List ℕ → Type 0
AreQuiet bodies goal marks left =
    (p : ℕ) → IsNumberIn p left → some_use (leads_to_goal marks goal) (uses_at bodies p) ≡ false
