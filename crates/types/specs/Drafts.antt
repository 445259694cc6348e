-- Sequences as they are written, with names in them; what they stand for with the names written out
-- (IEEE 1800-2017, 16.8).
use Rattle.std.specs.Prelude.{ℕ, zero, suc, ◌+◌, List, [], ◌∷◌, ◌++◌, Option, Some, None, slice_get}
use Rattle.std.specs.Prelude.{option_map, option_and_then, length, ◌<◌, ◌≡◌, ◌⊎◌}
use Rattle.assertions.specs.Written.{Written}
use Rattle.assertions.specs.Written as written

pub data Draft (B : Type 0) : Type 0 where
  boolean : (b : B) → Draft B
  -- the named sequence that is declared at that place
  name : (place : ℕ) → Draft B
  -- r ##[least:least+extra] s
  delay : (r : Draft B) (least extra : ℕ) (s : Draft B) → Draft B
  -- ##[least:least+extra] s, with nothing before it
  lead : (least extra : ℕ) (s : Draft B) → Draft B
  -- r[*least:least+extra]
  repeat : (r : Draft B) (least extra : ℕ) → Draft B
  or : (r s : Draft B) → Draft B
  and : (r s : Draft B) → Draft B
  intersect : (r s : Draft B) → Draft B
  throughout : (b : B) (r : Draft B) → Draft B

-- one of the numbers
abbrev pub IsNumberIn : ℕ → List ℕ → Type 0
IsNumberIn p [] = ⊥
IsNumberIn p (q ∷ qs) = (p ≡ q) ⊎ IsNumberIn p qs

-- the places of the names in it, as they are written
abbrev pub uses : {B : Type 0} → Draft B → List ℕ
uses (boolean b) = []
uses (name p) = p ∷ []
uses (delay r least extra s) = uses r ++ uses s
uses (lead least extra s) = uses s
uses (repeat r least extra) = uses r
uses (or r s) = uses r ++ uses s
uses (and r s) = uses r ++ uses s
uses (intersect r s) = uses r ++ uses s
uses (throughout b r) = uses r

-- both, if both are there
abbrev pub both_there : {A C : Type 0} → (A → A → C) → Option A → Option A → Option C
both_there join None s = None
both_there join (Some a) s = option_map (join a) s

-- what is written, where each name is what the function says of its place
abbrev pub spelling_of : {B : Type 0} → (ℕ → Option (Written B)) → Draft B → Option (Written B)
spelling_of named (boolean b) = Some (written.boolean b)
spelling_of named (name p) = named p
spelling_of named (delay r least extra s) =
    both_there (λ v w. written.delay v least (least + extra) w) (spelling_of named r)
    (spelling_of named s)
spelling_of named (lead least extra s) =
    option_map (written.lead least (least + extra)) (spelling_of named s)
spelling_of named (repeat r least extra) =
    option_map (λ v. written.repeat v least (least + extra)) (spelling_of named r)
spelling_of named (or r s) = both_there written.or (spelling_of named r) (spelling_of named s)
spelling_of named (and r s) = both_there written.and (spelling_of named r) (spelling_of named s)
spelling_of named (intersect r s) =
    both_there written.intersect (spelling_of named r) (spelling_of named s)
spelling_of named (throughout b r) = option_map (written.throughout b) (spelling_of named r)

-- what a name stands for, where names are nested in its declaration less than so deep
abbrev pub named_within : {B : Type 0} → List (Draft B) → ℕ → ℕ → Option (Written B)
named_within bodies zero p = None
named_within bodies (suc depth) p =
    option_and_then (spelling_of (named_within bodies depth)) (slice_get bodies p)

-- It is what is written, with the names written out.
abbrev pub IsWrittenOut : {B : Type 0} → List (Draft B) → Draft B → Written B → Type 0
IsWrittenOut bodies d w = (depth : ℕ) × (spelling_of (named_within bodies depth) d ≡ Some w)

abbrev pub uses_of : {B : Type 0} → Option (Draft B) → List ℕ
uses_of None = []
uses_of (Some d) = uses d

-- the names that the declaration at a place uses
abbrev pub uses_at : {B : Type 0} → List (Draft B) → ℕ → List ℕ
uses_at bodies p = uses_of (slice_get bodies p)

-- The declaration at p reaches the one at q by so many more uses of names than one.
abbrev pub reaches_by : {B : Type 0} → List (Draft B) → ℕ → ℕ → ℕ → Type 0
reaches_by bodies zero p q = IsNumberIn q (uses_at bodies p)
reaches_by bodies (suc more) p q = (m : ℕ) × IsNumberIn m (uses_at bodies p)
    × reaches_by bodies more m q

-- It reaches itself: written out it would have no end.
abbrev pub IsCyclic : {B : Type 0} → List (Draft B) → ℕ → Type 0
IsCyclic bodies p = (more : ℕ) × reaches_by bodies more p p

-- one of the declarations reaches itself
abbrev pub SomeCyclic : {B : Type 0} → List (Draft B) → Type 0
SomeCyclic bodies = (p : ℕ) × (p < length bodies) × IsCyclic bodies p

-- each name that the declaration at p uses is declared
abbrev pub AllDeclared : {B : Type 0} → List (Draft B) → ℕ → Type 0
AllDeclared bodies p = (q : ℕ) → IsNumberIn q (uses_at bodies p) → q < length bodies
