-- Sequences, and the segments of ticks that they match (IEEE 1800-2017, 16.9 and annex F.5).
use Rattle.std.specs.Prelude.{◌≡◌, ◌⊎◌, ℕ, zero, suc, ◌+◌, ◌*◌, ◌<◌, ◌≤◌, ◌==◌, max, min, Bool}
use Rattle.std.specs.Prelude.{true, ◌&&◌, ◌||◌, not, nat_le, IsTrue}
use Rattle.assertions.specs.Quantifiers.{some_in, each_in}

-- A sequence over booleans B, by its kernel: delays and repetitions are written out.
pub data Seq (B : Type 0) : Type 0 where
  -- a boolean: one tick at which it is true (16.7)
  one : (b : B) → Seq B
  -- the empty segment alone, [*0] (16.9.2)
  none : Seq B
  -- r ##1 s: a front matches r and the rest matches s (16.9.2, F.5.2)
  chop : (r s : Seq B) → Seq B
  -- r ##0 s: the last tick of r is the first of s, and neither part is empty (16.9.2, F.5.2)
  fuse : (r s : Seq B) → Seq B
  -- r or s (16.9.7)
  either : (r s : Seq B) → Seq B
  -- r and s: both from the same tick, and it ends where the later one ends (16.9.5)
  both : (r s : Seq B) → Seq B
  -- r intersect s: both from the same tick, and they end with the same one (16.9.6)
  meet : (r s : Seq B) → Seq B
  -- b throughout r: b is true at each tick of r (16.9.9)
  during : (b : B) (r : Seq B) → Seq B
  -- r [*least:most]: so many matches of r, each directly after the one before (16.9.2)
  times : (r : Seq B) (least most : ℕ) → Seq B

-- The letter at a tick: with the ticks below n seen, a boolean is true at k where it was seen to
-- be, and at each tick from n on (the letter that satisfies everything, F.5).
abbrev pub sat : {B : Type 0} → (B → ℕ → Bool) → ℕ → B → ℕ → Bool
sat value n b k = nat_le n k || value b k

-- So many segments that pass, one after another, make up the ticks i up to j.
abbrev pub Chain : (ℕ → ℕ → Type 0) → ℕ → ℕ → ℕ → Type 0
Chain Passes zero i j = i ≡ j
Chain Passes (suc count) i j = (m : ℕ) × Chain Passes count i m × Passes m j

-- The sequence matches the ticks i up to j, j not included, where holds says which boolean is true
-- at which tick: a clause for each form (F.5.2).
abbrev pub Matches : {B : Type 0} → (B → ℕ → Bool) → Seq B → ℕ → ℕ → Type 0
Matches holds (one b) i j = (j ≡ i + 1) × IsTrue (holds b i)
Matches holds none i j = i ≡ j
Matches holds (chop r s) i j = (m : ℕ) × Matches holds r i m × Matches holds s m j
Matches holds (fuse r s) i j =
    (e : ℕ) × (i ≤ e) × (e < j) × Matches holds r i (e + 1) × Matches holds s e j
Matches holds (either r s) i j = Matches holds r i j ⊎ Matches holds s i j
Matches holds (both r s) i j =
    (k : ℕ) × (l : ℕ) × Matches holds r i k × Matches holds s i l × (j ≡ max k l)
Matches holds (meet r s) i j = Matches holds r i j × Matches holds s i j
Matches holds (during b r) i j =
    Matches holds r i j × ((k : ℕ) → i ≤ k → k < j → IsTrue (holds b k))
Matches holds (times r least most) i j =
    (k : ℕ) × (least ≤ k) × (k ≤ most) × Chain (Matches holds r) k i j

-- first_match r: r matches the ticks i up to j, and up to no smaller end (16.9.8).
abbrev pub MatchesFirst : {B : Type 0} → (B → ℕ → Bool) → Seq B → ℕ → ℕ → Type 0
MatchesFirst holds r i j = Matches holds r i j × ((k : ℕ) → k < j → Matches holds r i k → ⊥)

-- the same as tests
abbrev pub chain : (ℕ → ℕ → Bool) → ℕ → ℕ → ℕ → Bool
chain passes zero i j = i == j
chain passes (suc count) i j = some_in i (j + 1) (λ m. chain passes count i m && passes m j)

abbrev pub is_match : {B : Type 0} → (B → ℕ → Bool) → Seq B → ℕ → ℕ → Bool
is_match holds (one b) i j = (j == i + 1) && holds b i
is_match holds none i j = i == j
is_match holds (chop r s) i j =
    some_in i (j + 1) (λ m. is_match holds r i m && is_match holds s m j)
is_match holds (fuse r s) i j =
    some_in i j (λ e. is_match holds r i (e + 1) && is_match holds s e j)
is_match holds (either r s) i j = is_match holds r i j || is_match holds s i j
is_match holds (both r s) i j =
    (is_match holds r i j && some_in i (j + 1) (λ k. is_match holds s i k))
    || (some_in i (j + 1) (λ k. is_match holds r i k) && is_match holds s i j)
is_match holds (meet r s) i j = is_match holds r i j && is_match holds s i j
is_match holds (during b r) i j = is_match holds r i j && each_in i j (λ k. holds b k)
is_match holds (times r least most) i j =
    some_in least (most + 1) (λ k. chain (is_match holds r) k i j)

abbrev pub is_first_match : {B : Type 0} → (B → ℕ → Bool) → Seq B → ℕ → ℕ → Bool
is_first_match holds r i j = is_match holds r i j && each_in i j (λ k. not (is_match holds r i k))

-- no match takes more ticks than this
abbrev pub longest : {B : Type 0} → Seq B → ℕ
longest (one b) = 1
longest none = 0
longest (chop r s) = longest r + longest s
longest (fuse r s) = longest r + longest s
longest (either r s) = max (longest r) (longest s)
longest (both r s) = max (longest r) (longest s)
longest (meet r s) = min (longest r) (longest s)
longest (during b r) = longest r
longest (times r least most) = most * longest r

-- every boolean true at every tick
abbrev pub always : {B : Type 0} → B → ℕ → Bool
always b k = true

-- no match of a tick or more, were every boolean true (16.12.22)
abbrev pub IsDegenerate : {B : Type 0} → Seq B → Type 0
IsDegenerate r = (j : ℕ) → 0 < j → Matches always r 0 j → ⊥

-- a match of no tick, were every boolean true (16.12.22)
abbrev pub AdmitsEmpty : {B : Type 0} → Seq B → Type 0
AdmitsEmpty r = Matches always r 0 0
