-- The first of the least numbers, as far as a loop has come.
use Rattle.std.proofs.Common.{◌≡◌, ℕ, ◌+◌, ◌<◌, ◌≤◌, List, Option, Some, None, length, get_or, refl, subst}
use Rattle.std.proofs.Common.{inl, inr, arith}
use Rattle.std.proofs.lemmas.Bool.{cases_lt}
use Rattle.std.proofs.lemmas.List.{get_or_default}
use Rattle.std.specs.Prelude.{slice_index, MatchOption}
use Rattle.std.specs.List.{All}
use Rattle.diagnostics.specs.Nearest.{IsFirstLeast}

-- where the least of the first n numbers stands, if it is at most so large
pub record IsFound (most : ℕ) (gaps : List ℕ) (n least place : ℕ) : Type 0 where
  pub inside : place < n
  pub value : slice_index gaps place ≡ least
  pub near : least ≤ most
  pub first : (k : ℕ) → k < place → least < slice_index gaps k

-- what holds of the first n numbers
pub record IsSoFar (most : ℕ) (gaps : List ℕ) (n least : ℕ) (first : Option ℕ) : Type 0 where
  pub found : MatchOption first (least ≡ most + 1) (IsFound most gaps n least)
  pub bound : least ≤ most + 1
  pub no_less : (k : ℕ) → k < n → least ≤ slice_index gaps k

pub none : (most : ℕ) (gaps : List ℕ) → IsSoFar most gaps 0 (most + 1) None
none most gaps = record { found = refl; bound = omega arith; no_less = λ k below. absurd (omega arith) }

found-kept : (most : ℕ) (gaps : List ℕ) (n least : ℕ) (first : Option ℕ) → MatchOption first (least ≡ most + 1)
    (IsFound most gaps n least) → MatchOption first (least ≡ most + 1) (IsFound most gaps (n + 1) least)
found-kept most gaps n least None is = is
found-kept most gaps n least (Some place) f =
    record { inside = omega (arith, f.inside); value = f.value; near = f.near; first = f.first }

-- a bound of a number, by another name of its place
below-same : (gaps : List ℕ) (n k x : ℕ) → n ≡ k → x ≤ slice_index gaps n → x ≤ slice_index gaps k
below-same gaps n k x same below = subst (λ (i : ℕ). x ≤ slice_index gaps i) same below

-- a number that is not less
pub kept : (most : ℕ) (gaps : List ℕ) (n least : ℕ) (first : Option ℕ) → IsSoFar most gaps n least first
    → least ≤ slice_index gaps n → IsSoFar most gaps (n + 1) least first
kept most gaps n least first so more =
    record {
      found = found-kept most gaps n least first so.found;
      bound = so.bound;
      no_less = λ k below.
          elim (cases_lt k n) [
            | inl less ↦ so.no_less k less
            | inr high ↦ below-same gaps n k least (omega arith) more
          ];
    }

-- a lesser number
pub found : (most : ℕ) (gaps : List ℕ) (n least : ℕ) (first : Option ℕ) → IsSoFar most gaps n least first
    → slice_index gaps n < least → IsSoFar most gaps (n + 1) (slice_index gaps n) (Some n)
found most gaps n least first so less =
    record {
      found = record {
        inside = omega arith;
        value = refl;
        near = omega (arith, so.bound);
        first = λ k below. let old : least ≤ slice_index gaps k = so.no_less k below in omega arith;
      };
      bound = omega (arith, so.bound);
      no_less = λ k below.
          elim (cases_lt k n) [
            | inl lower ↦ (let old : least ≤ slice_index gaps k = so.no_less k lower in omega arith)
            | inr high ↦ below-same gaps n k (slice_index gaps n) (omega arith) (omega arith)
          ];
    }

-- all numbers
pub whole : (most : ℕ) (gaps : List ℕ) (n least : ℕ) (first : Option ℕ) → IsSoFar most gaps n least first
    → n ≡ length gaps → MatchOption first (All (λ d. most < d) gaps) (IsFirstLeast most gaps)
whole most gaps n least None so all =
    λ k d below.
    let same : slice_index gaps k ≡ get_or gaps k d = get_or_default gaps k 0 d below in
    let old : least ≤ slice_index gaps k = so.no_less k (omega arith) in
    let none : least ≡ most + 1 = so.found in
    omega arith
whole most gaps n least (Some place) so all =
    let f : IsFound most gaps n least place = so.found in
    record {
      inside = omega (arith, f.inside);
      near = omega (arith, f.value, f.near);
      least = λ k below. let old : least ≤ slice_index gaps k = so.no_less k (omega arith) in omega (arith, f.value);
      first = λ k below. let old : least < slice_index gaps k = f.first k below in omega (arith, f.value);
    }
