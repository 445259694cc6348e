-- Words, and words that are joined by dots: what may stand for a name or a path (IEEE 1800-2017,
-- 5.6, 23.6).
use Rattle.std.specs.Prelude.{ℕ, Bool, true, false, ◌==◌, ◌&&◌, ◌||◌, nat_le, if◌then◌else◌, List}
use Rattle.std.specs.Prelude.{[], ◌∷◌}

-- a letter or an underscore
abbrev pub is_first : ℕ → Bool
is_first b = (nat_le 65 b && nat_le b 90) || (nat_le 97 b && nat_le b 122) || (b == 95)

-- one of these, a digit or a dollar sign
abbrev pub is_later : ℕ → Bool
is_later b = is_first b || (nat_le 48 b && nat_le b 57) || (b == 36)

-- The rest of a word, or of words that are joined by dots where dots are let.
unfoldable mutual
  pub goes_on : Bool → List ℕ → Bool
  goes_on dots [] = true
  goes_on dots (b ∷ bs) = if b == 46 then dots && begins dots bs else is_later b && goes_on dots bs

  -- a word, or words that are joined by dots
  pub begins : Bool → List ℕ → Bool
  begins dots [] = false
  begins dots (b ∷ bs) = is_first b && goes_on dots bs

abbrev pub is_word : List ℕ → Bool
is_word bytes = begins false bytes

abbrev pub is_path : List ℕ → Bool
is_path bytes = begins true bytes
