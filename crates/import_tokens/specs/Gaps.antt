-- What stands between tokens: white space, comments and attributes (IEEE 1800-2017, 5.3, 5.4 and
-- 5.12).
use Rattle.std.specs.Prelude.{◌≡◌, ℕ, ◌+◌, ◌-◌, ◌<◌, ◌≤◌, ◌||◌, ◌&&◌, ◌==◌, nat_le, Bool, List}
use Rattle.std.specs.Prelude.{slice_index, IsTrue}

-- space, tab, line feed, vertical tab, form feed and carriage return
abbrev pub is_white : ℕ → Bool
is_white b = (b == 32) || (nat_le 9 b && nat_le b 13)

-- of a name, after its first letter (5.6)
abbrev pub is_name_part : ℕ → Bool
is_name_part b =
    (nat_le 97 b && nat_le b 122) || (nat_le 65 b && nat_le b 90) || (nat_le 48 b && nat_le b 57)
    || (b == 95) || (b == 36)

-- Two bytes stand at a place.
pub record HasPair (text : List ℕ) (at first second : ℕ) : Type 0 where
  pub one : slice_index text at ≡ first
  pub two : slice_index text (at + 1) ≡ second

-- The bytes from one place up to another pass a test.
abbrev pub IsRun : (ℕ → Bool) → List ℕ → ℕ → ℕ → Type 0
IsRun test text from to =
    (k : ℕ) → from ≤ k → k < to → IsTrue (test (slice_index text k))

-- no line feed among them
abbrev pub StaysOnLine : List ℕ → ℕ → ℕ → Type 0
StaysOnLine text from to = (k : ℕ) → from ≤ k → k < to → slice_index text k ≡ 10 → ⊥

-- The bytes from one place up to another end a line: a line feed, or a carriage return and one.
pub data IsLineEnd : List ℕ → ℕ → ℕ → Type 0 where
  line_feed : {text : List ℕ} {from : ℕ} → slice_index text from ≡ 10
      → IsLineEnd text from (from + 1)
  with_return : {text : List ℕ} {from : ℕ} → HasPair text from 13 10
      → IsLineEnd text from (from + 2)

-- The bytes from one place up to another are white space, a comment or an attribute, or the
-- backslash by which a macro's text goes on after the end of this line, and that end (22.5.1).
pub data IsGap : List ℕ → ℕ → ℕ → Type 0 where
  white : {text : List ℕ} {from to : ℕ} → IsTrue (is_white (slice_index text from))
      → IsRun is_white text (from + 1) to → IsGap text from to
  line_goes_on : {text : List ℕ} {from to : ℕ} → slice_index text from ≡ 92
      → IsLineEnd text (from + 1) to → IsGap text from to
  line_comment : {text : List ℕ} {from to : ℕ} → HasPair text from 47 47
      → StaysOnLine text (from + 2) to → IsGap text from to
  block_comment : {text : List ℕ} {from to : ℕ} → HasPair text from 47 42 → from + 4 ≤ to
      → HasPair text (to - 2) 42 47 → IsGap text from to
  attribute : {text : List ℕ} {from to : ℕ} → HasPair text from 40 42 → from + 4 ≤ to
      → HasPair text (to - 2) 42 41 → IsGap text from to
