-- What value changes say of a variable (IEEE 1364-2005, clauses 18.2.1 and 18.2.2).
use Rattle.std.specs.Prelude.{ℕ, ◌-◌, ◌==◌, List, [], ◌∷◌, ◌++◌, length, take, drop, Option, Some}
use Rattle.std.specs.Prelude.{None, if◌then◌else◌, replicate}
use Rattle.std.specs.List.{flat_map}
use Rattle.vcd_reader.specs.Numbers.{bits_from}

-- a change of a code, which is named by its number, with its digits as the dump wrote them
pub record ValueChange : Type 0 where
  pub code : ℕ
  pub digits : List ℕ

-- the changes at one time, in order
pub record Moment : Type 0 where
  pub time : ℕ
  pub changes : List ValueChange

-- the digit that extends a vector on the left: 0 where the leftmost digit is 0 or 1, else that
-- digit
abbrev pub padding : List ℕ → ℕ
padding [] = 48
padding (d ∷ ds) = if d == 49 then 48 else d

-- the digits with as many on the left as the size lacks
abbrev pub extended_digits : ℕ → List ℕ → List ℕ
extended_digits size digits = replicate (size - length digits) (padding digits) ++ digits

-- as many digits as the size says: extended on the left, or cut on the left
abbrev pub fitted_digits : ℕ → List ℕ → List ℕ
fitted_digits size digits = drop (length digits - size) (extended_digits size digits)

-- the number that the digits stand for in a variable of the size; x and z count as 0
unfoldable pub digits_value : ℕ → List ℕ → ℕ
digits_value size digits = bits_from 0 (fitted_digits size digits)

abbrev pub or_else : {A : Type 0} → Option A → Option A → Option A
or_else None o = o
or_else (Some x) o = Some x

-- the digits of the last change of the code
unfoldable pub last_digits : ℕ → List ValueChange → Option (List ℕ)
last_digits code [] = None
last_digits code (c ∷ cs) =
    or_else (last_digits code cs) (if c.code == code then Some c.digits else None)

-- all changes in the steps before the step k
unfoldable pub changes_before : List Moment → ℕ → List ValueChange
changes_before steps k = flat_map (λ m. m.changes) (take k steps)

-- 0 before any change
abbrev pub value_or_zero : ℕ → Option (List ℕ) → ℕ
value_or_zero size None = 0
value_or_zero size (Some digits) = digits_value size digits

-- The value of a variable with that code and size before the step k: its last change in the steps
-- before.
unfoldable pub value_at : List Moment → ℕ → ℕ → ℕ → ℕ
value_at steps code size k = value_or_zero size (last_digits code (changes_before steps k))
