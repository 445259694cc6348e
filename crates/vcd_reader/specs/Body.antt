-- The part of a dump after $enddefinitions: times and changes (IEEE 1364-2005, clause 18.2.1).
use Rattle.std.specs.Prelude.{ℕ, suc, ◌^◌, List, [], ◌∷◌, Bool, ◌||◌, ◌==◌, nat_lt, Option, Some}
use Rattle.std.specs.Prelude.{None, Result, Ok, Err, if◌then◌else◌, codes}
use Rattle.std.specs.List.{list_all}
use Rattle.std.specs.Str.{bytes_eq}
use Rattle.vcd_reader.specs.declared.fault.Fault.{Fault}
use Rattle.vcd_reader.specs.declared.fault.Fault.TheVariants.{BadToken, UnknownCode, TimeBack}
use Rattle.vcd_reader.specs.declared.fault.Fault.TheVariants.{UnclosedSection, Truncated, TooLarge}
use Rattle.vcd_reader.specs.Variables.{is_code_byte, place_of}
use Rattle.vcd_reader.specs.Tokens.{DumpToken}
use Rattle.vcd_reader.specs.Numbers.{is_empty, decimal_below, is_bit}
use Rattle.vcd_reader.specs.Values.{ValueChange, Moment}
use Rattle.vcd_reader.specs.Faults.{◌>>=◌}

-- what a token is by its own text
pub data Kind : Type 0 where
  Time : ℕ → Kind
  Scalar : ℕ → Kind
  Vector : List ℕ → Kind
  Text : Kind
  Lone : Kind
  Section : Kind
  Bad : Kind

-- words that stand alone
abbrev pub is_lone_word : List ℕ → Bool
is_lone_word text =
    bytes_eq text (codes "$dumpvars") || bytes_eq text (codes "$dumpall")
    || bytes_eq text (codes "$dumpon") || bytes_eq text (codes "$dumpoff")
    || bytes_eq text (codes "$end")

abbrev pub time_kind : Option ℕ → Kind
time_kind None = Bad
time_kind (Some n) = Time n

unfoldable pub kind_of : List ℕ → Kind
kind_of [] = Bad
kind_of (b ∷ bs) =
    if is_bit b then Scalar b
    else (if b == 35 then time_kind (decimal_below (2 ^ 64) bs)
    else (if (b == 98) || (b == 66)
    then (if is_empty bs then Bad else (if list_all is_bit bs then Vector bs else Bad))
    else (if (b == 114) || (b == 82) || (b == 115) || (b == 83) then Text
    else (if b == 36 then (if is_lone_word (b ∷ bs) then Lone else Section)
    else Bad))))

-- the most changes that a dump may have
abbrev pub most_changes : ℕ
most_changes = 4294967295

-- the further changes of the step that is open, and the steps after it
abbrev pub Rest : Type 0
Rest = List ValueChange × List Moment

-- What follows so many changes, at a time.
abbrev pub Next : Type 0
Next = ℕ → ℕ → Result Rest Fault

abbrev pub with_change : ValueChange → ℕ → ℕ → Next → Result Rest Fault
with_change c count now rest =
    if nat_lt count most_changes then (rest (suc count) now >>= λ r. Ok (c ∷ r.0, r.1))
    else Err TooLarge

abbrev pub with_step : ℕ → Result Rest Fault → Result Rest Fault
with_step time read = read >>= λ r. Ok ([], record { time = time; changes = r.0 } ∷ r.1)

-- an equal time goes on with the step, and a smaller one is refused
abbrev pub with_time : ℕ → ℕ → ℕ → ℕ → Next → Result Rest Fault
with_time time at count now rest =
    if nat_lt time now then Err (TimeBack at)
    else (if time == now then rest count now else with_step time (rest count time))

-- why a code is none of the header's
abbrev pub missing_fault : List ℕ → ℕ → Fault
missing_fault code at = if list_all is_code_byte code then UnknownCode at else BadToken at

-- a change of the code to the digits, in the token that begins at the byte
abbrev pub change_by_code : Option ℕ → List ℕ → List ℕ → ℕ → ℕ → ℕ → Next → Result Rest Fault
change_by_code None code digits at count now rest = Err (missing_fault code at)
change_by_code (Some n) code digits at count now rest =
    with_change (record { code = n; digits = digits }) count now rest

-- a scalar without a code: the very end of the input may be where it was cut off
abbrev pub codeless_fault : ℕ → ℕ → Fault
codeless_fault at len = if suc at == len then Truncated else BadToken at

-- a scalar with this text after its digit
abbrev pub scalar : List (List ℕ) → ℕ → ℕ → List ℕ → ℕ → ℕ → ℕ → Next → Result Rest Fault
scalar declared len digit [] at count now rest = Err (codeless_fault at len)
scalar declared len digit (c ∷ code) at count now rest =
    change_by_code (place_of declared (c ∷ code)) (c ∷ code) (digit ∷ []) at count now rest

abbrev pub behind_first : List ℕ → List ℕ
behind_first [] = []
behind_first (b ∷ bs) = bs

-- What a token of that kind leads to, where after it stand further items, the code of a vector, a
-- text's second token, or the rest of a section.
abbrev pub by_kind : Kind → List (List ℕ) → ℕ → DumpToken → ℕ → ℕ → Next
    → (List ℕ → Result Rest Fault) → Result Rest Fault → Result Rest Fault → Result Rest Fault
by_kind (Time time) declared len t count now items code second words =
    with_time time t.at count now items
by_kind (Scalar digit) declared len t count now items code second words =
    scalar declared len digit (behind_first t.text) t.at count now items
by_kind (Vector digits) declared len t count now items code second words = code digits
by_kind Text declared len t count now items code second words = second
by_kind Lone declared len t count now items code second words = items count now
by_kind Section declared len t count now items code second words = words
by_kind Bad declared len t count now items code second words = Err (BadToken t.at)

-- The tokens of the body, with the header's codes, the length of the input, how many changes stood
-- before, and the time of the open step: those after an item, after the word of a section, after
-- the digits of a vector, and after a text.
unfoldable mutual
  pub body : List (List ℕ) → ℕ → ℕ → ℕ → List DumpToken → Result Rest Fault
  body declared len count now [] = Ok ([], [])
  body declared len count now (t ∷ ts) =
      by_kind (kind_of t.text) declared len t count now (λ c n. body declared len c n ts)
      (λ digits. vector declared len count now digits ts)
      (behind_ignored declared len count now ts) (section declared len count now t.at ts)

  pub section : List (List ℕ) → ℕ → ℕ → ℕ → ℕ → List DumpToken → Result Rest Fault
  section declared len count now word [] = Err (UnclosedSection word)
  section declared len count now word (t ∷ ts) =
      if bytes_eq t.text (codes "$end") then body declared len count now ts
      else section declared len count now word ts

  pub vector : List (List ℕ) → ℕ → ℕ → ℕ → List ℕ → List DumpToken → Result Rest Fault
  vector declared len count now digits [] = Err Truncated
  vector declared len count now digits (t ∷ ts) =
      change_by_code (place_of declared t.text) t.text digits t.at count now
      (λ c n. body declared len c n ts)

  pub behind_ignored : List (List ℕ) → ℕ → ℕ → ℕ → List DumpToken → Result Rest Fault
  behind_ignored declared len count now [] = Err Truncated
  behind_ignored declared len count now (t ∷ ts) = body declared len count now ts

-- all steps: the first is at time 0
abbrev pub steps_of : Result Rest Fault → Result (List Moment) Fault
steps_of read = read >>= λ r. Ok (record { time = 0; changes = r.0 } ∷ r.1)
