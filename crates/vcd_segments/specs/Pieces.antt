-- The tokens of a body one after the other, by a machine that may stand anywhere among them (own).
use Rattle.std.specs.Prelude.{ℕ, suc, List, [], ◌∷◌, ◌++◌, ◌==◌, nat_lt, Option, Some, None}
use Rattle.std.specs.Prelude.{Result, Ok, Err, if◌then◌else◌, codes}
use Rattle.std.specs.Str.{bytes_eq}
use Rattle.vcd_reader.specs.declared.fault.Fault.{Fault}
use Rattle.vcd_reader.specs.declared.fault.Fault.TheVariants.{BadToken, TimeBack}
use Rattle.vcd_reader.specs.declared.fault.Fault.TheVariants.{UnclosedSection, Truncated, TooLarge}
use Rattle.vcd_reader.specs.Faults.{◌>>=◌}
use Rattle.vcd_reader.specs.Tokens.{DumpToken}
use Rattle.vcd_reader.specs.Values.{ValueChange, Moment}
use Rattle.vcd_reader.specs.Variables.{place_of}
use Rattle.vcd_reader.specs.Body.{Kind, Time, Scalar, Vector, Text, Lone, Section, Bad, kind_of}
use Rattle.vcd_reader.specs.Body.{Rest, most_changes, missing_fault, codeless_fault, behind_first}
use Rattle.vcd_reader.specs.Body.{body, section, vector, behind_ignored}

-- where it stands between two tokens: between items, after the digits of a vector, after a text
-- whose second token comes, or inside the section whose word begins at the byte
pub data Place : Type 0 where
  Between : Place
  AfterDigits : List ℕ → Place
  AfterText : Place
  Inside : ℕ → Place

-- its place, how many changes there were, and the time of the open step
pub record Stand : Type 0 where
  pub place : Place
  pub count : ℕ
  pub now : ℕ

abbrev pub stand : Place → ℕ → ℕ → Stand
stand place count now = record { place = place; count = count; now = now }

-- what a token tells: a change of the open step, or that the step of a time begins
pub data Event : Type 0 where
  Changes : ValueChange → Event
  Begins : ℕ → Event

-- what tokens told, and where the machine stands after them
abbrev pub Told : Type 0
Told = List Event × Stand

-- a change of the code to the digits, in the token that begins at the byte
abbrev pub change_told : Option ℕ → List ℕ → List ℕ → ℕ → ℕ → ℕ → Result Told Fault
change_told None code digits at count now = Err (missing_fault code at)
change_told (Some n) code digits at count now =
    if nat_lt count most_changes
    then Ok (Changes (record { code = n; digits = digits }) ∷ [], stand Between (suc count) now)
    else Err TooLarge

-- a scalar with this text after its digit
abbrev pub scalar_told : List (List ℕ) → ℕ → ℕ → List ℕ → ℕ → ℕ → ℕ → Result Told Fault
scalar_told declared len digit [] at count now = Err (codeless_fault at len)
scalar_told declared len digit (c ∷ code) at count now =
    change_told (place_of declared (c ∷ code)) (c ∷ code) (digit ∷ []) at count now

abbrev pub time_told : ℕ → ℕ → ℕ → ℕ → Result Told Fault
time_told time at count now =
    if nat_lt time now then Err (TimeBack at)
    else (if time == now then Ok ([], stand Between count now)
    else Ok (Begins time ∷ [], stand Between count time))

-- a token of that kind, between items
abbrev pub kind_told : Kind → List (List ℕ) → ℕ → DumpToken → ℕ → ℕ → Result Told Fault
kind_told (Time time) declared len t count now = time_told time t.at count now
kind_told (Scalar digit) declared len t count now =
    scalar_told declared len digit (behind_first t.text) t.at count now
kind_told (Vector digits) declared len t count now = Ok ([], stand (AfterDigits digits) count now)
kind_told Text declared len t count now = Ok ([], stand AfterText count now)
kind_told Lone declared len t count now = Ok ([], stand Between count now)
kind_told Section declared len t count now = Ok ([], stand (Inside t.at) count now)
kind_told Bad declared len t count now = Err (BadToken t.at)

-- a token at a place
abbrev pub place_told : Place → List (List ℕ) → ℕ → DumpToken → ℕ → ℕ → Result Told Fault
place_told Between declared len t count now = kind_told (kind_of t.text) declared len t count now
place_told (AfterDigits digits) declared len t count now =
    change_told (place_of declared t.text) t.text digits t.at count now
place_told AfterText declared len t count now = Ok ([], stand Between count now)
place_told (Inside word) declared len t count now =
    if bytes_eq t.text (codes "$end") then Ok ([], stand Between count now)
    else Ok ([], stand (Inside word) count now)

-- events before what more tokens tell
abbrev pub more_told : List Event → Result Told Fault → Result Told Fault
more_told es read = read >>= λ p. Ok (es ++ p.0, p.1)

-- what tokens tell, or the first fault that stands in them
unfoldable pub tokens_told : List (List ℕ) → ℕ → Stand → List DumpToken → Result Told Fault
tokens_told declared len s [] = Ok ([], s)
tokens_told declared len s (t ∷ ts) =
    place_told s.place declared len t s.count s.now
    >>= λ p. more_told p.0 (tokens_told declared len p.1 ts)

-- the end of the input at a place
abbrev pub ended : Place → Result Rest Fault
ended Between = Ok ([], [])
ended (AfterDigits digits) = Err Truncated
ended AfterText = Err Truncated
ended (Inside word) = Err (UnclosedSection word)

-- the further changes of the open step, and the steps after it, with events before them
abbrev pub with_events : List Event → Rest → Rest
with_events [] r = r
with_events (Changes c ∷ es) r = (c ∷ (with_events es r).0, (with_events es r).1)
with_events (Begins time ∷ es) r =
    ([], record { time = time; changes = (with_events es r).0 } ∷ (with_events es r).1)

-- what the tokens of a body say from a place on
abbrev pub body_of : Place → List (List ℕ) → ℕ → ℕ → ℕ → List DumpToken → Result Rest Fault
body_of Between declared len count now ts = body declared len count now ts
body_of (AfterDigits digits) declared len count now ts = vector declared len count now digits ts
body_of AfterText declared len count now ts = behind_ignored declared len count now ts
body_of (Inside word) declared len count now ts = section declared len count now word ts

abbrev pub body_at : List (List ℕ) → ℕ → Stand → List DumpToken → Result Rest Fault
body_at declared len s ts = body_of s.place declared len s.count s.now ts
