-- The steps of a body, as its events come (own).
use Rattle.std.specs.Prelude.{◌≡◌, ℕ, suc, ◌+◌, List, [], ◌∷◌, ◌++◌, length, Ok, IfOk}
use Rattle.vcd_reader.specs.Tokens.{DumpToken, tokens}
use Rattle.vcd_reader.specs.Values.{ValueChange, Moment}
use Rattle.vcd_reader.specs.Variables.{Declared, codes_of}
use Rattle.vcd_reader.specs.Body.{Rest}
use Rattle.vcd_reader.specs.Dump.{dump_of}
use Rattle.vcd_segments.specs.Pieces.{Between, Stand, Event, Changes, Begins, tokens_told}
use Rattle.vcd_segments.specs.Pieces.{with_events}
use Rattle.vcd_segments.specs.Beginnings.{IsBegun}

abbrev pub blank_step : ℕ → Moment
blank_step time = record { time = time; changes = [] }

-- a step with further changes
abbrev pub with_changes : Moment → List ValueChange → Moment
with_changes m cs = record { time = m.time; changes = m.changes ++ cs }

-- the steps that events close, from one that stands open
abbrev pub closed_by : Moment → List Event → List Moment
closed_by step [] = []
closed_by step (Changes c ∷ es) = closed_by (with_changes step (c ∷ [])) es
closed_by step (Begins time ∷ es) = step ∷ closed_by (blank_step time) es

-- the step that stands open behind them
abbrev pub open_behind : Moment → List Event → Moment
open_behind step [] = step
open_behind step (Changes c ∷ es) = open_behind (with_changes step (c ∷ [])) es
open_behind step (Begins time ∷ es) = open_behind (blank_step time) es

-- the time of that step, and how many changes events tell
abbrev pub time_behind : ℕ → List Event → ℕ
time_behind now [] = now
time_behind now (Changes c ∷ es) = time_behind now es
time_behind now (Begins time ∷ es) = time_behind time es

abbrev pub changes_told : List Event → ℕ
changes_told [] = 0
changes_told (Changes c ∷ es) = suc (changes_told es)
changes_told (Begins time ∷ es) = changes_told es

-- A stand that events lead to: the time of the open step, and the number of changes.
pub record IsLedTo (from : Stand) (es : List Event) (to : Stand) : Type 0 where
  pub now : to.now ≡ time_behind from.now es
  pub count : to.count ≡ from.count + changes_told es

-- Where tokens lead to is known by what they tell.
abbrev pub TokensLead : Type 0
TokensLead =
    (declared : List (List ℕ)) (len : ℕ) (s : Stand) (ts : List DumpToken)
    → IfOk (tokens_told declared len s ts) (λ p. IsLedTo s p.0 p.1)

-- Steps go on as they come: those that are closed, then the open one with what is still to come of
-- it, then later ones.
abbrev pub StepsCome : Type 0
StepsCome =
    (step : Moment) (es : List Event) (r : Rest)
    → with_changes step (with_events es r).0 ∷ (with_events es r).1
    ≡ closed_by step es ++ (with_changes (open_behind step es) r.0 ∷ r.1)

-- Piece after piece.
abbrev pub StepsGoOn : Type 0
StepsGoOn =
    (step : Moment) (es fs : List Event)
    → (closed_by step (es ++ fs) ≡ closed_by step es ++ closed_by (open_behind step es) fs)
    × (open_behind step (es ++ fs) ≡ open_behind (open_behind step es) fs)

-- A dump whose last piece ends between items says the steps that were closed, and the open one.
abbrev pub DumpHasSteps : Type 0
DumpHasSteps =
    (bytes last : List ℕ) (vs : List Declared) (es fs : List Event) (s : Stand) (count now : ℕ)
    → IsBegun bytes vs es s
    → tokens_told (codes_of vs) (length (bytes ++ last)) s (tokens (length bytes) last)
    ≡ Ok (fs, record { place = Between; count = count; now = now })
    → dump_of (bytes ++ last) ≡ Ok (record {
      variables = vs;
      steps = closed_by (blank_step 0) (es ++ fs)
          ++ open_behind (blank_step 0) (es ++ fs) ∷ [];
    })
