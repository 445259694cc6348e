-- A dump's steps in segments: what of them is kept, and what is carried from one to the next (own).
use Rattle.std.specs.Prelude.{◌≡◌, ℕ, ◌==◌, List, [], ◌∷◌, ◌++◌, Bool, true, false, map, Option}
use Rattle.std.specs.Prelude.{Some, None, if◌then◌else◌}
use Rattle.std.specs.List.{flat_map, AllByRecursion}
use Rattle.vcd_reader.specs.Values.{ValueChange, Moment, last_digits}
use Rattle.vcd_reader.specs.Variables.{Declared, code_number}
use Rattle.vcd_reader.specs.Dump.{Contents}
use Rattle.cycle_window.specs.Ticks.{ticks_of, row_of}

-- the rows of variables at the ticks of the clock with that code
abbrev pub rows_at : Contents → List ℕ → ℕ → List (List ℕ)
rows_at c places code = map (row_of c places) (ticks_of c code)

-- the same variables with other steps
abbrev pub with_steps : Contents → List Moment → Contents
with_steps c steps = record { variables = c.variables; steps = steps }

-- The codes that are read: that of the clock, and those of the variables of a row.
pub record AreRead (vs : List Declared) (code : ℕ) (places : List ℕ) (reads : ℕ → Bool) : Type 0
  where
    pub clock : reads code ≡ true
    pub row : AllByRecursion (λ v. reads (code_number vs v) ≡ true) places

-- all changes of some steps
abbrev pub changes_in : List Moment → List ValueChange
changes_in ms = flat_map (λ m. m.changes) ms

-- the changes of codes that are read
unfoldable pub kept_changes : (ℕ → Bool) → List ValueChange → List ValueChange
kept_changes reads [] = []
kept_changes reads (c ∷ cs) =
    if reads c.code then c ∷ kept_changes reads cs else kept_changes reads cs

-- a step in front of others, where it has a change
abbrev pub front_step : ℕ → List ValueChange → List Moment → List Moment
front_step time [] ms = ms
front_step time (c ∷ cs) ms = record { time = time; changes = c ∷ cs } ∷ ms

-- the steps that have a change of a code that is read, with these changes alone
unfoldable pub kept_steps : (ℕ → Bool) → List Moment → List Moment
kept_steps reads [] = []
kept_steps reads (m ∷ ms) =
    front_step m.time (kept_changes reads m.changes) (kept_steps reads ms)

-- The step tells what stands behind the others: of each code that is read it has the last digits
-- that they have.
pub record Tells (reads : ℕ → Bool) (before : List Moment) (first : Moment) : Type 0 where
  pub last : (code : ℕ) → reads code ≡ true
      → last_digits code first.changes ≡ last_digits code (changes_in before)

-- whether a code is one of these
abbrev pub is_among : List ℕ → ℕ → Bool
is_among [] code = false
is_among (k ∷ ks) code = if k == code then true else is_among ks code

abbrev pub front_told : ℕ → Option (List ℕ) → List ValueChange → List ValueChange
front_told code None cs = cs
front_told code (Some digits) cs = record { code = code; digits = digits } ∷ cs

-- the last change of each of these codes
unfoldable pub told_changes : List ValueChange → List ℕ → List ValueChange
told_changes cs [] = []
told_changes cs (k ∷ ks) = front_told k (last_digits k cs) (told_changes cs ks)

-- the step that tells the last changes of these codes behind other steps
abbrev pub telling_step : List ℕ → List Moment → Moment
telling_step codes before = record { time = 0; changes = told_changes (changes_in before) codes }

-- A segment: the step that tells what stands before it, and its steps.
pub record Segment : Type 0 where
  pub first : Moment
  pub steps : List Moment

-- the segment as a dump of these variables
abbrev pub small_dump : Contents → Segment → Contents
small_dump c s = with_steps c (s.first ∷ s.steps)

-- Behind these steps the segments follow each other: each tells what stands behind the steps and
-- the segments before it.
abbrev pub Follow : (ℕ → Bool) → List Moment → List Segment → Type 0
Follow reads before [] = Unit {0}
Follow reads before (s ∷ ss) = Tells reads before s.first × Follow reads (before ++ s.steps) ss
