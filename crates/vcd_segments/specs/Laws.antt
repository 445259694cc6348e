-- The laws of dumps in segments (own).
use Rattle.std.specs.Prelude.{◌≡◌, ℕ, suc, ◌+◌, List, [], ◌∷◌, ◌++◌, Bool, true, length, Ok}
use Rattle.std.specs.List.{flat_map}
use Rattle.vcd_reader.specs.Faults.{◌>>=◌}
use Rattle.vcd_reader.specs.Tokens.{DumpToken, is_separator, tokens}
use Rattle.vcd_reader.specs.Values.{Moment}
use Rattle.vcd_reader.specs.Dump.{Contents}
use Rattle.vcd_segments.specs.Rows.{none_stands, rows_from}
use Rattle.vcd_segments.specs.Segments.{rows_at, with_steps, AreRead, kept_steps, Tells}
use Rattle.vcd_segments.specs.Segments.{Segment, small_dump, Follow, is_among, telling_step}
use Rattle.vcd_segments.specs.Pieces.{Stand, tokens_told, more_told, ended, with_events, body_at}

-- The rows at the ticks of a dump come step by step.
abbrev pub RowsComeStepByStep : Type 0
RowsComeStepByStep =
    (c : Contents) (places : List ℕ) (code : ℕ)
    → rows_at c places code ≡ rows_from c.variables code places none_stands c.steps

-- The rows of a dump are those of its segments, each as a dump of its own, in order.
abbrev pub RowsJoin : Type 0
RowsJoin =
    (c : Contents) (segments : List Segment) (places : List ℕ) (code : ℕ) (reads : ℕ → Bool)
    → AreRead c.variables code places reads → Follow reads [] segments
    → c.steps ≡ flat_map (λ s. s.steps) segments
    → rows_at c places code ≡ flat_map (λ s. rows_at (small_dump c s) places code) segments

-- They are those of what is kept.
abbrev pub RowsAreKept : Type 0
RowsAreKept =
    (c : Contents) (places : List ℕ) (code : ℕ) (reads : ℕ → Bool)
    → AreRead c.variables code places reads
    → rows_at c places code ≡ rows_at (with_steps c (kept_steps reads c.steps)) places code

-- What is kept of steps one after the other is what is kept of each.
abbrev pub KeptGoesOn : Type 0
KeptGoesOn =
    (reads : ℕ → Bool) (xs ys : List Moment)
    → kept_steps reads (xs ++ ys) ≡ kept_steps reads xs ++ kept_steps reads ys

-- The step that tells what stands behind a segment's own steps tells what stands behind all.
abbrev pub TellingGoesOn : Type 0
TellingGoesOn =
    (reads : ℕ → Bool) (before steps : List Moment) (first next : Moment)
    → Tells reads before first → Tells reads (first ∷ steps) next
    → Tells reads (before ++ steps) next

-- What is kept of steps tells as much as they do.
abbrev pub KeptTells : Type 0
KeptTells =
    (reads : ℕ → Bool) (before : List Moment) (first : Moment)
    → Tells reads (kept_steps reads before) first → Tells reads before first

-- Bytes may be cut at a separator: the tokens are those of both sides.
abbrev pub TokensAreCut : Type 0
TokensAreCut =
    (at byte : ℕ) (front back : List ℕ) → is_separator byte ≡ true
    → tokens at (front ++ byte ∷ back)
    ≡ tokens at front ++ tokens (suc (at + length front)) back

-- What tokens tell is what the first of them tell, and then what the others tell from there.
abbrev pub TokensTellOn : Type 0
TokensTellOn =
    (declared : List (List ℕ)) (len : ℕ) (s : Stand) (ts us : List DumpToken)
    → tokens_told declared len s (ts ++ us)
    ≡ (tokens_told declared len s ts >>= λ p. more_told p.0 (tokens_told declared len p.1 us))

-- What a body says from a place on is what its tokens tell, or the same fault.
abbrev pub BodyIsTold : Type 0
BodyIsTold =
    (declared : List (List ℕ)) (len : ℕ) (s : Stand) (ts : List DumpToken)
    → body_at declared len s ts
    ≡ (tokens_told declared len s ts
    >>= λ p. ended p.1.place >>= λ r. Ok (with_events p.0 r))

-- So a body whose bytes are cut at a separator is what the front tells, and the body that stands
-- behind it from where the front ends.
abbrev pub BodyIsCut : Type 0
BodyIsCut =
    (declared : List (List ℕ)) (len : ℕ) (s : Stand) (at byte : ℕ) (front back : List ℕ)
    → is_separator byte ≡ true
    → body_at declared len s (tokens at (front ++ byte ∷ back))
    ≡ (tokens_told declared len s (tokens at front)
    >>= λ p. body_at declared len p.1 (tokens (suc (at + length front)) back)
    >>= λ r. Ok (with_events p.0 r))

-- The step that tells the last changes of some codes tells what stands of these.
abbrev pub TellingStepTells : Type 0
TellingStepTells =
    (codes : List ℕ) (before : List Moment)
    → Tells (is_among codes) before (telling_step codes before)
