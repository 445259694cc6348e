-- Rows of segments.
use Rattle.std.proofs.Common.{◌≡◌, ℕ, Bool, true, List, [], ◌∷◌, ◌++◌, Option, None}
use Rattle.std.proofs.Common.{refl, sym, ap, ◌∙◌}
use Rattle.std.specs.List.{flat_map}
use Rattle.std.proofs.lemmas.Grind.{flat_map-append}
use Rattle.vcd_reader.specs.Values.{ValueChange, Moment, or_else, last_digits}
use Rattle.vcd_reader.specs.Dump.{Contents}
use Rattle.vcd_segments.specs.Rows.{Standing, none_stands, behind_step, behind, rows_from}
use Rattle.vcd_segments.specs.Segments.{rows_at, with_steps, AreRead, changes_in, Tells}
use Rattle.vcd_segments.specs.Segments.{Segment, small_dump, Follow}
use Rattle.vcd_segments.proofs.StandingLaws.{last_digits-append, behind-none, or_else-none}
use Rattle.vcd_segments.proofs.RowLaws.{rows-append, rows-step-by-step}
use Rattle.vcd_segments.proofs.KeptLaws.{SameRead, rows-same}

-- the changes of steps one after the other
changes-append : (xs ys : List Moment) → changes_in (xs ++ ys) ≡ changes_in xs ++ changes_in ys
changes-append xs ys = flat_map-append (λ (m : Moment). m.changes) xs ys

-- behind the telling step stands what stands behind the steps
told : (reads : ℕ → Bool) (before : List Moment) (first : Moment) → Tells reads before first
    → SameRead reads (behind none_stands before) (behind_step none_stands first)
told reads before first tells = λ code r.
    behind-none before code ∙ sym (tells.last code r) ∙ sym (or_else-none (last_digits code first.changes))

-- the rows of a small dump are those of its steps, from what its first step tells
small-rows : (c : Contents) (s : Segment) (places : List ℕ) (code : ℕ)
    → rows_at (small_dump c s) places code
    ≡ rows_from c.variables code places (behind_step none_stands s.first) s.steps
unfolding rows_from
small-rows c s places code = rows-step-by-step (small_dump c s) places code

-- behind steps one after the other
behind-append : (before : Standing) (xs ys : List Moment)
    → behind before (xs ++ ys) ≡ behind (behind before xs) ys
unfolding behind
behind-append before [] ys = refl
behind-append before (x ∷ xs) ys = behind-append (behind_step before x) xs ys

module _ (c : Contents) (places : List ℕ) (code : ℕ) (reads : ℕ → Bool)
    (are : AreRead c.variables code places reads) where
  abbrev rows_of_segment : Segment → List (List ℕ)
  rows_of_segment s = rows_at (small_dump c s) places code

  -- the rows of the segments that follow some steps
  rows-follow : (before : List Moment) (segments : List Segment) → Follow reads before segments
      → rows_from c.variables code places (behind none_stands before)
      (flat_map (λ (s : Segment). s.steps) segments)
      ≡ flat_map rows_of_segment segments
  unfolding rows_from
  rows-follow before [] follow = refl
  rows-follow before (s ∷ ss) follow =
      let rest = flat_map (λ (t : Segment). t.steps) ss in
      rows-append c.variables code places (behind none_stands before) s.steps rest
      ∙ ap (λ (rs : List (List ℕ)). rs
      ++ rows_from c.variables code places (behind (behind none_stands before) s.steps) rest)
      (rows-same c.variables code places reads are (behind none_stands before)
      (behind_step none_stands s.first) (told reads before s.first follow.0) s.steps
      ∙ sym (small-rows c s places code))
      ∙ ap (λ (b : Standing). rows_of_segment s ++ rows_from c.variables code places b rest)
      (sym (behind-append none_stands before s.steps))
      ∙ ap (λ (rs : List (List ℕ)). rows_of_segment s ++ rs)
      (rows-follow (before ++ s.steps) ss follow.1)

pub rows-join : (c : Contents) (segments : List Segment) (places : List ℕ) (code : ℕ)
    (reads : ℕ → Bool) → AreRead c.variables code places reads → Follow reads [] segments
    → c.steps ≡ flat_map (λ (s : Segment). s.steps) segments
    → rows_at c places code
    ≡ flat_map (λ (s : Segment). rows_at (small_dump c s) places code) segments
unfolding behind
rows-join c segments places code reads are follow e =
    rows-step-by-step c places code
    ∙ ap (rows_from c.variables code places none_stands) e
    ∙ rows-follow c places code reads are [] segments follow

pub telling-goes-on : (reads : ℕ → Bool) (before steps : List Moment) (first next : Moment)
    → Tells reads before first → Tells reads (first ∷ steps) next
    → Tells reads (before ++ steps) next
telling-goes-on reads before steps first next one two = record {
  last = λ code r.
      two.last code r ∙ last_digits-append code first.changes (changes_in steps)
      ∙ ap (or_else (last_digits code (changes_in steps))) (one.last code r)
      ∙ sym (ap (last_digits code) (changes-append before steps)
      ∙ last_digits-append code (changes_in before) (changes_in steps));
}
