-- Rows of what is kept.
use Rattle.std.proofs.Common.{◌≡◌, ℕ, Bool, true, false, cond, eqb, ◌&&◌, List, [], ◌∷◌, ◌++◌}
use Rattle.std.proofs.Common.{Option, Some, None, ◌⊎◌, inl, inr, refl, sym, ap, ◌∙◌}
use Rattle.std.specs.List.{AllByRecursion}
use Rattle.std.proofs.lemmas.Bool.Decides.{eqb_tells}
use Rattle.vcd_reader.specs.Values.{ValueChange, Moment, or_else, last_digits, value_or_zero}
use Rattle.vcd_reader.specs.Variables.{Declared, code_number, size_of}
use Rattle.vcd_reader.specs.Dump.{Contents}
use Rattle.vcd_segments.specs.Rows.{Standing, none_stands, behind_step, rises}
use Rattle.vcd_segments.specs.Rows.{is_tick_behind, row_behind, front_if, rows_from}
use Rattle.vcd_segments.specs.Segments.{rows_at, with_steps, AreRead, changes_in}
use Rattle.vcd_segments.specs.Segments.{kept_changes, front_step, kept_steps, Tells}
use Rattle.vcd_segments.proofs.StandingLaws.{last_digits-append, or_else-none}
use Rattle.vcd_segments.proofs.RowLaws.{rows-step-by-step}

-- of the codes that are read the same stands
abbrev pub SameRead : (ℕ → Bool) → Standing → Standing → Type 0
SameRead reads one other = (code : ℕ) → reads code ≡ true → one code ≡ other code

-- a change of another code tells nothing of this one
other-code : (reads : ℕ → Bool) (code : ℕ) (c : ValueChange) → reads code ≡ true
    → reads c.code ≡ false → eqb c.code code ≡ false
other-code reads code c r n = elim (eqb_tells c.code code) [
  | inl p ↦ let e : reads c.code ≡ reads code = ap reads p.1 in absurd cc
  | inr p ↦ p.0
]

-- one change more in front of what is kept
kept-more : (reads : ℕ → Bool) (code : ℕ) (c : ValueChange) (kept cs : List ValueChange)
    (read : Bool) → reads code ≡ true → reads c.code ≡ read
    → last_digits code kept ≡ last_digits code cs
    → last_digits code (cond read (c ∷ kept) kept)
    ≡ or_else (last_digits code cs) (cond (eqb c.code code) (Some c.digits) None)
unfolding last_digits
kept-more reads code c kept cs true r e same =
    ap (λ (o : Option (List ℕ)). or_else o (cond (eqb c.code code) (Some c.digits) None)) same
kept-more reads code c kept cs false r e same =
    same ∙ sym (or_else-none (last_digits code cs))
    ∙ ap (λ (b : Bool). or_else (last_digits code cs) (cond b (Some c.digits) None))
    (sym (other-code reads code c r e))

-- the last digits of a code that is read are kept
pub last_digits-kept : (reads : ℕ → Bool) (code : ℕ) (cs : List ValueChange) → reads code ≡ true
    → last_digits code (kept_changes reads cs) ≡ last_digits code cs
unfolding last_digits kept_changes
last_digits-kept reads code [] r = refl
last_digits-kept reads code (c ∷ cs) r =
    kept-more reads code c (kept_changes reads cs) cs (reads c.code) r refl
    (last_digits-kept reads code cs r)

-- behind a step of which nothing is kept stands what stood before it
none-kept : (reads : ℕ → Bool) (before : Standing) (m : Moment)
    → kept_changes reads m.changes ≡ [] → SameRead reads (behind_step before m) before
unfolding last_digits
none-kept reads before m e = λ code r.
    ap (λ (o : Option (List ℕ)). or_else o (before code))
    (sym (last_digits-kept reads code m.changes r) ∙ ap (last_digits code) e)

zero-one : (n : ℕ) → (eqb n 0 && eqb n 1) ≡ false
zero-one n = elim (eqb_tells n 0) [
  | inl p ↦ ap (λ (k : ℕ). eqb k 0 && eqb k 1) p.1
  | inr p ↦ ap (λ (b : Bool). b && eqb n 1) p.0
]

-- what stays doesn't rise
rises-not : (o : Option (List ℕ)) → rises o o ≡ false
rises-not None = refl
rises-not (Some digits) = zero-one (value_or_zero 1 (Some digits))

row-same : (vs : List Declared) (reads : ℕ → Bool) (one other : Standing) (places : List ℕ)
    → AllByRecursion (λ (v : ℕ). reads (code_number vs v) ≡ true) places → SameRead reads one other
    → row_behind vs one places ≡ row_behind vs other places
row-same vs reads one other [] all same = refl
row-same vs reads one other (v ∷ places) all same =
    ap (λ (o : Option (List ℕ)). value_or_zero (size_of vs v) o ∷ row_behind vs one places)
    (same (code_number vs v) all.0)
    ∙ ap (λ (row : List ℕ). value_or_zero (size_of vs v) (other (code_number vs v)) ∷ row)
    (row-same vs reads one other places all.1 same)

front_if-same : (tick tick' : Bool) (row row' : List ℕ) (rows rows' : List (List ℕ))
    → tick ≡ tick' → row ≡ row' → rows ≡ rows' → front_if tick row rows ≡ front_if tick' row' rows'
front_if-same tick tick' row row' rows rows' t r e =
    ap (λ (b : Bool). front_if b row rows) t ∙ ap (λ (x : List ℕ). front_if tick' x rows) r
    ∙ ap (front_if tick' row') e

module _ (vs : List Declared) (code : ℕ) (places : List ℕ) (reads : ℕ → Bool)
    (are : AreRead vs code places reads) where
  -- the rows from a step on, where what is kept of it is this
  step-kept : (one other : Standing) (m : Moment) (rest : List Moment) (cs : List ValueChange)
      → SameRead reads one other → kept_changes reads m.changes ≡ cs
      → ((one' other' : Standing) → SameRead reads one' other'
      → rows_from vs code places one' rest
      ≡ rows_from vs code places other' (kept_steps reads rest))
      → rows_from vs code places one (m ∷ rest)
      ≡ rows_from vs code places other (front_step m.time cs (kept_steps reads rest))
  unfolding rows_from
  step-kept one other m rest [] same e rec =
      ap (λ (b : Bool). front_if b (row_behind vs one places)
      (rows_from vs code places (behind_step one m) rest))
      (ap (rises (one code)) (none-kept reads one m e code are.clock) ∙ rises-not (one code))
      ∙ rec (behind_step one m) other (λ k r. none-kept reads one m e k r ∙ same k r)
  step-kept one other m rest (c ∷ cs) same e rec =
      let kept : Moment = record { time = m.time; changes = c ∷ cs } in
      let after : SameRead reads (behind_step one m) (behind_step other kept) =
      λ k r. ap (λ (o : Option (List ℕ)). or_else o (one k))
      (sym (last_digits-kept reads k m.changes r) ∙ ap (last_digits k) e)
      ∙ ap (or_else (last_digits k (c ∷ cs))) (same k r) in
      front_if-same (is_tick_behind one code m) (is_tick_behind other code kept)
      (row_behind vs one places) (row_behind vs other places)
      (rows_from vs code places (behind_step one m) rest)
      (rows_from vs code places (behind_step other kept) (kept_steps reads rest))
      (ap (λ (o : Option (List ℕ)). rises o (behind_step one m code)) (same code are.clock)
      ∙ ap (rises (other code)) (after code are.clock))
      (row-same vs reads one other places are.row same)
      (rec (behind_step one m) (behind_step other kept) after)

  pub rows-kept-from : (one other : Standing) → SameRead reads one other → (ms : List Moment)
      → rows_from vs code places one ms
      ≡ rows_from vs code places other (kept_steps reads ms)
  unfolding kept_steps rows_from
  rows-kept-from one other same [] = refl
  rows-kept-from one other same (m ∷ ms) =
      step-kept one other m ms (kept_changes reads m.changes) same refl
      (λ one' other' same'. rows-kept-from one' other' same' ms)

  -- the rows are those of what stands of the codes that are read
  pub rows-same : (one other : Standing) → SameRead reads one other → (ms : List Moment)
      → rows_from vs code places one ms ≡ rows_from vs code places other ms
  rows-same one other same ms =
      rows-kept-from one other same ms ∙ sym (rows-kept-from other other (λ k r. refl) ms)

pub rows-are-kept : (c : Contents) (places : List ℕ) (code : ℕ) (reads : ℕ → Bool)
    → AreRead c.variables code places reads
    → rows_at c places code ≡ rows_at (with_steps c (kept_steps reads c.steps)) places code
rows-are-kept c places code reads are =
    rows-step-by-step c places code
    ∙ rows-kept-from c.variables code places reads are none_stands none_stands (λ k r. refl) c.steps
    ∙ sym (rows-step-by-step (with_steps c (kept_steps reads c.steps)) places code)

front-append : (time : ℕ) (cs : List ValueChange) (xs ys : List Moment)
    → front_step time cs (xs ++ ys) ≡ front_step time cs xs ++ ys
front-append time [] xs ys = refl
front-append time (c ∷ cs) xs ys = refl

pub kept-goes-on : (reads : ℕ → Bool) (xs ys : List Moment)
    → kept_steps reads (xs ++ ys) ≡ kept_steps reads xs ++ kept_steps reads ys
unfolding kept_steps
kept-goes-on reads [] ys = refl
kept-goes-on reads (m ∷ xs) ys =
    ap (front_step m.time (kept_changes reads m.changes)) (kept-goes-on reads xs ys)
    ∙ front-append m.time (kept_changes reads m.changes) (kept_steps reads xs) (kept_steps reads ys)

changes-front : (time : ℕ) (cs : List ValueChange) (ms : List Moment)
    → changes_in (front_step time cs ms) ≡ cs ++ changes_in ms
changes-front time [] ms = refl
changes-front time (c ∷ cs) ms = refl

-- the last digits of a code that is read, in what is kept of steps
last-in-kept : (reads : ℕ → Bool) (code : ℕ) (ms : List Moment) → reads code ≡ true
    → last_digits code (changes_in (kept_steps reads ms)) ≡ last_digits code (changes_in ms)
unfolding kept_steps
last-in-kept reads code [] r = refl
last-in-kept reads code (m ∷ ms) r =
    let kept = kept_changes reads m.changes in
    ap (last_digits code) (changes-front m.time kept (kept_steps reads ms))
    ∙ last_digits-append code kept (changes_in (kept_steps reads ms))
    ∙ ap (λ (o : Option (List ℕ)). or_else o (last_digits code kept)) (last-in-kept reads code ms r)
    ∙ ap (or_else (last_digits code (changes_in ms))) (last_digits-kept reads code m.changes r)
    ∙ sym (last_digits-append code m.changes (changes_in ms))

pub kept-tells : (reads : ℕ → Bool) (before : List Moment) (first : Moment)
    → Tells reads (kept_steps reads before) first → Tells reads before first
kept-tells reads before first tells = record {
  last = λ code r. tells.last code r ∙ last-in-kept reads code before r;
}
