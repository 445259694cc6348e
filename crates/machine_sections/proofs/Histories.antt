-- What the kept rows hold.
use Rattle.std.proofs.Common.{◌≡◌, ◌∙◌, inl, inr, ℕ, zero, suc, ◌+◌, ◌-◌, ◌<◌, ◌≤◌, List, [], ◌∷◌, length, map, refl}
use Rattle.std.proofs.Common.{ap, arith}
use Rattle.std.specs.List.{range_with_len}
use Rattle.std.specs.Prelude.{replicate, slice_index, slice_index_or}
use Rattle.std.proofs.Math.ListN.{length-replicate}
use Rattle.std.proofs.lemmas.Bool.{cases_lt, le-leb, lt-leb}
use Rattle.std.proofs.lemmas.List.{get_or-take, get_or-replicate, get_or_past}
use Rattle.bytecode_programs.specs.Values.{ProgramData}
use Rattle.bytecode_programs.specs.Instructions.{frame_of}
use Rattle.machine_checked.specs.Machine.{sample_of}
use Rattle.machine_sections.specs.History.{clock_row, rows_before, sample_rows, slot_held_at}
use Rattle.machine_sections.specs.Laws.{ReadsHeld}

-- a slot of a row of zeros
zero-slot : (n slot : ℕ) → slice_index (replicate n 0) slot ≡ 0
zero-slot n slot =
    elim (cases_lt slot n) [
      | inl inside ↦ get_or-replicate n slot 0 0 inside
      | inr past ↦ get_or_past (replicate n 0) slot 0 (omega (arith, length-replicate {A = ℕ} n 0))
    ]

module _ (p : ProgramData) (signals counters : ℕ → List ℕ) where
  kept-since : (n back : ℕ) → back ≤ p.header.limits.history → back < n
      → slice_index_or (rows_before p signals counters n) back [] ≡ clock_row signals counters (n - (back + 1))
  kept-since zero back reach since = absurd (omega arith)
  kept-since (suc n) zero reach since = let e : n ≡ suc n - (0 + 1) = omega arith in ap (clock_row signals counters) e
  kept-since (suc n) (suc back) reach since =
      let e : n - (back + 1) ≡ suc n - (suc back + 1) = omega arith in
      get_or-take p.header.limits.history (rows_before p signals counters n) back [] (omega arith)
      ∙ kept-since n back (omega arith) (omega arith)
      ∙ ap (clock_row signals counters) e

  kept-before : (n back slot : ℕ) → back ≤ p.header.limits.history → n ≤ back
      → slice_index (slice_index_or (rows_before p signals counters n) back []) slot ≡ 0
  kept-before zero back slot reach before =
      ap (λ row. slice_index row slot)
      (get_or-replicate (p.header.limits.history + 1) back (replicate (length (frame_of p).slots) 0) []
      (omega arith))
      ∙ zero-slot (length (frame_of p).slots) slot
  kept-before (suc n) zero slot reach before = absurd (omega arith)
  kept-before (suc n) (suc back) slot reach before =
      ap (λ row. slice_index row slot)
      (get_or-take p.header.limits.history (rows_before p signals counters n) back [] (omega arith))
      ∙ kept-before n back slot (omega arith) (omega arith)

  reads-at : (k back slot : ℕ) → back ≤ p.header.limits.history → sample_of (sample_rows p signals counters k) back slot
      ≡ slot_held_at (clock_row signals counters) k back slot
  reads-at k back slot reach =
      elim (cases_lt k back) [
        | inl before ↦ rw (lt-leb back k before) (kept-before (suc k) back slot reach (omega arith))
        | inr since ↦
            let e : suc k - (back + 1) ≡ k - back = omega arith in
            rw (le-leb back k since)
            (ap (λ row. slice_index row slot) (kept-since (suc k) back reach (omega arith)
            ∙ ap (clock_row signals counters) e))
      ]

pub reads : ReadsHeld
reads p signals counters k back slot reach = reads-at p signals counters k back slot reach

-- a list is what stands at its places
listed-from : {A : Type 0} (f : ℕ → A) (i : ℕ) (xs : List A) (d : A)
    → ((k : ℕ) → k < length xs → f (i + k) ≡ slice_index_or xs k d) → map f (range_with_len i (length xs)) ≡ xs
listed-from f i [] d same = refl
listed-from f i (x ∷ xs) d same =
    let e : i ≡ i + 0 = omega arith in
    ap (λ y. y ∷ map f (range_with_len (i + 1) (length xs))) (ap f e ∙ same 0 (omega arith))
    ∙ ap (λ ys. x ∷ ys)
    (listed-from f (i + 1) xs d (λ k below. let s : i + 1 + k ≡ i + suc k = omega arith in ap f s
    ∙ same (suc k) (omega arith)))

pub listed : {A : Type 0} (xs : List A) (d : A) → map (λ k. slice_index_or xs k d) (range_with_len 0 (length xs)) ≡ xs
listed xs d =
    listed-from (λ k. slice_index_or xs k d) 0 xs d (λ k below. let e : 0 + k ≡ k = omega arith in
    ap (λ n. slice_index_or xs n d) e)
