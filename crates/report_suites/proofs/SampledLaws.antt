-- Rows, window by window.
use Rattle.std.proofs.Common.{
  ◌≡◌,
  ℕ,
  ◌+◌,
  ◌<◌,
  ◌≤◌,
  List,
  [],
  ◌∷◌,
  ◌++◌,
  length,
  take,
  map,
  sym,
  ap,
  ◌∙◌,
  add-one,
  refl,
}
use Rattle.std.specs.Prelude.{slice_index}
use Rattle.std.proofs.Math.Seq.{take-suc}
use Rattle.std.proofs.lemmas.List.{map-append, take_all}

-- the row of one tick more
pub row_more : (f : ℕ → List ℕ) (ticks : List ℕ) (n : ℕ) (old new : List (List ℕ)) (row : List ℕ)
    → n < length ticks → old ≡ map f (take n ticks) → row ≡ f (slice_index ticks n)
    → new ≡ old ++ row ∷ [] → new ≡ map f (take (n + 1) ticks)
row_more f ticks n old new row below so_far here is =
    is ∙ ap (λ l. l ++ row ∷ []) so_far ∙ ap (λ r. map f (take n ticks) ++ r ∷ []) here
    ∙ sym (map-append f (take n ticks) (slice_index ticks n ∷ []))
    ∙ ap (map f) (sym (take-suc ticks n 0 below) ∙ ap (λ k. take k ticks) (sym (add-one n)))

-- before the first tick
pub no_row : (f : ℕ → List ℕ) (ticks : List ℕ) (n : ℕ) → n ≡ 0 → [] ≡ map f (take n ticks)
no_row f ticks n e = ap (λ k. map f (take k ticks)) (sym e)

-- up to the last tick
pub all_rows : (f : ℕ → List ℕ) (ticks : List ℕ) (n : ℕ) → length ticks ≤ n
    → map f (take n ticks) ≡ map f ticks
all_rows f ticks n over = ap (map f) (take_all n ticks over)
