-- Lists that are made one by one.
use Rattle.std.proofs.Common.{◌≡◌, ℕ, ◌+◌, ◌<◌, ◌≤◌, List, [], ◌∷◌, ◌++◌, length, take, map, sym, ap, ◌∙◌, add-one}
use Rattle.std.specs.Prelude.{slice_index}
use Rattle.std.proofs.Math.Seq.{take-suc}
use Rattle.std.proofs.lemmas.List.{map-append, take_all}

module _ {A : Type 0} (f : ℕ → A) (places : List ℕ) where
  pub made-more : (n : ℕ) (old new : List A) (one : A) → n < length places → old ≡ map f (take n places)
      → one ≡ f (slice_index places n) →
      new ≡ old ++ one ∷ [] → new ≡ map f (take (n + 1) places)
  made-more n old new one below so_far here is =
      is ∙ ap (λ l. l ++ one ∷ []) so_far ∙ ap (λ r. map f (take n places) ++ r ∷ []) here
      ∙ sym (map-append f (take n places) (slice_index places n ∷ []))
      ∙ ap (map f) (sym (take-suc places n 0 below) ∙ ap (λ k. take k places) (sym (add-one n)))

  pub made-all : (n : ℕ) → length places ≤ n → map f (take n places) ≡ map f places
  made-all n over = ap (map f) (take_all n places over)
