-- Texts in paths.
use Rattle.std.proofs.Common.{◌≡◌, ℕ, suc, ◌+◌, ◌<◌, ◌≤◌, Bool, true, false, ◌||◌, eqb, List, [], ◌∷◌, length, drop}
use Rattle.std.proofs.Common.{refl, sym, ap, ◌∙◌, add-one, arith}
use Rattle.std.proofs.lemmas.Bool.{ne_eqb}
use Rattle.std.proofs.Math.ListN.{drop_of_length-le}
use Rattle.std.specs.Prelude.{nat_eq}
use Rattle.std.specs.List.{starts_with}
use Rattle.std.proofs.Math.Seq.{drop-cons}
use Rattle.cli_names.specs.Filters.{has_text}

module _ (text path : List ℕ) (i : ℕ) (lt : i < length path) where
  has-step : (b : Bool) → b ≡ starts_with nat_eq (drop i path) text → has_text text (drop i path)
      ≡ (b || has_text text (drop (i + 1) path))
  unfolding has_text
  has-step b h =
      let e = drop-cons path i 0 lt in
      rw (e, add-one) (ap (λ (t : Bool). t || has_text text (drop (suc i) path)) (sym (h ∙ rw e refl)))

  pub has-here : true ≡ starts_with nat_eq (drop i path) text → has_text text (drop i path) ≡ true
  has-here h = has-step true h

  pub has-later : false ≡ starts_with nat_eq (drop i path) text → has_text text (drop i path)
      ≡ has_text text (drop (i + 1) path)
  has-later h = has-step false h

has-nil : (text : List ℕ) → has_text text [] ≡ eqb (length text) 0
unfolding has_text
has-nil [] = refl
has-nil (b ∷ bs) = sym (ne_eqb (length (b ∷ bs)) 0 (λ e. omega arith))

-- no byte is left
pub has-none : (text path : List ℕ) (i : ℕ) → length path ≤ i → has_text text (drop i path) ≡ eqb (length text) 0
has-none text path i le = ap (has_text text) (drop_of_length-le path le) ∙ has-nil text
