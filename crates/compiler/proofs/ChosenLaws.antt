-- Expressions and counters that are chosen place by place.
use Rattle.std.proofs.Common.{◌≡◌, ◌∙◌, ℕ, ◌+◌, ◌<◌, ◌≤◌, List, ◌∷◌, length, drop, get_or, Some}
use Rattle.std.proofs.Common.{refl, sym, ap, drop-cons, add-one}
use Rattle.std.specs.Prelude.{slice_get}
use Rattle.std.proofs.lemmas.Option.{slice_get_past, slice_get-get_or}
use Rattle.expressions.specs.declared.expr.Expr.{Expr}
use Rattle.expressions.specs.declared.counter.Counter.{Counter}
use Rattle.expressions.specs.Expressions.{term_of}
use Rattle.compiler.specs.Samples.{Held}
use Rattle.compiler.specs.Chosen.{term_found, terms_at, held_found, held_counters}

found :
    {A : Type 0} (all : List A) (place : ℕ) (x : A) → place < length all →
    x ≡ get_or all place x → slice_get all place ≡ Some x
found all place x lt is = slice_get-get_or all place x lt ∙ ap (λ y. Some y) (sym is)

module _ (places : List ℕ) (i : ℕ) (lt : i < length places) where
  abbrev place : ℕ
  place = get_or places i 0

  cut : drop i places ≡ place ∷ drop (i + 1) places
  cut = rw (drop-cons places i 0, add-one) refl

  -- the expression of a place, after those before
  pub terms_more :
      (all : List Expr) (x : Expr) → place < length all → x ≡ get_or all place x →
      terms_at all (drop i places) ≡ term_of x ∷ terms_at all (drop (i + 1) places)
  terms_more all x inside is =
      ap (terms_at all) cut
      ∙ ap (λ o. term_found o (terms_at all (drop (i + 1) places))) (found all place x inside is)

  pub terms_skip :
      (all : List Expr) → length all ≤ place →
      terms_at all (drop i places) ≡ terms_at all (drop (i + 1) places)
  terms_skip all past =
      ap (terms_at all) cut
      ∙ ap (λ o. term_found o (terms_at all (drop (i + 1) places))) (slice_get_past all place past)

  abbrev counter_held : Counter → Held
  counter_held c = record { place = place; counter = c }

  pub held_more :
      (all : List Counter) (x : Counter) → place < length all → x ≡ get_or all place x →
      held_counters all (drop i places) ≡ counter_held x ∷ held_counters all (drop (i + 1) places)
  held_more all x inside is =
      ap (held_counters all) cut
      ∙ ap (λ o. held_found place o (held_counters all (drop (i + 1) places))) (found all place x inside
      is)

  pub held_skip :
      (all : List Counter) → length all ≤ place →
      held_counters all (drop i places) ≡ held_counters all (drop (i + 1) places)
  held_skip all past =
      ap (held_counters all) cut
      ∙ ap (λ o. held_found place o (held_counters all (drop (i + 1) places)))
      (slice_get_past all place past)
