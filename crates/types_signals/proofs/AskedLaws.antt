-- The widths of the paths asked for, one by one.
use Rattle.std.proofs.Common.{◌≡◌, ℕ, Bool, true, false, cond, List, [], ◌∷◌, ◌++◌, Option, Some, None, refl, sym, ap}
use Rattle.std.proofs.Common.{◌∙◌, ◌+◌, take}
use Rattle.std.proofs.lemmas.List.{take_more}
use Rattle.std.proofs.lemmas.Option.{get_or_from_slice_get, slice_get_within}
use Rattle.std.proofs.lemmas.List.Folds.{list_any-append}
use Rattle.std.specs.Prelude.{bytes_eq, ◌||◌, slice_get}
use Rattle.std.specs.Cmp.Lexicographic.{bytes_decides}
use Rattle.parser_grammar.specs.Trees.{ItemForm}
use Rattle.types_names.specs.Scopes.{Scope, look_up, owns}
use Rattle.types_names.specs.Columns.{is_listed, columns_of}
use Rattle.types_names.specs.Entries.{first_of}
use Rattle.types_names.specs.Asked.{widths_among, scope_over_any, scope_for}

-- one path more, which is there, and one that isn't
one-there : (a b : Bool) (o : Option ℕ) (w : ℕ) → (b ≡ true → o ≡ Some w)
    → first_of (cond a o None) (cond b (Some w) None) ≡ cond (a || (b || false)) o None
one-there true true None w h = let no = h refl in absurd cc
one-there true false None w h = refl
one-there true b (Some x) w h = refl
one-there false true o w h = sym (h refl)
one-there false false o w h = refl

none-there : (a b : Bool) (o : Option ℕ) → (b ≡ true → o ≡ None) → cond a o None ≡ cond (a || (b || false)) o None
none-there true b o h = refl
none-there false true o h = sym (h refl)
none-there false false o h = refl

module _ (widths : List ℕ → Option ℕ) (ps : List (List ℕ)) (p : List ℕ) where
  at-path : (q : List ℕ) (o : Option ℕ) → widths p ≡ o → bytes_eq q p ≡ true → widths q ≡ o
  at-path q o is same = ap widths ((bytes_decides q p).0 same) ∙ is

  listed-more : (q : List ℕ) → cond (is_listed ps q || (bytes_eq q p || false)) (widths q) None
      ≡ widths_among (ps ++ p ∷ []) widths q
  listed-more q = sym (ap (λ b. cond b (widths q) None) (list_any-append (bytes_eq q) ps (p ∷ [])))

  pub among-more : (found grown : List ℕ → Option ℕ) (w : ℕ) → widths p ≡ Some w
      → ((q : List ℕ) → grown q ≡ first_of (found q) (look_up ((p, w) ∷ []) q))
      → ((q : List ℕ) → found q ≡ widths_among ps widths q) → (q : List ℕ)
      → grown q ≡ widths_among (ps ++ p ∷ []) widths q
  among-more found grown w is added h q =
      added q
      ∙ ap (λ (o : Option ℕ). first_of o (look_up ((p, w) ∷ []) q)) (h q)
      ∙ one-there (is_listed ps q) (bytes_eq q p) (widths q) w (at-path q (Some w) is)
      ∙ listed-more q

  pub among-none : (found : List ℕ → Option ℕ) → widths p ≡ None
      → ((q : List ℕ) → found q ≡ widths_among ps widths q) → (q : List ℕ)
      → found q ≡ widths_among (ps ++ p ∷ []) widths q
  among-none found is h q =
      h q ∙ none-there (is_listed ps q) (bytes_eq q p) (widths q) (at-path q None is) ∙ listed-more q

-- what agrees at each path is one
pub same-widths : (f g : List ℕ → Option ℕ) → ((q : List ℕ) → f q ≡ g q) → f ≡ g
same-widths f g h = λ j q. h q j

-- the paths up to one and that one
pub path-taken : (ps : List (List ℕ)) (i : ℕ) (p : List ℕ) → Some p ≡ slice_get ps i
    → take (i + 1) ps ≡ take i ps ++ p ∷ []
path-taken ps i p is =
    take_more ps i p (slice_get_within ps i p (sym is))
    ∙ ap (λ (q : List ℕ). take i ps ++ q ∷ []) (get_or_from_slice_get ps i p p (sym is))

-- the scope over what was asked for
pub over-asked : (any s : Scope) (items : List ItemForm) (ps : List (List ℕ)) (found widths : List ℕ → Option ℕ)
    → any ≡ scope_over_any items → ps ≡ columns_of any items → found ≡ widths_among ps widths
    → s ≡ record any { dump = found } → s ≡ scope_for items widths
over-asked any s items ps found widths over listed known is =
    is
    ∙ ap (λ (a : Scope). record { own = a.own; dump = found }) over
    ∙ ap (λ (f : List ℕ → Option ℕ). record { own = look_up (owns items); dump = f })
    (known ∙ ap (λ (qs : List (List ℕ)). widths_among qs widths)
    (listed ∙ ap (λ (a : Scope). columns_of a items) over))
