-- Loops over the items of a text that take those of one kind.
use Rattle.std.proofs.Common.{◌≡◌, List, [], ◌∷◌, ◌++◌, refl, sym, ap, ◌∙◌, subst}
use Rattle.std.proofs.lemmas.List.{append-nil, append_assoc}
use Rattle.parser_grammar.specs.Trees.{ItemForm}

-- Of all items of a kind those that were seen, of which something holds, and those that are left.
pub record Seen {A : Type 0} (of : List ItemForm → List A) (holds : List A → Type 0) (items left : List ItemForm) : Type
    0 where
  pub seen : List A
  pub all : of items ≡ seen ++ of left
  pub so : holds seen

module _ {A : Type 0} (of : List ItemForm → List A) where
  pub seen_start : (holds : List A → Type 0) (items : List ItemForm) → holds [] → Seen of holds items items
  seen_start holds items h = record { seen = []; all = refl; so = h }

  pub seen_skip : (holds next : List A → Type 0) (items now rest : List ItemForm) (x : ItemForm) → now ≡ x ∷ rest
      → of (x ∷ rest) ≡ of rest → ((xs : List A) → holds xs → next xs) →
      Seen of holds items now → Seen of next items rest
  seen_skip holds next items now rest x is none f s =
      record {
        seen = s.seen;
        all = s.all ∙ ap (λ (us : List ItemForm). s.seen ++ of us) is ∙ ap (λ (ys : List A). s.seen
            ++ ys) none;
        so = f s.seen s.so;
      }

  pub seen_more : (holds next : List A → Type 0) (items now rest : List ItemForm) (x : ItemForm) (y : A)
      → now ≡ x ∷ rest → of (x ∷ rest) ≡ y ∷ of rest → ((xs : List A) → holds xs → next (xs ++ y ∷ [])) →
      Seen of holds items now → Seen of next items rest
  seen_more holds next items now rest x y is one f s =
      record {
        seen = s.seen ++ y ∷ [];
        all = s.all ∙ ap (λ (us : List ItemForm). s.seen ++ of us) is ∙ ap (λ (ys : List A). s.seen ++ ys) one
            ∙ sym (append_assoc s.seen (y ∷ []) (of rest));
        so = f s.seen s.so;
      }

  pub seen_all : (holds : List A → Type 0) (items left : List ItemForm) → left ≡ [] → of [] ≡ []
      → Seen of holds items left → holds (of items)
  seen_all holds items left none nothing s =
      subst holds
      (sym (s.all ∙ ap (λ (us : List ItemForm). s.seen ++ of us) none ∙ ap (λ (ys : List A). s.seen ++ ys) nothing
      ∙ append-nil s.seen)) s.so
