-- Named sequences, one by one.
use Rattle.std.proofs.Common.{◌≡◌, ℕ, List, [], ◌∷◌, ◌++◌, map, length, refl, sym, ap, ◌∙◌, subst}
use Rattle.std.proofs.lemmas.List.{map-append, length-map}
use Rattle.parser_grammar.specs.Trees.{SequenceForm, DeclarationForm, ItemForm}
use Rattle.expressions.specs.declared.expr.Expr.{Expr}
use Rattle.assertions.specs.declared.sequence.Boolean.{Boolean}
use Rattle.types.specs.declared.draft.Draft.{Draft as Tree}
use Rattle.types.specs.Drafts.{Draft}
use Rattle.types.specs.Views.{draft_of}
use Rattle.types_names.specs.Scopes.{Scope}
use Rattle.types.specs.Placed.{ExtendsPlaces}
use Rattle.types.specs.Readings.{Dot, outline, Reads, AllRead}
use Rattle.types.specs.Texts.{declarations_of}
use Rattle.types.specs.Readings.{outlines_of}
use Rattle.types.proofs.ReadingLaws.{reads_grows}
use Rattle.types.proofs.OutlineLaws.{dotted, all_grow_on, all_long, all_outlines}

-- what declarations say
abbrev pub bodies_in : List DeclarationForm → List SequenceForm
bodies_in ds = map (λ d. d.body) ds

module _ (s : Scope) (cs : List (List ℕ)) (now next : List Expr) (more : ExtendsPlaces now next) where
  read_more : (ds : List DeclarationForm) (made : List (Draft Boolean)) (x : DeclarationForm) (d : Draft Boolean)
      → AllRead s cs now (bodies_in ds) made → Reads s cs next x.body d →
      AllRead s cs next (bodies_in (ds ++ x ∷ [])) (made ++ d ∷ [])
  read_more [] [] x d h one = (one, tt)
  read_more [] (m ∷ ms) x d h one = elim h [ ]
  read_more (y ∷ ds) [] x d h one = elim h [ ]
  read_more (y ∷ ds) (m ∷ ms) x d h one = (reads_grows s cs now next more y.body m h.0, read_more ds ms x d h.1 one)

  -- one more, after those that were made
  pub body_more : (ds : List DeclarationForm) (made after : List Tree) (x : DeclarationForm) (d : Tree)
      → after ≡ made ++ d ∷ [] → Reads s cs next x.body (draft_of d)
      → AllRead s cs now (bodies_in ds) (map draft_of made) →
      AllRead s cs next (bodies_in (ds ++ x ∷ [])) (map draft_of after)
  body_more ds made after x d pushed one h =
      subst (λ (ms : List (Draft Boolean)). AllRead s cs next (bodies_in (ds ++ x ∷ [])) ms)
      (sym (ap (map draft_of) pushed ∙ map-append draft_of made (d ∷ [])))
      (read_more ds (map draft_of made) x (draft_of d) h one)

  pub bodies_stay : (ds : List DeclarationForm) (made : List (Draft Boolean)) → AllRead s cs now (bodies_in ds) made
      → AllRead s cs next (bodies_in ds) made
  bodies_stay ds made h = all_grow_on s cs now next more (bodies_in ds) made h

outlines_in : (s : Scope) (ds : List DeclarationForm) → map (outline s) (bodies_in ds)
    ≡ map (λ (d : DeclarationForm). outline s d.body) ds
outlines_in s [] = refl
outlines_in s (d ∷ ds) = ap (λ (os : List (Draft Dot)). outline s d.body ∷ os) (outlines_in s ds)

-- What was read of all of them has their outlines.
pub outlined : (s : Scope) (cs : List (List ℕ)) (e : List Expr) (items : List ItemForm) (ds : List (Draft Boolean))
    → AllRead s cs e (bodies_in (declarations_of items)) ds → map dotted ds ≡ outlines_of s items
outlined s cs e items ds h =
    all_outlines s cs e (bodies_in (declarations_of items)) ds h ∙ outlines_in s (declarations_of items)

pub body_count : (s : Scope) (cs : List (List ℕ)) (e : List Expr) (items : List ItemForm) (ds : List Tree)
    → AllRead s cs e (bodies_in (declarations_of items)) (map draft_of ds)
    → length ds ≡ length (declarations_of items)
body_count s cs e items ds h =
    sym (length-map ds draft_of) ∙ all_long s cs e (bodies_in (declarations_of items)) (map draft_of ds) h
    ∙ length-map (declarations_of items) (λ (d : DeclarationForm). d.body)
