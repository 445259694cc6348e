-- Each column of a text is a path of the dump.
use Rattle.std.proofs.Common.{◌≡◌, ℕ, List, [], ◌∷◌, ◌++◌, Option, Some, None, refl, ap, inl, inr, suc, zero, take}
use Rattle.std.proofs.Common.{drop, slice_get}
use Rattle.std.proofs.lemmas.Bool.{cases_Bool}
use Rattle.std.specs.Prelude.{string_bytes}
use Rattle.parser_grammar.specs.Trees.{Tree, number, path, concatenation, past, call, unary, chain, choice, Links, end}
use Rattle.parser_grammar.specs.Trees.{link}
use Rattle.parser_grammar.specs.Trees.{Parts, no_part, part, SequenceForm, boolean, repeated, late, delayed, throughout}
use Rattle.parser_grammar.specs.Trees.{joined, Steps, no_step, step, Others, no_other, other, PropertyForm, plain}
use Rattle.parser_grammar.specs.Trees.{implication}
use Rattle.parser_grammar.specs.Trees.{ItemForm, counter, declaration, assertion}
use Rattle.assertions.specs.declared.signal.Signal.{Signal}
use Rattle.types_names.specs.declared.own.Own.{Own}
use Rattle.types_names.specs.Scopes.{Scope, path_text, meaning_by}
use Rattle.types_names.specs.Columns.{path_signals, signals, link_signals, part_signals, sequence_signals}
use Rattle.types_names.specs.Columns.{step_signals, other_signals, property_signals, optional_signals}
use Rattle.types_names.specs.Columns.{clause_signals, item_signals, file_signals, is_listed, with_path}
use Rattle.types_names.specs.Columns.{with_paths, columns_of}
use Rattle.types.specs.Signals.{DumpHasPath, DumpHasPaths}
use Rattle.types.specs.Suites.{AreSignals}

module _ (s : Scope) where
  abbrev Known : List (List ℕ) → Type 0
  Known ps = DumpHasPaths s ps

  both : (ps qs : List (List ℕ)) → Known ps → Known qs → Known (ps ++ qs)
  both [] qs h g = g
  both (p ∷ ps) qs h g = (h.0, both ps qs h.1 g)

  path_known : (text : List ℕ) (o : Option Own) (w : Option ℕ) → s.dump text ≡ w
      → Known (path_signals text (meaning_by o w))
  path_known text (Some o) w h = tt
  path_known text None (Some w) h = ((w, h), tt)
  path_known text None None h = tt

  mutual
    unfolding signals

    known : (t : Tree) → Known (signals s t)
    known (number n t) = tt
    known (path words x) = path_known (path_text words) (s.own (path_text words)) (s.dump (path_text words)) refl
    known (concatenation t e parts) = both (signals s e) (part_signals s parts) (known e) (parts_known parts)
    known (past t e n) = known e
    known (call f t e) = known e
    known (unary op t e) = known e
    known (chain e links) = both (signals s e) (link_signals s links) (known e) (links_known links)
    known (choice c a b) =
        both (signals s c) (signals s a ++ signals s b) (known c)
        (both (signals s a) (signals s b) (known a) (known b))

    links_known : (links : Links) → Known (link_signals s links)
    links_known end = tt
    links_known (link op e links) = both (signals s e) (link_signals s links) (known e) (links_known links)

    parts_known : (parts : Parts) → Known (part_signals s parts)
    parts_known no_part = tt
    parts_known (part e parts) = both (signals s e) (part_signals s parts) (known e) (parts_known parts)

  mutual
    unfolding sequence_signals

    sequence_known : (q : SequenceForm) → Known (sequence_signals s q)
    sequence_known (boolean e) = known e
    sequence_known (repeated q n) = sequence_known q
    sequence_known (late t n q) = sequence_known q
    sequence_known (delayed q steps) =
        both (sequence_signals s q) (step_signals s steps) (sequence_known q) (steps_known steps)
    sequence_known (throughout e q) = both (signals s e) (sequence_signals s q) (known e) (sequence_known q)
    sequence_known (joined j q others) =
        both (sequence_signals s q) (other_signals s others) (sequence_known q) (others_known others)

    steps_known : (steps : Steps) → Known (step_signals s steps)
    steps_known no_step = tt
    steps_known (step n q steps) =
        both (sequence_signals s q) (step_signals s steps) (sequence_known q) (steps_known steps)

    others_known : (others : Others) → Known (other_signals s others)
    others_known no_other = tt
    others_known (other q others) =
        both (sequence_signals s q) (other_signals s others) (sequence_known q) (others_known others)

  property_known : (p : PropertyForm) → Known (property_signals s p)
  property_known (plain q) = sequence_known q
  property_known (implication word a t c) =
      both (sequence_signals s a) (sequence_signals s c) (sequence_known a) (sequence_known c)

  optional_known : (o : Option Tree) → Known (optional_signals s o)
  optional_known None = tt
  optional_known (Some e) = known e

  clause_known : (o : Option (Tree × Tree)) → Known (clause_signals s o)
  clause_known None = tt
  clause_known (Some p) = both (signals s p.0) (signals s p.1) (known p.0) (known p.1)

  item_known : (i : ItemForm) → Known (item_signals s i)
  item_known (counter c) =
      both (optional_signals s c.clear) (clause_signals s c.load ++ (clause_signals s c.add ++ clause_signals s c.sub))
      (optional_known c.clear)
      (both (clause_signals s c.load) (clause_signals s c.add ++ clause_signals s c.sub) (clause_known c.load)
      (both (clause_signals s c.add) (clause_signals s c.sub) (clause_known c.add) (clause_known c.sub)))
  item_known (declaration d) = sequence_known d.body
  item_known (assertion a) =
      both (optional_signals s a.disable) (property_signals s a.property) (optional_known a.disable)
      (property_known a.property)

  file_known : (items : List ItemForm) → Known (file_signals s items)
  file_known [] = tt
  file_known (i ∷ items) = both (item_signals s i) (file_signals s items) (item_known i) (file_known items)

  path_kept : (known : List (List ℕ)) (p : List ℕ) → Known known → DumpHasPath s p → Known (with_path known p)
  path_kept known p h one =
      elim (cases_Bool (is_listed known p)) [
        | inl e ↦ rw e h
        | inr e ↦ rw e (both known (p ∷ []) h (one, tt))
      ]

  paths_kept : (ps : List (List ℕ)) (known : List (List ℕ)) → Known known → Known ps → Known (with_paths known ps)
  paths_kept [] known h g = h
  paths_kept (p ∷ ps) known h g = paths_kept ps (with_path known p) (path_kept known p h g.0) g.1

  pub columns_known : (items : List ItemForm) → DumpHasPaths s (columns_of s items)
  columns_known items = paths_kept (file_signals s items) [] tt (file_known items)

  -- one more signal, after those that were made
  pub signal_more : (ps : List (List ℕ)) (made : List Signal) (p : List ℕ) (x : Signal) → AreSignals s ps made
      → string_bytes x.path ≡ p → s.dump p ≡ Some x.width → AreSignals s (ps ++ p ∷ []) (made ++ x ∷ [])
  signal_more [] [] p x h text width = ((text, width), tt)
  signal_more [] (m ∷ made) p x h text width = elim h [ ]
  signal_more (q ∷ ps) [] p x h text width = elim h [ ]
  signal_more (q ∷ ps) (m ∷ made) p x h text width = (h.0, signal_more ps made p x h.1 text width)

-- what stands at a place of a list, between what is before it and what is after
pub take_next : {A : Type 0} (xs : List A) (i : ℕ) (x : A) → slice_get xs i ≡ Some x
    → take (suc i) xs ≡ take i xs ++ x ∷ []
take_next [] i x h = absurd cc
take_next {A = A} (y ∷ xs) zero x h = let e : y ≡ x = cc in ap (λ (z : A). z ∷ []) e
take_next (y ∷ xs) (suc i) x h = ap (λ zs. y ∷ zs) (take_next xs i x h)

pub drop_next : {A : Type 0} (xs : List A) (i : ℕ) (x : A) → slice_get xs i ≡ Some x → drop i xs ≡ x ∷ drop (suc i) xs
drop_next [] i x h = absurd cc
drop_next {A = A} (y ∷ xs) zero x h = let e : y ≡ x = cc in ap (λ (z : A). z ∷ xs) e
drop_next (y ∷ xs) (suc i) x h = drop_next xs i x h
