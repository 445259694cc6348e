-- What is read of a sequence has its outline, and its names are those of declared sequences.
use Rattle.std.proofs.Common.{◌≡◌, ◌⊎◌, inl, inr, ℕ, zero, suc, ◌+◌, ◌<◌, List, [], ◌∷◌, ◌++◌, map, length, Bool, true}
use Rattle.std.proofs.Common.{false, Option, Some, None, refl, sym, ap, ◌∙◌, subst, arith}
use Rattle.std.specs.Prelude.{cond, bytes_eq}
use Rattle.parser_grammar.specs.declared.operator.Junction.{Junction}
use Rattle.parser_grammar.specs.declared.operator.Junction.TheVariants as junctions
use Rattle.parser_grammar.specs.Trees.{Tree, path, SequenceForm, boolean, repeated, late, delayed, throughout, joined}
use Rattle.parser_grammar.specs.Trees.{Steps}
use Rattle.parser_grammar.specs.Trees.{no_step, step, Others, no_other, other, ItemForm, counter, declaration}
use Rattle.parser_grammar.specs.Trees.{assertion}
use Rattle.expressions.specs.declared.expr.Expr.{Expr}
use Rattle.assertions.specs.declared.sequence.Boolean.{Boolean}
use Rattle.types.specs.Drafts as drafts
use Rattle.types.specs.Drafts.{Draft, IsNumberIn, uses, uses_at, AllDeclared}
use Rattle.types.specs.Outlines.{map_draft}
use Rattle.types.proofs.InLaws.{in_either, in_only}
use Rattle.types_names.specs.declared.own.Own.{Own}
use Rattle.types_names.specs.declared.own.Own.TheVariants as own
use Rattle.types_names.specs.Scopes.{Scope, sequence_named, meaning_place, meaning_by, path_text, owns_from, owns}
use Rattle.types_names.specs.Scopes.{look_up, width_in}
use Rattle.types_names.specs.Asked.{scope_for}
use Rattle.types.specs.Placed.{ExtendsPlaces}
use Rattle.types.specs.Texts.{declarations_of}
use Rattle.types.specs.Readings.{least_of, extra_of, joined_by, Reads, ReadsBoolean, ReadsSteps, ReadsOthers}
use Rattle.types.specs.Readings.{AllRead, Dot, dot, outline_by, outline, outline_steps, outline_others}
use Rattle.types.proofs.ReadingLaws.{reads_grows}

-- a dot for each boolean
abbrev pub dotted : Draft Boolean → Draft Dot
dotted d = map_draft (λ (b : Boolean). dot) d

joined_dotted : (j : Junction) (a b : Draft Boolean) → dotted (joined_by j a b) ≡ joined_by j (dotted a) (dotted b)
joined_dotted junctions.Intersect a b = refl
joined_dotted junctions.And a b = refl
joined_dotted junctions.Or a b = refl

joined_uses : (j : Junction) (a b : Draft Boolean) → uses (joined_by j a b) ≡ uses a ++ uses b
joined_uses junctions.Intersect a b = refl
joined_uses junctions.And a b = refl
joined_uses junctions.Or a b = refl

module _ (s : Scope) (cs : List (List ℕ)) (e : List Expr) where
  boolean_outline : (o : Option ℕ) (t : Tree) (d : Draft Boolean) → ReadsBoolean s cs e o t d → dotted d ≡ outline_by o
  boolean_outline (Some p) t d h = ap dotted h
  boolean_outline None t d h = ap dotted h.2

  -- What is read of a sequence has its outline.
  mutual
    unfolding Reads outline

    pub reads_outline : (q : SequenceForm) (d : Draft Boolean) → Reads s cs e q d → dotted d ≡ outline s q
    reads_outline (boolean t) d h = boolean_outline (sequence_named s t) t d h
    reads_outline (repeated q r) d h =
        ap dotted h.2 ∙ ap (λ (x : Draft Dot). drafts.repeat x (least_of r) (extra_of r)) (reads_outline q h.0 h.1)
    reads_outline (late t r q) d h =
        ap dotted h.2 ∙ ap (λ (x : Draft Dot). drafts.lead (least_of r) (extra_of r) x) (reads_outline q h.0 h.1)
    reads_outline (delayed q steps) d h =
        steps_outline h.0 steps d h.2 ∙ ap (λ (x : Draft Dot). outline_steps s x steps) (reads_outline q h.0 h.1)
    reads_outline (throughout t q) d h =
        ap dotted h.4 ∙ ap (λ (x : Draft Dot). drafts.throughout dot x) (reads_outline q h.1 h.3)
    reads_outline (joined j q others) d h =
        others_outline j h.0 others d h.2
        ∙ ap (λ (x : Draft Dot). outline_others s j x others) (reads_outline q h.0 h.1)

    steps_outline : (a : Draft Boolean) (steps : Steps) (d : Draft Boolean) → ReadsSteps s cs e a steps d
        → dotted d ≡ outline_steps s (dotted a) steps
    steps_outline a no_step d h = ap dotted h
    steps_outline a (step r q steps) d h =
        steps_outline (drafts.delay a (least_of r) (extra_of r) h.0) steps d h.2
        ∙ ap (λ (x : Draft Dot). outline_steps s (drafts.delay (dotted a) (least_of r) (extra_of r) x) steps)
        (reads_outline q h.0 h.1)

    others_outline : (j : Junction) (a : Draft Boolean) (others : Others) (d : Draft Boolean)
        → ReadsOthers s cs e j a others d → dotted d ≡ outline_others s j (dotted a) others
    others_outline j a no_other d h = ap dotted h
    others_outline j a (other q others) d h =
        others_outline j (joined_by j a h.0) others d h.2
        ∙ ap (λ (x : Draft Dot). outline_others s j x others)
        (joined_dotted j a h.0 ∙ ap (joined_by j (dotted a)) (reads_outline q h.0 h.1))

  pub all_outlines : (qs : List SequenceForm) (ds : List (Draft Boolean)) → AllRead s cs e qs ds
      → map dotted ds ≡ map (outline s) qs
  all_outlines [] [] h = refl
  all_outlines [] (d ∷ ds) h = elim h [ ]
  all_outlines (q ∷ qs) [] h = elim h [ ]
  all_outlines (q ∷ qs) (d ∷ ds) h =
      ap (λ (x : Draft Dot). x ∷ map dotted ds) (reads_outline q d h.0)
      ∙ ap (λ (xs : List (Draft Dot)). outline s q ∷ xs) (all_outlines qs ds h.1)

  -- Names are below a bound, where the scope gives no other.
  module _ (n : ℕ) (below : (t : Tree) (p : ℕ) → sequence_named s t ≡ Some p → p < n) where
    either_below : (p : ℕ) (a b : Draft Boolean) → (IsNumberIn p (uses a) → p < n) → (IsNumberIn p (uses b) → p < n)
        → IsNumberIn p (uses a) ⊎ IsNumberIn p (uses b) → p < n
    either_below p a b f g (inl h) = f h
    either_below p a b f g (inr h) = g h

    boolean_below : (o : Option ℕ) (t : Tree) (d : Draft Boolean) → sequence_named s t ≡ o → ReadsBoolean s cs e o t d
        → (p : ℕ) → IsNumberIn p (uses d) → p < n
    boolean_below (Some q) t d is h p i =
        let at : p ≡ q = in_only p q (subst (λ (x : Draft Boolean). IsNumberIn p (uses x)) h i) in
        below t p (is ∙ ap Some (sym at))
    boolean_below None t d is h p i = let none = subst
        (λ (x : Draft Boolean). IsNumberIn p (uses x)) h.2 i in elim none [ ]

    mutual
      unfolding Reads

      pub reads_below : (q : SequenceForm) (d : Draft Boolean) → Reads s cs e q d → (p : ℕ) → IsNumberIn p (uses d)
          → p < n
      reads_below (boolean t) d h p i = boolean_below (sequence_named s t) t d refl h p i
      reads_below (repeated q r) d h p i =
          reads_below q h.0 h.1 p (subst (λ (x : Draft Boolean). IsNumberIn p (uses x)) h.2 i)
      reads_below (late t r q) d h p i = reads_below q h.0 h.1 p
          (subst (λ (x : Draft Boolean). IsNumberIn p (uses x)) h.2 i)
      reads_below (delayed q steps) d h p i = steps_below h.0 steps d h.2 p (reads_below q h.0 h.1 p) i
      reads_below (throughout t q) d h p i =
          reads_below q h.1 h.3 p (subst (λ (x : Draft Boolean). IsNumberIn p (uses x)) h.4 i)
      reads_below (joined j q others) d h p i = others_below j h.0 others d h.2 p (reads_below q h.0 h.1 p) i

      steps_below : (a : Draft Boolean) (steps : Steps) (d : Draft Boolean) → ReadsSteps s cs e a steps d → (p : ℕ)
          → (IsNumberIn p (uses a) → p < n) → IsNumberIn p (uses d) → p < n
      steps_below a no_step d h p f i = f (subst (λ (x : Draft Boolean). IsNumberIn p (uses x)) h i)
      steps_below a (step r q steps) d h p f i =
          steps_below (drafts.delay a (least_of r) (extra_of r) h.0) steps d h.2 p
          (λ k. either_below p a h.0 f (reads_below q h.0 h.1 p) (in_either p (uses a) (uses h.0) k)) i

      others_below : (j : Junction) (a : Draft Boolean) (others : Others) (d : Draft Boolean)
          → ReadsOthers s cs e j a others d → (p : ℕ) → (IsNumberIn p (uses a) → p < n) → IsNumberIn p (uses d) → p < n
      others_below j a no_other d h p f i = f (subst (λ (x : Draft Boolean). IsNumberIn p (uses x)) h i)
      others_below j a (other q others) d h p f i =
          others_below j (joined_by j a h.0) others d h.2 p
          (λ k. either_below p a h.0 f (reads_below q h.0 h.1 p)
          (in_either p (uses a) (uses h.0) (subst (IsNumberIn p) (joined_uses j a h.0) k))) i

-- the places of named sequences are below their number
entry_below : (b : Bool) (o : Own) (rest : Option Own) (p n : ℕ) → (o ≡ own.Sequence p → p < n)
    → (rest ≡ Some (own.Sequence p) → p < n) → cond b (Some o) rest ≡ Some (own.Sequence p) → p < n
entry_below true o rest p n f g h = f cc
entry_below false o rest p n f g h = g h

counter_no_sequence : (p q w : ℕ) → own.Counter q w ≡ own.Sequence p → ⊥
counter_no_sequence p q w h = cc

same_place : (p q : ℕ) → own.Sequence q ≡ own.Sequence p → q ≡ p
same_place p q h = cc

owns_below : (items : List ItemForm) (name : List ℕ) (c k p : ℕ) → look_up (owns_from c k items) name
    ≡ Some (own.Sequence p) → p < k + length (declarations_of items)
owns_below [] name c k p h = absurd cc
owns_below (counter x ∷ items) name c k p h =
    entry_below (bytes_eq name x.name.text.now) (own.Counter c (width_in x.width.value))
    (look_up (owns_from (c + 1) k items) name) p (k + length (declarations_of items))
    (λ e. absurd (counter_no_sequence p c (width_in x.width.value) e)) (owns_below items name (c + 1) k p) h
owns_below (declaration x ∷ items) name c k p h =
    entry_below (bytes_eq name x.name.text.now) (own.Sequence k) (look_up (owns_from c (k + 1) items) name) p
    (k + suc (length (declarations_of items)))
    (λ e. omega (arith, same_place p k e)) (λ g. omega (arith, owns_below items name c (k + 1) p g)) h
owns_below (assertion x ∷ items) name c k p h = owns_below items name c k p h

place_sequence : (o : Option Own) (width : Option ℕ) (p : ℕ) → meaning_place (meaning_by o width) ≡ Some p
    → o ≡ Some (own.Sequence p)
place_sequence None None p h = absurd cc
place_sequence None (Some w) p h = absurd cc
place_sequence (Some (own.Counter q w)) width p h = absurd cc
place_sequence (Some (own.Sequence q)) width p h = cc

pub named_below : (items : List ItemForm) (widths : List ℕ → Option ℕ) (t : Tree) (p : ℕ)
    → sequence_named (scope_for items widths) t ≡ Some p → p < length (declarations_of items)
named_below items widths (path (w ∷ []) None) p h =
    omega (
      arith,
      owns_below items (path_text (w ∷ [])) 0 0 p
          (place_sequence (look_up (owns items) (path_text (w ∷ [])))
          ((scope_for items widths).dump (path_text (w ∷ []))) p h),
    )
named_below items widths t p h = absurd cc

-- As many are read as there are.
pub all_long : (s : Scope) (cs : List (List ℕ)) (e : List Expr) (qs : List SequenceForm) (ds : List (Draft Boolean))
    → AllRead s cs e qs ds → length ds ≡ length qs
all_long s cs e [] [] h = refl
all_long s cs e [] (d ∷ ds) h = elim h [ ]
all_long s cs e (q ∷ qs) [] h = elim h [ ]
all_long s cs e (q ∷ qs) (d ∷ ds) h = ap suc (all_long s cs e qs ds h.1)

-- Each name that one of the read sequences uses is below a bound, where the scope gives no other.
pub all_below_at : (s : Scope) (cs : List (List ℕ)) (e : List Expr) (n : ℕ)
    (below : (t : Tree) (p : ℕ) → sequence_named s t ≡ Some p → p < n) (qs : List SequenceForm)
    (ds : List (Draft Boolean)) → AllRead s cs e qs ds →
    (p q : ℕ) → IsNumberIn q (uses_at ds p) → q < n
all_below_at s cs e n below [] [] h p q i = elim i [ ]
all_below_at s cs e n below [] (d ∷ ds) h p q i = elim h [ ]
all_below_at s cs e n below (x ∷ qs) [] h p q i = elim h [ ]
all_below_at s cs e n below (x ∷ qs) (d ∷ ds) h zero q i = reads_below s cs e n below x d h.0 q i
all_below_at s cs e n below (x ∷ qs) (d ∷ ds) h (suc p) q i = all_below_at s cs e n below qs ds h.1 p q i

-- They are declared.
pub all_declared : (s : Scope) (cs : List (List ℕ)) (e : List Expr) (n : ℕ)
    (below : (t : Tree) (p : ℕ) → sequence_named s t ≡ Some p → p < n) (qs : List SequenceForm)
    (ds : List (Draft Boolean)) → length qs ≡ n → AllRead s cs e qs ds →
    (p : ℕ) → AllDeclared ds p
all_declared s cs e n below qs ds long h p q i =
    omega (arith, all_below_at s cs e n below qs ds h p q i, all_long s cs e qs ds h, long)

-- All that is read stays read while the expressions grow.
pub all_grow_on : (s : Scope) (cs : List (List ℕ)) (now next : List Expr) (more : ExtendsPlaces now next)
    (qs : List SequenceForm) (ds : List (Draft Boolean)) → AllRead s cs now qs ds → AllRead s cs next qs ds
all_grow_on s cs now next more [] [] h = h
all_grow_on s cs now next more [] (d ∷ ds) h = elim h [ ]
all_grow_on s cs now next more (q ∷ qs) [] h = elim h [ ]
all_grow_on s cs now next more (q ∷ qs) (d ∷ ds) h =
    (reads_grows s cs now next more q d h.0, all_grow_on s cs now next more qs ds h.1)
