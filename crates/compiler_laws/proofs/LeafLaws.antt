-- What is read of a sequence, and its expressions, as one: each boolean with the expression that it is.
use Rattle.std.proofs.Common.{◌≡◌, ℕ, List, [], ◌∷◌, ◌++◌, map, Option, Some, None, refl, sym, ap, ◌∙◌, subst}
use Rattle.std.specs.Prelude.{option_map}
use Rattle.std.specs.List.{AllZip, flat_map}
use Rattle.parser_grammar.specs.declared.operator.Junction.{Junction}
use Rattle.parser_grammar.specs.declared.operator.Junction.TheVariants.{Intersect, And, Or}
use Rattle.parser_grammar.specs.declared.operator.Implication.{Implication}
use Rattle.parser_grammar.specs.declared.operator.Implication.TheVariants.{Overlapped, NonOverlapped}
use Rattle.parser_grammar.specs.Trees.{Tree, SequenceForm, boolean, repeated, late, delayed, throughout, joined, Steps}
use Rattle.parser_grammar.specs.Trees.{no_step, step, Others, no_other, other, PropertyForm, plain, implication}
use Rattle.parser_grammar.specs.Trees.{DeclarationForm}
use Rattle.expressions.specs.declared.expr.Expr.{Expr}
use Rattle.assertions.specs.declared.sequence.Boolean.{Boolean}
use Rattle.assertions.specs.declared.sequence.Boolean.TheVariants.{One, Listed}
use Rattle.assertions.specs.Written.{Written}
use Rattle.types.specs.Drafts as drafts
use Rattle.types.specs.Drafts.{Draft, spelling_of, named_within, IsWrittenOut}
use Rattle.types.specs.Implications.{rewritten_antecedent}
use Rattle.types.specs.Outlines.{map_draft, map_written}
use Rattle.types.specs.Leaves.{place_listed}
use Rattle.types.proofs.MapLaws.{spelled_map, named_map, spells_map}
use Rattle.types_names.specs.Scopes.{Scope, sequence_named}
use Rattle.types.specs.Readings.{least_of, extra_of, IsBooleanOf, ReadsBoolean, joined_by, Reads, ReadsSteps}
use Rattle.types.specs.Readings.{ReadsOthers, AllRead}
use Rattle.types.specs.Suites.{before_by, ReadsAntecedent, ReadsConsequent}
use Rattle.compiler_laws.specs.WrittenOut.{Leaf, leaf_by, trees_in, trees_of_steps, trees_of_others, antecedent_trees}
use Rattle.compiler_laws.specs.WrittenOut.{consequent_trees, given}

joined_map : {B C : Type 0} (f : B → C) (j : Junction) (x y : Draft B) →
    joined_by j (map_draft f x) (map_draft f y) ≡ map_draft f (joined_by j x y)
joined_map f Intersect x y = refl
joined_map f And x y = refl
joined_map f Or x y = refl

module _ (s : Scope) (cs : List (List ℕ)) (bs : List Expr) where
  -- The boolean is the expression, or both are the 1 that a form stands for.
  abbrev pub IsLeafOf : Boolean → Leaf → Type 0
  IsLeafOf One None = Unit {0}
  IsLeafOf One (Some t) = ⊥
  IsLeafOf (Listed p) None = ⊥
  IsLeafOf (Listed p) (Some t) = IsBooleanOf s cs bs t (Listed p)

  pub record Pair : Type 0 where
    pub first : Boolean
    pub second : Leaf
    pub same : IsLeafOf first second

  abbrev pub first_of : Pair → Boolean
  first_of p = p.first

  abbrev pub second_of : Pair → Leaf
  second_of p = p.second

  abbrev pub firsts : Draft Pair → Draft Boolean
  firsts d = map_draft first_of d

  abbrev pub seconds : Draft Pair → Draft Leaf
  seconds d = map_draft second_of d

  -- Two drafts are those of a draft of pairs, and two lists of drafts.
  pub record IsPaired (a : Draft Boolean) (b : Draft Leaf) : Type 0 where
    pub both : Draft Pair
    pub first : a ≡ firsts both
    pub second : b ≡ seconds both

  pub record ArePaired (ds : List (Draft Boolean)) (es : List (Draft Leaf)) : Type 0 where
    pub both : List (Draft Pair)
    pub first : ds ≡ map firsts both
    pub second : es ≡ map seconds both

  paired_by : (a c : Draft Boolean) (d : Draft Leaf) → a ≡ c → IsPaired c d → IsPaired a d
  paired_by a c d e h = record { both = h.both; first = e ∙ h.first; second = h.second }

  paired_name : (p : ℕ) → IsPaired (drafts.name p) (drafts.name p)
  paired_name p = record { both = drafts.name p; first = refl; second = refl }

  paired_boolean : (b : Boolean) (o : Leaf) → IsLeafOf b o → IsPaired (drafts.boolean b) (drafts.boolean o)
  paired_boolean b o h =
      record { both = drafts.boolean (record { first = b; second = o; same = h }); first = refl; second = refl }

  paired_delay : (a c : Draft Boolean) (b d : Draft Leaf) (least extra : ℕ) → IsPaired a b → IsPaired c d
      → IsPaired (drafts.delay a least extra c) (drafts.delay b least extra d)
  paired_delay a c b d least extra h k = record {
    both = drafts.delay h.both least extra k.both;
    first =
        ap (λ (x : Draft Boolean). drafts.delay x least extra c) h.first
        ∙ ap (λ (x : Draft Boolean). drafts.delay (firsts h.both) least extra x) k.first;
    second =
        ap (λ (x : Draft Leaf). drafts.delay x least extra d) h.second
        ∙ ap (λ (x : Draft Leaf). drafts.delay (seconds h.both) least extra x) k.second;
  }

  -- sides that are joined
  paired_joined : (j : Junction) (a c : Draft Boolean) (b d : Draft Leaf) → IsPaired a b → IsPaired c d
      → IsPaired (joined_by j a c) (joined_by j b d)
  paired_joined j a c b d h k = record {
    both = joined_by j h.both k.both;
    first =
        ap (λ (x : Draft Boolean). joined_by j x c) h.first
        ∙ ap (λ (x : Draft Boolean). joined_by j (firsts h.both) x) k.first ∙ joined_map first_of j h.both k.both;
    second =
        ap (λ (x : Draft Leaf). joined_by j x d) h.second
        ∙ ap (λ (x : Draft Leaf). joined_by j (seconds h.both) x) k.second ∙ joined_map second_of j h.both k.both;
  }

  paired_repeat : (a : Draft Boolean) (b : Draft Leaf) (least extra : ℕ) → IsPaired a b
      → IsPaired (drafts.repeat a least extra) (drafts.repeat b least extra)
  paired_repeat a b least extra h = record {
    both = drafts.repeat h.both least extra;
    first = ap (λ (x : Draft Boolean). drafts.repeat x least extra) h.first;
    second = ap (λ (x : Draft Leaf). drafts.repeat x least extra) h.second;
  }

  paired_lead : (a : Draft Boolean) (b : Draft Leaf) (least extra : ℕ) → IsPaired a b
      → IsPaired (drafts.lead least extra a) (drafts.lead least extra b)
  paired_lead a b least extra h = record {
    both = drafts.lead least extra h.both;
    first = ap (λ (x : Draft Boolean). drafts.lead least extra x) h.first;
    second = ap (λ (x : Draft Leaf). drafts.lead least extra x) h.second;
  }

  paired_throughout : (b : Boolean) (o : Leaf) (c : Draft Boolean) (d : Draft Leaf) → IsLeafOf b o → IsPaired c d
      → IsPaired (drafts.throughout b c) (drafts.throughout o d)
  paired_throughout b o c d same h = record {
    both = drafts.throughout (record { first = b; second = o; same = same }) h.both;
    first = ap (λ (x : Draft Boolean). drafts.throughout b x) h.first;
    second = ap (λ (x : Draft Leaf). drafts.throughout o x) h.second;
  }

  atom_leaf : (t : Tree) (b : Boolean) → IsBooleanOf s cs bs t b → IsLeafOf b (Some t)
  atom_leaf t One h = let e : One ≡ Listed h.place = h.is in absurd cc
  atom_leaf t (Listed p) h = h

  boolean_paired : (o : Option ℕ) (t : Tree) (d : Draft Boolean) → ReadsBoolean s cs bs o t d →
      IsPaired d (leaf_by o t)
  boolean_paired (Some p) t d h = paired_by d (drafts.name p) (drafts.name p) h (paired_name p)
  boolean_paired None t d h =
      paired_by d (drafts.boolean h.0) (drafts.boolean (Some t)) h.2
      (paired_boolean h.0 (Some t) (atom_leaf t h.0 h.1))

  -- What is read of a sequence is paired with its expressions.
  mutual
    unfolding Reads trees_in

    pub reads_paired : (q : SequenceForm) (d : Draft Boolean) → Reads s cs bs q d → IsPaired d (trees_in s q)
    reads_paired (boolean t) d h = boolean_paired (sequence_named s t) t d h
    reads_paired (repeated q r) d h =
        paired_by d (drafts.repeat h.0 (least_of r) (extra_of r)) _ h.2
        (paired_repeat h.0 (trees_in s q) (least_of r) (extra_of r) (reads_paired q h.0 h.1))
    reads_paired (late t r q) d h =
        paired_by d (drafts.lead (least_of r) (extra_of r) h.0) _ h.2
        (paired_lead h.0 (trees_in s q) (least_of r) (extra_of r) (reads_paired q h.0 h.1))
    reads_paired (delayed q steps) d h = steps_paired steps h.0 (trees_in s q) d (reads_paired q h.0 h.1) h.2
    reads_paired (throughout t q) d h =
        paired_by d (drafts.throughout h.0 h.1) _ h.4
        (paired_throughout h.0 (Some t) h.1 (trees_in s q) (atom_leaf t h.0 h.2) (reads_paired q h.1 h.3))
    reads_paired (joined j q others) d h =
        others_paired j others h.0 (trees_in s q) d (reads_paired q h.0 h.1) h.2

    steps_paired : (steps : Steps) (a : Draft Boolean) (b : Draft Leaf) (d : Draft Boolean) → IsPaired a b →
        ReadsSteps s cs bs a steps d → IsPaired d (trees_of_steps s b steps)
    steps_paired no_step a b d g h = paired_by d a b h g
    steps_paired (step r q steps) a b d g h =
        steps_paired steps (drafts.delay a (least_of r) (extra_of r) h.0)
        (drafts.delay b (least_of r) (extra_of r) (trees_in s q)) d
        (paired_delay a h.0 b (trees_in s q) (least_of r) (extra_of r) g (reads_paired q h.0 h.1)) h.2

    others_paired : (j : Junction) (others : Others) (a : Draft Boolean) (b : Draft Leaf) (d : Draft Boolean) →
        IsPaired a b → ReadsOthers s cs bs j a others d → IsPaired d (trees_of_others s j b others)
    others_paired j no_other a b d g h = paired_by d a b h g
    others_paired j (other q others) a b d g h =
        others_paired j others (joined_by j a h.0) (joined_by j b (trees_in s q)) d
        (paired_joined j a h.0 b (trees_in s q) g (reads_paired q h.0 h.1)) h.2

  pub bodies_paired : (qs : List DeclarationForm) (ds : List (Draft Boolean)) →
      AllRead s cs bs (map (λ d. d.body) qs) ds → ArePaired ds (map (λ d. trees_in s d.body) qs)
  bodies_paired [] [] h = record { both = []; first = refl; second = refl }
  bodies_paired [] (d ∷ ds) h = elim h [ ]
  bodies_paired (q ∷ qs) [] h = elim h [ ]
  bodies_paired (q ∷ qs) (d ∷ ds) h =
      let head = reads_paired q.body d h.0 in
      let tail = bodies_paired qs ds h.1 in
      record {
        both = head.both ∷ tail.both;
        first =
            ap (λ (x : Draft Boolean). x ∷ ds) head.first
            ∙ ap (λ (xs : List (Draft Boolean)). firsts head.both ∷ xs) tail.first;
        second =
            ap (λ (x : Draft Leaf). x ∷ map (λ d. trees_in s d.body) qs) head.second
            ∙ ap (λ (xs : List (Draft Leaf)). seconds head.both ∷ xs) tail.second;
      }

  -- the sides of a property
  one_paired : IsPaired (drafts.boolean One) (drafts.boolean None)
  one_paired = paired_boolean One None tt

  before_paired : (i : Implication) (a : Draft Boolean) (b : Draft Leaf) → IsPaired a b →
      IsPaired (before_by i a) (rewritten_antecedent None i b)
  before_paired Overlapped a b h = h
  before_paired NonOverlapped a b h =
      paired_delay a (drafts.boolean One) b (drafts.boolean None) 1 0 h one_paired

  pub antecedent_paired : (p : PropertyForm) (d : Draft Boolean) → ReadsAntecedent s cs bs p d →
      IsPaired d (antecedent_trees s p)
  antecedent_paired (plain q) d h = paired_by d (drafts.boolean One) (drafts.boolean None) h one_paired
  antecedent_paired (implication word a i c) d h =
      paired_by d (before_by i h.0) _ h.2 (before_paired i h.0 (trees_in s a) (reads_paired a h.0 h.1))

  pub consequent_paired : (p : PropertyForm) (d : Draft Boolean) → ReadsConsequent s cs bs p d →
      IsPaired d (consequent_trees s p)
  consequent_paired (plain q) d h = reads_paired q d h
  consequent_paired (implication word a i c) d h = reads_paired c d h

  -- What paired drafts spell, as one.
  pub record SpellBoth (es : List (Draft Leaf)) (e : Draft Leaf) (w : Written Boolean) : Type 0 where
    pub both : Written Pair
    pub first : map_written first_of both ≡ w
    pub second : IsWrittenOut es e (map_written second_of both)

  both_by : (ds : List (Draft Pair)) (d : Draft Pair) (w : Written Boolean) (depth : ℕ) (o : Option (Written Pair)) →
      spelling_of (named_within ds depth) d ≡ o → option_map (map_written first_of) o ≡ Some w →
      SpellBoth (map seconds ds) (seconds d) w
  both_by ds d w depth None h e = absurd cc
  both_by ds d w depth (Some z) h e =
      record { both = z; first = cc; second = spells_map second_of ds d z (depth, h) }

  pub spelled_both : (ds : List (Draft Boolean)) (es : List (Draft Leaf)) (a : Draft Boolean) (e : Draft Leaf)
      (w : Written Boolean) → ArePaired ds es → IsPaired a e → IsWrittenOut ds a w → SpellBoth es e w
  spelled_both ds es a e w all one h =
      let spelled : IsWrittenOut (map firsts all.both) (firsts one.both) w =
      subst (λ (d : Draft Boolean). IsWrittenOut (map firsts all.both) d w) one.first
      (subst (λ (bodies : List (Draft Boolean)). IsWrittenOut bodies a w) all.first h) in
      let found =
      both_by all.both one.both w spelled.0 (spelling_of (named_within all.both spelled.0) one.both) refl
      (sym (spelled_map first_of (named_within all.both spelled.0)
      (named_within (map firsts all.both) spelled.0) (named_map first_of all.both spelled.0) one.both) ∙ spelled.1) in
      subst (λ (x : Draft Leaf). SpellBoth es x w) (sym one.second)
      (subst (λ (bodies : List (Draft Leaf)). SpellBoth bodies (seconds one.both) w) (sym all.second) found)

  -- Its places are those of its expressions, one for each.
  abbrev pub IsPlaceOf : ℕ → Tree → Type 0
  IsPlaceOf p t = IsBooleanOf s cs bs t (Listed p)

  zip_more : (b : Boolean) (o : Leaf) (ps : List ℕ) (ts : List Tree) → IsLeafOf b o → AllZip IsPlaceOf ps ts →
      AllZip IsPlaceOf (place_listed b ++ ps) (given o ++ ts)
  zip_more One None ps ts h k = k
  zip_more One (Some t) ps ts h k = elim h [ ]
  zip_more (Listed p) None ps ts h k = elim h [ ]
  zip_more (Listed p) (Some t) ps ts h k = (h, k)

  pub pairs_zip : (zs : List Pair) →
      AllZip IsPlaceOf (flat_map place_listed (map first_of zs)) (flat_map given (map second_of zs))
  pairs_zip [] = tt
  pairs_zip (z ∷ zs) =
      zip_more z.first z.second (flat_map place_listed (map first_of zs)) (flat_map given (map second_of zs)) z.same
      (pairs_zip zs)

  pub zip_two : (ps qs : List ℕ) (ts us : List Tree) → AllZip IsPlaceOf ps ts → AllZip IsPlaceOf qs us →
      AllZip IsPlaceOf (ps ++ qs) (ts ++ us)
  zip_two [] qs [] us h k = k
  zip_two [] qs (t ∷ ts) us h k = elim h [ ]
  zip_two (p ∷ ps) qs [] us h k = elim h [ ]
  zip_two (p ∷ ps) qs (t ∷ ts) us h k = (h.0, zip_two ps qs ts us h.1 k)
