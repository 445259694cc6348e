-- Two readings of one sequence as one: a draft of pairs of booleans that are true at the same ticks.
use Rattle.std.proofs.Common.{◌≡◌, ℕ, List, [], ◌∷◌, map, Option, Some, None, refl, sym, ap, ◌∙◌}
use Rattle.std.specs.Prelude.{◌==◌, not}
use Rattle.parser_grammar.specs.declared.operator.Junction.{Junction}
use Rattle.parser_grammar.specs.declared.operator.Junction.TheVariants.{Intersect, And, Or}
use Rattle.parser_grammar.specs.Trees.{Tree, SequenceForm, boolean, repeated, late, delayed, throughout, joined, Steps}
use Rattle.parser_grammar.specs.Trees.{no_step, step, Others, no_other, other}
use Rattle.expressions.specs.declared.expr.Expr.{Expr}
use Rattle.expressions.specs.Terms.{Term, Samples, width_of, value_of, is_true}
use Rattle.expressions.specs.Expressions.{term_of}
use Rattle.assertions.specs.declared.sequence.Boolean.{Boolean}
use Rattle.assertions.specs.Shapes.{is_true_at}
use Rattle.types.specs.Drafts as drafts
use Rattle.types.specs.Drafts.{Draft}
use Rattle.types.specs.Outlines.{map_draft}
use Rattle.types.specs.Placed.{atom_true}
use Rattle.types_names.specs.Scopes.{Scope, sequence_named}
use Rattle.types_names.specs.Meanings.{Means}
use Rattle.types_names.proofs.OneMeaning.{one-meaning}
use Rattle.types.specs.Readings.{least_of, extra_of, IsBooleanOf, ReadsBoolean, joined_by, Reads, ReadsSteps}
use Rattle.types.specs.Readings.{ReadsOthers, AllRead}

-- what one tree means is true at the same ticks
pub one_truth : (s : Scope) (cs : List (List ℕ)) (t : Tree) (e f : Term) → Means s cs t e → Means s cs t f
    → (x : Samples) (k : ℕ) → is_true x e k ≡ is_true x f k
one_truth s cs t e f m n x k =
    let same = one-meaning x s cs t e f m n in
    ap (λ (v : ℕ). not (v == 0)) (same.value k (width_of e) ∙ ap (value_of x f k) same.width)

-- Two booleans, the first by its place among some expressions, the second among others, that are true at the same
-- ticks.
abbrev pub AreTrueAlike : List Expr → List Expr → Boolean → Boolean → Type 0
AreTrueAlike ones others a b = (x : Samples) (k : ℕ) → atom_true ones x a k ≡ atom_true others x b k

pub record Pair (ones others : List Expr) : Type 0 where
  pub first : Boolean
  pub second : Boolean
  pub alike : AreTrueAlike ones others first second

module _ (ones others : List Expr) where
  abbrev pub firsts : Draft (Pair ones others) → Draft Boolean
  firsts d = map_draft (λ (p : Pair ones others). p.first) d

  abbrev pub seconds : Draft (Pair ones others) → Draft Boolean
  seconds d = map_draft (λ (p : Pair ones others). p.second) d

  -- Two drafts are those of a draft of pairs, and two lists of drafts.
  pub record IsPaired (a b : Draft Boolean) : Type 0 where
    pub both : Draft (Pair ones others)
    pub first : a ≡ firsts both
    pub second : b ≡ seconds both

  pub record ArePaired (ds es : List (Draft Boolean)) : Type 0 where
    pub both : List (Draft (Pair ones others))
    pub first : ds ≡ map firsts both
    pub second : es ≡ map seconds both

  pub paired_by : (a b c d : Draft Boolean) → a ≡ c → b ≡ d → IsPaired c d → IsPaired a b
  paired_by a b c d e f h = record { both = h.both; first = e ∙ h.first; second = f ∙ h.second }

  paired_name : (p : ℕ) → IsPaired (drafts.name p) (drafts.name p)
  paired_name p = record { both = drafts.name p; first = refl; second = refl }

  pub paired_boolean : (a b : Boolean) → AreTrueAlike ones others a b → IsPaired (drafts.boolean a) (drafts.boolean b)
  paired_boolean a b h =
      record { both = drafts.boolean (record { first = a; second = b; alike = h }); first = refl; second = refl }

  pub paired_delay : (a b c d : Draft Boolean) (least extra : ℕ) → IsPaired a b → IsPaired c d
      → IsPaired (drafts.delay a least extra c) (drafts.delay b least extra d)
  paired_delay a b c d least extra h k = record {
    both = drafts.delay h.both least extra k.both;
    first =
        ap (λ (x : Draft Boolean). drafts.delay x least extra c) h.first
        ∙ ap (λ (x : Draft Boolean). drafts.delay (firsts h.both) least extra x) k.first;
    second =
        ap (λ (x : Draft Boolean). drafts.delay x least extra d) h.second
        ∙ ap (λ (x : Draft Boolean). drafts.delay (seconds h.both) least extra x) k.second;
  }

  paired_and : (a b c d : Draft Boolean) → IsPaired a b → IsPaired c d → IsPaired (drafts.and a c) (drafts.and b d)
  paired_and a b c d h k = record {
    both = drafts.and h.both k.both;
    first =
        ap (λ (x : Draft Boolean). drafts.and x c) h.first
        ∙ ap (λ (x : Draft Boolean). drafts.and (firsts h.both) x) k.first;
    second =
        ap (λ (x : Draft Boolean). drafts.and x d) h.second
        ∙ ap (λ (x : Draft Boolean). drafts.and (seconds h.both) x) k.second;
  }

  paired_intersect : (a b c d : Draft Boolean) → IsPaired a b → IsPaired c d
      → IsPaired (drafts.intersect a c) (drafts.intersect b d)
  paired_intersect a b c d h k = record {
    both = drafts.intersect h.both k.both;
    first =
        ap (λ (x : Draft Boolean). drafts.intersect x c) h.first
        ∙ ap (λ (x : Draft Boolean). drafts.intersect (firsts h.both) x) k.first;
    second =
        ap (λ (x : Draft Boolean). drafts.intersect x d) h.second
        ∙ ap (λ (x : Draft Boolean). drafts.intersect (seconds h.both) x) k.second;
  }

  paired_or : (a b c d : Draft Boolean) → IsPaired a b → IsPaired c d → IsPaired (drafts.or a c) (drafts.or b d)
  paired_or a b c d h k = record {
    both = drafts.or h.both k.both;
    first =
        ap (λ (x : Draft Boolean). drafts.or x c) h.first
        ∙ ap (λ (x : Draft Boolean). drafts.or (firsts h.both) x) k.first;
    second =
        ap (λ (x : Draft Boolean). drafts.or x d) h.second
        ∙ ap (λ (x : Draft Boolean). drafts.or (seconds h.both) x) k.second;
  }

  paired_joined : (j : Junction) (a b c d : Draft Boolean) → IsPaired a b → IsPaired c d
      → IsPaired (joined_by j a c) (joined_by j b d)
  paired_joined Intersect a b c d h k = paired_intersect a b c d h k
  paired_joined And a b c d h k = paired_and a b c d h k
  paired_joined Or a b c d h k = paired_or a b c d h k

  -- the same inside one form
  paired_repeat : (a b : Draft Boolean) (least extra : ℕ) → IsPaired a b
      → IsPaired (drafts.repeat a least extra) (drafts.repeat b least extra)
  paired_repeat a b least extra h = record {
    both = drafts.repeat h.both least extra;
    first = ap (λ (x : Draft Boolean). drafts.repeat x least extra) h.first;
    second = ap (λ (x : Draft Boolean). drafts.repeat x least extra) h.second;
  }

  paired_lead : (a b : Draft Boolean) (least extra : ℕ) → IsPaired a b
      → IsPaired (drafts.lead least extra a) (drafts.lead least extra b)
  paired_lead a b least extra h = record {
    both = drafts.lead least extra h.both;
    first = ap (drafts.lead least extra) h.first;
    second = ap (drafts.lead least extra) h.second;
  }

  paired_throughout : (a b : Boolean) (c d : Draft Boolean) → AreTrueAlike ones others a b → IsPaired c d
      → IsPaired (drafts.throughout a c) (drafts.throughout b d)
  paired_throughout a b c d alike h = record {
    both = drafts.throughout (record { first = a; second = b; alike = alike }) h.both;
    first = ap (drafts.throughout a) h.first;
    second = ap (drafts.throughout b) h.second;
  }

  module _ (s : Scope) (cs : List (List ℕ)) where
    -- one expression, by two places
    pub atoms_alike : (t : Tree) (a b : Boolean) → IsBooleanOf s cs ones t a → IsBooleanOf s cs others t b
        → AreTrueAlike ones others a b
    atoms_alike t a b m n x k =
        ap (λ (c : Boolean). atom_true ones x c k) m.is
        ∙ ap (λ (o : Option Expr). is_true_at x o k) m.found
        ∙ one_truth s cs t (term_of m.expression) (term_of n.expression) m.means n.means x k
        ∙ sym (ap (λ (o : Option Expr). is_true_at x o k) n.found)
        ∙ sym (ap (λ (c : Boolean). atom_true others x c k) n.is)

    booleans_paired : (o : Option ℕ) (t : Tree) (a b : Draft Boolean) → ReadsBoolean s cs ones o t a
        → ReadsBoolean s cs others o t b → IsPaired a b
    booleans_paired (Some p) t a b m n = paired_by a b (drafts.name p) (drafts.name p) m n (paired_name p)
    booleans_paired None t a b m n =
        paired_by a b (drafts.boolean m.0) (drafts.boolean n.0) m.2 n.2
        (paired_boolean m.0 n.0 (atoms_alike t m.0 n.0 m.1 n.1))

    -- What is read of one sequence is paired.
    mutual
      unfolding Reads

      pub reads_paired : (q : SequenceForm) (a b : Draft Boolean) → Reads s cs ones q a → Reads s cs others q b
          → IsPaired a b
      reads_paired (boolean t) a b m n = booleans_paired (sequence_named s t) t a b m n
      reads_paired (repeated q r) a b m n =
          paired_by a b (drafts.repeat m.0 (least_of r) (extra_of r)) (drafts.repeat n.0 (least_of r) (extra_of r)) m.2
          n.2 (paired_repeat m.0 n.0 (least_of r) (extra_of r) (reads_paired q m.0 n.0 m.1 n.1))
      reads_paired (late t r q) a b m n =
          paired_by a b (drafts.lead (least_of r) (extra_of r) m.0) (drafts.lead (least_of r) (extra_of r) n.0) m.2 n.2
          (paired_lead m.0 n.0 (least_of r) (extra_of r) (reads_paired q m.0 n.0 m.1 n.1))
      reads_paired (delayed q steps) a b m n = steps_paired steps m.0 n.0 a b (reads_paired q m.0 n.0 m.1 n.1) m.2 n.2
      reads_paired (throughout t q) a b m n =
          paired_by a b (drafts.throughout m.0 m.1) (drafts.throughout n.0 n.1) m.4 n.4
          (paired_throughout m.0 n.0 m.1 n.1 (atoms_alike t m.0 n.0 m.2 n.2) (reads_paired q m.1 n.1 m.3 n.3))
      reads_paired (joined j q more) a b m n = others_paired j more m.0 n.0 a b (reads_paired q m.0 n.0 m.1 n.1) m.2 n.2

      steps_paired : (steps : Steps) (c d a b : Draft Boolean) → IsPaired c d → ReadsSteps s cs ones c steps a
          → ReadsSteps s cs others d steps b → IsPaired a b
      steps_paired no_step c d a b h m n = paired_by a b c d m n h
      steps_paired (step r q steps) c d a b h m n =
          steps_paired steps (drafts.delay c (least_of r) (extra_of r) m.0)
          (drafts.delay d (least_of r) (extra_of r) n.0) a b
          (paired_delay c d m.0 n.0 (least_of r) (extra_of r) h (reads_paired q m.0 n.0 m.1 n.1)) m.2 n.2

      others_paired : (j : Junction) (more : Others) (c d a b : Draft Boolean) → IsPaired c d
          → ReadsOthers s cs ones j c more a → ReadsOthers s cs others j d more b → IsPaired a b
      others_paired j no_other c d a b h m n = paired_by a b c d m n h
      others_paired j (other q more) c d a b h m n =
          others_paired j more (joined_by j c m.0) (joined_by j d n.0) a b
          (paired_joined j c d m.0 n.0 h (reads_paired q m.0 n.0 m.1 n.1)) m.2 n.2

    pub all_read_paired : (qs : List SequenceForm) (ds es : List (Draft Boolean)) → AllRead s cs ones qs ds
        → AllRead s cs others qs es → ArePaired ds es
    all_read_paired [] [] [] m n = record { both = []; first = refl; second = refl }
    all_read_paired [] [] (e ∷ es) m n = elim n [ ]
    all_read_paired [] (d ∷ ds) es m n = elim m [ ]
    all_read_paired (q ∷ qs) [] es m n = elim m [ ]
    all_read_paired (q ∷ qs) (d ∷ ds) [] m n = elim n [ ]
    all_read_paired (q ∷ qs) (d ∷ ds) (e ∷ es) m n =
        let head = reads_paired q d e m.0 n.0 in
        let tail = all_read_paired qs ds es m.1 n.1 in
        record {
          both = head.both ∷ tail.both;
          first =
              ap (λ (x : Draft Boolean). x ∷ ds) head.first
              ∙ ap (λ (xs : List (Draft Boolean)). firsts head.both ∷ xs) tail.first;
          second =
              ap (λ (x : Draft Boolean). x ∷ es) head.second
              ∙ ap (λ (xs : List (Draft Boolean)). seconds head.both ∷ xs) tail.second;
        }
