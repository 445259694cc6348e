-- Two suites that are a text's say the same.
use Rattle.std.proofs.Common.{◌≡◌, ℕ, ◌+◌, Bool, subst, List, [], ◌∷◌, map, Option, Some, None, refl, sym, ap, ◌∙◌}
use Rattle.std.proofs.Common.{string_bytes}
use Rattle.std.specs.List.{AllZip}
use Rattle.parser_grammar.specs.Trees as trees
use Rattle.parser_grammar.specs.Trees.{Tree, PropertyForm, plain, implication, ItemForm}
use Rattle.expressions.specs.declared.expr.Expr.{Expr}
use Rattle.expressions.specs.Terms.{Samples}
use Rattle.parser_grammar.specs.declared.operator.Implication.{Implication}
use Rattle.parser_grammar.specs.declared.operator.Implication.TheVariants.{Overlapped, NonOverlapped}
use Rattle.assertions.specs.declared.sequence.Boolean.{Boolean}
use Rattle.assertions.specs.declared.sequence.Boolean.TheVariants.{One}
use Rattle.assertions.specs.declared.assertion.Assertion.{Assertion}
use Rattle.assertions.specs.declared.signal.Signal.{Signal}
use Rattle.assertions.specs.declared.suite.Suite.{Suite}
use Rattle.assertions.specs.Segments.{sat}
use Rattle.assertions.specs.Written.{Written, kernel}
use Rattle.assertions.specs.Shapes.{shape, written_form, value_in, off_in}
use Rattle.types.specs.Drafts as drafts
use Rattle.types.specs.Drafts.{Draft}
use Rattle.types.specs.Placed.{atom_true}
use Rattle.types_names.specs.Scopes.{Scope}
use Rattle.types_names.specs.Columns.{columns_of}
use Rattle.types.specs.Texts.{declarations_of, counters_of, assertions_of}
use Rattle.types.specs.Suites.{AreSignals, before_by, ReadsAntecedent, ReadsConsequent, IsMeant, IsDisabling}
use Rattle.types.specs.Suites.{IsAssertion, AreAssertions, IsSuite}
use Rattle.laws_one_report.specs.Same.{AreAlike, SaySame}
use Rattle.laws_one_report.proofs.AttemptLaws.{led, alike_turned, alike_on, SeenAlike, same_verdict, seen_turned}
use Rattle.assertions.specs.Attempts.{IsVerdict}
use Rattle.laws_one_report.proofs.PairLaws.{IsPaired, ArePaired, paired_by, paired_boolean, paired_delay, atoms_alike}
use Rattle.laws_one_report.proofs.PairLaws.{reads_paired, all_read_paired}
use Rattle.laws_one_report.proofs.SpelledLaws.{spelled_alike}
use Rattle.laws_one_report.proofs.CountLaws.{same_counts}

-- signals
same_some : (m n : ℕ) (o : Option ℕ) → o ≡ Some m → o ≡ Some n → m ≡ n
same_some m n o h k = let e : Some m ≡ Some n = sym h ∙ k in cc

same_paths : (s : Scope) (ps : List (List ℕ)) (xs : List Signal) → AreSignals s ps xs
    → map (λ (x : Signal). string_bytes x.path) xs ≡ ps
same_paths s [] [] h = refl
same_paths s [] (x ∷ xs) h = elim h [ ]
same_paths s (p ∷ ps) [] h = elim h [ ]
same_paths s (p ∷ ps) (x ∷ xs) h =
    ap (λ (q : List ℕ). q ∷ map (λ (y : Signal). string_bytes y.path) xs) h.0.0
    ∙ ap (λ (qs : List (List ℕ)). p ∷ qs) (same_paths s ps xs h.1)

same_widths : (s : Scope) (ps : List (List ℕ)) (xs ys : List Signal) → AreSignals s ps xs → AreSignals s ps ys
    → map (λ (x : Signal). x.width) xs ≡ map (λ (x : Signal). x.width) ys
same_widths s [] [] [] h k = refl
same_widths s [] [] (y ∷ ys) h k = elim k [ ]
same_widths s [] (x ∷ xs) ys h k = elim h [ ]
same_widths s (p ∷ ps) [] ys h k = elim h [ ]
same_widths s (p ∷ ps) (x ∷ xs) [] h k = elim k [ ]
same_widths s (p ∷ ps) (x ∷ xs) (y ∷ ys) h k =
    ap (λ (w : ℕ). w ∷ map (λ (z : Signal). z.width) xs) (same_some x.width y.width (s.dump p) h.0.1 k.0.1)
    ∙ ap (λ (ws : List ℕ). y.width ∷ ws) (same_widths s ps xs ys h.1 k.1)

module _ (s : Scope) (cs : List (List ℕ)) (ones others : List Expr) where
  -- sides
  one_paired : IsPaired ones others (drafts.boolean One) (drafts.boolean One)
  one_paired = paired_boolean ones others One One (λ x k. refl)

  before_paired : (i : Implication) (a b : Draft Boolean) → IsPaired ones others a b
      → IsPaired ones others (before_by i a) (before_by i b)
  before_paired Overlapped a b h = h
  before_paired NonOverlapped a b h =
      paired_delay ones others a b (drafts.boolean One) (drafts.boolean One) 1 0 h one_paired

  antecedents_paired : (p : PropertyForm) (a b : Draft Boolean) → ReadsAntecedent s cs ones p a
      → ReadsAntecedent s cs others p b → IsPaired ones others a b
  antecedents_paired (plain q) a b h k =
      paired_by ones others a b (drafts.boolean One) (drafts.boolean One) h k one_paired
  antecedents_paired (implication word q i c) a b h k =
      paired_by ones others a b (before_by i h.0) (before_by i k.0) h.2 k.2
      (before_paired i h.0 k.0 (reads_paired ones others s cs q h.0 k.0 h.1 k.1))

  consequents_paired : (p : PropertyForm) (a b : Draft Boolean) → ReadsConsequent s cs ones p a
      → ReadsConsequent s cs others p b → IsPaired ones others a b
  consequents_paired (plain q) a b h k = reads_paired ones others s cs q a b h k
  consequents_paired (implication word q t c) a b h k = reads_paired ones others s cs c a b h k

  -- what two assertions have of paired sides matches alike
  sides_alike : (ds es : List (Draft Boolean)) (places spots : List ℕ) (a b : Draft Boolean) (v w : Written Boolean)
      → ArePaired ones others ds es → IsPaired ones others a b → IsMeant ds ones places a v
      → IsMeant es others spots b w →
      (x : Samples) → SeenAlike (value_in ones places x) (value_in others spots x) (kernel One v) (kernel One w)
  sides_alike ds es places spots a b v w all both h k x n =
      let first =
      alike_turned (sat (atom_true ones x) n) (sat (value_in ones places x) n) (kernel One h.meant) (kernel One v)
      (h.placed x n) in
      let mid = spelled_alike ones others ds es a b h.meant k.meant all both h.spells k.spells x n in
      let on =
      alike_on (sat (value_in ones places x) n) (sat (atom_true ones x) n) (sat (atom_true others x) n)
      (kernel One v) (kernel One h.meant) (kernel One k.meant) first mid in
      alike_on (sat (value_in ones places x) n) (sat (atom_true others x) n) (sat (value_in others spots x) n)
      (kernel One v) (kernel One k.meant) (kernel One w) on (k.placed x n)

  -- disabled at the same ticks
  off_alike : (places spots : List ℕ) (o : Option Tree) (a b : Option Boolean) → IsDisabling s cs ones places o a
      → IsDisabling s cs others spots o b → (x : Samples) (k : ℕ) → off_in ones places x a k
      ≡ off_in others spots x b k
  off_alike places spots None None None h g x k = refl
  off_alike places spots None None (Some b) h g x k = elim g [ ]
  off_alike places spots None (Some a) b h g x k = elim h [ ]
  off_alike places spots (Some t) None b h g x k = elim h [ ]
  off_alike places spots (Some t) (Some a) None h g x k = elim g [ ]
  off_alike places spots (Some t) (Some a) (Some b) h g x k =
      sym (h.2 x k) ∙ atoms_alike ones others s cs t h.0 g.0 h.1 g.1 x k ∙ g.2 x k

  assertions_alike : (ds es : List (Draft Boolean)) (n : ℕ) (t : trees.AssertionForm) (a b : Assertion)
      → ArePaired ones others ds es → IsAssertion s cs ones ds n t a → IsAssertion s cs others es n t b
      → AreAlike ones others a b
  assertions_alike ds es n t a b all h k =
      let r =
      sides_alike ds es a.booleans.items b.booleans.items h.antecedent k.antecedent (written_form a.antecedent)
      (written_form b.antecedent) all
      (antecedents_paired t.property h.antecedent k.antecedent h.reads_antecedent k.reads_antecedent) h.antecedent_meant
      k.antecedent_meant in
      let q =
      sides_alike ds es a.booleans.items b.booleans.items h.consequent k.consequent (written_form a.consequent)
      (written_form b.consequent) all
      (consequents_paired t.property h.consequent k.consequent h.reads_consequent k.reads_consequent) h.consequent_meant
      k.consequent_meant in
      let first : a.first ≡ b.first = h.first ∙ sym k.first in
      record {
        name = h.name ∙ sym k.name;
        verdicts = λ x ticks clock v.
            let value = value_in ones a.booleans.items x in
            let other = value_in others b.booleans.items x in
            let off = off_in ones a.booleans.items x a.disabling in
            let still = off_in others b.booleans.items x b.disabling in
            let same =
            off_alike a.booleans.items b.booleans.items t.disable a.disabling b.disabling h.disabling k.disabling
            x in (
              λ is. subst
                  (λ (f : Bool). IsVerdict other still (led f (shape b.antecedent)) (shape b.consequent) ticks clock v)
                  first
                  (same_verdict value other a.first (shape a.antecedent) (shape a.consequent) (shape b.antecedent)
                  (shape b.consequent) (r x) (q x) off still same ticks clock v is),
              λ is. subst
                  (λ (f : Bool). IsVerdict value off (led f (shape a.antecedent)) (shape a.consequent) ticks clock v)
                  (sym first)
                  (same_verdict other value b.first (shape b.antecedent) (shape b.consequent) (shape a.antecedent)
                  (shape a.consequent)
                  (seen_turned value other (shape a.antecedent) (shape b.antecedent) (r x))
                  (seen_turned value other (shape a.consequent) (shape b.consequent) (q x))
                  still off (λ j. sym (same j)) ticks clock v is),
            );
      }

  all_alike : (ds es : List (Draft Boolean)) (n : ℕ) (ts : List trees.AssertionForm) (us vs : List Assertion)
      → ArePaired ones others ds es → AreAssertions s cs ones ds n ts us → AreAssertions s cs others es n ts vs
      → AllZip (AreAlike ones others) us vs
  all_alike ds es n [] [] [] all h k = tt
  all_alike ds es n [] [] (v ∷ vs) all h k = elim k [ ]
  all_alike ds es n [] (u ∷ us) vs all h k = elim h [ ]
  all_alike ds es n (t ∷ ts) [] vs all h k = elim h [ ]
  all_alike ds es n (t ∷ ts) (u ∷ us) [] all h k = elim k [ ]
  all_alike ds es n (t ∷ ts) (u ∷ us) (v ∷ vs) all h k =
      (assertions_alike ds es n t u v all h.0 k.0, all_alike ds es (n + 1) ts us vs all h.1 k.1)

-- Any two suites that a text may be said to say, say the same.
pub say_same : (s : Scope) (items : List ItemForm) (one other : Suite) → IsSuite s items one → IsSuite s items other
    → SaySame one other
say_same s items one other h k =
    let cs = columns_of s items in
    let ones = one.booleans.items in
    let others = other.booleans.items in
    let all =
    all_read_paired ones others s cs (map (λ d. d.body) (declarations_of items)) h.bodies k.bodies h.read k.read
    in
    record {
      clock = h.clock ∙ sym k.clock;
      paths = same_paths s cs one.names.items h.signals ∙ sym (same_paths s cs other.names.items k.signals);
      widths = same_widths s cs one.names.items other.names.items h.signals k.signals;
      counters =
          λ signal_at place tick. same_counts s cs (counters_of items) one.counters.items other.counters.items
          h.counters k.counters signal_at tick place tick;
      assertions =
          all_alike s cs ones others h.bodies k.bodies 0 (assertions_of items) one.assertions.items
          other.assertions.items all h.assertions k.assertions;
    }
