-- A suite of a text is one of the text with moved tokens.
use Rattle.std.proofs.Common.{◌≡◌, inl, inr, ℕ, ◌+◌, List, [], ◌∷◌, ◌++◌, map, Option, Some, None, refl, sym, ap, ◌∙◌}
use Rattle.std.proofs.Common.{subst}
use Rattle.lexer.specs.declared.token.Token.{Token}
use Rattle.parser_grammar.specs.Trees as trees
use Rattle.parser_grammar.specs.Trees.{Tree, PropertyForm, plain, implication, ItemForm, counter, declaration}
use Rattle.parser_grammar.specs.Trees.{assertion}
use Rattle.expressions.specs.declared.expr.Expr.{Expr}
use Rattle.expressions.specs.declared.rule.Rule.{Rule}
use Rattle.expressions.specs.declared.counter.Counter.{Counter}
use Rattle.expressions.specs.Expressions.{term_of}
use Rattle.assertions.specs.declared.sequence.Boolean.{Boolean}
use Rattle.assertions.specs.declared.sequence.Boolean.TheVariants.{Listed}
use Rattle.assertions.specs.Written.{Written}
use Rattle.assertions.specs.declared.assertion.Assertion.{Assertion}
use Rattle.assertions.specs.declared.suite.Suite.{Suite}
use Rattle.types.specs.Drafts.{Draft}
use Rattle.types_names.specs.declared.own.Own.{Own}
use Rattle.types_names.specs.declared.own.Own.TheVariants as own
use Rattle.types_names.specs.Scopes.{Scope, width_in, owns_from}
use Rattle.types_names.specs.Columns.{signals, sequence_signals, property_signals, optional_signals}
use Rattle.types_names.specs.Columns.{clause_signals, item_signals, file_signals, with_paths, columns_of}
use Rattle.types.specs.Texts.{label_text, declarations_of, counters_of, assertions_of, suite_clock}
use Rattle.types.specs.Readings.{AllRead}
use Rattle.types.specs.Suites.{AreSignals, IsCondition, IsRule, IsCounter, AreCounters, ReadsAntecedent}
use Rattle.types.specs.Suites.{ReadsConsequent, IsDisabling, IsDisabledBy, IsDisablingPlace, IsUsedPlace}
use Rattle.types.specs.Suites.{IsAssertion}
use Rattle.types.specs.Suites.{AreAssertions, IsSuite, first_by}
use Rattle.laws_one_report.proofs.MovedTrees.{moved_option, moved_tree, moved_sequence, moved_property, moved_condition}
use Rattle.laws_one_report.proofs.MovedTrees.{moved_rule, moved_counter, moved_assertion, moved_item}
use Rattle.laws_one_report.proofs.MovedReadings.{path_text-moved, both_same, signals-moved, sequence_signals-moved}
use Rattle.laws_one_report.proofs.MovedReadings.{means-moved, atom-moved, reads-moved}

module _ (lies : ℕ → ℕ × ℕ) where
  -- names
  pub owns-moved : (c n : ℕ) (items : List ItemForm) → owns_from c n (map (moved_item lies) items) ≡ owns_from c n items
  owns-moved c n [] = refl
  owns-moved c n (counter x ∷ items) =
      ap (λ (os : List (List ℕ × Own)). (x.name.text.now, own.Counter c (width_in x.width.value)) ∷ os)
      (owns-moved (c + 1) n items)
  owns-moved c n (declaration x ∷ items) =
      ap (λ (os : List (List ℕ × Own)). (x.name.text.now, own.Sequence n) ∷ os) (owns-moved c (n + 1) items)
  owns-moved c n (assertion x ∷ items) = owns-moved c n items

  pub label-moved : (n : ℕ) (o : Option Token) → label_text n (moved_option lies o) ≡ label_text n o
  label-moved n None = refl
  label-moved n (Some t) = refl

  pub clock-moved : (items : List ItemForm) → suite_clock (assertions_of (map (moved_item lies) items))
      ≡ suite_clock (assertions_of items)
  clock-moved [] = refl
  clock-moved (counter x ∷ items) = clock-moved items
  clock-moved (declaration x ∷ items) = clock-moved items
  clock-moved (assertion x ∷ items) = path_text-moved lies x.clock

  module _ (s : Scope) where
    -- columns
    optional-moved : (o : Option Tree) → optional_signals s (moved_condition lies o) ≡ optional_signals s o
    optional-moved None = refl
    optional-moved (Some e) = signals-moved lies s e

    clause-moved : (o : Option (Tree × Tree)) → clause_signals s (moved_rule lies o) ≡ clause_signals s o
    clause-moved None = refl
    clause-moved (Some p) =
        both_same (signals s (moved_tree lies p.0)) (signals s p.0) (signals s (moved_tree lies p.1)) (signals s p.1)
        (signals-moved lies s p.0) (signals-moved lies s p.1)

    property-moved : (p : PropertyForm) → property_signals s (moved_property lies p) ≡ property_signals s p
    property-moved (plain q) = sequence_signals-moved lies s q
    property-moved (implication word a t c) =
        both_same (sequence_signals s (moved_sequence lies a)) (sequence_signals s a)
        (sequence_signals s (moved_sequence lies c)) (sequence_signals s c) (sequence_signals-moved lies s a)
        (sequence_signals-moved lies s c)

    item-moved : (i : ItemForm) → item_signals s (moved_item lies i) ≡ item_signals s i
    item-moved (counter c) =
        both_same _ (optional_signals s c.clear) _
        (clause_signals s c.load ++ (clause_signals s c.add ++ clause_signals s c.sub)) (optional-moved c.clear)
        (both_same _ (clause_signals s c.load) _ (clause_signals s c.add ++ clause_signals s c.sub)
        (clause-moved c.load)
        (both_same _ (clause_signals s c.add) _ (clause_signals s c.sub) (clause-moved c.add) (clause-moved c.sub)))
    item-moved (declaration d) = sequence_signals-moved lies s d.body
    item-moved (assertion a) =
        both_same _ (optional_signals s a.disable) _ (property_signals s a.property) (optional-moved a.disable)
        (property-moved a.property)

    file-moved : (items : List ItemForm) → file_signals s (map (moved_item lies) items) ≡ file_signals s items
    file-moved [] = refl
    file-moved (i ∷ items) =
        both_same (item_signals s (moved_item lies i)) (item_signals s i)
        (file_signals s (map (moved_item lies) items)) (file_signals s items) (item-moved i) (file-moved items)

    pub columns-moved : (items : List ItemForm) → columns_of s (map (moved_item lies) items) ≡ columns_of s items
    columns-moved items = ap (with_paths []) (file-moved items)

    module _ (cs : List (List ℕ)) where
      -- counters
      condition-moved : (o : Option Tree) (m : Option Expr) → IsCondition s cs o m
          → IsCondition s cs (moved_condition lies o) m
      condition-moved None None h = h
      condition-moved None (Some e) h = h
      condition-moved (Some t) None h = h
      condition-moved (Some t) (Some e) h = means-moved lies s cs t (term_of e) h

      rule-moved : (o : Option (Tree × Tree)) (m : Option Rule) → IsRule s cs o m → IsRule s cs (moved_rule lies o) m
      rule-moved None None h = h
      rule-moved None (Some e) h = h
      rule-moved (Some p) None h = h
      rule-moved (Some p) (Some r) h =
          (means-moved lies s cs p.0 (term_of r.when) h.0, means-moved lies s cs p.1 (term_of r.by) h.1)

      counter-moved : (c : trees.CounterForm) (m : Counter) → IsCounter s cs c m
          → IsCounter s cs (moved_counter lies c) m
      counter-moved c m h = record {
        width = h.width;
        clear = condition-moved c.clear m.clear h.clear;
        load = rule-moved c.load m.load h.load;
        add = rule-moved c.add m.add h.add;
        sub = rule-moved c.sub m.sub h.sub;
      }

      counters-moved : (items : List ItemForm) (ms : List Counter) → AreCounters s cs (counters_of items) ms
          → AreCounters s cs (counters_of (map (moved_item lies) items)) ms
      counters-moved [] ms h = h
      counters-moved (counter c ∷ items) [] h = h
      counters-moved (counter c ∷ items) (m ∷ ms) h = (counter-moved c m h.0, counters-moved items ms h.1)
      counters-moved (declaration d ∷ items) ms h = counters-moved items ms h
      counters-moved (assertion a ∷ items) ms h = counters-moved items ms h

      module _ (bs : List Expr) where
        -- named sequences
        read-moved : (items : List ItemForm) (ds : List (Draft Boolean))
            → AllRead s cs bs (map (λ d. d.body) (declarations_of items)) ds
            → AllRead s cs bs (map (λ d. d.body) (declarations_of (map (moved_item lies) items))) ds
        read-moved [] ds h = h
        read-moved (counter c ∷ items) ds h = read-moved items ds h
        read-moved (declaration d ∷ items) [] h = h
        read-moved (declaration d ∷ items) (e ∷ ds) h = (reads-moved lies s cs bs d.body e h.0, read-moved items ds h.1)
        read-moved (assertion a ∷ items) ds h = read-moved items ds h

        -- assertions
        antecedent-moved : (p : PropertyForm) (d : Draft Boolean) → ReadsAntecedent s cs bs p d
            → ReadsAntecedent s cs bs (moved_property lies p) d
        antecedent-moved (plain q) d h = h
        antecedent-moved (implication word a t c) d h = (h.0, reads-moved lies s cs bs a h.0 h.1, h.2)

        first-moved : (p : PropertyForm) → first_by (moved_property lies p) ≡ first_by p
        first-moved (plain q) = refl
        first-moved (implication None a t c) = refl
        first-moved (implication (Some word) a t c) = refl

        consequent-moved : (p : PropertyForm) (d : Draft Boolean) → ReadsConsequent s cs bs p d
            → ReadsConsequent s cs bs (moved_property lies p) d
        consequent-moved (plain q) d h = reads-moved lies s cs bs q d h
        consequent-moved (implication word a t c) d h = reads-moved lies s cs bs c d h

        disabling-moved : (places : List ℕ) (o : Option Tree) (b : Option Boolean) → IsDisabling s cs bs places o b
            → IsDisabling s cs bs places (moved_condition lies o) b
        disabling-moved places None None h = h
        disabling-moved places None (Some b) h = h
        disabling-moved places (Some t) None h = h
        disabling-moved places (Some t) (Some b) h =
            (h.0, atom-moved lies s cs bs t h.0 h.1, h.2, h.3)

        place-moved : (o : Option Tree) (p : ℕ) → IsDisablingPlace s cs bs o p →
            IsDisablingPlace s cs bs (moved_condition lies o) p
        place-moved None p h = h
        place-moved (Some t) p h = atom-moved lies s cs bs t (Listed p) h

        disabled-moved : (o : Option Tree) (off : Option ℕ) → IsDisabledBy s cs bs o off →
            IsDisabledBy s cs bs (moved_condition lies o) off
        disabled-moved None None h = h
        disabled-moved None (Some p) h = h
        disabled-moved (Some t) None h = h
        disabled-moved (Some t) (Some p) h = atom-moved lies s cs bs t (Listed p) h

        used-moved : (o : Option Tree) (v w : Written Boolean) (p : ℕ) →
            IsUsedPlace s cs bs o v w p → IsUsedPlace s cs bs (moved_condition lies o) v w p
        used-moved o v w p (inl u) = inl u
        used-moved o v w p (inr (inl u)) = inr (inl u)
        used-moved o v w p (inr (inr h)) = inr (inr (place-moved o p h))

        assertion-moved : (bodies : List (Draft Boolean)) (n : ℕ) (a : trees.AssertionForm) (m : Assertion)
            → IsAssertion s cs bs bodies n a m → IsAssertion s cs bs bodies n (moved_assertion lies a) m
        assertion-moved bodies n a m h = record {
          antecedent = h.antecedent;
          consequent = h.consequent;
          name = h.name ∙ sym (label-moved n a.label);
          first = h.first ∙ sym (first-moved a.property);
          reads_antecedent = antecedent-moved a.property h.antecedent h.reads_antecedent;
          reads_consequent = consequent-moved a.property h.consequent h.reads_consequent;
          antecedent_meant = h.antecedent_meant;
          consequent_meant = h.consequent_meant;
          disabling = disabling-moved m.booleans.items a.disable m.disabling h.disabling;
          used = λ p i.
              used-moved a.disable h.antecedent_meant.meant h.consequent_meant.meant p (h.used p i);
          off = h.off;
          disabled = disabled-moved a.disable h.off h.disabled;
          list = h.list;
        }

        assertions-moved : (bodies : List (Draft Boolean)) (n : ℕ) (items : List ItemForm) (ms : List Assertion)
            → AreAssertions s cs bs bodies n (assertions_of items) ms
            → AreAssertions s cs bs bodies n (assertions_of (map (moved_item lies) items)) ms
        assertions-moved bodies n [] ms h = h
        assertions-moved bodies n (counter c ∷ items) ms h = assertions-moved bodies n items ms h
        assertions-moved bodies n (declaration d ∷ items) ms h = assertions-moved bodies n items ms h
        assertions-moved bodies n (assertion a ∷ items) [] h = h
        assertions-moved bodies n (assertion a ∷ items) (m ∷ ms) h =
            (assertion-moved bodies n a m h.0, assertions-moved bodies (n + 1) items ms h.1)

    pub suite-moved : (items : List ItemForm) (suite : Suite) → IsSuite s items suite
        → IsSuite s (map (moved_item lies) items) suite
    suite-moved items suite h =
        let cs = columns_of s items in
        let bs = suite.booleans.items in
        let same = sym (columns-moved items) in
        record {
          bodies = h.bodies;
          clock = h.clock ∙ sym (clock-moved items);
          signals = subst (λ (c : List (List ℕ)). AreSignals s c suite.names.items) same h.signals;
          counters =
              subst (λ (c : List (List ℕ)). AreCounters s c (counters_of (map (moved_item lies) items))
              suite.counters.items) same (counters-moved cs items suite.counters.items h.counters);
          read =
              subst (λ (c : List (List ℕ)). AllRead s c bs
              (map (λ d. d.body) (declarations_of (map (moved_item lies) items))) h.bodies) same
              (read-moved cs bs items h.bodies h.read);
          assertions =
              subst (λ (c : List (List ℕ)). AreAssertions s c bs h.bodies 0
              (assertions_of (map (moved_item lies) items)) suite.assertions.items) same
              (assertions-moved cs bs h.bodies 0 items suite.assertions.items h.assertions);
        }
