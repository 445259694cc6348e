-- Each assertion of a suite of a text keeps to what the compiler takes for granted.
use Rattle.std.proofs.Common.{◌≡◌, inl, inr, ℕ, ◌+◌, List, [], ◌∷◌, ◌++◌, map, Option, Some, None}
use Rattle.std.proofs.Common.{Bool, true, false, IsTrue, if◌then◌else◌, length, refl, sym, ◌∙◌}
use Rattle.std.proofs.Common.{subst, string_bytes}
use Rattle.std.specs.List.{AllByRecursion}
use Rattle.std.proofs.lemmas.List.{append_assoc}
use Rattle.lexer.specs.declared.token.Token.{Token}
use Rattle.parser_grammar.specs.Trees as trees
use Rattle.parser_grammar.specs.Trees.{Tree, ItemForm, counter, declaration, assertion}
use Rattle.parser_grammar.specs.Files.{HasAssertion}
use Rattle.expressions.specs.declared.expr.Expr.{Expr}
use Rattle.expressions.specs.declared.rule.Rule.{Rule}
use Rattle.expressions.specs.declared.counter.Counter as counters
use Rattle.expressions.specs.Expressions.{term_of}
use Rattle.expressions.specs.Terms.{Term}
use Rattle.assertions.specs.declared.sequence.Boolean.{Boolean}
use Rattle.assertions.specs.declared.sequence.Boolean.TheVariants.{One, Listed}
use Rattle.assertions.specs.declared.signal.Signal.{Signal}
use Rattle.assertions.specs.declared.assertion.Assertion.{Assertion}
use Rattle.assertions.specs.declared.suite.Suite.{Suite}
use Rattle.assertions.specs.Listed.{IsListedOption}
use Rattle.bytecode_programs.specs.Texts as texts
use Rattle.compiler.specs.Samples.{clear_terms, rule_terms}
use Rattle.compiler.proofs.NarrowLaws.{expression-narrow}
use Rattle.types.specs.Drafts.{Draft, IsNumberIn}
use Rattle.types.proofs.UsedLaws.{each_used}
use Rattle.types_names.specs.declared.own.Own.TheVariants as own
use Rattle.types_names.specs.Scopes.{Scope}
use Rattle.types_names.specs.Asked.{scope_for}
use Rattle.types_names.specs.Columns.{is_listed, with_path, with_paths, columns_of}
use Rattle.types_names.specs.Columns.{file_signals}
use Rattle.types_names.specs.Meanings.{Means}
use Rattle.types.specs.Texts.{declarations_of, counters_of, assertions_of, suite_clock}
use Rattle.types.specs.Texts.{label_text}
use Rattle.types.specs.Readings.{IsBooleanOf, AllRead}
use Rattle.types.specs.Suites.{AreSignals, IsCondition, IsRule, AreCounters, IsDisabling}
use Rattle.types.specs.Suites.{IsDisablingPlace, IsAssertion, AreAssertions}
use Rattle.types.specs.Faults.{IsFaultless}
use Rattle.compiler.specs.Conditions.{IsKnownTerm, IsKnownAt, CountsByKnown, IsSoundSuite, ListsItsBooleans}
use Rattle.compiler.specs.Conditions.{IsProper, FitsSuite}
use Rattle.compiler_laws.specs.TextTrees.{OfOne, OfTwo, OfAssertion, EachTree}
use Rattle.compiler_laws.specs.Depths.{MeansShallow, TextsAreShallow}
use Rattle.compiler_laws.specs.SuiteLaws.{SuitesFit}
use Rattle.compiler_laws.proofs.WordLaws.{made_word, tokens_worded}
use Rattle.compiler_laws.proofs.PathLaws.{IsPathText, ArePaths, both, IsLabelWord, IsSpoken}
use Rattle.compiler_laws.proofs.PathLaws.{file_paths}
use Rattle.compiler_laws.proofs.NameLaws.{DeclaredCounter, declared_counter, means_named}
use Rattle.compiler_laws.proofs.KnownLaws.{spells_each, bodies_each, antecedent_each, consequent_each}
use Rattle.compiler_laws.proofs.EmptyLaws.{never_empty, never_led}

-- The columns of a text are paths.
path_kept : (known : List (List ℕ)) (p : List ℕ) (b : Bool) → ArePaths known → IsPathText p →
    ArePaths (if b then known else known ++ p ∷ [])
path_kept known p true h g = h
path_kept known p false h g = both known (p ∷ []) h (g, tt)

paths_kept : (known ps : List (List ℕ)) → ArePaths known → ArePaths ps →
    ArePaths (with_paths known ps)
paths_kept known [] h g = h
paths_kept known (p ∷ ps) h g =
    paths_kept (with_path known p) ps (path_kept known p (is_listed known p) h g.0) g.1

signal_paths : (s : Scope) (cs : List (List ℕ)) (xs : List Signal) → ArePaths cs →
    AreSignals s cs xs → AllByRecursion (λ x. IsPathText (string_bytes x.path)) xs
signal_paths s [] [] h g = tt
signal_paths s [] (x ∷ xs) h g = elim g [ ]
signal_paths s (c ∷ cs) [] h g = elim g [ ]
signal_paths s (c ∷ cs) (x ∷ xs) h g =
    (subst IsPathText (sym g.0.0) h.0, signal_paths s cs xs h.1 g.1)

clock_path : (items : List ItemForm) → HasAssertion items →
    AllByRecursion IsSpoken (assertions_of items) → IsPathText (suite_clock (assertions_of items))
clock_path [] has h = elim has [ ]
clock_path (counter c ∷ items) has h = clock_path items has h
clock_path (declaration d ∷ items) has h = clock_path items has h
clock_path (assertion a ∷ items) has h = h.0.clock

label_named : (n : ℕ) (o : Option Token) → IsLabelWord o → IsTrue (texts.is_word (label_text n o))
label_named n None h = made_word (n + 1)
label_named n (Some t) h = h

assertions_all : (Q : Tree → Type 0) (items : List ItemForm) → EachTree Q items →
    AllByRecursion (OfAssertion Q) (assertions_of items)
assertions_all Q [] h = tt
assertions_all Q (counter c ∷ items) h = assertions_all Q items h.1
assertions_all Q (declaration d ∷ items) h = assertions_all Q items h.1
assertions_all Q (assertion a ∷ items) h = (h.0, assertions_all Q items h.1)

all_in : (R : ℕ → Type 0) (xs : List ℕ) → ((p : ℕ) → IsNumberIn p xs → R p) → AllByRecursion R xs
all_in R [] f = tt
all_in R (x ∷ xs) f = (f x (inl refl), all_in R xs (λ p i. f p (inr i)))

all_both : (P : Term → Type 0) (xs ys : List Term) → AllByRecursion P xs → AllByRecursion P ys →
    AllByRecursion P (xs ++ ys)
all_both P [] ys h g = g
all_both P (x ∷ xs) ys h g = (h.0, all_both P xs ys h.1 g)

module _
    (suite : Suite)
    (s : Scope)
    (cs : List (List ℕ))
    (signals : AreSignals s cs suite.names.items)
    (owned : (p : List ℕ) (place width : ℕ) → s.own p ≡ Some (own.Counter place width) →
    DeclaredCounter suite.counters.items 0 place width) where
  abbrev Shallow : Tree → Type 0
  Shallow t = MeansShallow s cs t

  known : (t : Tree) (e : Expr) → Shallow t → Means s cs t (term_of e) → IsKnownTerm suite (term_of e)
  known t e q m =
      let low = q (term_of e) m in
      record {
        names = means_named s cs suite signals owned t (term_of e) m;
        narrow = expression-narrow e;
        near = low.near;
        shallow = low.shallow;
      }

  -- counters
  condition_known : (o : Option Tree) (m : Option Expr) → OfOne Shallow o → IsCondition s cs o m →
      AllByRecursion (IsKnownTerm suite) (clear_terms m)
  condition_known None None q h = tt
  condition_known None (Some e) q h = elim h [ ]
  condition_known (Some t) None q h = elim h [ ]
  condition_known (Some t) (Some e) q h = (known t e q h, tt)

  rule_known : (o : Option (Tree × Tree)) (m : Option Rule) → OfTwo Shallow o → IsRule s cs o m →
      AllByRecursion (IsKnownTerm suite) (rule_terms m)
  rule_known None None q h = tt
  rule_known None (Some r) q h = elim h [ ]
  rule_known (Some p) None q h = elim h [ ]
  rule_known (Some p) (Some r) q h = (known p.0 r.when q.0 h.0, (known p.1 r.by q.1 h.1, tt))

  counters_known : (items : List ItemForm) (ms : List counters.Counter) → EachTree Shallow items →
      AreCounters s cs (counters_of items) ms → AllByRecursion (CountsByKnown suite) ms
  counters_known [] [] q h = tt
  counters_known [] (m ∷ ms) q h = elim h [ ]
  counters_known (counter c ∷ items) [] q h = elim h [ ]
  counters_known (counter c ∷ items) (m ∷ ms) q h =
      let clear = condition_known c.clear m.clear q.0.clear h.0.clear in
      let load = rule_known c.load m.load q.0.load h.0.load in
      let add = rule_known c.add m.add q.0.add h.0.add in
      let sub = rule_known c.sub m.sub q.0.sub h.0.sub in
      let P = IsKnownTerm suite in
      let one = clear_terms m.clear in
      let two = rule_terms m.load in
      let three = rule_terms m.add in (
        all_both P ((one ++ two) ++ three) (rule_terms m.sub)
            (all_both P (one ++ two) three (all_both P one two clear load) add) sub,
        counters_known items ms q.1 h.1,
      )
  counters_known (declaration d ∷ items) ms q h = counters_known items ms q.1 h
  counters_known (assertion a ∷ items) ms q h = counters_known items ms q.1 h

  -- booleans
  abbrev IsKnownBoolean : Boolean → Type 0
  IsKnownBoolean One = Unit {0}
  IsKnownBoolean (Listed p) = IsKnownAt suite p

  atom_known : (t : Tree) (b : Boolean) → Shallow t → IsBooleanOf s cs suite.booleans.items t b →
      IsKnownBoolean b
  atom_known t b q h =
      subst IsKnownBoolean (sym h.is)
      (record {
        expression = h.expression;
        found = h.found;
        known = known t h.expression q h.means;
      })

  disabling_known : (o : Option Tree) (p : ℕ) → OfOne Shallow o →
      IsDisablingPlace s cs suite.booleans.items o p → IsKnownAt suite p
  disabling_known None p q h = elim h [ ]
  disabling_known (Some t) p q h = atom_known t (Listed p) q h

  disabling_listed : (places : List ℕ) (o : Option Tree) (b : Option Boolean) →
      IsDisabling s cs suite.booleans.items places o b → IsListedOption (length places) b
  disabling_listed places None None h = tt
  disabling_listed places None (Some b) h = elim h [ ]
  disabling_listed places (Some t) None h = elim h [ ]
  disabling_listed places (Some t) (Some b) h = h.3

  module _
      (items : List ItemForm)
      (bodies : List (Draft Boolean))
      (shallow : EachTree Shallow items)
      (read :
      AllRead s cs suite.booleans.items (map (λ d. d.body) (declarations_of items)) bodies) where
    place_known : (n : ℕ) (a : trees.AssertionForm) (made : Assertion) → OfAssertion Shallow a →
        IsAssertion s cs suite.booleans.items bodies n a made → (p : ℕ) →
        IsNumberIn p made.booleans.items → IsKnownAt suite p
    place_known n a made q h p i =
        let bs = suite.booleans.items in
        let all = bodies_each IsKnownBoolean s cs bs Shallow atom_known items bodies shallow read in
        let first = antecedent_each IsKnownBoolean s cs bs Shallow atom_known a.property
        h.antecedent tt q.property h.reads_antecedent in
        let second = consequent_each IsKnownBoolean s cs bs Shallow atom_known a.property
        h.consequent q.property h.reads_consequent in
        let v = h.antecedent_meant.meant in
        let w = h.consequent_meant.meant in
        elim (h.used p i) [
          | inl u ↦ each_used IsKnownBoolean (Listed p) v
              (spells_each IsKnownBoolean bodies all h.antecedent v first
              h.antecedent_meant.spells) u
          | inr x ↦ elim x [
            | inl u ↦ each_used IsKnownBoolean (Listed p) w
                (spells_each IsKnownBoolean bodies all h.consequent w second
                h.consequent_meant.spells) u
            | inr off ↦ disabling_known a.disable p q.disable off
          ]
        ]

    assertions_fit : IsFaultless s items → IsSoundSuite suite → (before : List trees.AssertionForm)
        (n : ℕ) (more : List trees.AssertionForm) (ms : List Assertion) →
        assertions_of items ≡ before ++ more → AllByRecursion (OfAssertion Shallow) more →
        AllByRecursion IsSpoken more →
        AreAssertions s cs suite.booleans.items bodies n more ms → AllByRecursion (FitsSuite suite) ms
    assertions_fit faultless sound before n [] [] is q spoken h = tt
    assertions_fit faultless sound before n [] (m ∷ ms) is q spoken h = elim h [ ]
    assertions_fit faultless sound before n (a ∷ more) [] is q spoken h = elim h [ ]
    assertions_fit faultless sound before n (a ∷ more) (m ∷ ms) is q spoken h =
        let one = h.0 in
        let placed : ListsItsBooleans suite m =
        record {
          booleans = all_in (IsKnownAt suite) m.booleans.items (place_known n a m q.0 one);
          antecedent = one.antecedent_meant.listed;
          consequent = one.consequent_meant.listed;
          disabling = disabling_listed m.booleans.items a.disable m.disabling one.disabling;
        } in
        let proper : IsProper m =
        record {
          name =
              subst (λ (t : List ℕ). IsTrue (texts.is_word t)) (sym one.name)
              (label_named n a.label spoken.0.label);
          filled = never_empty s cs suite.booleans.items items bodies before a more m one.consequent
              faultless is read one.reads_consequent one.consequent_meant;
          led = λ on.
              never_led s cs suite.booleans.items items bodies before a more m one.antecedent
              faultless is read one.reads_antecedent one.antecedent_meant (sym one.first ∙ on);
        } in (
          record { sound = sound; placed = placed; proper = proper },
          assertions_fit faultless sound (before ++ a ∷ []) (n + 1) more ms
              (is ∙ sym (append_assoc before (a ∷ []) more)) q.1 spoken.1 h.1,
        )

-- The suite of a text.
pub suites-fit : TextsAreShallow → SuitesFit
suites-fit law widths text suite x =
    let items = x.items in
    let s = scope_for items widths in
    let cs = columns_of s items in
    let h = x.says in
    let spoken = file_paths s items x.tokens x.spelled (tokens_worded text x.tokens x.cut) in
    let shallow = law s cs items x.tokens x.spelled in
    let owned : (p : List ℕ) (place width : ℕ) → s.own p ≡ Some (own.Counter place width) →
    DeclaredCounter suite.counters.items 0 place width =
    λ p place width is.
    declared_counter s cs items suite.counters.items p 0 0 place width h.counters is in
    let sound : IsSoundSuite suite =
    record {
      clock = subst IsPathText (sym h.clock) (clock_path items x.spelled.asserts spoken.1);
      signals =
          signal_paths s cs suite.names.items
          (paths_kept [] (file_signals s items) tt spoken.0) h.signals;
      counters =
          counters_known suite s cs h.signals owned items suite.counters.items shallow
          h.counters;
    } in
    assertions_fit suite s cs h.signals owned items h.bodies shallow h.read x.faultless sound []
    0 (assertions_of items) suite.assertions.items refl
    (assertions_all (MeansShallow s cs) items shallow) spoken.1 h.assertions
