-- What an assertion of a suite reads, also by way of counters, the assertion of the text reads.
use Rattle.std.proofs.Common.{◌≡◌, ℕ, zero, suc, ◌<◌, List, [], ◌∷◌, ◌++◌, map, length, Option, Some, None}
use Rattle.std.proofs.Common.{slice_get, get_or, refl, sym, ap, ◌∙◌, subst, arith, inl, inr}
use Rattle.std.specs.Prelude.{Contains}
use Rattle.std.specs.List.{AllByRecursion, flat_map}
use Rattle.std.proofs.lemmas.List.Elements.{All-from_recursion, All-contains, Contains-append_left}
use Rattle.std.proofs.lemmas.List.Elements.{Contains-append_right}
use Rattle.parser_grammar.specs.Trees.{Tree, CounterForm, AssertionForm, ItemForm}
use Rattle.expressions.specs.declared.name.Origin.{Origin}
use Rattle.expressions.specs.declared.name.Name.{Name}
use Rattle.expressions.specs.declared.expr.Expr.{Expr}
use Rattle.expressions.specs.declared.rule.Rule.{Rule}
use Rattle.expressions.specs.declared.counter.Counter.{Counter}
use Rattle.expressions.specs.Terms.{Term}
use Rattle.expressions.specs.Expressions.{term_of}
use Rattle.assertions.specs.declared.sequence.Boolean.{Boolean}
use Rattle.assertions.specs.declared.sequence.Boolean.TheVariants.{One, Listed}
use Rattle.assertions.specs.declared.assertion.Assertion.{Assertion}
use Rattle.assertions.specs.declared.suite.Suite.{Suite}
use Rattle.assertions.specs.Written as written
use Rattle.assertions.specs.Written.{Written}
use Rattle.assertions.specs.Listed.{IsUsed}
use Rattle.assertions.specs.Names.{expression_names, rule_names, counter_names}
use Rattle.assertions.specs.Reads.{names_of, IsRead, at_once, through, boolean_names}
use Rattle.types.specs.Drafts.{Draft, IsNumberIn}
use Rattle.types.specs.Outlines.{map_written}
use Rattle.types.specs.Leaves.{leaves}
use Rattle.types_names.specs.Scopes.{Scope}
use Rattle.types_names.specs.Columns.{signals, columns_of}
use Rattle.types_names.specs.Meanings.{Means}
use Rattle.types.specs.Texts.{declarations_of, counters_of}
use Rattle.types.specs.Readings.{IsBooleanOf, AllRead}
use Rattle.types.specs.Suites.{IsCondition, IsRule, IsCounter, AreCounters, IsDisablingPlace, IsAssertion}
use Rattle.compiler_laws.specs.WrittenOut.{Leaf, tree_bodies, antecedent_trees, consequent_trees, given}
use Rattle.compiler_laws.specs.WrittenOut.{AreWrittenOut, expressions_of, all_expressions}
use Rattle.compiler_laws.proofs.MeasureLaws.{leaves_map}
use Rattle.compiler_laws.proofs.LeafLaws.{Pair, first_of, second_of, IsLeafOf, ArePaired, bodies_paired}
use Rattle.compiler_laws.proofs.LeafLaws.{antecedent_paired, consequent_paired, SpellBoth, spelled_both}
use Rattle.laws_one_report.specs.ReadInText.{counters, both_of, clause_expressions, Matters, of_assertion}
use Rattle.laws_one_report.specs.ReadInText.{of_counter, ReadsSignal, ReadsCounter}
use Rattle.laws_one_report.proofs.NamedLaws.{all_two, IsFrom, IsNameFrom, AreFrom, TermFrom, means_from}

each_contained : {X : Type 0} (P : X → Type 0) (xs : List X) → ((x : X) → Contains xs x → P x) → AllByRecursion P xs
each_contained P [] f = tt
each_contained P (x ∷ xs) f =
    (f x (0, omega arith, refl), each_contained P xs (λ y c. f y (Contains-append_right (x ∷ []) xs y c)))

contained : {X : Type 0} (P : X → Type 0) (xs : List X) (x : X) → AllByRecursion P xs → Contains xs x → P x
contained P xs x h c = All-contains P xs x (All-from_recursion P xs h) c

none_there : {X : Type 0} (x : X) → Contains [] x → ⊥
none_there x c = omega (arith, c.1)

-- The boolean at a place is one of the expressions.
pub record PlaceTree (s : Scope) (cs : List (List ℕ)) (bs : List Expr) (trees : List Tree) (p : ℕ) : Type 0 where
  pub tree : Tree
  pub among : Contains trees tree
  pub atom : IsBooleanOf s cs bs tree (Listed p)

-- the declaration of a counter at a place
record FormAt (s : Scope) (cs : List (List ℕ)) (forms : List CounterForm) (place : ℕ) (m : Counter) :
    Type 0 where
  form : CounterForm
  is : slice_get forms place ≡ Some form
  made : IsCounter s cs form m

module _ (s : Scope) (cs : List (List ℕ)) where
  some_counter : (a b : Counter) → Some a ≡ Some b → a ≡ b
  some_counter a b h = cc

  counter_form : (forms : List CounterForm) (ms : List Counter) (place : ℕ) (m : Counter) →
      AreCounters s cs forms ms → slice_get ms place ≡ Some m → FormAt s cs forms place m
  counter_form [] [] place m h at = absurd cc
  counter_form [] (x ∷ ms) place m h at = elim h [ ]
  counter_form (c ∷ forms) [] place m h at = elim h [ ]
  counter_form (c ∷ forms) (x ∷ ms) zero m h at =
      record { form = c; is = refl; made = subst (IsCounter s cs c) (some_counter x m at) h.0 }
  counter_form (c ∷ forms) (x ∷ ms) (suc place) m h at =
      let r = counter_form forms ms place m h.1 at in
      record { form = r.form; is = r.is; made = r.made }

  module _ (bs : List Expr) where
    atom_found : (t : Tree) (p : ℕ) (h : IsBooleanOf s cs bs t (Listed p)) → slice_get bs p ≡ Some h.expression
    atom_found t p h =
        let is : Listed p ≡ Listed h.place = h.is in
        let same : p ≡ h.place = cc in
        subst (λ (k : ℕ). slice_get bs k ≡ Some h.expression) (sym same) h.found

    -- A boolean that is used of what is written out is one of its expressions.
    record UsedLeaf (z : Written (Pair s cs bs)) (p : ℕ) : Type 0 where
      leaf : Pair s cs bs
      among : Contains (leaves z) leaf
      is : Listed p ≡ leaf.first

    used_first : (z y x : Written (Pair s cs bs)) (p : ℕ) → leaves z ≡ leaves y ++ leaves x → UsedLeaf y p →
        UsedLeaf z p
    used_first z y x p e u = record {
      leaf = u.leaf;
      among =
          subst (λ (ls : List (Pair s cs bs)). Contains ls u.leaf) (sym e)
          (Contains-append_left (leaves y) (leaves x) u.leaf u.among);
      is = u.is;
    }

    used_second : (z y x : Written (Pair s cs bs)) (p : ℕ) → leaves z ≡ leaves y ++ leaves x → UsedLeaf x p →
        UsedLeaf z p
    used_second z y x p e u = record {
      leaf = u.leaf;
      among =
          subst (λ (ls : List (Pair s cs bs)). Contains ls u.leaf) (sym e)
          (Contains-append_right (leaves y) (leaves x) u.leaf u.among);
      is = u.is;
    }

    used_leaf : (z : Written (Pair s cs bs)) (p : ℕ) → IsUsed (Listed p) (map_written (first_of s cs bs) z) →
        UsedLeaf z p
    used_leaf (written.boolean x) p h = record { leaf = x; among = (0, omega arith, refl); is = h }
    used_leaf (written.delay y least most x) p h =
        elim h [
          | inl k ↦ used_first (written.delay y least most x) y x p refl (used_leaf y p k)
          | inr k ↦ used_second (written.delay y least most x) y x p refl (used_leaf x p k)
        ]
    used_leaf (written.lead least most x) p h =
        let u = used_leaf x p h in
        record { leaf = u.leaf; among = u.among; is = u.is }
    used_leaf (written.repeat x least most) p h =
        let u = used_leaf x p h in
        record { leaf = u.leaf; among = u.among; is = u.is }
    used_leaf (written.or y x) p h =
        elim h [
          | inl k ↦ used_first (written.or y x) y x p refl (used_leaf y p k)
          | inr k ↦ used_second (written.or y x) y x p refl (used_leaf x p k)
        ]
    used_leaf (written.and y x) p h =
        elim h [
          | inl k ↦ used_first (written.and y x) y x p refl (used_leaf y p k)
          | inr k ↦ used_second (written.and y x) y x p refl (used_leaf x p k)
        ]
    used_leaf (written.intersect y x) p h =
        elim h [
          | inl k ↦ used_first (written.intersect y x) y x p refl (used_leaf y p k)
          | inr k ↦ used_second (written.intersect y x) y x p refl (used_leaf x p k)
        ]
    used_leaf (written.throughout b x) p h =
        elim h [
          | inl k ↦ record { leaf = b; among = (0, omega arith, refl); is = k }
          | inr k ↦ used_second (written.throughout b x) (written.boolean b) x p refl (used_leaf x p k)
        ]

    -- the expression that a leaf has
    leaf_tree : (b : Boolean) (o : Leaf) (p : ℕ) → IsLeafOf s cs bs b o → Listed p ≡ b →
        PlaceTree s cs bs (given o) p
    leaf_tree One o p h is = absurd cc
    leaf_tree (Listed q) None p h is = elim h [ ]
    leaf_tree (Listed q) (Some t) p h is =
        let same : q ≡ p = cc in
        record {
          tree = t;
          among = (0, omega arith, refl);
          atom = subst (λ (k : ℕ). IsBooleanOf s cs bs t (Listed k)) same h;
        }

    wider_first : (ts us : List Tree) (p : ℕ) → PlaceTree s cs bs ts p → PlaceTree s cs bs (ts ++ us) p
    wider_first ts us p x =
        record { tree = x.tree; among = Contains-append_left ts us x.tree x.among; atom = x.atom }

    wider_second : (ts us : List Tree) (p : ℕ) → PlaceTree s cs bs us p → PlaceTree s cs bs (ts ++ us) p
    wider_second ts us p x =
        record { tree = x.tree; among = Contains-append_right ts us x.tree x.among; atom = x.atom }

    leaf_there : (zs : List (Pair s cs bs)) (k : ℕ) (z : Pair s cs bs) (p : ℕ) → k < length zs →
        get_or zs k z ≡ z → Listed p ≡ z.first →
        PlaceTree s cs bs (flat_map given (map (second_of s cs bs) zs)) p
    leaf_there [] k z p lt e is = absurd (omega (arith, lt))
    leaf_there (y ∷ zs) zero z p lt e is =
        wider_first (given y.second) (flat_map given (map (second_of s cs bs) zs)) p
        (leaf_tree y.first y.second p y.same (is ∙ ap (first_of s cs bs) (sym e)))
    leaf_there (y ∷ zs) (suc k) z p lt e is =
        wider_second (given y.second) (flat_map given (map (second_of s cs bs) zs)) p
        (leaf_there zs k z p (omega (arith, lt)) e is)

    side_tree : (z : Written (Pair s cs bs)) (w : Written Boolean) (p : ℕ) →
        map_written (first_of s cs bs) z ≡ w → IsUsed (Listed p) w →
        PlaceTree s cs bs (expressions_of (map_written (second_of s cs bs) z)) p
    side_tree z w p e h =
        let u = used_leaf z p (subst (λ (x : Written Boolean). IsUsed (Listed p) x) (sym e) h) in
        subst (λ (ls : List Leaf). PlaceTree s cs bs (flat_map given ls) p)
        (sym (leaves_map (second_of s cs bs) z))
        (leaf_there (leaves z) u.among.0 u.leaf p u.among.1 u.among.2 u.is)

    off_tree : (o : Option Tree) (p : ℕ) → IsDisablingPlace s cs bs o p → PlaceTree s cs bs (given o) p
    off_tree None p h = elim h [ ]
    off_tree (Some t) p h = record { tree = t; among = (0, omega arith, refl); atom = h }

-- The names of an expression that matters are read.
module _ (s : Scope) (cs : List (List ℕ)) (items : List ItemForm) (bs : List Expr) (trees : List Tree)
    (ms : List Counter) (counted : AreCounters s cs (counters_of items) ms) where
  abbrev IsReadPath : List ℕ → Type 0
  IsReadPath = ReadsSignal s items trees

  abbrev IsReadCounter : ℕ → Type 0
  IsReadCounter = ReadsCounter s items trees

  abbrev IsTextName : Name → Type 0
  IsTextName = IsNameFrom s cs IsReadPath IsReadCounter

  abbrev AreTextNames : List Name → Type 0
  AreTextNames = AreFrom s cs IsReadPath IsReadCounter

  tree_from : (t : Tree) → Matters s items trees t → (e : Term) → Means s cs t e →
      TermFrom s cs IsReadPath IsReadCounter e
  tree_from t l e m =
      means_from s cs IsReadPath IsReadCounter t e
      (each_contained IsReadPath (signals s t) (λ p c. record { tree = t; matters = l; named = c }))
      (each_contained IsReadCounter (counters s t) (λ p c. record { tree = t; matters = l; named = c })) m

  place_from : (p : ℕ) → PlaceTree s cs bs trees p → AreTextNames (expression_names (slice_get bs p))
  place_from p x =
      subst (λ (o : Option Expr). AreTextNames (expression_names o)) (sym (atom_found s cs bs x.tree p x.atom))
      (tree_from x.tree (of_assertion x.among) (term_of x.atom.expression) x.atom.means)

  list_from : (ps : List ℕ) → ((p : ℕ) → IsNumberIn p ps → PlaceTree s cs bs trees p) →
      AreTextNames (flat_map (λ place. expression_names (slice_get bs place)) ps)
  list_from [] f = tt
  list_from (p ∷ ps) f =
      all_two IsTextName (expression_names (slice_get bs p))
      (flat_map (λ place. expression_names (slice_get bs place)) ps) (place_from p (f p (inl refl)))
      (list_from ps (λ q i. f q (inr i)))

  condition_from : (o : Option Tree) (e : Option Expr) →
      ((t : Tree) → Contains (given o) t → Matters s items trees t) → IsCondition s cs o e →
      AreTextNames (expression_names e)
  condition_from None None f h = tt
  condition_from None (Some e) f h = elim h [ ]
  condition_from (Some t) None f h = elim h [ ]
  condition_from (Some t) (Some e) f h = tree_from t (f t (0, omega arith, refl)) (term_of e) h

  rule_from : (o : Option (Tree × Tree)) (r : Option Rule) →
      ((t : Tree) → Contains (both_of o) t → Matters s items trees t) → IsRule s cs o r →
      AreTextNames (rule_names r)
  rule_from None None f h = tt
  rule_from None (Some r) f h = elim h [ ]
  rule_from (Some pair) None f h = elim h [ ]
  rule_from (Some pair) (Some r) f h =
      all_two IsTextName (expression_names (Some r.when)) (expression_names (Some r.by))
      (tree_from pair.0 (f pair.0 (0, omega arith, refl)) (term_of r.when) h.0)
      (tree_from pair.1 (f pair.1 (1, omega arith, refl)) (term_of r.by) h.1)

  counter_from : (c : CounterForm) (m : Counter) → IsCounter s cs c m →
      ((t : Tree) → Contains (clause_expressions c) t → Matters s items trees t) →
      AreTextNames (counter_names m)
  counter_from c m h f =
      let clear = given c.clear in
      let load = both_of c.load in
      let add = both_of c.add in
      let sub = both_of c.sub in
      let behind_clear = λ (t : Tree) (k : Contains (load ++ (add ++ sub)) t).
      f t (Contains-append_right clear (load ++ (add ++ sub)) t k) in
      let behind_load = λ (t : Tree) (k : Contains (add ++ sub) t).
      behind_clear t (Contains-append_right load (add ++ sub) t k) in
      all_two IsTextName (expression_names m.clear) (rule_names m.load ++ (rule_names m.add ++ rule_names m.sub))
      (condition_from c.clear m.clear
      (λ t k. f t (Contains-append_left clear (load ++ (add ++ sub)) t k)) h.clear)
      (all_two IsTextName (rule_names m.load) (rule_names m.add ++ rule_names m.sub)
      (rule_from c.load m.load (λ t k. behind_clear t (Contains-append_left load (add ++ sub) t k)) h.load)
      (all_two IsTextName (rule_names m.add) (rule_names m.sub)
      (rule_from c.add m.add (λ t k. behind_load t (Contains-append_left add sub t k)) h.add)
      (rule_from c.sub m.sub (λ t k. behind_load t (Contains-append_right add sub t k)) h.sub)))

  found_from : (place : ℕ) (n : Name) (o : Option Counter) → slice_get ms place ≡ o → IsReadCounter place →
      Contains (names_of o) n → IsTextName n
  found_from place n None is r c = absurd (none_there n c)
  found_from place n (Some m) is r c =
      let d = counter_form s cs (counters_of items) ms place m counted is in
      contained IsTextName (counter_names m) n
      (counter_from d.form m d.made (λ t k. of_counter r.matters r.named d.is k)) c

  pub read_from : (names : List Name) → AreTextNames names → (n : Name) → IsRead names ms n → IsTextName n
  read_from names h n (at_once c) = contained IsTextName names n h c
  read_from names h n (through {counter} r is c) =
      found_from counter.place n (slice_get ms counter.place) refl
      (subst (λ (o : Origin). IsFrom s cs IsReadPath IsReadCounter o counter.place) is (read_from names h counter r)) c

-- An assertion of the text, with names written out, reads all that the suite's does.
pub record TextReads (s : Scope) (items : List ItemForm) (suite : Suite) (a : AssertionForm) (made : Assertion) :
    Type 0 where
  pub before : Written Leaf
  pub behind : Written Leaf
  pub out : AreWrittenOut s items a before behind
  pub reads : (n : Name) → IsRead (boolean_names suite made) suite.counters.items n →
      IsNameFrom s (columns_of s items) (ReadsSignal s items (all_expressions a before behind))
      (ReadsCounter s items (all_expressions a before behind)) n

module _ (suite : Suite) (s : Scope) (items : List ItemForm) (bodies : List (Draft Boolean))
    (counted : AreCounters s (columns_of s items) (counters_of items) suite.counters.items)
    (read : AllRead s (columns_of s items) suite.booleans.items (map (λ d. d.body) (declarations_of items)) bodies)
    (n : ℕ) (a : AssertionForm) (made : Assertion)
    (h : IsAssertion s (columns_of s items) suite.booleans.items bodies n a made) where
  abbrev cs : List (List ℕ)
  cs = columns_of s items

  abbrev bs : List Expr
  bs = suite.booleans.items

  paired : ArePaired s cs bs bodies (tree_bodies s items)
  paired = bodies_paired s cs bs (declarations_of items) bodies read

  before_both : SpellBoth s cs bs (tree_bodies s items) (antecedent_trees s a.property) h.antecedent_meant.meant
  before_both =
      spelled_both s cs bs bodies (tree_bodies s items) h.antecedent (antecedent_trees s a.property)
      h.antecedent_meant.meant paired (antecedent_paired s cs bs a.property h.antecedent h.reads_antecedent)
      h.antecedent_meant.spells

  behind_both : SpellBoth s cs bs (tree_bodies s items) (consequent_trees s a.property) h.consequent_meant.meant
  behind_both =
      spelled_both s cs bs bodies (tree_bodies s items) h.consequent (consequent_trees s a.property)
      h.consequent_meant.meant paired (consequent_paired s cs bs a.property h.consequent h.reads_consequent)
      h.consequent_meant.spells

  -- All that follows is of any two such.
  module _
      (v : SpellBoth s cs bs (tree_bodies s items) (antecedent_trees s a.property) h.antecedent_meant.meant)
      (w : SpellBoth s cs bs (tree_bodies s items) (consequent_trees s a.property) h.consequent_meant.meant) where
    abbrev before : Written Leaf
    before = map_written (second_of s cs bs) v.both

    abbrev behind : Written Leaf
    behind = map_written (second_of s cs bs) w.both

    place_tree : (p : ℕ) → IsNumberIn p made.booleans.items → PlaceTree s cs bs (all_expressions a before behind) p
    place_tree p i =
        let rest = expressions_of behind ++ given a.disable in
        elim (h.used p i) [
          | inl u ↦
              wider_first s cs bs (expressions_of before) rest p
              (side_tree s cs bs v.both h.antecedent_meant.meant p v.first u)
          | inr (inl u) ↦
              wider_second s cs bs (expressions_of before) rest p
              (wider_first s cs bs (expressions_of behind) (given a.disable) p
              (side_tree s cs bs w.both h.consequent_meant.meant p w.first u))
          | inr (inr u) ↦
              wider_second s cs bs (expressions_of before) rest p
              (wider_second s cs bs (expressions_of behind) (given a.disable) p (off_tree s cs bs a.disable p u))
        ]

    both_read : TextReads s items suite a made
    both_read = record {
      before = before;
      behind = behind;
      out = record { antecedent = v.second; consequent = w.second };
      reads =
          read_from s cs items bs (all_expressions a before behind) suite.counters.items counted
          (boolean_names suite made)
          (list_from s cs items bs (all_expressions a before behind) suite.counters.items counted
          made.booleans.items place_tree);
    }

  pub text_reads : TextReads s items suite a made
  text_reads = both_read before_both behind_both
