-- The places whose marks say that an assertion reads them are exactly those that it reads.
use Rattle.std.proofs.Common.{◌≡◌, ◌∙◌, ℕ, zero, suc, ◌+◌, ◌-◌, ◌<◌, ◌≤◌, Bool, true, false, List, [], ◌∷◌, ◌++◌}
use Rattle.std.proofs.Common.{length, map, Option, Some, None, slice_get, refl, ap, sym, subst, arith, get_or}
use Rattle.std.specs.Prelude.{Contains, AllPairs}
use Rattle.std.specs.List.{AllByRecursion, flat_map}
use Rattle.std.proofs.lemmas.List.Elements.{All-contains, All-from_recursion}
use Rattle.std.proofs.lemmas.Option.{slice_get_within, slice_get-get_or, get_or_from_slice_get}
use Rattle.expressions.specs.declared.name.Origin.{Origin}
use Rattle.expressions.specs.declared.name.Origin.TheVariants.{Signal, Counter as FromCounter}
use Rattle.expressions.specs.declared.name.Name.{Name}
use Rattle.expressions.specs.declared.expr.Expr.{Expr}
use Rattle.expressions.specs.declared.rule.Rule.{Rule}
use Rattle.expressions.specs.declared.counter.Counter.{Counter}
use Rattle.expressions.specs.Terms.{Term, constant, named, slice, group, concat, inverse, reduce}
use Rattle.expressions.specs.Terms.{combine, shift, compare, connect, choose, past, change}
use Rattle.expressions.specs.Expressions.{term_of}
use Rattle.assertions.specs.declared.assertion.Assertion.{Assertion}
use Rattle.assertions.specs.declared.suite.Suite.{Suite}
use Rattle.assertions.specs.Names.{names_in, expression_names, rule_names, counter_names}
use Rattle.assertions.specs.Reads.{IsRead, at_once, through, names_of, boolean_names, Reads}
use Rattle.assertions.specs.Marks.{IsAmong, AreMarks, places_from}
use Rattle.assertions.proofs.SlotLaws.{place-at}
use Rattle.compiler.specs.Samples.{Held, rule_terms, clear_terms, counter_terms}
use Rattle.compiler.specs.Laws.{EachPart, OfName}
use Rattle.compiler.specs.Conditions.{IsOriginIn, IsSuiteName, IsKnownTerm, IsKnownAt, CountsByKnown, FitsSuite}
use Rattle.compiler.specs.Programs.{AreReadPlaces}
use Rattle.compiler.specs.Readings.{IsReading, counters_read}
use Rattle.compiler.proofs.Places.{place-of, held-places, all-below}

append : {A : Type 0} (P : A → Type 0) (xs ys : List A) → AllByRecursion P xs → AllByRecursion P ys
    → AllByRecursion P (xs ++ ys)
append P [] ys g h = h
append P (x ∷ xs) ys g h = (g.0, append P xs ys g.1 h)

split : {A : Type 0} (P : A → Type 0) (xs ys : List A) → AllByRecursion P (xs ++ ys)
    → AllByRecursion P xs × AllByRecursion P ys
split P [] ys h = (tt, h)
split P (x ∷ xs) ys h = let rest = split P xs ys h.1 in ((h.0, rest.0), rest.1)

-- P holds of all names of an expression, where it holds of the name that each part is
module _ (P : Name → Type 0) where
  abbrev All : List Name → Type 0
  All ns = AllByRecursion P ns

  join : (xs ys : List Name) → All xs → All ys → All (xs ++ ys)
  join xs ys g h = append P xs ys g h

  pub all-names : (e : Term) → EachPart (OfName P) e → All (names_in e)
  all-names (constant bits) h = tt
  all-names (named name) h = (h, tt)
  all-names (slice part) h = (h, tt)
  all-names (group e) h = all-names e h.1
  all-names (concat a b) h = join (names_in a) (names_in b) (all-names a h.1) (all-names b h.2)
  all-names (inverse e) h = all-names e h.1
  all-names (reduce op e) h = all-names e h.1
  all-names (combine op a b) h = join (names_in a) (names_in b) (all-names a h.1) (all-names b h.2)
  all-names (shift op a b) h = join (names_in a) (names_in b) (all-names a h.1) (all-names b h.2)
  all-names (compare op a b) h = join (names_in a) (names_in b) (all-names a h.1) (all-names b h.2)
  all-names (connect op a b) h = join (names_in a) (names_in b) (all-names a h.1) (all-names b h.2)
  all-names (choose c a b) h =
      join (names_in c) (names_in a ++ names_in b) (all-names c h.1)
      (join (names_in a) (names_in b) (all-names a h.2) (all-names b h.3))
  all-names (past e ticks) h = all-names e h.1
  all-names (change op e) h = all-names e h.1

-- what stands in a suite of which an assertion is names places of it alone
module _ (suite : Suite) where
  abbrev Named : List Name → Type 0
  Named ns = AllByRecursion (IsSuiteName suite) ns

  known-named : (e : Term) → IsKnownTerm suite e → Named (names_in e)
  known-named e known = all-names (IsSuiteName suite) e known.names

  clear-named : (o : Option Expr) → AllByRecursion (IsKnownTerm suite) (clear_terms o) → Named (expression_names o)
  clear-named None h = tt
  clear-named (Some e) h = known-named (term_of e) h.0

  rule-named : (o : Option Rule) → AllByRecursion (IsKnownTerm suite) (rule_terms o) → Named (rule_names o)
  rule-named None h = tt
  rule-named (Some r) h =
      append (IsSuiteName suite) (names_in (term_of r.when)) (names_in (term_of r.by))
      (known-named (term_of r.when) h.0)
      (known-named (term_of r.by) h.1.0)

  counter-named : (c : Counter) → CountsByKnown suite c → Named (counter_names c)
  counter-named c h =
      let P = IsKnownTerm suite in
      let t0 = clear_terms c.clear in
      let t1 = rule_terms c.load in
      let t2 = rule_terms c.add in
      let t3 = rule_terms c.sub in
      let last = split P (t0 ++ t1 ++ t2) t3 h in
      let third = split P (t0 ++ t1) t2 last.0 in
      let first = split P t0 t1 third.0 in
      let n1 = rule_names c.load in
      let n2 = rule_names c.add in
      let n3 = rule_names c.sub in
      append (IsSuiteName suite) (expression_names c.clear) (n1 ++ (n2 ++ n3)) (clear-named c.clear first.0)
      (append (IsSuiteName suite) n1 (n2 ++ n3) (rule-named c.load first.1)
      (append (IsSuiteName suite) n2 n3 (rule-named c.add third.1) (rule-named c.sub last.1)))

  counters-named : (cs : List Counter) → AllByRecursion (CountsByKnown suite) cs → (place : ℕ)
      → Named (names_of (slice_get cs place))
  counters-named [] h place = tt
  counters-named (c ∷ cs) h zero = counter-named c h.0
  counters-named (c ∷ cs) h (suc place) = counters-named cs h.1 place

  booleans-named : (places : List ℕ) → AllByRecursion (IsKnownAt suite) places
      → Named (flat_map (λ place. expression_names (slice_get suite.booleans.items place)) places)
  booleans-named [] h = tt
  booleans-named (p ∷ ps) h =
      let here = h.0 in
      append (IsSuiteName suite) (expression_names (slice_get suite.booleans.items p))
      (flat_map (λ place. expression_names (slice_get suite.booleans.items place)) ps)
      (subst (λ o. Named (expression_names o)) (sym here.found)
      (known-named (term_of here.expression) here.known))
      (booleans-named ps h.1)

  among : (ns : List Name) (n : Name) → Named ns → Contains ns n → IsSuiteName suite n
  among ns n h c = All-contains (IsSuiteName suite) ns n (All-from_recursion (IsSuiteName suite) ns h) c

-- the places that are marked rise
rise-from : (place : ℕ) (marks : List Bool) → AllPairs (λ x y. x < y) (places_from place marks)
rise-from place [] i j d lt below = absurd (omega (arith, below))
rise-from place (true ∷ marks) zero zero d lt below = absurd (omega (arith, lt))
rise-from place (true ∷ marks) (suc i) zero d lt below = absurd (omega (arith, lt))
rise-from place (true ∷ marks) zero (suc j) d lt below =
    let more = places_from (place + 1) marks in
    let there = slice_get-get_or more j d (omega (arith, below)) in
    let found = place-at 0 (place + 1) marks j (get_or more j d) there in
    omega (arith, found.past)
rise-from place (true ∷ marks) (suc i) (suc j) d lt below =
    rise-from (place + 1) marks i j d (omega (arith, lt)) (omega (arith, below))
rise-from place (false ∷ marks) i j d lt below = rise-from (place + 1) marks i j d lt below

module _ (suite : Suite) (a : Assertion) (fit : FitsSuite suite a) (signals counters : List Bool)
    (reading : IsReading suite a signals counters) where
  -- what is read is named
  read-named : (n : Name) → IsRead (boolean_names suite a) suite.counters.items n → IsSuiteName suite n
  read-named n (at_once c) =
      among suite (boolean_names suite a) n (booleans-named suite a.booleans.items fit.placed.booleans) c
  read-named n (through {counter} read origin c) =
      among suite (names_of (slice_get suite.counters.items counter.place)) n
      (counters-named suite suite.counters.items fit.sound.counters counter.place) c

  -- the marked places are those that are read, where each name of their origin is at a place that is marked or not
  exact : (o : Origin) (count : ℕ) (marks : List Bool) → AreMarks o reading.names count marks
      → ((place width : ℕ) → IsOriginIn suite o place width → place < count)
      → AreReadPlaces suite a o (places_from 0 marks)
  exact o count marks are inside = record {
    exactly = λ place. (
      λ c.
          let at : slice_get (places_from 0 marks) c.0 ≡ Some place =
          slice_get-get_or (places_from 0 marks) c.0 place c.1 ∙ ap (λ p. Some p) c.2 in
          let found = place-at 0 0 marks c.0 place at in
          let e : place - 0 ≡ place = omega arith in
          let marked = subst (λ k. slice_get marks k ≡ Some true) e found.marked in
          let long = are.long in
          let below : place < count = omega (arith, slice_get_within marks place true marked, long) in
          let among = (are.each place below).0 marked in
          record {
            name = among.name;
            read = (reading.read among.name).0 among.among;
            origin_is = among.origin_is;
            place_is = among.place_is;
          },
      λ r.
          let named = read-named r.name r.read in
          let here =
          subst (λ (x : Origin). IsOriginIn suite x r.name.place r.name.width) r.origin_is named in
          let below : place < count =
          subst (λ k. k < count) r.place_is (inside r.name.place r.name.width here) in
          let marked =
          (are.each place below).1
          (record {
            name = r.name;
            among = (reading.read r.name).1 r.read;
            origin_is = r.origin_is;
            place_is = r.place_is;
          }) in
          let i = place-of marks place marked in (
            i.0,
            slice_get_within (places_from 0 marks) i.0 place i.1,
            get_or_from_slice_get (places_from 0 marks) i.0 place place i.1,
          ),
    );
    rising = rise-from 0 marks;
  }

  pub exact-signals : AreReadPlaces suite a Signal (places_from 0 signals)
  exact-signals =
      exact Signal (length suite.names.items) signals reading.signals_are
      (λ place width at. slice_get_within suite.names.items place at.signal at.found)

  pub exact-counters : AreReadPlaces suite a FromCounter (map (λ (h : Held). h.place) (counters_read suite counters))
  exact-counters =
      subst (AreReadPlaces suite a FromCounter)
      (sym (held-places suite.counters.items (places_from 0 counters)
      (all-below (length suite.counters.items) counters reading.counters_are.long)))
      (exact FromCounter (length suite.counters.items) counters reading.counters_are
      (λ place width at. slice_get_within suite.counters.items place at.counter at.found))
