-- What a fit assertion reads is held by its program.
use Rattle.std.proofs.Common.{◌≡◌, ◌∙◌, ℕ, suc, ◌+◌, ◌-◌, ◌<◌, ◌≤◌, Bool, true, List, [], ◌∷◌, ◌++◌, length, map}
use Rattle.std.proofs.Common.{Some, slice_get, refl, ap, sym, subst, arith}
use Rattle.std.specs.Prelude.{Contains, count_by}
use Rattle.std.proofs.lemmas.List.Elements.{Contains-append_left, Contains-append_right}
use Rattle.std.specs.List.{AllByRecursion, AllZip, flat_map}
use Rattle.std.proofs.lemmas.Option.{slice_get_within}
use Rattle.expressions.specs.declared.name.Origin.{Origin}
use Rattle.expressions.specs.declared.name.Origin.TheVariants.{Signal, Counter}
use Rattle.expressions.specs.declared.name.Name.{Name}
use Rattle.expressions.specs.declared.expr.Expr.{Expr}
use Rattle.expressions.specs.Terms.{Term, width_of}
use Rattle.expressions.specs.Expressions.{term_of}
use Rattle.assertions.specs.declared.assertion.Assertion.{Assertion}
use Rattle.assertions.specs.declared.suite.Suite.{Suite}
use Rattle.assertions.specs.Names.{names_in, expression_names, counter_names}
use Rattle.assertions.specs.Reads.{at_once, through, names_of, boolean_names}
use Rattle.assertions.specs.Marks.{IsAmong, is_marked, places_from}
use Rattle.compiler.specs.Samples.{Held, counter_terms}
use Rattle.compiler.specs.Chosen.{term_found, terms_at}
use Rattle.compiler.specs.Laws.{EachPart, OfName, program_terms}
use Rattle.compiler.specs.Programs.{Layout, HoldsAt, HoldsName, IsSampledIn, IsSlotOf, IsLaidOut}
use Rattle.assertions.proofs.SlotLaws.{place-at}
use Rattle.compiler.proofs.ListLaws.{all-at, all-by-places}
use Rattle.compiler.specs.Conditions.{IsOriginIn, IsSuiteName, IsKnownTerm, IsKnownAt, CountsByKnown, FitsSuite}
use Rattle.compiler.specs.Readings.{IsReading, counters_read, first_counter, slots_over}
use Rattle.compiler.specs.Parts.{slot_found, slot_at}
use Rattle.compiler.proofs.Names.{Within, AllWithin, further, each-name, each-both, name-both, counter-within}
use Rattle.compiler.proofs.Places.{AreBelow, all-below, stands-at, place-of, places-long, slot-at, zip-made, all-held}
use Rattle.compiler.proofs.Places.{held-at, place-held}

-- the expressions at an assertion's places, all of them known, and what they name
pub record AreFound (suite : Suite) (places : List ℕ) : Type 0 where
  pub booleans : List Expr
  pub found : map (λ place. slice_get suite.booleans.items place) places ≡ map (λ e. Some e) booleans
  pub terms : terms_at suite.booleans.items places ≡ map term_of booleans
  pub long : length places ≡ length booleans
  pub known : AllByRecursion (IsKnownTerm suite) (map term_of booleans)
  pub within : AllWithin (flat_map (λ place. expression_names (slice_get suite.booleans.items place)) places)
      (map term_of booleans)

append : {A : Type 0} (P : A → Type 0) (xs ys : List A) → AllByRecursion P xs → AllByRecursion P ys
    → AllByRecursion P (xs ++ ys)
append P [] ys g h = h
append P (x ∷ xs) ys g h = (g.0, append P xs ys g.1 h)

flat : {A B : Type 0} (P : B → Type 0) (f : A → List B) (xs : List A) → AllByRecursion (λ x. AllByRecursion P (f x)) xs
    → AllByRecursion P (flat_map f xs)
flat P f [] h = tt
flat P f (x ∷ xs) h = append P (f x) (flat_map f xs) h.0 (flat P f xs h.1)

module _ (suite : Suite) where
  abbrev names_at : ℕ → List Name
  names_at place = expression_names (slice_get suite.booleans.items place)

  pub found-all : (places : List ℕ) → AllByRecursion (IsKnownAt suite) places → AreFound suite places
  found-all [] h = record { booleans = []; found = refl; terms = refl; long = refl; known = tt; within = tt }
  found-all (p ∷ ps) h =
      let here = h.0 in
      let rest = found-all ps h.1 in
      record {
        booleans = here.expression ∷ rest.booleans;
        found =
            ap (λ o. o ∷ map (λ place. slice_get suite.booleans.items place) ps) here.found
            ∙ ap (λ os. Some here.expression ∷ os) rest.found;
        terms =
            ap (λ o. term_found o (terms_at suite.booleans.items ps)) here.found
            ∙ ap (λ ts. term_of here.expression ∷ ts) rest.terms;
        long = ap suc rest.long;
        known = (here.known, rest.known);
        within = (
          λ n c. Contains-append_left (names_at p) (flat_map names_at ps) n
              (subst (λ o. Contains (expression_names o) n) (sym here.found) c),
          further (flat_map names_at ps) (names_at p ++ flat_map names_at ps) (map term_of rest.booleans)
              (λ n c. Contains-append_right (names_at p) (flat_map names_at ps) n c) rest.within,
        );
      }

module _ (suite : Suite) (a : Assertion) (fit : FitsSuite suite a) (signals counters : List Bool)
    (reading : IsReading suite a signals counters) where
  abbrev pub layout : Layout
  layout = record { signals = places_from 0 signals; counters = counters_read suite counters }

  pub found : AreFound suite a.booleans.items
  found = found-all suite a.booleans.items fit.placed.booleans

  pub signals-below : AreBelow (length suite.names.items) (places_from 0 signals)
  signals-below = all-below (length suite.names.items) signals reading.signals_are.long

  pub counters-below : AreBelow (length suite.counters.items) (places_from 0 counters)
  counters-below = all-below (length suite.counters.items) counters reading.counters_are.long

  holds : (o : Origin) (place width : ℕ) → IsOriginIn suite o place width → IsAmong o reading.names place
      → HoldsAt suite layout o place width
  holds Signal place width at among =
      let marked =
      (reading.signals_are.each place (slice_get_within suite.names.items place at.signal at.found)).1 among in
      let i = place-of signals place marked in
      record { slot = i.0; held = i.1; signal = at.signal; is = at.found; wide = at.wide }
  holds Counter place width at among =
      let marked =
      (reading.counters_are.each place (slice_get_within suite.counters.items place at.counter at.found)).1 among
      in
      let i = place-of counters place marked in
      record {
        slot = i.0;
        counter = record { place = place; counter = at.counter };
        held = held-at suite.counters.items (places_from 0 counters) counters-below i.0 place at.counter i.1 at.found;
        is = refl;
        wide = at.wide;
      }

  holds-name : (n : Name) → Contains reading.names n → IsSuiteName suite n → HoldsName suite layout n
  holds-name n c named =
      holds n.origin n.place n.width named (record { name = n; among = c; origin_is = refl; place_is = refl })

  sampled : (e : Term) → IsKnownTerm suite e → Within (names_in e) reading.names → EachPart (IsSampledIn suite layout) e
  sampled e known within =
      each-both (OfName (HoldsName suite layout)) (λ part. width_of part ≤ 128) (IsSampledIn suite layout)
      (λ x p q. record { name = p; narrow = q }) e
      (each-both (OfName (Contains reading.names)) (OfName (IsSuiteName suite)) (OfName (HoldsName suite layout))
      (λ x p q. name-both (Contains reading.names) (IsSuiteName suite) (HoldsName suite layout) holds-name x p q) e
      (each-name (Contains reading.names) e within) known.names)
      known.narrow

  all-sampled : (es : List Term) → AllByRecursion (IsKnownTerm suite) es → AllWithin reading.names es
      → AllByRecursion (EachPart (IsSampledIn suite layout)) es
  all-sampled [] known within = tt
  all-sampled (e ∷ es) known within = (sampled e known.0 within.0, all-sampled es known.1 within.1)

  -- what a counter that is held counts by
  counter-there : (i : ℕ) (h : Held) → slice_get (counters_read suite counters) i ≡ Some h
      → slice_get suite.counters.items h.place ≡ Some h.counter
  counter-there i h at =
      all-at (λ (g : Held). slice_get suite.counters.items g.place ≡ Some g.counter) (counters_read suite counters)
      (all-held suite.counters.items (places_from 0 counters) counters-below) i h at

  counter-known : (i : ℕ) (h : Held) → slice_get (counters_read suite counters) i ≡ Some h
      → AllByRecursion (IsKnownTerm suite) (counter_terms h.counter)
  counter-known i h at =
      all-at (CountsByKnown suite) suite.counters.items fit.sound.counters h.place h.counter (counter-there i h at)

  counter-read : (i : ℕ) (h : Held) → slice_get (counters_read suite counters) i ≡ Some h
      → AllWithin reading.names (counter_terms h.counter)
  counter-read i h at =
      let there = counter-there i h at in
      let placed =
      place-at 0 0 counters i h.place
      (place-held suite.counters.items (places_from 0 counters) counters-below i h at) in
      let e : h.place - 0 ≡ h.place = omega arith in
      let marked = subst (λ k. slice_get counters k ≡ Some true) e placed.marked in
      let among =
      (reading.counters_are.each h.place (slice_get_within suite.counters.items h.place h.counter there)).0 marked
      in
      let is_read = (reading.read among.name).0 among.among in
      further (counter_names h.counter) reading.names (counter_terms h.counter)
      (λ n c. (reading.read n).1 (through is_read among.origin_is
      (subst (λ p. Contains (names_of (slice_get suite.counters.items p)) n) (sym among.place_is)
      (subst (λ o. Contains (names_of o) n) (sym there) c))))
      (counter-within h.counter)

  pub all-known : AllByRecursion (IsKnownTerm suite)
      (program_terms (map term_of found.booleans) (counters_read suite counters))
  all-known =
      append (IsKnownTerm suite) (map term_of found.booleans)
      (flat_map (λ h. counter_terms h.counter) (counters_read suite counters)) found.known
      (flat (IsKnownTerm suite) (λ (h : Held). counter_terms h.counter) (counters_read suite counters)
      (all-by-places (λ (h : Held). AllByRecursion (IsKnownTerm suite) (counter_terms h.counter))
      (counters_read suite counters) counter-known))

  all-within : AllWithin reading.names (program_terms (map term_of found.booleans) (counters_read suite counters))
  all-within =
      append (λ e. Within (names_in e) reading.names) (map term_of found.booleans)
      (flat_map (λ h. counter_terms h.counter) (counters_read suite counters))
      (further (boolean_names suite a) reading.names (map term_of found.booleans)
      (λ n c. (reading.read n).1 (at_once c)) found.within)
      (flat (λ e. Within (names_in e) reading.names) (λ (h : Held). counter_terms h.counter)
      (counters_read suite counters)
      (all-by-places (λ (h : Held). AllWithin reading.names (counter_terms h.counter)) (counters_read suite counters)
      counter-read))

  pub program-sampled : AllByRecursion (EachPart (IsSampledIn suite layout))
      (program_terms (map term_of found.booleans) (counters_read suite counters))
  program-sampled =
      all-sampled (program_terms (map term_of found.booleans) (counters_read suite counters)) all-known all-within

  -- the slots of signals
  slot-one : (place : ℕ) → place < length suite.names.items → IsSlotOf suite place (slot_at suite.names.items place)
  slot-one place lt =
      let s = stands-at suite.names.items place lt in
      record {
        signal = s.0;
        is = s.1;
        width = ap (λ o. (slot_found o).width) s.1;
        path = ap (λ o. (slot_found o).path) s.1;
      }

  pub slots : AllZip (IsSlotOf suite) (places_from 0 signals) (map (slot_at suite.names.items) (places_from 0 signals))
  slots =
      zip-made (IsSlotOf suite) (slot_at suite.names.items) (length suite.names.items) (places_from 0 signals)
      slot-one signals-below

  pub laid : IsLaidOut layout (slots_over signals counters)
  laid = record {
    signals = λ i place at. slot-at 1 signals i place at;
    counters = λ i h at.
        let long : length (places_from 0 signals) ≡ count_by is_marked signals = places-long 0 signals in
        let sum : first_counter signals + i ≡ 1 + (length (places_from 0 signals) + i) = omega (arith, long) in
        slot-at (first_counter signals) counters i h.place
        (place-held suite.counters.items (places_from 0 counters) counters-below i h at) ∙ sum;
  }
