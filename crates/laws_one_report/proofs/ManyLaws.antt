-- Where an assertion of a suite reads many signals and counters, or one with a long path, that of the text does.
use Rattle.std.proofs.Common.{◌≡◌, ℕ, zero, suc, ◌+◌, ◌<◌, ◌≤◌, Bool, true, false, List, [], ◌∷◌, length, Some}
use Rattle.std.proofs.Common.{slice_get, get_or, refl, sym, ◌∙◌, subst, arith, inl, inr, string_bytes, count_by}
use Rattle.std.specs.Prelude.{All, bytes_eq, cond}
use Rattle.std.specs.List.{list_any}
use Rattle.std.specs.Cmp.Lexicographic.{bytes_decides}
use Rattle.std.proofs.lemmas.Bool.{or_cases, ltb-true}
use Rattle.std.proofs.lemmas.Option.{slice_get_within}
use Rattle.std.proofs.lemmas.List.Elements.{All-nil, All-cons, All-weaker}
use Rattle.std.proofs.lemmas.List.Kept.{AllPairs-cons}
use Rattle.std.proofs.lemmas.List.Quantifiers.{position-Some}
use Rattle.std.proofs.lemmas.List.Sums.{sum_by-cons}
use Rattle.parser_grammar.specs.Trees.{AssertionForm, ItemForm}
use Rattle.expressions.specs.declared.name.Origin.{Origin}
use Rattle.expressions.specs.declared.name.Origin.TheVariants as origins
use Rattle.assertions.specs.declared.signal.Signal.{Signal}
use Rattle.assertions.specs.declared.assertion.Assertion.{Assertion}
use Rattle.assertions.specs.declared.suite.Suite.{Suite}
use Rattle.assertions.specs.Marks.{AreMarks, is_marked, places_from}
use Rattle.types_names.specs.Scopes.{Scope}
use Rattle.types_names.specs.Columns.{column_of, columns_of}
use Rattle.types.specs.Suites.{AreSignals}
use Rattle.compiler.specs.Readings.{IsReading, slot_count}
use Rattle.compiler.specs.Faults.{is_long, is_long_path}
use Rattle.compiler_laws.specs.WrittenOut.{all_expressions}
use Rattle.laws_one_report.specs.ReadInText.{ReadsSignal, ReadsCounter, AreDifferent, ReadsMany, IsLongText}
use Rattle.laws_one_report.specs.ReadInText.{ReadsLongPath}
use Rattle.laws_one_report.proofs.NamedLaws.{IsFrom}
use Rattle.laws_one_report.proofs.ReadLaws.{TextReads}

-- Each marked place is the place of something of which Q holds, and which has no other place.
module _ {A : Type 0} (Q : A → Type 0) (R : A → ℕ → Type 0)
    (one : (x : A) (i j : ℕ) → R x i → R x j → i ≡ j) where
  pub record ThingAt (place : ℕ) : Type 0 where
    pub of : A
    pub so : Q of
    pub at : R of place

  abbrev IsLate : ℕ → A → Type 0
  IsLate from x = (i : ℕ) × R x i × (from ≤ i)

  -- as many of them as places are marked
  pub record ThingsFrom (from count : ℕ) : Type 0 where
    pub list : List A
    pub long : length list ≡ count
    pub so : All Q list
    pub late : All (IsLate from) list
    pub differ : AreDifferent list

  pub marked_of : (marks : List Bool) (from : ℕ) → ((i : ℕ) → slice_get marks i ≡ Some true → ThingAt (from + i)) →
      ThingsFrom from (count_by is_marked marks)
  marked_of [] from f = record {
    list = [];
    long = refl;
    so = All-nil Q;
    late = All-nil (IsLate from);
    differ = λ i j d lt below. absurd (omega (arith, below));
  }
  marked_of (false ∷ marks) from f =
      let e = λ (i : ℕ). (let h : from + suc i ≡ from + 1 + i = omega arith in h) in
      let more = marked_of marks (from + 1) (λ i h. subst ThingAt (e i) (f (suc i) h)) in
      record {
        list = more.list;
        long = omega (arith, more.long, sum_by-cons (λ (b : Bool). cond (is_marked b) 1 0) false marks);
        so = more.so;
        late =
            All-weaker (IsLate (from + 1)) (IsLate from) (λ x l. (l.0, l.1, omega (arith, l.2))) more.list
            more.late;
        differ = more.differ;
      }
  marked_of (true ∷ marks) from f =
      let e = λ (i : ℕ). (let h : from + suc i ≡ from + 1 + i = omega arith in h) in
      let here = f 0 refl in
      let more = marked_of marks (from + 1) (λ i h. subst ThingAt (e i) (f (suc i) h)) in
      record {
        list = here.of ∷ more.list;
        long = omega (arith, more.long, sum_by-cons (λ (b : Bool). cond (is_marked b) 1 0) true marks);
        so = All-cons Q here.of more.list here.so more.so;
        late =
            All-cons (IsLate from) here.of more.list (from + 0, here.at, omega arith)
            (All-weaker (IsLate (from + 1)) (IsLate from) (λ x l. (l.0, l.1, omega (arith, l.2))) more.list
            more.late);
        differ =
            AllPairs-cons (λ x y. x ≡ y → ⊥) here.of more.list
            (All-weaker (IsLate (from + 1)) (λ y. here.of ≡ y → ⊥)
            (λ y l same.
            omega (
              arith,
              l.2,
              one y l.0 (from + 0) l.1 (subst (λ (z : A). R z (from + 0)) same here.at),
            )) more.list more.late)
            more.differ;
      }

-- A test holds of one of the marked places.
marked_any : (f : ℕ → Bool) (marks : List Bool) (from : ℕ) → list_any f (places_from from marks) ≡ true →
    (i : ℕ) × (slice_get marks i ≡ Some true) × (f (from + i) ≡ true)
marked_any f [] from h = absurd cc
marked_any f (true ∷ marks) from h =
    elim (or_cases (f from) (list_any f (places_from (from + 1) marks)) h) [
      | inl on ↦ (0, refl, (let e : from ≡ from + 0 = omega arith in subst (λ (k : ℕ). f k ≡ true) e on))
      | inr on ↦
          let r = marked_any f marks (from + 1) on in
          let e : from + 1 + r.0 ≡ from + suc r.0 = omega arith in
          (suc r.0, r.1, subst (λ (k : ℕ). f k ≡ true) e r.2)
    ]
marked_any f (false ∷ marks) from h =
    let r = marked_any f marks (from + 1) h in
    let e : from + 1 + r.0 ≡ from + suc r.0 = omega arith in
    (suc r.0, r.1, subst (λ (k : ℕ). f k ≡ true) e r.2)

pub long_is : (text : List ℕ) → is_long text ≡ true → IsLongText text
long_is text h = ltb-true 65535 (length text) h

-- The path of a column is that of its signal.
long_at : (s : Scope) (cs : List (List ℕ)) (xs : List Signal) (place : ℕ) → place < length cs → AreSignals s cs xs →
    is_long_path xs place ≡ true → IsLongText (get_or cs place [])
long_at s [] xs place lt h is = absurd (omega (arith, lt))
long_at s (c ∷ cs) [] place lt h is = elim h [ ]
long_at s (c ∷ cs) (x ∷ xs) zero lt h is = subst IsLongText h.0.0 (long_is (string_bytes x.path) is)
long_at s (c ∷ cs) (x ∷ xs) (suc place) lt h is = long_at s cs xs place (omega (arith, lt)) h.1 is

long_path : (s : Scope) (cs : List (List ℕ)) (xs : List Signal) (p : List ℕ) (place : ℕ) → AreSignals s cs xs →
    column_of cs p ≡ Some place → is_long_path xs place ≡ true → IsLongText p
long_path s cs xs p place h is long =
    let at = position-Some (bytes_eq p) cs place [] is in
    let same : p ≡ get_or cs place [] = (bytes_decides p (get_or cs place [])).0 at.1 in
    subst IsLongText (sym same) (long_at s cs xs place at.0 h long)

some_place : (i j : ℕ) → Some i ≡ Some j → i ≡ j
some_place i j h = cc

module _ (s : Scope) (items : List ItemForm) (suite : Suite) (a : AssertionForm) (made : Assertion)
    (t : TextReads s items suite a made) (signals counters : List Bool)
    (reading : IsReading suite made signals counters) where
  abbrev IsReadPath : List ℕ → Type 0
  IsReadPath = ReadsSignal s items (all_expressions a t.before t.behind)

  abbrev IsReadCounter : ℕ → Type 0
  IsReadCounter = ReadsCounter s items (all_expressions a t.before t.behind)

  -- what is marked is read
  marked_from : (o : Origin) (count : ℕ) (marks : List Bool) → AreMarks o reading.names count marks → (place : ℕ) →
      slice_get marks place ≡ Some true → IsFrom s (columns_of s items) IsReadPath IsReadCounter o place
  marked_from o count marks are place is =
      let below : place < count = omega (arith, slice_get_within marks place true is, are.long) in
      let among = (are.each place below).0 is in
      let from = t.reads among.name ((reading.read among.name).0 among.among) in
      subst (λ (q : Origin). IsFrom s (columns_of s items) IsReadPath IsReadCounter q place) among.origin_is
      (subst (λ (k : ℕ). IsFrom s (columns_of s items) IsReadPath IsReadCounter among.name.origin k) among.place_is
      from)

  abbrev IsColumn : List ℕ → ℕ → Type 0
  IsColumn p place = column_of (columns_of s items) p ≡ Some place

  one_column : (p : List ℕ) (i j : ℕ) → IsColumn p i → IsColumn p j → i ≡ j
  one_column p i j h k = some_place i j (sym h ∙ k)

  signal_of : (place : ℕ) → slice_get signals place ≡ Some true → ThingAt IsReadPath IsColumn one_column (0 + place)
  signal_of place is =
      let f = marked_from origins.Signal (length suite.names.items) signals reading.signals_are place is in
      let e : place ≡ 0 + place = omega arith in
      subst (ThingAt IsReadPath IsColumn one_column) e (record { of = f.0; so = f.1; at = f.2 })

  abbrev IsPlace : ℕ → ℕ → Type 0
  IsPlace x place = x ≡ place

  one_place : (x i j : ℕ) → IsPlace x i → IsPlace x j → i ≡ j
  one_place x i j h k = sym h ∙ k

  counter_of : (place : ℕ) → slice_get counters place ≡ Some true → ThingAt IsReadCounter IsPlace one_place (0 + place)
  counter_of place is =
      let f = marked_from origins.Counter (length suite.counters.items) counters reading.counters_are place is in
      let e : place ≡ 0 + place = omega arith in
      record { of = place; so = f; at = e }

  pub reads_many : 256 < slot_count signals counters → ReadsMany s items a
  reads_many many =
      let paths = marked_of IsReadPath IsColumn one_column signals 0 signal_of in
      let places = marked_of IsReadCounter IsPlace one_place counters 0 counter_of in
      record {
        before = t.before;
        behind = t.behind;
        out = t.out;
        paths = paths.list;
        places = places.list;
        paths_read = paths.so;
        places_read = places.so;
        paths_differ = paths.differ;
        places_differ = places.differ;
        many = omega (arith, many, paths.long, places.long);
      }

  pub reads_long : AreSignals s (columns_of s items) suite.names.items →
      list_any (is_long_path suite.names.items) (places_from 0 signals) ≡ true → ReadsLongPath s items a
  reads_long are is =
      let found = marked_any (is_long_path suite.names.items) signals 0 is in
      let e : 0 + found.0 ≡ found.0 = omega arith in
      let f =
      marked_from origins.Signal (length suite.names.items) signals reading.signals_are found.0 found.1 in
      record {
        before = t.before;
        behind = t.behind;
        out = t.out;
        path = f.0;
        read = f.1;
        long =
            long_path s (columns_of s items) suite.names.items f.0 found.0 are f.2
            (subst (λ (k : ℕ). is_long_path suite.names.items k ≡ true) e found.2);
      }
