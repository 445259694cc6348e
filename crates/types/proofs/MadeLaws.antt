-- Assertions made of what is resolved.
use Rattle.std.proofs.Common.{◌≡◌, ◌⊎◌, inl, inr, ℕ, ◌+◌, ◌≤◌, ◌<◌, List, [], ◌∷◌, ◌++◌, length, Option, Some, None}
use Rattle.std.proofs.Common.{Box, refl, sym, ap, ◌∙◌, subst, arith, string_bytes, drop, get_or, drop-cons, add-one}
use Rattle.std.specs.Prelude.{true, false, Result, Ok, Err, IfOk, OnOk}
use Rattle.std.proofs.lemmas.List.{append-nil, append_assoc, length-append}
use Rattle.std.specs.declared.alloc.Global.{Global}
use Rattle.parser_grammar.specs.Trees as trees
use Rattle.parser_grammar.specs.Trees.{Tree}
use Rattle.expressions.specs.declared.expr.Expr.{Expr}
use Rattle.assertions.specs.declared.sequence.Boolean.{Boolean}
use Rattle.assertions.specs.declared.sequence.Boolean.TheVariants.{One, Listed}
use Rattle.assertions.specs.declared.sequence.Sequence.{Sequence}
use Rattle.assertions.specs.declared.assertion.Assertion.{Assertion}
use Rattle.assertions.specs.Segments.{sat}
use Rattle.expressions.specs.Terms.{Samples}
use Rattle.assertions.specs.Written.{Written, boolean, weight, IsOrdered}
use Rattle.assertions.specs.Shapes.{written_form}
use Rattle.types.specs.declared.entry.Entry.{Entry}
use Rattle.assertions.specs.Listed.{IsUsed, IsListed, IsListedOption}
use Rattle.types.specs.Drafts.{Draft, IsNumberIn}
use Rattle.types.specs.Entries.{HasEntry, HasSame, SaysSame, IsUsedOrOne, IsTheEntryOf}
use Rattle.types.specs.Placed.{MatchesByPlaces, IsPlacedBoolean, atom_true, ExtendsPlaces, AllListed}
use Rattle.types.specs.Placed.{AddsPlaces}
use Rattle.types.proofs.UsedLaws.{each_used}
use Rattle.types.proofs.PlacedLaws.{listed_on}
use Rattle.types_names.specs.Scopes.{Scope}
use Rattle.types.specs.declared.resolved.Resolved.{Resolved}
use Rattle.types.specs.Suites.{IsMeant, IsDisabling, IsDisablingPlace, IsAssertion, AreAssertions}
use Rattle.types.specs.Suites.{IsDisabledBy, off_places}
use Rattle.types.specs.Resolved.{IsResolved, AreResolved}
use Rattle.types.specs.Made.{IsFitting, IsSide, IsPlacedAt, AreAt, kept_by, kept_of}
use Rattle.types.specs.Leaves.{sequence_places, form_of}
use Rattle.types.specs.Trimmed.{IsTrimmed}

-- two things of what a call gives, and what follows from one that isn't of it
pub ok_both : {X E : Type 0} (P Q : X → Type 0) (r : Result X E) → IfOk r P → IfOk r Q →
    IfOk r (λ x. P x × Q x)
ok_both P Q (Ok x) f g = (f, g)
ok_both P Q (Err e) f g = tt

pub on_ok_map : {X E A B : Type 0} (r : Result X E) → (A → B) → OnOk r A → OnOk r B
on_ok_map (Ok x) f h = f h
on_ok_map (Err e) f h = tt

-- An entry that fits has a sequence.
pub fits_none : (e : Entry) → IsFitting e → e.sequence ≡ None → ⊥
fits_none e f none =
    let light : weight f.meant ≤ 127 = omega (arith, f.entry.facts.weighs, f.light) in
    subst (λ (o : Option (Box Sequence Global)). HasSame f.meant o) none (f.entry.same light)

-- and it says what is meant
pub fits_says : (e : Entry) (x : Box Sequence Global) (w : Written Boolean) → e.facts.weight ≤ 127 → IsTheEntryOf w e
    → e.sequence ≡ Some x → SaysSame w (written_form x.value)
fits_says e x w low h is =
    let light : weight w ≤ 127 = omega (arith, h.facts.weighs, low) in
    subst (λ (o : Option (Box Sequence Global)). HasSame w o) is (h.same light)

pub fits_light : (e : Entry) (x : Box Sequence Global) → IsFitting e → e.sequence ≡ Some x
    → (weight (written_form x.value) ≤ 127) × IsOrdered (written_form x.value)
fits_light e x f is =
    let says = fits_says e x f.meant f.light f.entry is in
    (omega (arith, says.light, f.entry.facts.weighs, f.light), says.ordered)

-- What is placed of what an entry says is what is meant, by booleans of the list.
pub side_of : (booleans : List Expr) (places more : List ℕ) (e : Entry) (x : Box Sequence Global)
    (w made : Written Boolean) → e.facts.weight ≤ 127 → e.sequence ≡ Some x → IsTheEntryOf w e →
    MatchesByPlaces booleans (places ++ more) (written_form x.value) made →
    AllListed places made → form_of made ≡ form_of (written_form x.value) →
    IsSide booleans (places ++ more) w (kept_of e) made
side_of booleans places more e x w made low is h p listed form =
    let says = fits_says e x w low h is in
    let kept : kept_of e ≡ written_form x.value = ap kept_by is in
    record {
      placed = λ t n i j.
          let first = says.alike (sat (atom_true booleans t) n) i j in
          let second = p t n i j in
          (λ m. second.0 (first.0 m), λ m. first.1 (second.1 m));
      listed = listed_on places (places ++ more) made (record { added = more; is = refl }) listed;
      trimmed = subst (λ (u : Written Boolean). IsTrimmed One w u) (sym kept) says.trimmed;
      form = form ∙ ap form_of (sym kept);
    }

-- and the list after it
pub list_by : (before after : List ℕ) (e : Entry) (x : Box Sequence Global) → e.sequence ≡ Some x →
    after ≡ before ++ sequence_places (written_form x.value) → after ≡ before ++ sequence_places (kept_of e)
list_by before after e x is h =
    h ∙ ap (λ (u : Written Boolean). before ++ sequence_places u) (sym (ap kept_by is))

-- Only its booleans have places.
meant_too : (w : Written Boolean) (p : ℕ) → IsUsedOrOne w (Listed p) → IsUsed (Listed p) w
meant_too w p (inl u) = u
meant_too w p (inr is) = absurd cc

pub used_by : (before after : List ℕ) (e : Entry) (x : Box Sequence Global) (w : Written Boolean) →
    e.facts.weight ≤ 127 → e.sequence ≡ Some x → IsTheEntryOf w e →
    AddsPlaces (written_form x.value) before after → AddsPlaces w before after
used_by before after e x w low is h f p i =
    let says = fits_says e x w low h is in
    elim (f p i) [
      | inl there ↦ inl there
      | inr u ↦ inr (meant_too w p (each_used (IsUsedOrOne w) (Listed p) (written_form x.value) says.known u))
    ]

-- It stays so after more places.
pub side_here : (e : List Expr) (w kept made : Written Boolean) (first second : List ℕ) →
    ExtendsPlaces first second → ((more : List ℕ) → IsSide e (first ++ more) w kept made) →
    IsSide e second w kept made
side_here e w kept made first second x f =
    subst (λ (ps : List ℕ). IsSide e ps w kept made) (sym x.is) (f x.added)

pub side_on : (e : List Expr) (w kept made : Written Boolean) (first second third : List ℕ) →
    ExtendsPlaces first second → ExtendsPlaces second third →
    ((more : List ℕ) → IsSide e (first ++ more) w kept made) → IsSide e third w kept made
side_on e w kept made first second third x y f =
    let is : first ++ (x.added ++ y.added) ≡ third =
    sym (append_assoc first x.added y.added)
    ∙ sym (ap (λ (ps : List ℕ). ps ++ y.added) x.is) ∙ sym y.is in
    subst (λ (ps : List ℕ). IsSide e ps w kept made) is (f (x.added ++ y.added))

-- A boolean that stands for one at a place, whatever is there, is listed.
pub listed_too : (places : List ℕ) (place n : ℕ) (b : Boolean) →
    IsPlacedBoolean [] places (Listed place) b → IsListed n b → IsListedOption n (Some b)
listed_too places place n One same h =
    let t : Samples = record { signal_at = λ p k. 0; counter_at = λ p k. 0 } in
    let is : false ≡ true = same t 0 in
    absurd cc
listed_too places place n (Listed i) same h = h

pub at_own : (place : ℕ) (before after : List ℕ) → AddsPlaces (boolean (Listed place)) before after →
    AreAt (Some place) before after
at_own place before after f p i =
    elim (f p i) [ inl there ↦ inl there | inr is ↦ inr (let e : p ≡ place = cc in ap Some (sym e)) ]

-- Each place is one of the two sides' or the disabling one, where none was there at first.
pub places_used : (start first second third : List ℕ) (v w : Written Boolean) (o : Option ℕ) →
    start ≡ [] → AddsPlaces v start first → AddsPlaces w first second → AreAt o second third →
    (p : ℕ) → IsNumberIn p third → IsUsed (Listed p) v ⊎ (IsUsed (Listed p) w ⊎ (o ≡ Some p))
places_used start first second third v w o none f g h p i =
    elim (h p i) [
      | inr off ↦ inr (inr off)
      | inl j ↦ elim (g p j) [
        | inr u ↦ inr (inl u)
        | inl k ↦ elim (f p k) [
          | inr u ↦ inl u
          | inl l ↦ absurd (subst (λ (ps : List ℕ). IsNumberIn p ps) none l)
        ]
      ]
    ]

-- the list after both sides and the disabling place, where none was there at first
pub list_whole : (start first second third : List ℕ) (v w : Written Boolean) (o : Option ℕ) →
    start ≡ [] → first ≡ start ++ sequence_places v → second ≡ first ++ sequence_places w →
    third ≡ second ++ off_places o → third ≡ sequence_places v ++ (sequence_places w ++ off_places o)
list_whole start first second third v w o none f g h =
    h ∙ ap (λ (ps : List ℕ). ps ++ off_places o) g
    ∙ ap (λ (ps : List ℕ). (ps ++ sequence_places w) ++ off_places o)
    (f ∙ ap (λ (ps : List ℕ). ps ++ sequence_places v) none)
    ∙ append_assoc (sequence_places v) (sequence_places w) (off_places o)

module _ (s : Scope) (cs : List (List ℕ)) (e : List Expr) where
  disabling_made : (places : List ℕ) (t : Option Tree) (p : Option ℕ) (b : Option Boolean) → IsDisabledBy s cs e t p
      → IsPlacedAt e places p b → IsDisabling s cs e places t b
  disabling_made places None None None h i = tt
  disabling_made places None None (Some b) h i = elim i [ ]
  disabling_made places None (Some p) b h i = elim h [ ]
  disabling_made places (Some t) None b h i = elim h [ ]
  disabling_made places (Some t) (Some p) None h i = elim i [ ]
  disabling_made places (Some t) (Some p) (Some b) h i = (Listed p, h, i.0, i.1)

  disabling_place : (t : Option Tree) (o : Option ℕ) (p : ℕ) → IsDisabledBy s cs e t o → o ≡ Some p →
      IsDisablingPlace s cs e t p
  disabling_place None None p h is = absurd cc
  disabling_place None (Some q) p h is = elim h [ ]
  disabling_place (Some t) None p h is = absurd cc
  disabling_place (Some t) (Some q) p h is =
      subst (λ (o : Option ℕ). IsDisabledBy s cs e (Some t) o) is h

  module _ (bodies : List (Draft Boolean)) where
    meant_of : (d : Draft Boolean) (m : Entry) (h : HasEntry bodies d m)
        (places spots : List ℕ) (w kept made : Written Boolean) → spots ≡ places → made ≡ w →
        IsSide e places h.meant kept w → IsMeant bodies e spots d made
    meant_of d m h places spots w kept made list is side =
        record {
          meant = h.meant;
          spells = h.spells;
          placed =
              subst (λ (u : Written Boolean). MatchesByPlaces e spots h.meant u) (sym is)
              (subst (λ (ps : List ℕ). MatchesByPlaces e ps h.meant w) (sym list) side.placed);
          listed =
              subst (λ (u : Written Boolean). AllListed spots u) (sym is)
              (subst (λ (ps : List ℕ). AllListed ps w) (sym list) side.listed);
          ordered = h.entry.ordered;
          kept = kept;
          trimmed = side.trimmed;
          form = ap form_of is ∙ side.form;
        }

    -- An assertion with these parts is that of the text.
    pub assertion_made : (before : ℕ) (a : trees.AssertionForm) (m : Resolved) (r : IsResolved s cs e bodies before a m)
        (made : Assertion) (first second before_kept behind_kept : Written Boolean) (b : Option Boolean)
        (places : List ℕ) →
        string_bytes made.name ≡ string_bytes m.name → made.first ≡ m.first → written_form made.antecedent ≡ first
        → written_form made.consequent ≡ second → made.disabling ≡ b → made.booleans.items ≡ places →
        IsSide e places r.antecedent_entry.meant before_kept first →
        IsSide e places r.consequent_entry.meant behind_kept second →
        IsPlacedAt e places m.disabling b →
        ((p : ℕ) → IsNumberIn p places → IsUsed (Listed p) r.antecedent_entry.meant
        ⊎ (IsUsed (Listed p) r.consequent_entry.meant ⊎ (m.disabling ≡ Some p))) →
        places ≡ sequence_places before_kept ++ (sequence_places behind_kept ++ off_places m.disabling) →
        IsAssertion s cs e bodies before a made
    unfolding meant_of
    assertion_made before a m r made first second before_kept behind_kept b places name led one two off list h g d used
        whole =
        let ps = made.booleans.items in
        record {
          antecedent = r.antecedent;
          consequent = r.consequent;
          name = name ∙ r.name;
          first = led ∙ r.first;
          reads_antecedent = r.reads_antecedent;
          reads_consequent = r.reads_consequent;
          antecedent_meant =
              meant_of r.antecedent m.antecedent r.antecedent_entry places ps first before_kept
              (written_form made.antecedent) list one h;
          consequent_meant =
              meant_of r.consequent m.consequent r.consequent_entry places ps second behind_kept
              (written_form made.consequent) list two g;
          disabling = subst (λ (x : Option Boolean). IsDisabling s cs e ps a.disable x) (sym off)
              (subst (λ (qs : List ℕ). IsDisabling s cs e qs a.disable b) (sym list)
              (disabling_made places a.disable m.disabling b r.disabling d));
          used = λ p i.
              elim (used p (subst (λ (qs : List ℕ). IsNumberIn p qs) list i)) [
                | inl u ↦ inl u
                | inr x ↦ elim x [
                  | inl u ↦ inr (inl u)
                  | inr is ↦ inr (inr (disabling_place a.disable m.disabling p r.disabling is))
                ]
              ];
          off = m.disabling;
          disabled = r.disabling;
          list = list ∙ whole;
        }

    assertion_more : (us : List trees.AssertionForm) (made : List Assertion) (before : ℕ) (a : trees.AssertionForm)
        (x : Assertion) → AreAssertions s cs e bodies before us made →
        IsAssertion s cs e bodies (before + length made) a x
        → AreAssertions s cs e bodies before (us ++ a ∷ []) (made ++ x ∷ [])
    assertion_more [] [] before a x h one = (subst (λ (b : ℕ). IsAssertion s cs e bodies b a x) (omega arith) one, tt)
    assertion_more [] (m ∷ made) before a x h one = elim h [ ]
    assertion_more (y ∷ us) [] before a x h one = elim h [ ]
    assertion_more (y ∷ us) (m ∷ made) before a x h one = (
      h.0,
      assertion_more us made (before + 1) a x h.1 (subst (λ (b : ℕ). IsAssertion s cs e bodies b a x)
          (omega arith) one),
    )

    -- So many assertions were made, and the others are left.
    pub record Half (all : List trees.AssertionForm) (left : List Resolved) (made : List Assertion) : Type 0 where
      pub seen : List trees.AssertionForm
      pub rest : List trees.AssertionForm
      pub both : all ≡ seen ++ rest
      pub ready : AreResolved s cs e bodies (length made) rest left
      pub done : AreAssertions s cs e bodies 0 seen made

    pub half_start : (all : List trees.AssertionForm) (left : List Resolved) (made : List Assertion) → made ≡ []
        → AreResolved s cs e bodies 0 all left → Half all left made
    half_start all left made none h =
        record {
          seen = [];
          rest = all;
          both = refl;
          ready = subst (λ (n : ℕ). AreResolved s cs e bodies n all left) (sym (ap length none)) h;
          done = subst (λ (ms : List Assertion). AreAssertions s cs e bodies 0 [] ms) (sym none) tt;
        }

    half_step : (all seen rest : List trees.AssertionForm) (m : Resolved) (left : List Resolved)
        (made after : List Assertion) (x : Assertion) → all ≡ seen ++ rest
        → AreResolved s cs e bodies (length made) rest (m ∷ left) →
        AreAssertions s cs e bodies 0 seen made → after ≡ made ++ x ∷ []
        → ((a : trees.AssertionForm) → IsResolved s cs e bodies (length made) a m
        → IsAssertion s cs e bodies (length made) a x) → Half all left after
    half_step all seen [] m left made after x is h done pushed f = elim h [ ]
    half_step all seen (a ∷ rest) m left made after x is h done pushed f =
        let long : length after ≡ length made + 1 = ap length pushed ∙ length-append made (x ∷ []) in
        record {
          seen = seen ++ a ∷ [];
          rest = rest;
          both = is ∙ sym (append_assoc seen (a ∷ []) rest);
          ready = subst (λ (n : ℕ). AreResolved s cs e bodies n rest left) (sym long) h.1;
          done =
              subst (λ (ms : List Assertion). AreAssertions s cs e bodies 0 (seen ++ a ∷ []) ms) (sym pushed)
              (assertion_more seen made 0 a x done
              (subst (λ (b : ℕ). IsAssertion s cs e bodies b a x) (omega arith) (f a h.0)));
        }

    pub half_more : (all : List trees.AssertionForm) (now : List Resolved) (m : Resolved) (left : List Resolved)
        (made after : List Assertion) (x : Assertion) → now ≡ m ∷ left → after ≡ made ++ x ∷ [] →
        ((before : ℕ) (a : trees.AssertionForm) → IsResolved s cs e bodies before a m
        → IsAssertion s cs e bodies before a x) → Half all now made → Half all left after
    half_more all now m left made after x is pushed f h =
        half_step all h.seen h.rest m left made after x h.both
        (subst (λ (ms : List Resolved). AreResolved s cs e bodies (length made) h.rest ms) is h.ready) h.done
        pushed (f (length made))

    done_all : (all seen rest : List trees.AssertionForm) (n : ℕ) (made : List Assertion) → all ≡ seen ++ rest
        → AreResolved s cs e bodies n rest [] → AreAssertions s cs e bodies 0 seen made
        → AreAssertions s cs e bodies 0 all made
    done_all all seen [] n made is h done =
        subst (λ (us : List trees.AssertionForm). AreAssertions s cs e bodies 0 us made) (sym (is ∙ append-nil seen))
        done
    done_all all seen (a ∷ rest) n made is h done = elim h [ ]

    pub half_all : (all : List trees.AssertionForm) (left : List Resolved) (made : List Assertion) → left ≡ []
        → Half all left made → AreAssertions s cs e bodies 0 all made
    half_all all left made none h =
        done_all all h.seen h.rest (length made) made h.both
        (subst (λ (ms : List Resolved). AreResolved s cs e bodies (length made) h.rest ms) none h.ready) h.done

-- what stands at a place, and what is after it
pub resolved_at : (xs : List Resolved) (i : ℕ) (x : Resolved) → i < length xs → x ≡ get_or xs i x
    → drop i xs ≡ x ∷ drop (i + 1) xs
resolved_at xs i x lt is = rw (drop-cons xs i x lt, add-one, ← is) refl
