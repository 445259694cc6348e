-- The consequent of an assertion of a text without faults has no empty match, and neither has an
-- antecedent in first_match.
use Rattle.std.proofs.Common.{◌≡◌, inl, inr, ℕ, ◌-◌, List, [], ◌∷◌, ◌++◌, ◌||◌, map, Bool, true}
use Rattle.std.proofs.Common.{false, IsTrue, refl, sym, ap, ◌∙◌, subst, arith}
use Rattle.std.specs.Prelude.{nat_le}
use Rattle.std.proofs.lemmas.Bool.{le-leb}
use Rattle.parser_grammar.specs.declared.operator.Implication.{Implication}
use Rattle.parser_grammar.specs.declared.operator.Implication.TheVariants.{Overlapped, NonOverlapped}
use Rattle.parser_grammar.specs.Trees as trees
use Rattle.parser_grammar.specs.Trees.{PropertyForm, plain, implication, ItemForm}
use Rattle.expressions.specs.declared.expr.Expr.{Expr}
use Rattle.expressions.specs.Terms.{Samples}
use Rattle.assertions.specs.declared.sequence.Boolean.{Boolean}
use Rattle.assertions.specs.declared.sequence.Boolean.TheVariants.{One}
use Rattle.assertions.specs.declared.assertion.Assertion.{Assertion}
use Rattle.assertions.specs.Segments.{Matches, sat, always, AdmitsEmpty}
use Rattle.assertions.specs.Written.{Written, boolean, delay, lead, repeat, or, and, intersect, throughout}
use Rattle.assertions.specs.Written.{kernel, after, later}
use Rattle.assertions.specs.Shapes.{written_form, shape, value_in}
use Rattle.assertions.specs.Attempts.{IsDegenerateBy}
use Rattle.assertions.proofs.Segments.{Matches-mono}
use Rattle.assertions.proofs.FirstLaws.{empty-degenerate}
use Rattle.types.specs.Drafts.{Draft, IsWrittenOut}
use Rattle.types.specs.Outlines.{map_written}
use Rattle.types.specs.Entries.{Alike}
use Rattle.types.specs.Placed.{atom_true, MatchesByPlaces}
use Rattle.types.proofs.AlikeLaws.{alike_one, alike_one_of, alike_after, alike_later}
use Rattle.types.proofs.AlikeLaws.{alike_times, alike_either, alike_both, alike_meet, alike_during}
use Rattle.types.proofs.MapLaws.{spells_map}
use Rattle.types_names.specs.Scopes.{Scope}
use Rattle.types.specs.Texts.{declarations_of, assertions_of, led_byte, is_led}
use Rattle.types.specs.Readings.{Dot, dot, outline, AllRead}
use Rattle.types.specs.Suites.{before_by, first_by, ReadsAntecedent, ReadsConsequent, IsMeant}
use Rattle.types.proofs.OutlineLaws.{dotted, reads_outline}
use Rattle.types.proofs.BodyLaws.{outlined}
use Rattle.types.specs.declared.fault.TypeFault.TheVariants.{AdmitsEmpty as Empty, Degenerate}
use Rattle.types.specs.Faults.{Side, outline_before, antecedents_in, consequent_in, sides_of}
use Rattle.types.specs.Faults.{consequents_of, IsSide, IsFaultless}

-- Dots in the places of booleans, where all are true.
module _ (f : Boolean → Dot) where
  dots_alike : (w : Written Boolean) →
      Alike always always (kernel One w) (kernel (f One) (map_written f w))
  dots_alike (boolean b) = alike_one always always b (f b) (λ k. refl)
  dots_alike (delay r least most s) =
      alike_one_of always always least (most - least) (after One (kernel One r) (kernel One s))
      (after (f One) (kernel (f One) (map_written f r)) (kernel (f One) (map_written f s)))
      (alike_after always always One (f One) (kernel One r) (kernel One s)
      (kernel (f One) (map_written f r)) (kernel (f One) (map_written f s)) (λ k. refl)
      (dots_alike r) (dots_alike s))
  dots_alike (lead least most s) =
      alike_one_of always always least (most - least) (later One (kernel One s))
      (later (f One) (kernel (f One) (map_written f s)))
      (alike_later always always One (f One) (kernel One s) (kernel (f One) (map_written f s))
      (λ k. refl) (dots_alike s))
  dots_alike (repeat r least most) =
      alike_times always always (kernel One r) (kernel (f One) (map_written f r)) least most
      (dots_alike r)
  dots_alike (or r s) =
      alike_either always always (kernel One r) (kernel One s) (kernel (f One) (map_written f r))
      (kernel (f One) (map_written f s)) (dots_alike r) (dots_alike s)
  dots_alike (and r s) =
      alike_both always always (kernel One r) (kernel One s) (kernel (f One) (map_written f r))
      (kernel (f One) (map_written f s)) (dots_alike r) (dots_alike s)
  dots_alike (intersect r s) =
      alike_meet always always (kernel One r) (kernel One s) (kernel (f One) (map_written f r))
      (kernel (f One) (map_written f s)) (dots_alike r) (dots_alike s)
  dots_alike (throughout b r) =
      alike_during always always b (f b) (kernel One r) (kernel (f One) (map_written f r))
      (λ k. refl) (dots_alike r)

-- Before a tick was seen every boolean is true.
or_left : (x y : Bool) → IsTrue x → IsTrue (x || y)
or_left true y h = refl
or_left false y h = absurd cc

none_seen : (value : Boolean → ℕ → Bool) (b : Boolean) (k : ℕ) → IsTrue (sat value 0 b k)
none_seen value b k = or_left (nat_le 0 k) (value b k) (le-leb 0 k (omega arith))

empty_meant : (e : List Expr) (places : List ℕ) (w u : Written Boolean) → MatchesByPlaces e places w u →
    AdmitsEmpty (kernel One u) → AdmitsEmpty (kernel One w)
empty_meant e places w u h empty =
    let t : Samples = record { signal_at = λ p k. 0; counter_at = λ p k. 0 } in
    let one = atom_true e t in
    let two = value_in e places t in
    let seen : Matches (sat two 0) (kernel One u) 0 0 =
    Matches-mono Boolean always (sat two 0) (λ b k x. none_seen two b k) (kernel One u) 0 0 empty in
    Matches-mono Boolean (sat one 0) always (λ b k x. refl) (kernel One w) 0 0 ((h t 0 0 0).1 seen)

-- A consequent of the text.
consequent_there : (s : Scope) (before : List trees.AssertionForm) (a : trees.AssertionForm)
    (more : List trees.AssertionForm) →
    IsSide (consequent_in s a.property) (consequents_of s (before ++ a ∷ more))
consequent_there s [] a more = inl refl
consequent_there s (b ∷ before) a more = inr (consequent_there s before a more)

-- An antecedent of the text.
side_left : (x : Side) (ys zs : List Side) → IsSide x ys → IsSide x (ys ++ zs)
side_left x [] zs i = elim i [ ]
side_left x (y ∷ ys) zs (inl same) = inl same
side_left x (y ∷ ys) zs (inr i) = inr (side_left x ys zs i)

side_right : (x : Side) (ys zs : List Side) → IsSide x zs → IsSide x (ys ++ zs)
side_right x [] zs i = i
side_right x (y ∷ ys) zs i = inr (side_right x ys zs i)

antecedent_there : (s : Scope) (x : Side) (before : List trees.AssertionForm)
    (a : trees.AssertionForm) (more : List trees.AssertionForm) →
    IsSide x (antecedents_in s a.property) → IsSide x (sides_of s (before ++ a ∷ more))
antecedent_there s x [] a more i =
    side_left x (antecedents_in s a.property ++ consequent_in s a.property ∷ []) (sides_of s more)
    (side_left x (antecedents_in s a.property) (consequent_in s a.property ∷ []) i)
antecedent_there s x (b ∷ before) a more i =
    side_right x (antecedents_in s b.property ++ consequent_in s b.property ∷ [])
    (sides_of s (before ++ a ∷ more)) (antecedent_there s x before a more i)

before_outline : (k : Implication) (d : Draft Boolean) →
    dotted (before_by k d) ≡ outline_before k (dotted d)
before_outline Overlapped d = refl
before_outline NonOverlapped d = refl

module _ (s : Scope) (cs : List (List ℕ)) (e : List Expr) where
  consequent_outline : (p : PropertyForm) (d : Draft Boolean) → ReadsConsequent s cs e p d →
      dotted d ≡ (consequent_in s p).outline
  consequent_outline (plain q) d h = reads_outline s cs e q d h
  consequent_outline (implication word a t c) d h = reads_outline s cs e c d h

  pub never_empty : (items : List ItemForm) (bodies : List (Draft Boolean))
      (before : List trees.AssertionForm) (a : trees.AssertionForm)
      (more : List trees.AssertionForm) (made : Assertion) (d : Draft Boolean) →
      IsFaultless s items → assertions_of items ≡ before ++ a ∷ more →
      AllRead s cs e (map (λ d. d.body) (declarations_of items)) bodies →
      ReadsConsequent s cs e a.property d →
      IsMeant bodies e made.booleans.items d (written_form made.consequent) →
      AdmitsEmpty (shape made.consequent) → ⊥
  never_empty items bodies before a more made d faultless is read reads meant empty =
      let f = λ (b : Boolean). dot in
      let side = consequent_in s a.property in
      let w = meant.meant in
      let here =
      subst (λ (xs : List trees.AssertionForm). IsSide side (consequents_of s xs)) (sym is)
      (consequent_there s before a more) in
      let spelled =
      subst (λ (bs : List (Draft Dot)). IsWrittenOut bs side.outline (map_written f w))
      (outlined s cs e items bodies read)
      (subst (λ (z : Draft Dot). IsWrittenOut (map dotted bodies) z (map_written f w))
      (consequent_outline a.property d reads) (spells_map f bodies d w meant.spells)) in
      let none =
      empty_meant e made.booleans.items w (written_form made.consequent) meant.placed empty in
      faultless (Empty side.byte)
      (record {
        side = side;
        one = here;
        meant = map_written f w;
        spells = spelled;
        so = (dots_alike f w 0 0).0 none;
        byte = refl;
      })

  -- an antecedent in first_match, as it is read
  record IsLed (p : PropertyForm) (d : Draft Boolean) : Type 0 where
    side : Side
    one : IsSide side (antecedents_in s p)
    outlined : dotted d ≡ side.outline
    led : side.first ≡ true

  antecedent_led : (p : PropertyForm) (d : Draft Boolean) → ReadsAntecedent s cs e p d →
      first_by p ≡ true → IsLed p d
  antecedent_led (plain q) d h first = absurd cc
  antecedent_led (implication word a i c) d h first = record {
    side =
        record {
          outline = outline_before i (outline s a);
          first = is_led word;
          byte = led_byte word a;
        };
    one = inl refl;
    outlined =
        ap dotted h.2 ∙ before_outline i h.0
        ∙ ap (outline_before i) (reads_outline s cs e a h.0 h.1);
    led = first;
  }

  pub never_led : (items : List ItemForm) (bodies : List (Draft Boolean))
      (before : List trees.AssertionForm) (a : trees.AssertionForm)
      (more : List trees.AssertionForm) (made : Assertion) (d : Draft Boolean) →
      IsFaultless s items → assertions_of items ≡ before ++ a ∷ more →
      AllRead s cs e (map (λ d. d.body) (declarations_of items)) bodies →
      ReadsAntecedent s cs e a.property d →
      IsMeant bodies e made.booleans.items d (written_form made.antecedent) →
      first_by a.property ≡ true → AdmitsEmpty (shape made.antecedent) → ⊥
  never_led items bodies before a more made d faultless is read reads meant first empty =
      let f = λ (b : Boolean). dot in
      let led = antecedent_led a.property d reads first in
      let side = led.side in
      let w = meant.meant in
      let here =
      subst (λ (xs : List trees.AssertionForm). IsSide side (sides_of s xs)) (sym is)
      (antecedent_there s side before a more led.one) in
      let spelled =
      subst (λ (bs : List (Draft Dot)). IsWrittenOut bs side.outline (map_written f w))
      (outlined s cs e items bodies read)
      (subst (λ (z : Draft Dot). IsWrittenOut (map dotted bodies) z (map_written f w))
      led.outlined (spells_map f bodies d w meant.spells)) in
      let none =
      empty_meant e made.booleans.items w (written_form made.antecedent) meant.placed empty in
      faultless (Degenerate side.byte)
      (record {
        side = side;
        one = here;
        meant = map_written f w;
        spells = spelled;
        so =
            subst (λ (x : Bool). IsDegenerateBy x (kernel dot (map_written f w))) (sym led.led)
            (empty-degenerate Dot (kernel dot (map_written f w)) ((dots_alike f w 0 0).0 none));
        byte = refl;
      })
