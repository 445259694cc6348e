-- What is known of sides, from the entries of what they say.
use Rattle.std.proofs.Common.{◌≡◌, ℕ, ◌+◌, ◌≤◌, min, List, [], ◌∷◌, ◌++◌, map, Option, Some, None, refl, sym, ap, ◌∙◌}
use Rattle.std.proofs.Common.{subst, arith}
use Rattle.parser_grammar.specs.Trees as trees
use Rattle.parser_grammar.specs.Trees.{PropertyForm, plain, implication}
use Rattle.expressions.specs.declared.expr.Expr.{Expr}
use Rattle.parser_grammar.specs.declared.operator.Implication.{Implication}
use Rattle.parser_grammar.specs.declared.operator.Implication.TheVariants.{Overlapped, NonOverlapped}
use Rattle.assertions.specs.declared.sequence.Boolean.{Boolean}
use Rattle.assertions.specs.declared.sequence.Boolean.TheVariants.{One}
use Rattle.assertions.specs.Written.{weight}
use Rattle.assertions.specs.Written as written
use Rattle.types.specs.declared.entry.Entry.{Entry}
use Rattle.types.specs.Drafts.{Draft, IsWrittenOut}
use Rattle.types.specs.Outlines.{map_written}
use Rattle.types.specs.Entries.{HasEntry}
use Rattle.types.proofs.MapLaws.{spells_map, weight_map, empty_map, ticks_map, ordered_map, spells_one}
use Rattle.types_names.specs.Scopes.{Scope}
use Rattle.types.specs.declared.side.Side.{Side}
use Rattle.types.specs.declared.resolved.Resolved.{Resolved}
use Rattle.types.specs.Readings.{Dot, dot, outline}
use Rattle.types.specs.Texts.{sequence_byte, led_byte, is_led}
use Rattle.types.specs.Suites.{before_by, first_by, ReadsAntecedent, ReadsConsequent}
use Rattle.types.specs.Faults as faults
use Rattle.types.specs.Faults.{outline_before, antecedents_in, consequent_in, sides_of, consequents_of}
use Rattle.types.specs.Sides.{IsWeighed, AreWeighed, AreLight}
use Rattle.types.specs.Drafted.{antecedent_byte, consequent_byte}
use Rattle.types.specs.Sides.{side_of, side_at, consequent_side, sides_in, consequents_in, entry_ticks, sequence_ticks}
use Rattle.types.specs.Sides.{AreKnownEntries}
use Rattle.std.specs.Prelude.{Box, nat_lt, Bool, true, false, if◌then◌else◌}
use Rattle.std.specs.declared.alloc.Global.{Global}
use Rattle.std.proofs.lemmas.Bool.{cases_Bool, ltb-true, false≢true}
use Rattle.std.proofs.Common.{◌⊎◌, inl, inr}
use Rattle.assertions.specs.declared.sequence.Sequence.{Sequence}
use Rattle.assertions.specs.Segments.{IsDegenerate, always}
use Rattle.assertions.specs.Written.{Written, kernel, IsOrdered}
use Rattle.assertions.specs.Shapes.{written_form}
use Rattle.assertions.specs.Emptiness.{takes_ticks}
use Rattle.assertions.proofs.EmptinessLaws.{degenerate-none, none-degenerate}
use Rattle.types.specs.Entries.{IsTheEntryOf, HasSame, SaysSame}
use Rattle.types.specs.Resolved.{AreResolved}
use Rattle.types.specs.Made.{AreFitting}
use Rattle.types.proofs.OutlineLaws.{dotted, reads_outline}

weighed_both : (o : List (Draft Dot)) (xs : List faults.Side) (ys : List Side) (us : List faults.Side) (vs : List Side)
    → AreWeighed o xs ys → AreWeighed o us vs → AreWeighed o (xs ++ us) (ys ++ vs)
weighed_both o [] [] us vs h g = g
weighed_both o [] (y ∷ ys) us vs h g = elim h [ ]
weighed_both o (x ∷ xs) [] us vs h g = elim h [ ]
weighed_both o (x ∷ xs) (y ∷ ys) us vs h g = (h.0, weighed_both o xs ys us vs h.1 g)

-- Two that say the same take ticks alike.
same_ticks : (w u : Written Boolean) → IsOrdered w → SaysSame w u → takes_ticks u ≡ takes_ticks w
same_ticks w u o h = by_both (cases_Bool (takes_ticks u)) (cases_Bool (takes_ticks w))
  where
    over : takes_ticks u ≡ false → takes_ticks w ≡ false
    over e =
        let none = none-degenerate Boolean One u h.ordered e in
        degenerate-none Boolean One w (λ j lt m. none j lt ((h.alike always 0 j).0 m))

    back : takes_ticks w ≡ false → takes_ticks u ≡ false
    back e =
        let none = none-degenerate Boolean One w o e in
        degenerate-none Boolean One u (λ j lt m. none j lt ((h.alike always 0 j).1 m))

    by_both : (takes_ticks u ≡ true) ⊎ (takes_ticks u ≡ false) → (takes_ticks w ≡ true) ⊎ (takes_ticks w ≡ false)
        → takes_ticks u ≡ takes_ticks w
    by_both (inl e) (inl f) = e ∙ sym f
    by_both (inl e) (inr f) = absurd (false≢true (sym (back f) ∙ e))
    by_both (inr e) f = e ∙ sym (over e)

-- What is told of an entry's sequence is so of what is meant.
entry_says : (e : Entry) (w : Written Boolean) → IsTheEntryOf w e → e.facts.weight ≤ 127 → entry_ticks e ≡ takes_ticks w
entry_says e w h low = elim (cases_Bool (nat_lt 127 e.facts.weight)) [
  | inl over ↦ absurd (let l = ltb-true 127 e.facts.weight over in omega (arith, l, low))
  | inr under ↦ rw under (told e.sequence (h.same (omega (arith, h.facts.weighs, low))))
]
  where
    told : (o : Option (Box Sequence Global)) → HasSame w o → sequence_ticks o ≡ takes_ticks w
    told None s = elim s [ ]
    told (Some x) s = same_ticks w (written_form x.value) h.ordered s

-- All entries of the assertions are those of what their sides say.
pub sides_known : (s : Scope) (cs : List (List ℕ)) (e : List Expr) (bodies : List (Draft Boolean))
    (us : List trees.AssertionForm) (ms : List Resolved) (before : ℕ)
    → AreResolved s cs e bodies before us ms → AreKnownEntries ms
sides_known s cs e bodies [] [] before h = tt
sides_known s cs e bodies [] (m ∷ ms) before h = elim h [ ]
sides_known s cs e bodies (a ∷ us) [] before h = elim h [ ]
sides_known s cs e bodies (a ∷ us) (m ∷ ms) before h =
    let one = h.0 in (
      record {
        antecedent = record { meant = one.antecedent_entry.meant; entry = one.antecedent_entry.entry };
        consequent = record { meant = one.consequent_entry.meant; entry = one.consequent_entry.entry };
      },
      sides_known s cs e bodies us ms (before + 1) h.1,
    )

-- what is known of a side, by its entry
pub weighed : (bodies : List (Draft Boolean)) (o : List (Draft Dot)) (d : Draft Boolean) (e : Entry) (x : faults.Side)
    (first : Bool) (at : ℕ) → map dotted bodies ≡ o → HasEntry bodies d e →
    dotted d ≡ x.outline → first ≡ x.first → at ≡ x.byte → IsWeighed o x (side_of e first at)
weighed bodies o d e x first at same h out led is =
    let f = λ (b : Boolean). dot in
    let k = h.entry.facts in
    record {
      meant = map_written f h.meant;
      spells =
          subst (λ (bs : List (Draft Dot)). IsWrittenOut bs x.outline (map_written f h.meant)) same
          (subst (λ (z : Draft Dot). IsWrittenOut (map dotted bodies) z (map_written f h.meant)) out
          (spells_map f bodies d h.meant h.spells));
      ordered = ordered_map f h.meant h.entry.ordered;
      weighs = k.weighs ∙ ap (λ (w : ℕ). min w 128) (sym (weight_map f h.meant));
      empty = k.empty ∙ sym (empty_map f h.meant);
      ticks = λ light. entry_says e h.meant h.entry light ∙ sym (ticks_map f h.meant);
      first = led;
      byte = is;
    }

before_outline : (k : Implication) (d : Draft Boolean) → dotted (before_by k d) ≡ outline_before k (dotted d)
before_outline Overlapped d = refl
before_outline NonOverlapped d = refl

module _ (s : Scope) (cs : List (List ℕ)) (e : List Expr) (bodies : List (Draft Boolean)) (o : List (Draft Dot))
    (same : map dotted bodies ≡ o) where
  antecedent_weighed : (p : PropertyForm) (d : Draft Boolean) (n : Entry) (f : Bool) (at : Option ℕ)
      → ReadsAntecedent s cs e p d → HasEntry bodies d n → f ≡ first_by p → at ≡ antecedent_byte p →
      AreWeighed o (antecedents_in s p) (side_at n f at)
  antecedent_weighed (plain q) d n f at h i led is =
      subst (λ (z : Option ℕ). AreWeighed o [] (side_at n f z)) (sym is) tt
  antecedent_weighed (implication word a kind c) d n f at h i led is =
      let x : faults.Side =
      record { outline = outline_before kind (outline s a); first = is_led word; byte = led_byte word a } in
      let out = ap dotted h.2 ∙ before_outline kind h.0 ∙ ap (outline_before kind) (reads_outline s cs e a h.0 h.1) in
      subst (λ (z : Option ℕ). AreWeighed o (x ∷ []) (side_at n f z)) (sym is)
      (weighed bodies o d n x f (led_byte word a) same i out led refl, tt)

  consequent_weighed : (p : PropertyForm) (d : Draft Boolean) (n : Entry) (at : ℕ) → ReadsConsequent s cs e p d
      → HasEntry bodies d n → at ≡ consequent_byte p → IsWeighed o (consequent_in s p) (side_of n false at)
  consequent_weighed (plain q) d n at h i is =
      weighed bodies o d n (record { outline = outline s q; first = false; byte = sequence_byte q }) false at same i
      (reads_outline s cs e q d h) refl is
  consequent_weighed (implication word a t c) d n at h i is =
      weighed bodies o d n (record { outline = outline s c; first = false; byte = sequence_byte c }) false at same i
      (reads_outline s cs e c d h) refl is

  pub sides_weighed : (us : List trees.AssertionForm) (ms : List Resolved) (before : ℕ)
      → AreResolved s cs e bodies before us ms → AreWeighed o (sides_of s us) (sides_in ms)
  sides_weighed [] [] before h = tt
  sides_weighed [] (m ∷ ms) before h = elim h [ ]
  sides_weighed (a ∷ us) [] before h = elim h [ ]
  sides_weighed (a ∷ us) (m ∷ ms) before h =
      let one = h.0 in
      weighed_both o (antecedents_in s a.property ++ consequent_in s a.property ∷ [])
      (side_at m.antecedent m.first m.antecedent_at ++ consequent_side m ∷ []) (sides_of s us) (sides_in ms)
      (weighed_both o (antecedents_in s a.property) (side_at m.antecedent m.first m.antecedent_at)
      (consequent_in s a.property ∷ []) (consequent_side m ∷ [])
      (antecedent_weighed a.property one.antecedent m.antecedent m.first m.antecedent_at one.reads_antecedent
      one.antecedent_entry one.first one.antecedent_at) (
        consequent_weighed a.property one.consequent m.consequent m.consequent_at one.reads_consequent
            one.consequent_entry one.consequent_at,
        tt,
      ))
      (sides_weighed us ms (before + 1) h.1)

  pub consequents_weighed : (us : List trees.AssertionForm) (ms : List Resolved) (before : ℕ)
      → AreResolved s cs e bodies before us ms → AreWeighed o (consequents_of s us) (consequents_in ms)
  consequents_weighed [] [] before h = tt
  consequents_weighed [] (m ∷ ms) before h = elim h [ ]
  consequents_weighed (a ∷ us) [] before h = elim h [ ]
  consequents_weighed (a ∷ us) (m ∷ ms) before h =
      let one = h.0 in (
        consequent_weighed a.property one.consequent m.consequent m.consequent_at one.reads_consequent
            one.consequent_entry one.consequent_at,
        consequents_weighed us ms (before + 1)
            h.1,
      )

  -- The antecedent of a sequence that is asserted alone is 1, and weighs 1.
  antecedent_light : (p : PropertyForm) (d : Draft Boolean) (n : Entry) (f : Bool) (at : Option ℕ) (rest : List Side)
      → ReadsAntecedent s cs e p d → HasEntry bodies d n → at ≡ antecedent_byte p →
      AreLight (side_at n f at ++ rest) → n.facts.weight ≤ 127
  antecedent_light (plain q) d n f at rest h i is l =
      let one : IsWrittenOut bodies d (written.boolean One) =
      subst (λ (z : Draft Boolean). IsWrittenOut bodies z (written.boolean One)) (sym h) (0, refl) in
      let w = ap weight (spells_one bodies d i.meant (written.boolean One) i.spells one) in
      omega (arith, i.entry.facts.weighs, w)
  antecedent_light (implication word a t c) d n f at rest h i is l =
      let l2 = subst (λ (z : Option ℕ). AreLight (side_at n f z ++ rest)) is l in
      l2.0

  tail_light : (n : Entry) (f : Bool) (at : Option ℕ) (rest : List Side) → AreLight (side_at n f at ++ rest)
      → AreLight rest
  tail_light n f None rest h = h
  tail_light n f (Some at) rest h = h.1

  pub sides_fit : (us : List trees.AssertionForm) (ms : List Resolved) (before : ℕ)
      → AreResolved s cs e bodies before us ms → AreLight (sides_in ms) → AreFitting ms
  sides_fit [] [] before h l = tt
  sides_fit [] (m ∷ ms) before h l = elim h [ ]
  sides_fit (a ∷ us) [] before h l = elim h [ ]
  sides_fit (a ∷ us) (m ∷ ms) before h l =
      let one = h.0 in
      let n = m.antecedent in
      let f = m.first in
      let whole =
      subst AreLight (let g : (side_at n f m.antecedent_at ++ consequent_side m ∷ []) ++ sides_in ms
      ≡ side_at n f m.antecedent_at ++ (consequent_side m ∷ sides_in ms) = split n f m.antecedent_at in g) l in
      let rest = tail_light n f m.antecedent_at (consequent_side m ∷ sides_in ms) whole in (
        record {
          antecedent =
              record {
                meant = one.antecedent_entry.meant;
                entry = one.antecedent_entry.entry;
                light = antecedent_light a.property one.antecedent m.antecedent m.first m.antecedent_at
                    (consequent_side m ∷ sides_in ms) one.reads_antecedent one.antecedent_entry one.antecedent_at whole;
              };
          consequent =
              record { meant = one.consequent_entry.meant; entry = one.consequent_entry.entry; light = rest.0 };
        },
        sides_fit us ms (before + 1) h.1 rest.1,
      )
    where
      split : (n : Entry) (f : Bool) (at : Option ℕ) → (side_at n f at ++ consequent_side m ∷ []) ++ sides_in ms
          ≡ side_at n f at ++ (consequent_side m ∷ sides_in ms)
      split n f None = refl
      split n f (Some at) = refl
