-- The code of small assertions is short.
use Rattle.std.proofs.Common.{◌≡◌, ◌∙◌, ℕ, zero, suc, ◌+◌, ◌*◌, ◌-◌, ◌<◌, ◌≤◌, Bool, true, false, List, [], ◌∷◌, length}
use Rattle.std.proofs.Common.{Some, None, Option, slice_get}
use Rattle.std.proofs.Common.{refl, ap, sym, subst, arith, inl, inr}
use Rattle.std.specs.Prelude.{sum_by, Contains, IsTrue}
use Rattle.std.proofs.lemmas.Bool.{false≢true}
use Rattle.std.proofs.Math.Nat.{mul-le-mul_right, mul-le-mul_left}
use Rattle.std.proofs.lemmas.Option.{slice_get_within}
use Rattle.expressions.specs.declared.name.Origin.{Origin}
use Rattle.expressions.specs.declared.name.Origin.TheVariants.{Signal, Counter}
use Rattle.expressions.specs.declared.name.Name.{Name}
use Rattle.expressions.specs.declared.expr.Expr.{Expr}
use Rattle.expressions.specs.declared.counter.Counter.{Counter as Counting}
use Rattle.expressions.specs.Terms.{Term}
use Rattle.verifier.specs.Sections.{instructions_in}
use Rattle.assertions.specs.declared.sequence.Boolean.{Boolean}
use Rattle.assertions.specs.declared.sequence.Boolean.TheVariants.{One}
use Rattle.assertions.specs.declared.assertion.Assertion.{Assertion}
use Rattle.assertions.specs.declared.suite.Suite.{Suite}
use Rattle.assertions.specs.Written.{Written, weight, IsOrdered}
use Rattle.assertions.specs.Shapes.{written_form}
use Rattle.assertions.specs.Reads.{IsRead, at_once, through, boolean_names}
use Rattle.assertions.specs.Marks.{places_from}
use Rattle.assertions.proofs.SlotLaws.{place-at}
use Rattle.compiler.specs.Codes.{Slots}
use Rattle.compiler.specs.Samples.{Held, sample_code}
use Rattle.compiler.specs.Chosen.{term_found, terms_at, held_counters}
use Rattle.compiler.specs.Laws.{size}
use Rattle.compiler.proofs.Lengths.{samples-are-short}
use Rattle.positions.specs.Sequences.{atom_of}
use Rattle.positions.specs.Lengths.{HasLongSection}
use Rattle.positions.specs.Laws.{booleans}
use Rattle.positions.proofs.Short.{law-section_is_short, law-tables_are_short}
use Rattle.compiler.specs.Readings.{IsReading, slots_over, boolean_terms, counters_read, code_over}
use Rattle.compiler.specs.Small.{IsSmallSide, IsSmall, SmallHaveCode}

abbrev is_signal : Origin → Bool
is_signal Signal = true
is_signal Counter = false

-- what is read where only signals are named at once
reads-signals : (first : List Name) (counters : List Counting) → ((n : Name) → Contains first n → n.origin ≡ Signal) →
    (n : Name) → IsRead first counters n → n.origin ≡ Signal
reads-signals first counters all n (at_once c) = all n c
reads-signals first counters all n (through {counter = k} before is c) =
    absurd (false≢true (ap is_signal (sym is ∙ reads-signals first counters all k before)))

-- no place is marked
no-place : (marks : List Bool) → ((i p : ℕ) → slice_get (places_from 0 marks) i ≡ Some p → ⊥) → places_from 0 marks ≡ []
no-place marks none = empty (places_from 0 marks) none
  where
    empty : (ps : List ℕ) → ((i p : ℕ) → slice_get ps i ≡ Some p → ⊥) → ps ≡ []
    empty [] h = refl
    empty (p ∷ ps) h = absurd (h 0 p refl)

terms-few : (all : List Expr) (places : List ℕ) → length (terms_at all places) ≤ length places
terms-few all [] = omega arith
terms-few all (p ∷ ps) = found (slice_get all p) (terms-few all ps)
  where
    found : (o : Option Expr) → length (terms_at all ps) ≤ length ps
        → length (term_found o (terms_at all ps)) ≤ suc (length ps)
    found None few = omega (arith, few)
    found (Some e) few = omega (arith, few)

-- the section of a small side, and the tables on the way to it
small-side : (w : Written Boolean) → IsOrdered w → IsSmallSide w → HasLongSection w → ⊥
small-side w ordered small long =
    let n = weight w in
    let square : n * n ≤ n * 61 = mul-le-mul_left n small.light in
    let more : n * (booleans w + 2) ≤ n * 35 = mul-le-mul_left n (omega (arith, small.few)) in
    elim long [
      | inl section ↦
          omega (arith, section, law-section_is_short atom_of One w ordered small.plain, square, more, small.light)
      | inr table ↦ omega (arith, table, law-tables_are_short w ordered small.plain, square, more, small.light)
    ]

module _ (suite : Suite) (a : Assertion) (signals counters : List Bool) (reading : IsReading suite a signals counters)
    (small : IsSmall suite a) where
  unread : (i p : ℕ) → slice_get (places_from 0 counters) i ≡ Some p → ⊥
  unread i p at =
      let placed = place-at 0 0 counters i p at in
      let e : p - 0 ≡ p = omega arith in
      let marked = subst (λ k. slice_get counters k ≡ Some true) e placed.marked in
      let below : p < length suite.counters.items =
      omega (arith, slice_get_within counters p true marked, reading.counters_are.long) in
      let among = (reading.counters_are.each p below).0 marked in
      let is_read = (reading.read among.name).0 among.among in
      false≢true
      (ap is_signal
      (sym among.origin_is ∙ reads-signals (boolean_names suite a) suite.counters.items small.signals among.name
      is_read))

  no-counters : counters_read suite counters ≡ []
  no-counters = ap (held_counters suite.counters.items) (no-place counters unread)

  short-code : length (code_over suite a signals counters) ≤ 4096
  short-code =
      let same : length (code_over suite a signals counters)
      ≡ length (sample_code (slots_over signals counters) (boolean_terms suite a) []) =
      ap (λ hs. length (sample_code (slots_over signals counters) (boolean_terms suite a) hs)) no-counters in
      omega (
        arith,
        same,
        samples-are-short (slots_over signals counters) (boolean_terms suite a) small.still,
        small.short,
        terms-few suite.booleans.items a.booleans.items,
        small.few,
      )

pub small-have-code : SmallHaveCode
small-have-code suite a signals counters reading small (inl code) =
    omega (arith, code, short-code suite a signals counters reading small)
small-have-code suite a signals counters reading small (inr (inl side)) =
    small-side (written_form a.antecedent) a.antecedent_ordered small.antecedent side
small-have-code suite a signals counters reading small (inr (inr side)) =
    small-side (written_form a.consequent) a.consequent_ordered small.consequent side
