-- How many names are read, and the code over their slots.
use Rattle.std.proofs.Common.{◌≡◌, ◌∙◌, ℕ, ◌<◌, ◌≤◌, Bool, List, length, map, ap, sym, arith}
use Rattle.std.specs.Prelude.{count_by, slice_get, unwrap_or, Option, Some, None}
use Rattle.std.proofs.Math.Path.{fun_ext}
use Rattle.expressions.specs.declared.name.Origin.{Origin}
use Rattle.expressions.specs.declared.name.Origin.TheVariants.{Signal, Counter}
use Rattle.expressions.specs.declared.expr.Expr.{Expr}
use Rattle.expressions.specs.declared.counter.Counter.{Counter as Counting}
use Rattle.expressions.specs.Expressions.{term_of}
use Rattle.assertions.specs.declared.assertion.Assertion.{Assertion}
use Rattle.assertions.specs.declared.suite.Suite.{Suite}
use Rattle.assertions.specs.Written.{Written, boolean, delay, lead, repeat, or, and, intersect, throughout}
use Rattle.assertions.specs.declared.sequence.Boolean.{Boolean}
use Rattle.assertions.specs.declared.sequence.Boolean.TheVariants.{One, Listed}
use Rattle.assertions.specs.Listed.{EachBoolean, IsListed, IsListedOption}
use Rattle.assertions.specs.Marks.{is_marked, places_from, slots_from}
use Rattle.compiler.specs.declared.slot_table.SlotTable.{SlotTable}
use Rattle.compiler.specs.Codes.{Slots}
use Rattle.compiler.specs.Samples.{sample_code, sample_reach}
use Rattle.compiler.specs.Chosen.{terms_at, held_counters}
use Rattle.compiler.specs.Slots.{slots_in}
use Rattle.compiler.specs.Conditions.{FitsSuite}
use Rattle.compiler.specs.Readings.{IsReading, first_counter, slots_over, boolean_terms, counters_read, code_over}
use Rattle.compiler.proofs.Places.{places-long}
use Rattle.compiler.proofs.Known as known
use Rattle.compiler.proofs.Formed as made

pub marked-count : (marks : List Bool) (places : List ℕ) → places ≡ places_from 0 marks → count_by is_marked marks
    ≡ length places
marked-count marks places is = sym (places-long 0 marks) ∙ sym (ap length is)

-- the slots by their places
pub slots-same : (t : SlotTable) (signals counters : List Bool) → t.signals.items ≡ slots_from 1 signals →
    t.counters.items ≡ slots_from (first_counter signals) counters → slots_in t ≡ slots_over signals counters
slots-same t signals counters s c = fun_ext (λ o. fun_ext (λ p. at o p))
  where
    at : (o : Origin) (p : ℕ) → slots_in t o p ≡ slots_over signals counters o p
    at Signal p = ap (λ xs. unwrap_or (slice_get xs p) 0) s
    at Counter p = ap (λ xs. unwrap_or (slice_get xs p) 0) c

module _ (suite : Suite) (a : Assertion) (fit : FitsSuite suite a) (signals counters : List Bool)
    (reading : IsReading suite a signals counters)
    (bs : List Expr) (at_s : List ℕ) (cs : List Counting) (ps : List ℕ)
    (e1 : bs ≡ suite.booleans.items) (e2 : at_s ≡ a.booleans.items) (e3 : cs ≡ suite.counters.items)
    (e4 : ps ≡ places_from 0 counters) where
  terms-same : terms_at bs at_s ≡ boolean_terms suite a
  terms-same = ap (λ b. terms_at b at_s) e1 ∙ ap (λ x. terms_at suite.booleans.items x) e2

  held-same : held_counters cs ps ≡ counters_read suite counters
  held-same = ap (λ c. held_counters c ps) e3 ∙ ap (λ x. held_counters suite.counters.items x) e4

  pub near-code : sample_reach (terms_at bs at_s) (held_counters cs ps) < 65536
  near-code =
      let es = map term_of (known.found suite a fit signals counters reading).booleans in
      let terms = terms-same ∙ (known.found suite a fit signals counters reading).terms in
      let bounded = made.bounded suite a fit signals counters reading in
      let same : sample_reach (terms_at bs at_s) (held_counters cs ps)
      ≡ sample_reach es (counters_read suite counters) =
      ap (λ t. sample_reach t (held_counters cs ps)) terms ∙ ap (λ h. sample_reach es h) held-same in
      omega (arith, same, bounded.reach)

  pub code-same : (at : Slots) → at ≡ slots_over signals counters
      → sample_code at (terms_at bs at_s) (held_counters cs ps)
      ≡ code_over suite a signals counters
  code-same at is =
      ap (λ x. sample_code x (terms_at bs at_s) (held_counters cs ps)) is
      ∙ ap (λ t. sample_code (slots_over signals counters) t (held_counters cs ps)) terms-same
      ∙ ap (λ h. sample_code (slots_over signals counters) (boolean_terms suite a) h) held-same

-- listed among fewer, listed among more
more-listed : (m n : ℕ) (b : Boolean) → m ≤ n → IsListed m b → IsListed n b
more-listed m n One le h = tt
more-listed m n (Listed i) le h = omega (arith, le, h)

pub listed-more : (m n : ℕ) (w : Written Boolean) → m ≤ n → EachBoolean (IsListed m) w → EachBoolean (IsListed n) w
listed-more m n (boolean b) le h = more-listed m n b le h
listed-more m n (delay r least most s) le h = (listed-more m n r le h.0, listed-more m n s le h.1)
listed-more m n (lead least most s) le h = listed-more m n s le h
listed-more m n (repeat r least most) le h = listed-more m n r le h
listed-more m n (or r s) le h = (listed-more m n r le h.0, listed-more m n s le h.1)
listed-more m n (and r s) le h = (listed-more m n r le h.0, listed-more m n s le h.1)
listed-more m n (intersect r s) le h = (listed-more m n r le h.0, listed-more m n s le h.1)
listed-more m n (throughout b r) le h = (more-listed m n b le h.0, listed-more m n r le h.1)

pub option-more : (m n : ℕ) (o : Option Boolean) → m ≤ n → IsListedOption m o → IsListedOption n o
option-more m n None le h = tt
option-more m n (Some One) le h = h
option-more m n (Some (Listed i)) le h = omega (arith, le, h)
