-- The sample code of a program of an assertion makes what the assertion's booleans and counters are.
use Rattle.std.proofs.Common.{◌≡◌, ◌∙◌, ℕ, ◌+◌, ◌-◌, ◌^◌, ◌%◌, ◌<◌, ◌≤◌, Bool, List, [], ◌∷◌, ◌++◌, length, map, Some}
use Rattle.std.proofs.Common.{slice_get, refl, ap, sym, subst, arith}
use Rattle.std.specs.Prelude.{slice_index, replicate}
use Rattle.std.specs.List.{AllByRecursion}
use Rattle.std.proofs.Math.Nat.{mod-eq_of_lt}
use Rattle.std.proofs.lemmas.Bool.{le-leb, lt-leb}
use Rattle.std.proofs.lemmas.List.{get_or-map, length-map}
use Rattle.expressions.specs.declared.name.Origin.{Origin}
use Rattle.expressions.specs.declared.name.Origin.TheVariants.{Signal, Counter}
use Rattle.expressions.specs.declared.name.Name.{Name}
use Rattle.expressions.specs.Terms.{Term, constant, named, slice, group, concat, inverse, reduce, combine, shift}
use Rattle.expressions.specs.Terms.{compare, connect, choose, past, change, Samples, sample_at, name_at, is_true}
use Rattle.expressions.specs.Expressions.{term_of}
use Rattle.expressions.specs.Tables.{cell, column}
use Rattle.expressions.specs.Counters.{next_count, next_of, counter_samples}
use Rattle.expressions.proofs.Causality.{counts_by_rule}
use Rattle.assertions.specs.declared.signal.Signal.{Signal as Watched}
use Rattle.assertions.specs.declared.assertion.Assertion.{Assertion}
use Rattle.assertions.specs.declared.suite.Suite.{Suite}
use Rattle.assertions.specs.Shapes.{is_true_at}
use Rattle.bytecode_programs.specs.Values.{ProgramData, SlotData}
use Rattle.bytecode_programs.specs.Instructions.{frame_of}
use Rattle.verifier.specs.Programs.{IsAccepted}
use Rattle.machine_checked.specs.Outcomes.{Meets}
use Rattle.machine_checked.specs.Samples.{nothing_made}
use Rattle.machine_checked.specs.Machine.{sample_of, stored}
use Rattle.machine_sections.specs.History.{clock_row, sample_rows, slot_held_at, IsSampleMade, SamplesAs}
use Rattle.machine_sections.proofs.Histories.{reads}
use Rattle.compiler_laws.specs.LineLaws.{row_of}
use Rattle.compiler.specs.Codes.{slot_of}
use Rattle.compiler.specs.Samples.{Held, held_slot}
use Rattle.compiler.specs.Laws.{EachPart, OfName, HasSlot, IsNarrow, TellsSlot, TellsNames, IsFrame}
use Rattle.compiler.specs.Laws.{AreTold}
use Rattle.compiler.specs.Laws.{program_terms}
use Rattle.compiler.proofs.Accepted.{samples-tell}
use Rattle.compiler.specs.Programs.{HoldsAt, HoldsName, IsSampledIn, IsSlotOf, IsProgramOf}
use Rattle.compiler_laws.specs.ProgramLaws.{AreSuiteRows, picked_row}
use Rattle.compiler.proofs.ListLaws.{some-one, zip-at, zip-long, all-at, all-by-places, all-more, map-twice, all-zeros}
use Rattle.compiler.proofs.ListLaws.{signal-slot, counter-slot, by-index}
use Rattle.compiler_laws.proofs.SampleLaws.{same-run}
use Rattle.compiler.proofs.Frames.{each-more, of-name-more, frame}

-- a slot that holds at each tick what is told of it
tells : (row : ℕ → List ℕ) (k slot : ℕ) (value : ℕ → ℕ) → ((j : ℕ) → j ≤ k → slice_index (row j) slot ≡ value j)
    → TellsSlot (slot_held_at row k) k slot value
tells row k slot value each = record {
  seen = λ back le. rw (le-leb back k le) (each (k - back) (omega arith));
  before = λ back lt. rw (lt-leb back k lt) refl;
}

module _ (suite : Suite) (a : Assertion) (p : ProgramData) (of : IsProgramOf suite a p) (rows : List (List ℕ))
    (fit : AreSuiteRows suite rows) where
  abbrev pub t : Samples
  t = counter_samples (column rows) suite.counters.items

  abbrev pub signals : ℕ → List ℕ
  signals k = row_of (map (picked_row of.layout.signals) rows) k

  abbrev pub counters : ℕ → List ℕ
  counters k = map (λ (h : Held). t.counter_at h.place k) of.layout.counters

  abbrev pub atoms : ℕ → List Bool
  atoms k = map (λ place. is_true_at t (slice_get suite.booleans.items place) k) a.booleans.items

  signals-at : (k : ℕ) → k < length rows → signals k ≡ map (λ place. cell rows k place) of.layout.signals
  signals-at k below = get_or-map (picked_row of.layout.signals) rows k [] [] below

  held-counter : (i : ℕ) (h : Held) → slice_get of.layout.counters i ≡ Some h → slice_get suite.counters.items h.place
      ≡ Some h.counter
  held-counter i h is =
      all-at (λ (g : Held). slice_get suite.counters.items g.place ≡ Some g.counter) of.layout.counters of.held i h is

  signal-held : (k i place : ℕ) → k < length rows → slice_get of.layout.signals i ≡ Some place →
      slice_index (clock_row signals counters k) (1 + i) ≡ cell rows k place
  signal-held k i place below is =
      by-index (clock_row signals counters k) (1 + i) (cell rows k place)
      (ap (λ s. slice_get (1 ∷ (s ++ counters k)) (1 + i)) (signals-at k below)
      ∙ signal-slot (λ q. cell rows k q) of.layout.signals (counters k) i place is)

  counter-held : (k i : ℕ) (h : Held) → k < length rows → slice_get of.layout.counters i ≡ Some h →
      slice_index (clock_row signals counters k) (1 + (length of.layout.signals + i)) ≡ t.counter_at h.place k
  counter-held k i h below is =
      by-index (clock_row signals counters k) (1 + (length of.layout.signals + i)) (t.counter_at h.place k)
      (ap (λ s. slice_get (1 ∷ (s ++ counters k)) (1 + (length of.layout.signals + i))) (signals-at k below)
      ∙ counter-slot (λ (g : Held). t.counter_at g.place k) of.layout.signals (λ q. cell rows k q) of.layout.counters i
      h is)

  tells-at : (k : ℕ) → k < length rows → (o : Origin) (place width : ℕ) → HoldsAt suite of.layout o place width →
      TellsSlot (slot_held_at (clock_row signals counters) k) k (of.at o place) (λ j. sample_at t o place j % 2 ^ width)
  tells-at k below Signal place width h =
      subst (λ s. TellsSlot (slot_held_at (clock_row signals counters) k) k s (λ j. cell rows j place % 2 ^ width))
      (sym (of.laid.signals h.slot place h.held))
      (tells (clock_row signals counters) k (1 + h.slot) (λ j. cell rows j place % 2 ^ width) (λ j le.
      signal-held j h.slot place (omega (arith, below, le)) h.held
      ∙ sym (mod-eq_of_lt (subst (λ w. cell rows j place < 2 ^ w) h.wide (fit j place h.signal h.is)))))
  tells-at k below Counter place width h =
      let slot = of.laid.counters h.slot h.counter h.held in
      let fits = (counts_by_rule (column rows) suite.counters.items).fits in
      subst (λ q. TellsSlot (slot_held_at (clock_row signals counters) k) k (of.at Counter q)
      (λ j. t.counter_at q j % 2 ^ width)) h.is
      (subst (λ s. TellsSlot (slot_held_at (clock_row signals counters) k) k s
      (λ j. t.counter_at h.counter.place j % 2 ^ width))
      (sym slot)
      (tells (clock_row signals counters) k (1 + (length of.layout.signals + h.slot))
      (λ j. t.counter_at h.counter.place j % 2 ^ width) (λ j le.
      counter-held j h.slot h.counter (omega (arith, below, le)) h.held
      ∙ sym (mod-eq_of_lt
      (subst (λ w. t.counter_at h.counter.place j < 2 ^ w) h.wide
      (fits h.counter.place j h.counter.counter (held-counter h.slot h.counter h.held)))))))

  told : (k : ℕ) → k < length rows
      → AreTold t of.at (slot_held_at (clock_row signals counters) k) k (map term_of of.booleans)
      of.layout.counters
  told k below = record {
    ticks = tells (clock_row signals counters) k 0 (λ j. 1) (λ j le. refl);
    names =
        all-more (EachPart (IsSampledIn suite of.layout))
        (TellsNames t of.at (slot_held_at (clock_row signals counters) k) k)
        (program_terms (map term_of of.booleans) of.layout.counters)
        (each-more (IsSampledIn suite of.layout)
        (OfName (λ name. TellsSlot (slot_held_at (clock_row signals counters) k) k (slot_of of.at name)
        (name_at t name)))
        (λ e s. of-name-more (HoldsName suite of.layout)
        (λ name. TellsSlot (slot_held_at (clock_row signals counters) k) k (slot_of of.at name) (name_at t name))
        (λ name h. tells-at k below name.origin name.place name.width h) e s.name))
        of.sampled;
    counts =
        all-by-places
        (λ (h : Held). slot_held_at (clock_row signals counters) k 0 (held_slot of.at h) ≡ t.counter_at h.place k)
        of.layout.counters (λ i h is.
        let zero_back : k - 0 ≡ k = omega arith in
        ap (λ s. slot_held_at (clock_row signals counters) k 0 s) (of.laid.counters i h is)
        ∙ rw (le-leb 0 k (omega arith))
        (ap (λ j. slice_index (clock_row signals counters j) (1 + (length of.layout.signals + i))) zero_back
        ∙ counter-held k i h below is));
    fit = all-by-places (λ (h : Held). t.counter_at h.place k < 2 ^ h.counter.width) of.layout.counters (λ i h is.
        (counts_by_rule (column rows) suite.counters.items).fits h.place k h.counter (held-counter i h is));
  }

  -- what sample code of these booleans and counters makes
  pub atoms-same : (k : ℕ) → map (λ e. is_true t e k) (map term_of of.booleans) ≡ atoms k
  atoms-same k =
      map-twice (λ e. is_true t e k) term_of of.booleans
      ∙ sym (map-twice (λ o. is_true_at t o k) (λ e. Some e) of.booleans)
      ∙ ap (map (λ o. is_true_at t o k)) (sym of.found)
      ∙ map-twice (λ o. is_true_at t o k) (λ place. slice_get suite.booleans.items place) a.booleans.items

  stored-same : (k : ℕ) (hs : List Held)
      → AllByRecursion (λ (h : Held). slice_get suite.counters.items h.place ≡ Some h.counter) hs →
      stored (map (λ (h : Held). Some (next_count t h.counter (t.counter_at h.place k) k)) hs)
      (map (λ (h : Held). t.counter_at h.place k) hs)
      ≡ map (λ (h : Held). t.counter_at h.place (k + 1)) hs
  stored-same k [] all = refl
  stored-same k (h ∷ hs) all =
      ap (λ v. v ∷ stored (map (λ (g : Held). Some (next_count t g.counter (t.counter_at g.place k) k)) hs)
      (map (λ (g : Held). t.counter_at g.place k) hs))
      (sym ((counts_by_rule (column rows) suite.counters.items).next h.place k
      ∙ ap (λ c. next_of t c (t.counter_at h.place k) k) all.0))
      ∙ ap (λ vs. t.counter_at h.place (k + 1) ∷ vs) (stored-same k hs all.1)

  pub samples : IsAccepted p → SamplesAs p signals counters atoms (length rows)
  samples accepted = record {
    opening =
        all-zeros (λ (h : Held). t.counter_at h.place 0) of.layout.counters
        (λ h. (counts_by_rule (column rows) suite.counters.items).first h.place)
        ∙ ap (λ n. replicate n 0)
        (sym (ap length of.widths ∙ length-map of.layout.counters (λ (h : Held). h.counter.width)));
    each = λ k below.
        subst (Meets (λ made left. IsSampleMade (counters k) (atoms k) (counters (k + 1)) made))
        (sym (same-run (frame_of p) p.header.limits (sample_of (sample_rows p signals counters k))
        (slot_held_at (clock_row signals counters) k)
        (λ back slot le. reads p signals counters k back slot le) p.sample p.header.limits.budget 0 []
        (nothing_made (frame_of p))
        ∙ samples-tell p of.at (map term_of of.booleans) of.layout.counters accepted of.sample (frame suite a p of) t
        (slot_held_at (clock_row signals counters) k) k (told k below)))
        (record { atoms = atoms-same k; counters = stored-same k of.layout.counters of.held });
  }
