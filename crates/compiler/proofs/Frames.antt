-- The slots, atoms and counters of a program of an assertion.
use Rattle.std.proofs.Common.{◌≡◌, ◌∙◌, ℕ, ◌+◌, List, ◌∷◌, ◌++◌, length, map, Some, slice_get, refl, ap, sym}
use Rattle.std.proofs.lemmas.List.{length-map}
use Rattle.expressions.specs.declared.name.Origin.{Origin}
use Rattle.expressions.specs.declared.name.Origin.TheVariants.{Signal, Counter}
use Rattle.expressions.specs.declared.name.Name.{Name}
use Rattle.expressions.specs.Terms.{Term, constant, named, slice, group, concat, inverse, reduce, combine, shift}
use Rattle.expressions.specs.Terms.{compare, connect, choose, past, change}
use Rattle.expressions.specs.Expressions.{term_of}
use Rattle.assertions.specs.declared.signal.Signal.{Signal as Watched}
use Rattle.assertions.specs.declared.assertion.Assertion.{Assertion}
use Rattle.assertions.specs.declared.suite.Suite.{Suite}
use Rattle.bytecode_programs.specs.Values.{ProgramData, SlotData}
use Rattle.bytecode_programs.specs.Instructions.{frame_of}
use Rattle.compiler.specs.Codes.{slot_of}
use Rattle.compiler.specs.Samples.{Held, held_slot}
use Rattle.compiler.specs.Laws.{EachPart, OfName, HasSlot, IsNarrow, IsFrame, program_terms}
use Rattle.compiler.specs.Programs.{HoldsAt, HoldsName, IsSampledIn, IsSlotOf, IsProgramOf}
use Rattle.compiler.proofs.ListLaws.{some-one, zip-at, zip-long, all-by-places, all-more, signal-slot, counter-slot}

-- what holds of each part, from what holds of it
pub each-more : (P Q : Term → Type 0) → ((e : Term) → P e → Q e) → (e : Term) → EachPart P e → EachPart Q e
each-more P Q go (constant bits) h = go (constant bits) h
each-more P Q go (named name) h = go (named name) h
each-more P Q go (slice part) h = go (slice part) h
each-more P Q go (group e) h = (go (group e) h.0, each-more P Q go e h.1)
each-more P Q go (concat a b) h = (go (concat a b) h.0, each-more P Q go a h.1, each-more P Q go b h.2)
each-more P Q go (inverse e) h = (go (inverse e) h.0, each-more P Q go e h.1)
each-more P Q go (reduce op e) h = (go (reduce op e) h.0, each-more P Q go e h.1)
each-more P Q go (combine op a b) h = (go (combine op a b) h.0, each-more P Q go a h.1, each-more P Q go b h.2)
each-more P Q go (shift op a b) h = (go (shift op a b) h.0, each-more P Q go a h.1, each-more P Q go b h.2)
each-more P Q go (compare op a b) h = (go (compare op a b) h.0, each-more P Q go a h.1, each-more P Q go b h.2)
each-more P Q go (connect op a b) h = (go (connect op a b) h.0, each-more P Q go a h.1, each-more P Q go b h.2)
each-more P Q go (choose c a b) h =
    (go (choose c a b) h.0, each-more P Q go c h.1, each-more P Q go a h.2, each-more P Q go b h.3)
each-more P Q go (past e ticks) h = (go (past e ticks) h.0, each-more P Q go e h.1)
each-more P Q go (change op e) h = (go (change op e) h.0, each-more P Q go e h.1)

pub of-name-more : (P Q : Name → Type 0) → ((name : Name) → P name → Q name) → (e : Term) → OfName P e → OfName Q e
of-name-more P Q go (constant bits) h = tt
of-name-more P Q go (named name) h = go name h
of-name-more P Q go (slice part) h = go part.name h
of-name-more P Q go (group e) h = tt
of-name-more P Q go (concat a b) h = tt
of-name-more P Q go (inverse e) h = tt
of-name-more P Q go (reduce op e) h = tt
of-name-more P Q go (combine op a b) h = tt
of-name-more P Q go (shift op a b) h = tt
of-name-more P Q go (compare op a b) h = tt
of-name-more P Q go (connect op a b) h = tt
of-name-more P Q go (choose c a b) h = tt
of-name-more P Q go (past e ticks) h = tt
of-name-more P Q go (change op e) h = tt

module _ (suite : Suite) (a : Assertion) (p : ProgramData) (of : IsProgramOf suite a p) where
  -- the widths of the slots
  abbrev widths : List ℕ
  widths = map (λ (s : SlotData). s.width) p.signals

  signals-long : length p.signals ≡ length of.layout.signals
  signals-long = zip-long (IsSlotOf suite) of.layout.signals p.signals of.slots

  placed-at : (o : Origin) (place width : ℕ) → HoldsAt suite of.layout o place width
      → slice_get (frame_of p).slots (of.at o place) ≡ Some width
  placed-at Signal place width h =
      let found = zip-at (IsSlotOf suite) of.layout.signals p.signals of.slots h.slot place h.held in
      let same = some-one found.2.signal h.signal (sym found.2.is ∙ h.is) in
      ap (λ s. slice_get (frame_of p).slots s) (of.laid.signals h.slot place h.held)
      ∙ signal-slot (λ (s : SlotData). s.width) p.signals p.counters h.slot found.0 found.1
      ∙ ap (λ w. Some w) (found.2.width ∙ ap (λ (s : Watched). s.width) same ∙ h.wide)
  placed-at Counter place width h =
      ap (λ q. slice_get (frame_of p).slots (of.at Counter q)) (sym h.is)
      ∙ ap (λ s. slice_get (frame_of p).slots s) (of.laid.counters h.slot h.counter h.held)
      ∙ ap (λ n. slice_get (frame_of p).slots (1 + (n + h.slot))) (sym signals-long)
      ∙ ap (λ ws. slice_get (1 ∷ (widths ++ ws)) (1 + (length p.signals + h.slot))) of.widths
      ∙ counter-slot (λ (g : Held). g.counter.width) p.signals (λ (s : SlotData). s.width) of.layout.counters h.slot
      h.counter h.held
      ∙ ap (λ w. Some w) h.wide

  pub frame : IsFrame (frame_of p) of.at (map term_of of.booleans) of.layout.counters
  frame = record {
    one = refl;
    slots =
        all-more (EachPart (IsSampledIn suite of.layout)) (EachPart (HasSlot (frame_of p) of.at))
        (program_terms (map term_of of.booleans) of.layout.counters)
        (each-more (IsSampledIn suite of.layout) (HasSlot (frame_of p) of.at) (λ e s.
        of-name-more (HoldsName suite of.layout) (λ name. slice_get (frame_of p).slots (slot_of of.at name)
        ≡ Some name.width)
        (λ name h. placed-at name.origin name.place name.width h) e s.name))
        of.sampled;
    narrow =
        all-more (EachPart (IsSampledIn suite of.layout)) (EachPart IsNarrow)
        (program_terms (map term_of of.booleans) of.layout.counters)
        (each-more (IsSampledIn suite of.layout) IsNarrow (λ e s. s.narrow))
        of.sampled;
    held =
        all-by-places (λ (h : Held). slice_get (frame_of p).slots (held_slot of.at h) ≡ Some h.counter.width)
        of.layout.counters (λ i h is.
        placed-at Counter h.place h.counter.width
        (record { slot = i; counter = h; held = is; is = refl; wide = refl }));
    atoms = of.atoms ∙ sym (length-map of.booleans term_of);
    counters = of.widths;
  }
