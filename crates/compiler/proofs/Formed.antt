-- The parts of a fit assertion make a program of it, which the verifier accepts with its least limits.
use Rattle.std.proofs.Common.{◌≡◌, ◌∙◌, ℕ, zero, suc, ◌+◌, ◌-◌, ◌*◌, ◌≤◌, Bool, List, [], ◌∷◌, ◌++◌}
use Rattle.std.proofs.Common.{length, map}
use Rattle.std.proofs.Common.{Option, Some, None, ap, sym, subst, arith, inl, inr, length-append}
use Rattle.std.specs.Prelude.{slice_index, count_by}
use Rattle.std.specs.List.{AllZip}
use Rattle.std.proofs.Math.Nat.{mul-le-mul_right}
use Rattle.std.proofs.lemmas.List.{length-map}
use Rattle.expressions.specs.Terms.{Term}
use Rattle.expressions.specs.Expressions.{term_of}
use Rattle.assertions.specs.declared.sequence.Boolean.{Boolean}
use Rattle.assertions.specs.declared.sequence.Boolean.TheVariants.{One, Listed}
use Rattle.assertions.specs.declared.assertion.Assertion.{Assertion}
use Rattle.assertions.specs.declared.suite.Suite.{Suite}
use Rattle.assertions.specs.Written.{Written, boolean, delay, lead, repeat, or, and, intersect, throughout}
use Rattle.assertions.specs.Written.{weight, IsOrdered}
use Rattle.assertions.specs.Shapes.{written_form}
use Rattle.assertions.specs.Listed.{EachBoolean, IsListed, IsListedOption}
use Rattle.bytecode_programs.specs.declared.limits.Limits.{Limits}
use Rattle.bytecode_programs.specs.declared.flow.Flow.{Flow}
use Rattle.bytecode_programs.specs.declared.flow.Flow.TheVariants.{Stops, GoesOn, Jumps, Branches}
use Rattle.bytecode_programs.specs.declared.block_instr.BlockInstr.{BlockInstr}
use Rattle.bytecode_programs.specs.Values.{ProgramData, SectionData}
use Rattle.bytecode_programs.specs.Instructions.{frame_of, sample_flow, block_flow}
use Rattle.verifier.specs.Sections.{IsSection, instructions_in}
use Rattle.verifier.specs.Typing.{longest_list}
use Rattle.verifier.specs.Limits.{path_of, paths_from, longest_path, path_sum}
use Rattle.verifier.specs.Programs.{IsAtom, IsWellFormed, HasRoom, IsAccepted, least_limits, least_attempts}
use Rattle.verifier.specs.Programs.{least_obligations, least_stack}
use Rattle.verifier.proofs.ProgramLaws.{longest_is_least}
use Rattle.verifier.proofs.ShortLaws.{accepted}
use Rattle.verifier.proofs.LifeLaws.{start_life-most}
use Rattle.compiler.specs.Samples.{Held, sample_code, sample_need, sample_reach}
use Rattle.compiler.specs.Laws.{IsFrame, IsTypedWithin, EachPart, program_terms}
use Rattle.compiler.specs.Depths.{depth, IsShortPast, IsBounded}
use Rattle.compiler.proofs.Quiet.{samples-are-typed}
use Rattle.compiler.proofs.DepthLaws.{depth-bounds-code}
use Rattle.assertions.specs.Marks.{is_marked, places_from}
use Rattle.positions.specs.Sequences.{atom_of}
use Rattle.positions.specs.Laws.{Occurs, IsThere, section_for, led_section}
use Rattle.positions.proofs.Theorem.{law-section_is_well_formed, law-section_is_small}
use Rattle.compiler.specs.Conditions.{IsKnownTerm, FitsSuite}
use Rattle.compiler.specs.Programs.{disabling_atom, IsSlotOf, IsProgramOf}
use Rattle.compiler.specs.Readings.{IsReading, slots_over, counters_read}
use Rattle.compiler.specs.Faults.{AreCounted}
use Rattle.compiler.specs.Parts.{slot_at, width_at, no_limits, AreProgramParts, AreModest, with_limits, declared_from}
use Rattle.compiler.proofs.ListLaws.{all-more}
use Rattle.compiler.proofs.LedLaws.{led-formed, led-long}
use Rattle.compiler.proofs.Frames as frames
use Rattle.compiler.proofs.Places.{places-long, all-held, held-widths}
use Rattle.compiler.proofs.Known as known
use Rattle.compiler.proofs.ReadPlaces.{exact-signals, exact-counters}

-- A longest path is no longer than the code.
path-short : (pc : ℕ) (flow : Flow) (later : List ℕ) (n : ℕ) → ((j : ℕ) → slice_index later j ≤ n)
    → path_of pc flow later ≤ 1 + n
path-short pc Stops later n each = omega arith
path-short pc GoesOn later n each = omega (arith, each 0)
path-short pc (Jumps target) later n each = omega (arith, each (target - (pc + 1)))
path-short pc (Branches target) later n each = omega (arith, each 0, each (target - (pc + 1)))

paths-short : (pc : ℕ) (flows : List Flow) (j : ℕ) → slice_index (paths_from pc flows) j ≤ length flows
paths-short pc [] j = omega arith
paths-short pc (flow ∷ flows) zero =
    omega (arith, path-short pc flow (paths_from (pc + 1) flows) (length flows) (paths-short (pc + 1) flows))
paths-short pc (flow ∷ flows) (suc j) = omega (arith, paths-short (pc + 1) flows j)

longest-short : (pc : ℕ) (flows : List Flow) → longest_path pc flows ≤ length flows
longest-short pc flows = paths-short pc flows 0

sum-short : (base : ℕ) (bs : List (List BlockInstr)) → path_sum base bs ≤ instructions_in bs
sum-short base [] = omega arith
sum-short base (b ∷ bs) =
    let here = longest-short base (map block_flow b) in
    let long : length (map block_flow b) ≡ length b = length-map b block_flow in
    omega (arith, here, long, sum-short (base + length b) bs)

-- lives are no longer than the positions are many
budget-modest : (path attempts obligations sum_a sum_c : ℕ) → path ≤ 4096 → attempts ≤ 1024 → obligations ≤ 1024
    → sum_a ≤ 4096 → sum_c ≤ 4096 →
    path + attempts * (2 + sum_a) + obligations * (1 + sum_c) ≤ 16777216
budget-modest path attempts obligations sum_a sum_c p a o x y =
    let first : attempts * (2 + sum_a) ≤ 1024 * (2 + sum_a) = mul-le-mul_right (2 + sum_a) a in
    let second : obligations * (1 + sum_c) ≤ 1024 * (1 + sum_c) = mul-le-mul_right (1 + sum_c) o in
    omega (arith, p, first, second, x, y)

-- a boolean that occurs has an atom, where each boolean of the sequence is listed
there-one : (n : ℕ) (b : Boolean) → One ≡ b → IsThere n (atom_of b)
there-one n b is = subst (λ c. IsThere n (atom_of c)) is tt

there-listed : (n : ℕ) (c : Boolean) → IsListed n c → IsThere n (atom_of c)
there-listed n One h = tt
there-listed n (Listed i) h = h

there-same : (n : ℕ) (b c : Boolean) → IsListed n c → c ≡ b → IsThere n (atom_of b)
there-same n b c h is = subst (λ d. IsThere n (atom_of d)) is (there-listed n c h)

occurs-there : (n : ℕ) (w : Written Boolean) (b : Boolean) → EachBoolean (IsListed n) w → Occurs One b w
    → IsThere n (atom_of b)
occurs-there n (boolean c) b h o = there-same n b c h o
occurs-there n (delay r least most s) b h o =
    elim o [
      | inl one ↦ there-one n b one
      | inr more ↦ elim more [ inl x ↦ occurs-there n r b h.0 x | inr y ↦ occurs-there n s b h.1 y ]
    ]
occurs-there n (lead least most s) b h o = elim o [ inl one ↦ there-one n b one | inr y ↦ occurs-there n s b h y ]
occurs-there n (repeat r least most) b h o = occurs-there n r b h o
occurs-there n (or r s) b h o = elim o [ inl x ↦ occurs-there n r b h.0 x | inr y ↦ occurs-there n s b h.1 y ]
occurs-there n (and r s) b h o = elim o [ inl x ↦ occurs-there n r b h.0 x | inr y ↦ occurs-there n s b h.1 y ]
occurs-there n (intersect r s) b h o = elim o [ inl x ↦ occurs-there n r b h.0 x | inr y ↦ occurs-there n s b h.1 y ]
occurs-there n (throughout c r) b h o = elim o [ inl x ↦ there-same n b c h.0 x | inr y ↦ occurs-there n r b h.1 y ]

-- a disabling boolean that is listed has an atom
disabling-there : (n : ℕ) (o : Option Boolean) → IsListedOption n o → IsAtom (disabling_atom o) n
disabling-there n None h = tt
disabling-there n (Some One) h = absurd h
disabling-there n (Some (Listed i)) h = h

module _ (suite : Suite) (a : Assertion) (fit : FitsSuite suite a) (signals counters : List Bool)
    (reading : IsReading suite a signals counters) where
  abbrev es : List Term
  es = map term_of (known.found suite a fit signals counters reading).booleans

  abbrev hs : List Held
  hs = counters_read suite counters

  abbrev pub program-of : (p : ProgramData) → AreProgramParts suite a signals counters p → IsProgramOf suite a p
  program-of p parts =
      let found = known.found suite a fit signals counters reading in
      let below = known.counters-below suite a fit signals counters reading in
      record {
        name = parts.name;
        clock = parts.clock;
        layout = known.layout suite a fit signals counters reading;
        slots =
            subst (AllZip (IsSlotOf suite) (places_from 0 signals)) (sym parts.signals_are)
            (known.slots suite a fit signals counters reading);
        held = all-held suite.counters.items (places_from 0 counters) below;
        widths = parts.counters_are ∙ held-widths suite.counters.items (places_from 0 counters) below;
        reads_signals = exact-signals suite a fit signals counters reading;
        reads_counters = exact-counters suite a fit signals counters reading;
        booleans = found.booleans;
        found = found.found;
        atoms = parts.atoms ∙ found.long;
        sampled = known.program-sampled suite a fit signals counters reading;
        at = slots_over signals counters;
        laid = known.laid suite a fit signals counters reading;
        sample = parts.sample ∙ ap (λ ts. sample_code (slots_over signals counters) ts hs) found.terms;
        antecedent = parts.antecedent;
        consequent = parts.consequent;
        disable = parts.disable;
        antecedent_listed = fit.placed.antecedent;
        consequent_listed = fit.placed.consequent;
        disabling_listed = fit.placed.disabling;
        fills = fit.proper.filled;
        led = fit.proper.led;
      }

  -- what the sample code asks
  pub bounded : IsBounded es hs 64
  bounded =
      let all = known.all-known suite a fit signals counters reading in
      depth-bounds-code es hs 64
      (all-more (IsKnownTerm suite) (λ e. depth e ≤ 64) (program_terms es hs) (λ e k. k.shallow) all)
      (all-more (IsKnownTerm suite) (EachPart IsShortPast) (program_terms es hs) (λ e k. k.near) all)

  pub frame-of : (p : ProgramData) → AreProgramParts suite a signals counters p
      → IsFrame (frame_of p) (slots_over signals counters) es hs
  frame-of p parts = frames.frame suite a p (program-of p parts)

  typed-of : (p : ProgramData) → AreProgramParts suite a signals counters p
      → IsTypedWithin (frame_of p) p.sample (sample_need es hs) (sample_reach es hs)
  typed-of p parts =
      subst (λ code. IsTypedWithin (frame_of p) code (sample_need es hs) (sample_reach es hs))
      (sym (program-of p parts).sample)
      (samples-are-typed (frame_of p) (slots_over signals counters) es hs (frame-of p parts))

  module _ (p : ProgramData) (parts : AreProgramParts suite a signals counters p)
      (counted : AreCounted suite a signals counters) where
    section-of : (number : ℕ) (s made : SectionData) → s ≡ made → IsSection number (length a.booleans.items) made
        → IsSection number p.header.atoms s
    section-of number s made is formed =
        subst (λ n. IsSection number n s) (sym parts.atoms)
        (subst (λ x. IsSection number (length a.booleans.items) x) (sym is) formed)

    side-formed : (number : ℕ) (w : Written Boolean) → EachBoolean (IsListed (length a.booleans.items)) w
        → IsSection number (length a.booleans.items) (section_for atom_of One w)
    side-formed number w listed =
        law-section_is_well_formed number (length a.booleans.items) atom_of One w
        (λ b o. occurs-there (length a.booleans.items) w b listed o)

    pub formed : IsWellFormed p
    formed =
        let typed = typed-of p parts in
        record {
          disable =
              subst (λ o. IsAtom o p.header.atoms) (sym parts.disable)
              (subst (λ n. IsAtom (disabling_atom a.disabling) n) (sym parts.atoms)
              (disabling-there (length a.booleans.items) a.disabling fit.placed.disabling));
          table = typed.table;
          sample = typed.typed;
          short = typed.short (omega (arith, bounded.need));
          antecedent =
              section-of 2 p.antecedent (led_section a.first atom_of One (written_form a.antecedent)) parts.antecedent
              (led-formed a.first (length a.booleans.items) (written_form a.antecedent)
              (side-formed 2 (written_form a.antecedent) fit.placed.antecedent));
          consequent =
              section-of 3 p.consequent (section_for atom_of One (written_form a.consequent)) parts.consequent
              (side-formed 3 (written_form a.consequent) fit.placed.consequent);
        }

    few-blocks : (s : SectionData) (w : Written Boolean) → length s.blocks ≡ length (section_for atom_of One w).blocks
        → IsOrdered w → weight w ≤ 127 → length s.blocks ≤ 127
    few-blocks s w long ordered bound = omega (arith, long, law-section_is_small atom_of One w ordered, bound)

    few-slots : length (frame_of p).slots ≤ 256
    few-slots =
        let first : length (map (λ s. s.width) p.signals ++ p.counters) ≡ length p.signals + length p.counters =
        length-append (map (λ s. s.width) p.signals) p.counters
        ∙ ap (λ n. n + length p.counters) (length-map p.signals (λ s. s.width)) in
        let long_s : length p.signals ≡ count_by is_marked signals =
        ap length parts.signals_are ∙ length-map (places_from 0 signals) (slot_at suite.names.items)
        ∙ places-long 0 signals in
        let long_c : length p.counters ≡ count_by is_marked counters =
        ap length parts.counters_are ∙ length-map (places_from 0 counters) (width_at suite.counters.items)
        ∙ places-long 0 counters in
        omega (arith, first, long_s, long_c, counted.slots)

    pub roomy : HasRoom p
    roomy =
        let none : p.header.limits ≡ no_limits = parts.limits in
        record {
          history = subst (λ (l : Limits). l.history ≤ 4096) (sym none) (omega arith);
          stack = subst (λ (l : Limits). l.stack ≤ 1024) (sym none) (omega arith);
          attempts = subst (λ (l : Limits). l.attempts ≤ 1024) (sym none) (omega arith);
          obligations = subst (λ (l : Limits). l.obligations ≤ 1024) (sym none) (omega arith);
          budget = subst (λ (l : Limits). l.budget ≤ 16777216) (sym none) (omega arith);
          atoms = omega (arith, parts.atoms, counted.atoms);
          slots = few-slots;
          sample = parts.short_sample;
          antecedent_positions =
              few-blocks p.antecedent (written_form a.antecedent)
              (ap (λ (s : SectionData). length s.blocks) parts.antecedent
              ∙ led-long a.first (written_form a.antecedent))
              a.antecedent_ordered a.antecedent_bound;
          antecedent_code = parts.short_antecedent;
          consequent_positions =
              few-blocks p.consequent (written_form a.consequent)
              (ap (λ (s : SectionData). length s.blocks) parts.consequent) a.consequent_ordered a.consequent_bound;
          consequent_code = parts.short_consequent;
        }

    pub modest : AreModest (least_limits p)
    modest =
        let typed = typed-of p parts in
        let life_a = start_life-most p.antecedent roomy.antecedent_positions in
        let life_c = start_life-most p.consequent roomy.consequent_positions in
        let stack : least_stack p ≡ longest_list typed.table 0 p.sample =
        longest_is_least p typed.table typed.typed (typed.short (omega (arith, bounded.need))) in
        let path = longest-short 0 (map sample_flow p.sample) in
        let long : length (map sample_flow p.sample) ≡ length p.sample = length-map p.sample sample_flow in
        record {
          history = omega (arith, typed.near, bounded.reach);
          stack = omega (arith, stack, typed.lists, bounded.need);
          attempts = omega (arith, life_a, life_c);
          obligations = omega (arith, life_c);
          budget =
              budget-modest (longest_path 0 (map sample_flow p.sample)) (least_attempts p) (least_obligations p)
              (path_sum 0 p.antecedent.blocks) (path_sum 0 p.consequent.blocks)
              (omega (arith, path, long, parts.short_sample)) (omega (arith, life_a, life_c)) (omega (arith, life_c))
              (omega (arith, sum-short 0 p.antecedent.blocks, parts.short_antecedent))
              (omega (arith, sum-short 0 p.consequent.blocks, parts.short_consequent));
        }

-- The least limits, declared, suffice.
pub accepted-least : (p : ProgramData) → IsWellFormed p → HasRoom p → AreModest (least_limits p) →
    IsAccepted (with_limits p (declared_from (least_limits p)))
accepted-least p formed room modest =
    accepted (with_limits p (declared_from (least_limits p)))
    (record {
      formed = record {
        disable = formed.disable;
        table = formed.table;
        sample = formed.sample;
        short = formed.short;
        antecedent = formed.antecedent;
        consequent = formed.consequent;
      };
      room = record {
        history = modest.history;
        stack = modest.stack;
        attempts = modest.attempts;
        obligations = modest.obligations;
        budget = modest.budget;
        atoms = room.atoms;
        slots = room.slots;
        sample = room.sample;
        antecedent_positions = room.antecedent_positions;
        antecedent_code = room.antecedent_code;
        consequent_positions = room.consequent_positions;
        consequent_code = room.consequent_code;
      };
      limits = record {
        history = omega arith;
        stack = omega arith;
        attempts = omega arith;
        obligations = omega arith;
        budget = omega arith;
      };
    })

-- limits change nothing of what a program is of
pub declares : (suite : Suite) (a : Assertion) (p : ProgramData) (l : Limits) → IsProgramOf suite a p
    → IsProgramOf suite a (with_limits p l)
declares suite a p l of = record {
  name = of.name;
  clock = of.clock;
  layout = of.layout;
  slots = of.slots;
  held = of.held;
  widths = of.widths;
  reads_signals = of.reads_signals;
  reads_counters = of.reads_counters;
  booleans = of.booleans;
  found = of.found;
  atoms = of.atoms;
  sampled = of.sampled;
  at = of.at;
  laid = of.laid;
  sample = of.sample;
  antecedent = of.antecedent;
  consequent = of.consequent;
  disable = of.disable;
  antecedent_listed = of.antecedent_listed;
  consequent_listed = of.consequent_listed;
  disabling_listed = of.disabling_listed;
  fills = of.fills;
  led = of.led;
}
