-- A file can hold the program of an assertion.
use Rattle.std.proofs.Common.{◌≡◌, ◌∙◌, ℕ, zero, suc, ◌+◌, ◌^◌, ◌<◌, ◌≤◌, Bool, true, false, List, [], ◌∷◌, length, map}
use Rattle.std.proofs.Common.{Option, Some, None, slice_get, refl, ap, sym, subst, arith, inl, inr, IsTrue}
use Rattle.std.specs.Prelude.{◌&&◌, ◌||◌, ◌-◌, string_bytes, nat_lt, nat_le, if◌then◌else◌, count_by}
use Rattle.std.specs.List.{list_all, list_any}
use Rattle.std.proofs.lemmas.Bool.{lt-ltb, le-leb, cases_lt, ltb-true}
use Rattle.std.proofs.lemmas.Nat.{pow_below}
use Rattle.std.proofs.Math.Nat.{pow-le-pow_right}
use Rattle.std.proofs.lemmas.List.Folds.{list_all-map}
use Rattle.std.proofs.lemmas.Option.{slice_get_within}
use Rattle.std.proofs.lemmas.List.{length-map}
use Rattle.expressions.specs.Expressions.{term_of}
use Rattle.assertions.specs.declared.sequence.Boolean.{Boolean}
use Rattle.assertions.specs.declared.sequence.Boolean.TheVariants.{One, Listed}
use Rattle.assertions.specs.declared.signal.Signal.{Signal}
use Rattle.assertions.specs.declared.assertion.Assertion.{Assertion}
use Rattle.assertions.specs.declared.suite.Suite.{Suite}
use Rattle.assertions.specs.Listed.{IsListedOption}
use Rattle.bytecode_programs.specs.declared.block_instr.BlockInstr.{BlockInstr}
use Rattle.bytecode_programs.specs.declared.block_instr.BlockInstr.TheVariants.{Unless, Enter, Accept, Stop}
use Rattle.bytecode_programs.specs.declared.block_instr.BlockInstr.TheVariants.{AcceptFirst}
use Rattle.bytecode_programs.specs.Texts.{is_word, is_path}
use Rattle.bytecode_programs.specs.Instructions.{frame_of}
use Rattle.bytecode_programs.specs.Values.{ProgramData, SectionData, in_byte, in_two, is_width, fits_text, fits_slot}
use Rattle.bytecode_programs.specs.Values.{fits_list}
use Rattle.bytecode_programs.specs.Values.{fits_sample, fits_block, fits_section, fits_disable, fits_limits}
use Rattle.bytecode_programs.specs.Values.{fits_header}
use Rattle.bytecode_programs.specs.Values.{fits_program}
use Rattle.verifier.specs.declared.refusal.Refusal.{Refusal}
use Rattle.verifier.specs.declared.refusal.Refusal.TheVariants.{SlotRange, Cycle}
use Rattle.verifier.specs.Rules.{block_rules}
use Rattle.verifier.specs.Typing.{IsFine}
use Rattle.verifier.specs.Sections.{IsSection, AreTyped, instructions_in}
use Rattle.compiler.proofs.FitLaws.{samples-fit}
use Rattle.assertions.specs.Marks.{is_marked, places_from}
use Rattle.assertions.proofs.SlotLaws.{place-at}
use Rattle.compiler.specs.Conditions.{FitsSuite}
use Rattle.compiler.specs.Programs.{disabling_atom}
use Rattle.compiler.specs.Readings.{IsReading, slots_over, counters_read}
use Rattle.compiler.specs.Faults.{is_long, is_long_found, is_long_path, AreCounted}
use Rattle.compiler.specs.Parts.{slot_found, slot_at, width_found, width_at, AreProgramParts}
use Rattle.compiler.proofs.ListLaws.{some-one, all-at}
use Rattle.compiler.proofs.Places.{AreBelow, stands-at, places-long, held-long}
use Rattle.compiler.proofs.Known as known
use Rattle.compiler.proofs.Formed as made

both : (a b : Bool) → a ≡ true → b ≡ true → (a && b) ≡ true
both a b x y = ap (λ c. c && b) x ∙ y

small : (n most : ℕ) → n < most → nat_lt n most ≡ true
small n most lt = lt-ltb n most lt

width-fits : (w : ℕ) → 1 ≤ w → w ≤ 128 → is_width w ≡ true
width-fits w low high = both (nat_le 1 w) (nat_le w 128) (le-leb 1 w low) (le-leb w 128 high)

text-fits : (is_text : List ℕ → Bool) (bytes : List ℕ) → (is_long bytes ≡ true → ⊥) → is_text bytes ≡ true
    → fits_text is_text bytes ≡ true
text-fits is_text bytes short is =
    both (in_two (length bytes)) (is_text bytes)
    (small (length bytes) 65536
    (elim (cases_lt 65535 (length bytes)) [
      | inl long ↦ absurd (short (lt-ltb 65535 (length bytes) long))
      | inr le ↦ omega (arith, le)
    ])) is

or_left : (a b : Bool) → a ≡ true → (a || b) ≡ true
or_left a b h = ap (λ c. c || b) h

or_right : (a b : Bool) → b ≡ true → (a || b) ≡ true
or_right true b h = refl
or_right false b h = h

any-at : (f : ℕ → Bool) (xs : List ℕ) (i x : ℕ) → slice_get xs i ≡ Some x → f x ≡ true → list_any f xs ≡ true
any-at f [] i x is h = absurd (omega (arith, slice_get_within [] i x is))
any-at f (y ∷ ys) zero x is h = or_left (f y) (list_any f ys) (ap f (some-one y x is) ∙ h)
any-at f (y ∷ ys) (suc i) x is h = or_right (f y) (list_any f ys) (any-at f ys i x is h)

all-made : {A : Type 0} (f : A → Bool) (g : ℕ → A) (n : ℕ) (places : List ℕ) → ((p : ℕ) → p < n → f (g p) ≡ true)
    → AreBelow n places →
    list_all f (map g places) ≡ true
all-made f g n [] go h = refl
all-made f g n (p ∷ ps) go h = both (f (g p)) (list_all f (map g ps)) (go p h.0) (all-made f g n ps go h.1)

-- what is named is there
names-there : (b : Bool) (r : Refusal) → (if b then [] else r ∷ []) ≡ [] → b ≡ true
names-there true r h = refl
names-there false r h = absurd (omega (arith, ap length h))

entered-there : (b c : Bool) (r q : Refusal) → (if b then (if c then [] else r ∷ []) else q ∷ []) ≡ [] → b ≡ true
entered-there true c r q h = refl
entered-there false c r q h = absurd (omega (arith, ap length h))

below-is : (n most : ℕ) → nat_lt n most ≡ true → n < most
below-is n most h = ltb-true n most h

-- an instruction of a block that is typed
instr-fits : (section atoms positions p end pc : ℕ) (table : ℕ → List ℕ) (i : BlockInstr) → atoms ≤ 256
    → positions ≤ 256 → end ≤ 65536 →
    IsFine (block_rules section atoms positions p) end table pc i → fits_block i ≡ true
instr-fits section atoms positions p end pc table (Unless atom target) few many short fine =
    let there = below-is atom atoms (names-there (nat_lt atom atoms) (SlotRange pc) fine.names) in
    let ahead = (fine.forward target (inl refl)).1 in
    both (in_byte atom) (in_two target) (small atom 256 (omega (arith, there, few)))
    (small target 65536 (omega (arith, ahead, short)))
instr-fits section atoms positions p end pc table (Enter q) few many short fine =
    let there =
    below-is q positions (entered-there (nat_lt q positions) (nat_lt p q) (Cycle p) (SlotRange pc) fine.names) in
    small q 256 (omega (arith, there, many))
instr-fits section atoms positions p end pc table Accept few many short fine = refl
instr-fits section atoms positions p end pc table AcceptFirst few many short fine = refl
instr-fits section atoms positions p end pc table Stop few many short fine = refl

all-by-index : {A : Type 0} (f : A → Bool) (xs : List A) → ((k : ℕ) (x : A) → slice_get xs k ≡ Some x → f x ≡ true)
    → list_all f xs ≡ true
all-by-index f [] each = refl
all-by-index f (x ∷ xs) each =
    both (f x) (list_all f xs) (each 0 x refl) (all-by-index f xs (λ k y is. each (suc k) y is))

blocks-fit : (section atoms positions p base : ℕ) (bs : List (List BlockInstr)) → atoms ≤ 256 → positions ≤ 256
    → base + instructions_in bs ≤ 4096 →
    AreTyped section atoms positions p base bs → list_all (fits_list fits_block) bs ≡ true
blocks-fit section atoms positions p base [] few many short typed = refl
blocks-fit section atoms positions p base (b ∷ bs) few many short typed =
    both (fits_list fits_block b) (list_all (fits_list fits_block) bs)
    (both (in_two (length b)) (list_all fits_block b)
    (small (length b) 65536 (omega (arith, short)))
    (all-by-index fits_block b (λ k i is.
    instr-fits section atoms positions p (base + length b) (base + k) (λ pc. []) i few many (omega (arith, short))
    (typed.0.each k i is))))
    (blocks-fit section atoms positions (p + 1) (base + length b) bs few many (omega (arith, short)) typed.1)

section-fits : (number atoms : ℕ) (s : SectionData) → atoms ≤ 127 → length s.blocks ≤ 127
    → instructions_in s.blocks ≤ 4096
    → IsSection number atoms s →
    fits_section s ≡ true
section-fits number atoms s few many short is =
    let start : 2 ^ length s.blocks ≤ 2 ^ 127 = pow-le-pow_right (omega arith) many in
    let most : 2 ^ 127 < 2 ^ 128 = pow_below 127 128 (omega arith) in
    both (nat_lt s.start (2 ^ 128)) (in_byte (length s.blocks) && list_all (fits_list fits_block) s.blocks)
    (small s.start (2 ^ 128) (omega (arith, is.start, start, most)))
    (both (in_byte (length s.blocks)) (list_all (fits_list fits_block) s.blocks)
    (small (length s.blocks) 256 (omega (arith, many)))
    (blocks-fit number atoms (length s.blocks) 0 0 s.blocks (omega (arith, few)) (omega (arith, many))
    (omega (arith, short)) is.blocks))

-- the atom that disables, but 255
disabling-fits : (n : ℕ) (o : Option Boolean) → n ≤ 127 → IsListedOption n o → fits_disable (disabling_atom o) ≡ true
disabling-fits n None few h = refl
disabling-fits n (Some One) few h = absurd h
disabling-fits n (Some (Listed i)) few h = small i 255 (omega (arith, few, h))

module _ (suite : Suite) (a : Assertion) (fit : FitsSuite suite a) (signals counters : List Bool)
    (reading : IsReading suite a signals counters)
    (counted : AreCounted suite a signals counters) (p : ProgramData)
    (parts : AreProgramParts suite a signals counters p)
  where
    abbrev paths : Bool
    paths = list_any (is_long_path suite.names.items) (places_from 0 signals)

    header-fits : fits_header p.header ≡ true
    header-fits =
        both (fits_limits p.header.limits) (fits_disable p.header.disable
        && (in_byte p.header.atoms && (fits_text is_word p.header.name && fits_text is_path p.header.clock)))
        (ap fits_limits parts.limits)
        (both (fits_disable p.header.disable)
        (in_byte p.header.atoms && (fits_text is_word p.header.name && fits_text is_path p.header.clock))
        (ap fits_disable parts.disable ∙ disabling-fits (length a.booleans.items) a.disabling counted.atoms
        fit.placed.disabling)
        (both (in_byte p.header.atoms) (fits_text is_word p.header.name && fits_text is_path p.header.clock)
        (small p.header.atoms 256 (omega (arith, parts.atoms, counted.atoms)))
        (both (fits_text is_word p.header.name) (fits_text is_path p.header.clock)
        (ap (fits_text is_word) parts.name
        ∙ text-fits is_word (string_bytes a.name)
        (λ long. counted.texts
        (or_left (is_long (string_bytes a.name)) (is_long (string_bytes suite.clock) || paths) long))
        fit.proper.name)
        (ap (fits_text is_path) parts.clock
        ∙ text-fits is_path (string_bytes suite.clock)
        (λ long. counted.texts
        (or_right (is_long (string_bytes a.name)) (is_long (string_bytes suite.clock) || paths)
        (or_left (is_long (string_bytes suite.clock)) paths long))) fit.sound.clock))))

    slot-fits : (i place : ℕ) → slice_get (places_from 0 signals) i ≡ Some place
        → fits_slot (slot_at suite.names.items place) ≡ true
    slot-fits i place at =
        let marked = place-at 0 0 signals i place at in
        let e : place - 0 ≡ place = omega arith in
        let mark = subst (λ k. slice_get signals k ≡ Some true) e marked.marked in
        let lt : place < length suite.names.items =
        omega (arith, slice_get_within signals place true mark, reading.signals_are.long) in
        let s = stands-at suite.names.items place lt in
        ap (λ o. fits_slot (slot_found o)) s.1
        ∙ both (is_width s.0.width) (fits_text is_path (string_bytes s.0.path))
        (width-fits s.0.width s.0.some_bits s.0.at_most_128)
        (text-fits is_path (string_bytes s.0.path)
        (λ long. counted.texts (or_right (is_long (string_bytes a.name)) (is_long (string_bytes suite.clock) || paths)
        (or_right (is_long (string_bytes suite.clock)) paths
        (any-at (is_long_path suite.names.items) (places_from 0 signals) i place at
        (ap is_long_found s.1 ∙ long)))))
        (all-at (λ (x : Signal). IsTrue (is_path (string_bytes x.path))) suite.names.items fit.sound.signals place s.0
        s.1))

    signals-fit : fits_list fits_slot p.signals ≡ true
    signals-fit =
        let long : length p.signals ≡ count_by is_marked signals =
        ap length parts.signals_are ∙ length-map (places_from 0 signals) (slot_at suite.names.items)
        ∙ places-long 0 signals in
        both (in_two (length p.signals)) (list_all fits_slot p.signals)
        (small (length p.signals) 65536 (omega (arith, long, counted.slots)))
        (ap (list_all fits_slot) parts.signals_are
        ∙ list_all-map fits_slot (slot_at suite.names.items) (places_from 0 signals)
        ∙ all-by-index (λ place. fits_slot (slot_at suite.names.items place)) (places_from 0 signals) slot-fits)

    width-one : (place : ℕ) → place < length suite.counters.items → is_width (width_at suite.counters.items place)
        ≡ true
    width-one place lt =
        let c = stands-at suite.counters.items place lt in
        ap (λ o. is_width (width_found o)) c.1 ∙ width-fits c.0.width c.0.some_bits c.0.at_most_128

    counters-fit : fits_list is_width p.counters ≡ true
    counters-fit =
        let long : length p.counters ≡ count_by is_marked counters =
        ap length parts.counters_are ∙ length-map (places_from 0 counters) (width_at suite.counters.items)
        ∙ places-long 0 counters in
        both (in_two (length p.counters)) (list_all is_width p.counters)
        (small (length p.counters) 65536 (omega (arith, long, counted.slots)))
        (ap (list_all is_width) parts.counters_are
        ∙ all-made is_width (width_at suite.counters.items) (length suite.counters.items) (places_from 0 counters)
        width-one
        (known.counters-below suite a fit signals counters reading))

    sample-fits : fits_list fits_sample p.sample ≡ true
    sample-fits =
        let found = known.found suite a fit signals counters reading in
        let hs = counters_read suite counters in
        let es = map term_of found.booleans in
        let bounded = made.bounded suite a fit signals counters reading in
        let frame = made.frame-of suite a fit signals counters reading p parts in
        let roomy = made.roomy suite a fit signals counters reading p parts counted in
        let few_es : length es ≡ length a.booleans.items = length-map found.booleans term_of ∙ sym found.long in
        let few_hs : length hs ≡ count_by is_marked counters =
        held-long suite.counters.items (places_from 0 counters)
        (known.counters-below suite a fit signals counters reading) ∙ places-long 0 counters in
        both (in_two (length p.sample)) (list_all fits_sample p.sample)
        (small (length p.sample) 65536 (omega (arith, parts.short_sample)))
        (ap (list_all fits_sample) (made.program-of suite a fit signals counters reading p parts).sample
        ∙ samples-fit (frame_of p) (slots_over signals counters) es hs frame (omega (arith, roomy.slots))
        (omega (arith, few_es, counted.atoms)) (omega (arith, few_hs, counted.slots)) (omega (arith, bounded.reach)))

    pub program-fits : fits_program p ≡ true
    program-fits =
        let formed = made.formed suite a fit signals counters reading p parts counted in
        let roomy = made.roomy suite a fit signals counters reading p parts counted in
        both (fits_header p.header)
        (fits_list fits_slot p.signals
        && (fits_list is_width p.counters
        && (fits_list fits_sample p.sample && (fits_section p.antecedent && fits_section p.consequent))))
        header-fits
        (both (fits_list fits_slot p.signals) (fits_list is_width p.counters
        && (fits_list fits_sample p.sample && (fits_section p.antecedent && fits_section p.consequent)))
        signals-fit
        (both (fits_list is_width p.counters) (fits_list fits_sample p.sample
        && (fits_section p.antecedent && fits_section p.consequent))
        counters-fit
        (both (fits_list fits_sample p.sample) (fits_section p.antecedent && fits_section p.consequent)
        sample-fits
        (both (fits_section p.antecedent) (fits_section p.consequent)
        (section-fits 2 p.header.atoms p.antecedent roomy.atoms roomy.antecedent_positions roomy.antecedent_code
        formed.antecedent)
        (section-fits 3 p.header.atoms p.consequent roomy.atoms roomy.consequent_positions roomy.consequent_code
        formed.consequent)))))
