-- Programs: what is read is spelled so, and what is spelled is read.
use Rattle.std.proofs.Common.{◌≡◌, ℕ, Bool, true, false, ◌&&◌, eqb, List, [], ◌++◌, length, Option, Some, None, Result}
use Rattle.std.proofs.Common.{Ok, Err, refl, sym, ap, subst, ◌∙◌, append_assoc, arith, ◌∷◌, get_or}
use Rattle.std.specs.Prelude.{if◌then◌else◌}
use Rattle.std.specs.Int.{w16, w32}
use Rattle.std.specs.List.{flat_map, list_all}
use Rattle.std.proofs.lemmas.Bool.{ltb-true, lt-ltb, and_parts, and_from, eqb-true, eqb-false, ne_eqb}
use Rattle.std.proofs.lemmas.List.{append-nil, nil_from_length}
use Rattle.bytecode_programs.specs.declared.limits.Limits.{Limits}
use Rattle.bytecode_programs.specs.declared.block_instr.BlockInstr.{BlockInstr}
use Rattle.bytecode_programs.specs.declared.block_instr.BlockInstr.TheVariants as block
use Rattle.bytecode_programs.specs.declared.sample_instr.SampleInstr.{SampleInstr}
use Rattle.bytecode.specs.declared.fault.CodeFault.TheVariants as faults
use Rattle.bytecode.specs.declared.stop.Stop.{Stop}
use Rattle.bytecode.specs.declared.stop.Stop.TheVariants as stops
use Rattle.bytecode_programs.specs.Texts.{is_word, is_path}
use Rattle.bytecode_programs.specs.Values.{SlotData, SectionData, HeaderData, ProgramData, in_byte, in_two, in_four}
use Rattle.bytecode_programs.specs.Values.{is_width}
use Rattle.bytecode_programs.specs.Values.{fits_sample, fits_block_in, fits_list, fits_text, fits_slot, fits_section_in}
use Rattle.bytecode_programs.specs.Values.{fits_limits}
use Rattle.bytecode_programs.specs.Values.{fits_disable, fits_header, fits_program_in}
use Rattle.bytecode.specs.Spelling.{byte, two, four, sixteen, counted_spelling, text_spelling, sample_spelling}
use Rattle.bytecode.specs.Spelling.{block_spelling, slot_spelling, section_spelling, limits_spelling}
use Rattle.bytecode.specs.Spelling.{disable_spelling}
use Rattle.bytecode.specs.Spelling.{version_of, head_spelling_in, header_spelling, spelling_in, IsSpelled}
use Rattle.bytecode.specs.Reading.{◌>>=◌, Fails, fault_of, number_at, sixteen_at, byte_at, width_at, text_at}
use Rattle.bytecode.specs.Reading.{many_at}
use Rattle.bytecode.specs.Reading.{counted_at, sample_at, step_at, slot_at, section_at, head_at, limits_at}
use Rattle.bytecode.specs.Reading.{disable_of}
use Rattle.bytecode.specs.Reading.{header_at, program_at, whole_of}
use Rattle.bytecode.proofs.FieldLaws.{IsBytes, bind_ok, test_ok, ok_is, Takes, Takes-then, IsCodec, in_sixteen}
use Rattle.bytecode.proofs.FieldLaws.{byte-codec, two-codec, four-codec, sixteen-codec, width-codec, text-codec}
use Rattle.bytecode.proofs.FieldLaws.{many-takes, many-again, counted-codec}
use Rattle.bytecode.proofs.InstrLaws.{sample-codec, step-codec}

slot-takes : (bytes : List ℕ) (x : SlotData) (rest : List ℕ) → IsBytes bytes → slot_at bytes ≡ Ok (x, rest)
    → Takes bytes (slot_spelling x) rest × (fits_slot x ≡ true)
unfolding slot_at
slot-takes bytes x rest fits e =
    let b0 =
    bind_ok (width_at bytes) (λ w. text_at is_path w.1 >>= λ p. Ok (record { width = w.0; path = p.0 }, p.1))
    (x, rest) e in
    let t0 = width-codec.takes bytes b0.0.0 b0.0.1 fits b0.1 in
    let b1 = bind_ok (text_at is_path b0.0.1) (λ p. Ok (record { width = b0.0.0; path = p.0 }, p.1)) (x, rest) b0.2 in
    let t1 = (text-codec is_path).takes b0.0.1 b1.0.0 b1.0.1 t0.0.rest_fits b1.1 in
    let whole = Takes-then bytes (byte b0.0.0) b0.0.1 (text_spelling b1.0.0) b1.0.1 t0.0 (t1.0) in
    subst (λ (p : SlotData × List ℕ). Takes bytes (slot_spelling p.0) p.1 × (fits_slot p.0 ≡ true))
    (ok_is (record { width = b0.0.0; path = b1.0.0 }, b1.0.1) (x, rest) b1.2)
    (whole, and_from (is_width b0.0.0) (fits_text is_path b1.0.0) t0.1 (t1.1))

slot-again : (x : SlotData) (rest : List ℕ) → fits_slot x ≡ true → slot_at (slot_spelling x ++ rest) ≡ Ok (x, rest)
unfolding slot_at
slot-again x rest fits =
    let parts = and_parts (is_width x.width) (fits_text is_path x.path) fits in
    rw (
      width-codec.again x.width (text_spelling x.path ++ rest) parts.0,
      (text-codec is_path).again x.path rest parts.1,
    ) refl

pub slot-codec : IsCodec fits_slot slot_spelling slot_at
slot-codec = record { takes = slot-takes; again = slot-again }

limits-takes : (bytes : List ℕ) (x : Limits) (rest : List ℕ) → IsBytes bytes → limits_at bytes ≡ Ok (x, rest)
    → Takes bytes (limits_spelling x) rest × (fits_limits x ≡ true)
unfolding limits_at
limits-takes bytes x rest fits e =
    let b0 =
    bind_ok (number_at w16 bytes) (λ history. number_at w16 history.1 >>= λ stack. number_at w16 stack.1
    >>= λ attempts. number_at w16 attempts.1 >>= λ obligations. number_at w32 obligations.1
    >>= λ budget.
    Ok (
      record {
        history = history.0;
        stack = stack.0;
        attempts = attempts.0;
        obligations = obligations.0;
        budget = budget.0;
      },
      budget.1,
    )) (x, rest) e in
    let t0 = two-codec.takes bytes b0.0.0 b0.0.1 fits b0.1 in
    let b1 =
    bind_ok (number_at w16 b0.0.1) (λ stack. number_at w16 stack.1 >>= λ attempts. number_at w16 attempts.1
    >>= λ obligations. number_at w32 obligations.1
    >>= λ budget.
    Ok (
      record {
        history = b0.0.0;
        stack = stack.0;
        attempts = attempts.0;
        obligations = obligations.0;
        budget = budget.0;
      },
      budget.1,
    )) (x, rest) b0.2 in
    let t1 = two-codec.takes b0.0.1 b1.0.0 b1.0.1 t0.0.rest_fits b1.1 in
    let b2 =
    bind_ok (number_at w16 b1.0.1) (λ attempts. number_at w16 attempts.1
    >>= λ obligations. number_at w32 obligations.1
    >>= λ budget.
    Ok (
      record {
        history = b0.0.0;
        stack = b1.0.0;
        attempts = attempts.0;
        obligations = obligations.0;
        budget = budget.0;
      },
      budget.1,
    )) (x, rest) b1.2 in
    let t2 = two-codec.takes b1.0.1 b2.0.0 b2.0.1 t1.0.rest_fits b2.1 in
    let b3 =
    bind_ok (number_at w16 b2.0.1) (λ obligations. number_at w32 obligations.1
    >>= λ budget.
    Ok (
      record {
        history = b0.0.0;
        stack = b1.0.0;
        attempts = b2.0.0;
        obligations = obligations.0;
        budget = budget.0;
      },
      budget.1,
    )) (x, rest) b2.2 in
    let t3 = two-codec.takes b2.0.1 b3.0.0 b3.0.1 t2.0.rest_fits b3.1 in
    let b4 =
    bind_ok (number_at w32 b3.0.1)
    (λ budget.
    Ok (
      record { history = b0.0.0; stack = b1.0.0; attempts = b2.0.0; obligations = b3.0.0; budget = budget.0 },
      budget.1,
    )) (x, rest) b3.2 in
    let t4 = four-codec.takes b3.0.1 b4.0.0 b4.0.1 t3.0.rest_fits b4.1 in
    let whole =
    Takes-then bytes (two b0.0.0) b0.0.1 (two b1.0.0 ++ (two b2.0.0 ++ (two b3.0.0 ++ (four b4.0.0)))) b4.0.1 t0.0
    (Takes-then b0.0.1 (two b1.0.0) b1.0.1 (two b2.0.0 ++ (two b3.0.0 ++ (four b4.0.0))) b4.0.1 t1.0
    (Takes-then b1.0.1 (two b2.0.0) b2.0.1 (two b3.0.0 ++ (four b4.0.0)) b4.0.1 t2.0
    (Takes-then b2.0.1 (two b3.0.0) b3.0.1 (four b4.0.0) b4.0.1 t3.0 (t4.0)))) in
    subst (λ (p : Limits × List ℕ). Takes bytes (limits_spelling p.0) p.1 × (fits_limits p.0 ≡ true))
    (ok_is (
      record { history = b0.0.0; stack = b1.0.0; attempts = b2.0.0; obligations = b3.0.0; budget = b4.0.0 },
      b4.0.1,
    ) (x, rest) b4.2) (
      whole,
      and_from (in_two b0.0.0) (in_two b1.0.0 && (in_two b2.0.0 && (in_two b3.0.0 && (in_four b4.0.0)))) t0.1
          (and_from (in_two b1.0.0) (in_two b2.0.0 && (in_two b3.0.0 && (in_four b4.0.0))) t1.1
          (and_from (in_two b2.0.0) (in_two b3.0.0 && (in_four b4.0.0)) t2.1
          (and_from (in_two b3.0.0) (in_four b4.0.0) t3.1 (t4.1)))),
    )

limits-again : (x : Limits) (rest : List ℕ) → fits_limits x ≡ true → limits_at (limits_spelling x ++ rest)
    ≡ Ok (x, rest)
unfolding limits_at
limits-again x rest fits =
    let a =
    and_parts (in_two x.history)
    (in_two x.stack && (in_two x.attempts && (in_two x.obligations && in_four x.budget))) fits in
    let b = and_parts (in_two x.stack) (in_two x.attempts && (in_two x.obligations && in_four x.budget)) a.1 in
    let c = and_parts (in_two x.attempts) (in_two x.obligations && in_four x.budget) b.1 in
    let d = and_parts (in_two x.obligations) (in_four x.budget) c.1 in
    rw (
      two-codec.again x.history (two x.stack ++ (two x.attempts ++ (two x.obligations ++ (four x.budget ++ rest)))) a.0,
      two-codec.again x.stack (two x.attempts ++ (two x.obligations ++ (four x.budget ++ rest))) b.0,
      two-codec.again x.attempts (two x.obligations ++ (four x.budget ++ rest)) c.0,
      two-codec.again x.obligations (four x.budget ++ rest) d.0,
      four-codec.again x.budget rest d.1,
    ) refl

pub limits-codec : IsCodec fits_limits limits_spelling limits_at
limits-codec = record { takes = limits-takes; again = limits-again }

-- ---- sections

steps-codec : (first : Bool)
    → IsCodec (fits_list (fits_block_in first)) (counted_spelling block_spelling) (counted_at (step_at first))
steps-codec first = counted-codec (fits_block_in first) block_spelling (step_at first) (step-codec first)

section-takes : (first : Bool) (bytes : List ℕ) (x : SectionData) (rest : List ℕ) → IsBytes bytes
    → section_at first bytes ≡ Ok (x, rest)
    → Takes bytes (section_spelling x) rest × (fits_section_in first x ≡ true)
unfolding section_at
section-takes first bytes x rest fits e =
    let a =
    bind_ok (sixteen_at bytes) (λ start. byte_at start.1 >>= λ n. many_at (counted_at (step_at first)) n.0 n.1
    >>= λ blocks. Ok (record { start = start.0; blocks = blocks.0 }, blocks.1)) (x, rest) e in
    let b =
    bind_ok (byte_at a.0.1) (λ n. many_at (counted_at (step_at first)) n.0 n.1
    >>= λ blocks. Ok (record { start = a.0.0; blocks = blocks.0 }, blocks.1)) (x, rest) a.2 in
    let c =
    bind_ok (many_at (counted_at (step_at first)) b.0.0 b.0.1)
    (λ blocks. Ok (record { start = a.0.0; blocks = blocks.0 }, blocks.1)) (x, rest) b.2 in
    let s = sixteen-codec.takes bytes a.0.0 a.0.1 fits a.1 in
    let t = byte-codec.takes a.0.1 b.0.0 b.0.1 s.0.rest_fits b.1 in
    let u =
    many-takes (fits_list (fits_block_in first)) (counted_spelling block_spelling) (counted_at (step_at first))
    (steps-codec first) b.0.0
    b.0.1 c.0.0 c.0.1 t.0.rest_fits c.1 in
    let behind = Takes-then a.0.1 (byte b.0.0) b.0.1 (flat_map (counted_spelling block_spelling) c.0.0) c.0.1 t.0 u.0 in
    let counted : Takes a.0.1 (byte (length c.0.0) ++ flat_map (counted_spelling block_spelling) c.0.0) c.0.1 =
    subst (λ (k : ℕ). Takes a.0.1 (byte k ++ flat_map (counted_spelling block_spelling) c.0.0) c.0.1) (sym u.1)
    behind in
    let whole =
    Takes-then bytes (sixteen a.0.0) a.0.1
    (byte (length c.0.0) ++ flat_map (counted_spelling block_spelling) c.0.0) c.0.1 s.0 counted in
    let few : in_byte (length c.0.0) ≡ true = subst (λ (k : ℕ). in_byte k ≡ true) (sym u.1) t.1 in
    subst (λ (p : SectionData × List ℕ). Takes bytes (section_spelling p.0) p.1 × (fits_section_in first p.0 ≡ true))
    (ok_is (record { start = a.0.0; blocks = c.0.0 }, c.0.1) (x, rest) c.2) (
      whole,
      and_from (in_sixteen a.0.0) (in_byte (length c.0.0)
          && list_all (fits_list (fits_block_in first)) c.0.0) s.1
          (and_from (in_byte (length c.0.0)) (list_all (fits_list (fits_block_in first)) c.0.0) few u.2),
    )

section-again : (first : Bool) (x : SectionData) (rest : List ℕ) → fits_section_in first x ≡ true
    → section_at first (section_spelling x ++ rest)
    ≡ Ok (x, rest)
unfolding section_at
section-again first x rest fits =
    let a =
    and_parts (in_sixteen x.start) (in_byte (length x.blocks) && list_all (fits_list (fits_block_in first)) x.blocks)
    fits in
    let b = and_parts (in_byte (length x.blocks)) (list_all (fits_list (fits_block_in first)) x.blocks) a.1 in
    let more = flat_map (counted_spelling block_spelling) x.blocks in
    let regrouped : section_spelling x ++ rest ≡ sixteen x.start ++ (byte (length x.blocks) ++ (more ++ rest)) =
    append_assoc (sixteen x.start) (byte (length x.blocks) ++ more) rest in
    ap (section_at first) regrouped
    ∙ rw (
      sixteen-codec.again x.start (byte (length x.blocks) ++ (more ++ rest)) a.0,
      byte-codec.again (length x.blocks) (more ++ rest) b.0,
      many-again (fits_list (fits_block_in first))
          (counted_spelling block_spelling) (counted_at (step_at first)) (steps-codec first) x.blocks rest b.1,
    ) refl

pub section-codec : (first : Bool) → IsCodec (fits_section_in first) section_spelling (section_at first)
section-codec first = record { takes = section-takes first; again = section-again first }

-- ---- the head

abbrev head_of : Bool → List ℕ → Result (Bool × List ℕ) Stop
head_of first rest = Ok (first, rest)

version-ok : (o : ℕ) (bytes rest : List ℕ) (first : Bool)
    → (if eqb o 2 then head_of true bytes else (if eqb o 1 then head_of false bytes else Err stops.Version))
    ≡ head_of first rest → (o ≡ version_of first) × (bytes ≡ rest)
version-ok o bytes rest first e = by (eqb o 2) (eqb o 1) refl refl e
  where
    by : (two one : Bool) → eqb o 2 ≡ two → eqb o 1 ≡ one
        → (if two then head_of true bytes else (if one then head_of false bytes else Err stops.Version))
        ≡ head_of first rest
        → (o ≡ version_of first) × (bytes ≡ rest)
    by true one is_two is_one e =
        let same = ok_is (true, bytes) (first, rest) e in (
          eqb-true o 2 is_two ∙ ap (λ (p : Bool × List ℕ). version_of p.0) same,
          ap (λ (p : Bool × List ℕ). p.1) same,
        )
    by false true is_two is_one e =
        let same = ok_is (false, bytes) (first, rest) e in (
          eqb-true o 1 is_one ∙ ap (λ (p : Bool × List ℕ). version_of p.0) same,
          ap (λ (p : Bool × List ℕ). p.1) same,
        )
    by false false is_two is_one e = absurd cc

head-takes : (first : Bool) (bytes rest : List ℕ) → IsBytes bytes → head_at bytes ≡ Ok (first, rest)
    → Takes bytes (head_spelling_in first) rest
unfolding head_at
head-takes first bytes rest fits e =
    let a =
    bind_ok (number_at w32 bytes)
    (λ magic. if eqb magic.0 0x5356414d then
    (byte_at magic.1 >>= λ version. if eqb version.0 2 then Ok (true, version.1) else
    (if eqb version.0 1 then Ok (false, version.1) else Err stops.Version)) else Err
    stops.Magic) (first, rest) e in
    let g =
    magic-ok (eqb a.0.0 0x5356414d)
    (byte_at a.0.1 >>= λ version. if eqb version.0 2 then Ok (true, version.1) else
    (if eqb version.0 1 then Ok (false, version.1) else Err stops.Version)) (first, rest) a.2 in
    let b =
    bind_ok (byte_at a.0.1)
    (λ version. if eqb version.0 2 then Ok (true, version.1) else
    (if eqb version.0 1 then Ok (false, version.1) else Err stops.Version)) (first, rest) g.1 in
    let v = version-ok b.0.0 b.0.1 rest first b.2 in
    let s = four-codec.takes bytes a.0.0 a.0.1 fits a.1 in
    let t = byte-codec.takes a.0.1 b.0.0 b.0.1 s.0.rest_fits b.1 in
    let both = Takes-then bytes (four a.0.0) a.0.1 (byte b.0.0) b.0.1 s.0 t.0 in
    let named : Takes bytes (four 0x5356414d ++ byte (version_of first)) b.0.1 =
    subst (λ (m : ℕ). Takes bytes (four m ++ byte (version_of first)) b.0.1) (eqb-true a.0.0 0x5356414d g.0)
    (subst (λ (o : ℕ). Takes bytes (four a.0.0 ++ byte o) b.0.1) v.0 both) in
    subst (λ (r : List ℕ). Takes bytes (head_spelling_in first) r) v.1 named
  where
    magic-ok : (b : Bool) (r : Result (Bool × List ℕ) Stop) (y : Bool × List ℕ)
        → (if b then r else Err stops.Magic) ≡ Ok y → (b ≡ true) × (r ≡ Ok y)
    magic-ok true r y e = (refl, e)
    magic-ok false r y e = absurd cc

head-again : (first : Bool) (rest : List ℕ) → head_at (head_spelling_in first ++ rest) ≡ Ok (first, rest)
unfolding head_at byte_at
head-again true rest = rw (four-codec.again 0x5356414d (byte 2 ++ rest) refl) refl
head-again false rest = rw (four-codec.again 0x5356414d (byte 1 ++ rest) refl) refl

-- ---- the disabling atom

disable-same : (n : ℕ) → disable_spelling (disable_of n) ≡ n
disable-same n = by (eqb n 255) refl
  where
    by : (b : Bool) → eqb n 255 ≡ b → disable_spelling (if b then None else Some n) ≡ n
    by true e = sym (eqb-true n 255 e)
    by false e = refl

disable-fits : (n : ℕ) → in_byte n ≡ true → fits_disable (disable_of n) ≡ true
disable-fits n h = by (eqb n 255) refl
  where
    by : (b : Bool) → eqb n 255 ≡ b → fits_disable (if b then None else Some n) ≡ true
    by true e = refl
    by false e = lt-ltb n 255 (omega (arith, ltb-true n 256 h, eqb-false n 255 e))

disable-back : (d : Option ℕ) → fits_disable d ≡ true → disable_of (disable_spelling d) ≡ d
disable-back None h = refl
disable-back (Some atom) h = rw (ne_eqb atom 255 (λ e. omega (arith, e, ltb-true atom 255 h))) refl

disable-in-byte : (d : Option ℕ) → fits_disable d ≡ true → in_byte (disable_spelling d) ≡ true
disable-in-byte None h = refl
disable-in-byte (Some atom) h = lt-ltb atom 256 (omega (arith, ltb-true atom 255 h))

-- ---- programs

slots-codec : IsCodec (fits_list fits_slot) (counted_spelling slot_spelling) (counted_at slot_at)
slots-codec = counted-codec fits_slot slot_spelling slot_at slot-codec

widths-codec : IsCodec (fits_list is_width) (counted_spelling byte) (counted_at width_at)
widths-codec = counted-codec is_width byte width_at width-codec

samples-codec : IsCodec (fits_list fits_sample) (counted_spelling sample_spelling) (counted_at sample_at)
samples-codec = counted-codec fits_sample sample_spelling sample_at sample-codec

header-takes : (bytes : List ℕ) (x : HeaderData) (rest : List ℕ) → IsBytes bytes → header_at bytes ≡ Ok (x, rest)
    → Takes bytes (header_spelling x) rest × (fits_header x ≡ true)
unfolding header_at
header-takes bytes x rest fits e =
    let b0 =
    bind_ok (limits_at bytes) (λ limits. byte_at limits.1 >>= λ disable. byte_at disable.1
    >>= λ atoms. text_at is_word atoms.1 >>= λ name. text_at is_path name.1
    >>= λ clock.
    Ok (
      record {
        limits = limits.0;
        disable = disable_of disable.0;
        atoms = atoms.0;
        name = name.0;
        clock = clock.0;
      },
      clock.1,
    )) (x, rest) e in
    let t0 = limits-codec.takes bytes b0.0.0 b0.0.1 fits b0.1 in
    let b1 =
    bind_ok (byte_at b0.0.1) (λ disable. byte_at disable.1 >>= λ atoms. text_at is_word atoms.1
    >>= λ name. text_at is_path name.1
    >>= λ clock.
    Ok (
      record {
        limits = b0.0.0;
        disable = disable_of disable.0;
        atoms = atoms.0;
        name = name.0;
        clock = clock.0;
      },
      clock.1,
    )) (x, rest) b0.2 in
    let t1 = byte-codec.takes b0.0.1 b1.0.0 b1.0.1 t0.0.rest_fits b1.1 in
    let b2 =
    bind_ok (byte_at b1.0.1) (λ atoms. text_at is_word atoms.1 >>= λ name. text_at is_path name.1
    >>= λ clock.
    Ok (
      record { limits = b0.0.0; disable = disable_of b1.0.0; atoms = atoms.0; name = name.0; clock = clock.0 },
      clock.1,
    )) (x, rest) b1.2 in
    let t2 = byte-codec.takes b1.0.1 b2.0.0 b2.0.1 t1.0.rest_fits b2.1 in
    let b3 =
    bind_ok (text_at is_word b2.0.1) (λ name. text_at is_path name.1
    >>= λ clock.
    Ok (
      record { limits = b0.0.0; disable = disable_of b1.0.0; atoms = b2.0.0; name = name.0; clock = clock.0 },
      clock.1,
    )) (x, rest) b2.2 in
    let t3 = (text-codec is_word).takes b2.0.1 b3.0.0 b3.0.1 t2.0.rest_fits b3.1 in
    let b4 =
    bind_ok (text_at is_path b3.0.1)
    (λ clock.
    Ok (
      record { limits = b0.0.0; disable = disable_of b1.0.0; atoms = b2.0.0; name = b3.0.0; clock = clock.0 },
      clock.1,
    )) (x, rest) b3.2 in
    let t4 = (text-codec is_path).takes b3.0.1 b4.0.0 b4.0.1 t3.0.rest_fits b4.1 in
    let d : Takes b0.0.1 (byte (disable_spelling (disable_of b1.0.0))) b1.0.1
    × (fits_disable (disable_of b1.0.0) ≡ true) =
    (subst (λ (m : ℕ). Takes b0.0.1 (byte m) b1.0.1) (sym (disable-same b1.0.0)) t1.0, disable-fits b1.0.0 t1.1)
    in
    let c3 = Takes-then b2.0.1 (text_spelling b3.0.0) b3.0.1 (text_spelling b4.0.0) b4.0.1 t3.0 t4.0 in
    let c2 = Takes-then b1.0.1 (byte b2.0.0) b2.0.1 (text_spelling b3.0.0 ++ (text_spelling b4.0.0)) b4.0.1 t2.0 c3 in
    let c1 =
    Takes-then b0.0.1 (byte (disable_spelling (disable_of b1.0.0))) b1.0.1
    (byte b2.0.0 ++ (text_spelling b3.0.0 ++ (text_spelling b4.0.0))) b4.0.1 d.0 c2 in
    let c0 =
    Takes-then bytes (limits_spelling b0.0.0) b0.0.1
    (byte (disable_spelling (disable_of b1.0.0))
    ++ (byte b2.0.0 ++ (text_spelling b3.0.0 ++ (text_spelling b4.0.0)))) b4.0.1 t0.0 c1 in
    let f3 = and_from (fits_text is_word b3.0.0) (fits_text is_path b4.0.0) t3.1 t4.1 in
    let f2 = and_from (in_byte b2.0.0) (fits_text is_word b3.0.0 && (fits_text is_path b4.0.0)) t2.1 f3 in
    let f1 =
    and_from (fits_disable (disable_of b1.0.0))
    (in_byte b2.0.0 && (fits_text is_word b3.0.0 && (fits_text is_path b4.0.0))) d.1 f2 in
    let f0 =
    and_from (fits_limits b0.0.0) (fits_disable (disable_of b1.0.0)
    && (in_byte b2.0.0 && (fits_text is_word b3.0.0 && (fits_text is_path b4.0.0)))) t0.1 f1 in
    subst (λ (p : HeaderData × List ℕ). Takes bytes (header_spelling p.0) p.1 × (fits_header p.0 ≡ true))
    (ok_is (
      record { limits = b0.0.0; disable = disable_of b1.0.0; atoms = b2.0.0; name = b3.0.0; clock = b4.0.0 },
      b4.0.1,
    ) (x, rest) b4.2) (c0, f0)

header-again : (x : HeaderData) (rest : List ℕ) → fits_header x ≡ true → header_at (header_spelling x ++ rest)
    ≡ Ok (x, rest)
unfolding header_at
header-again x rest fits =
    let a =
    and_parts (fits_limits x.limits)
    (fits_disable x.disable && (in_byte x.atoms && (fits_text is_word x.name && fits_text is_path x.clock))) fits
    in
    let b =
    and_parts (fits_disable x.disable)
    (in_byte x.atoms && (fits_text is_word x.name && fits_text is_path x.clock)) a.1 in
    let c = and_parts (in_byte x.atoms) (fits_text is_word x.name && fits_text is_path x.clock) b.1 in
    let d = and_parts (fits_text is_word x.name) (fits_text is_path x.clock) c.1 in
    let off = byte (disable_spelling x.disable) in
    let on = byte x.atoms in
    let name = text_spelling x.name in
    let clock = text_spelling x.clock in
    let regrouped : header_spelling x ++ rest ≡ limits_spelling x.limits ++ (off ++ (on ++ (name ++ (clock ++ rest)))) =
    append_assoc (limits_spelling x.limits) (off ++ on ++ name ++ clock) rest
    ∙ ap (λ (t : List ℕ). limits_spelling x.limits ++ (off ++ (on ++ t))) (append_assoc name clock rest) in
    ap header_at regrouped
    ∙ rw (
      limits-codec.again x.limits (off ++ (on ++ (name ++ (clock ++ rest)))) a.0,
      byte-codec.again (disable_spelling x.disable) (on ++ (name ++ (clock ++ rest)))
          (disable-in-byte x.disable b.0),
      byte-codec.again x.atoms (name ++ (clock ++ rest)) c.0,
      (text-codec is_word).again x.name (clock ++ rest) d.0,
      (text-codec is_path).again x.clock rest d.1,
      disable-back x.disable b.0,
    ) refl

header-codec : IsCodec fits_header header_spelling header_at
header-codec = record { takes = header-takes; again = header-again }

right_grouped : (a b c d e f : List ℕ) → a ++ b ++ c ++ d ++ e ++ f ≡ a ++ (b ++ (c ++ (d ++ (e ++ f))))
right_grouped a b c d e f =
    append_assoc (a ++ b ++ c ++ d) e f ∙ append_assoc (a ++ b ++ c) d (e ++ f)
    ∙ append_assoc (a ++ b) c (d ++ (e ++ f)) ∙ append_assoc a b (c ++ (d ++ (e ++ f)))

six-taken : (s a b c d e f : List ℕ) (x y z u v w : List ℕ) → Takes s x a → Takes a y b → Takes b z c → Takes c u d
    → Takes d v e → Takes e w f → Takes s (x ++ y ++ z ++ u ++ v ++ w) f
six-taken s a b c d e f x y z u v w p q r t k m =
    subst (λ (text : List ℕ). Takes s text f) (sym (right_grouped x y z u v w))
    (Takes-then s x a (y ++ (z ++ (u ++ (v ++ w)))) f p
    (Takes-then a y b (z ++ (u ++ (v ++ w))) f q
    (Takes-then b z c (u ++ (v ++ w)) f r (Takes-then c u d (v ++ w) f t (Takes-then d v e w f k m)))))

module _ (header : HeaderData) (signals : List SlotData) (counters : List ℕ) (sample : List SampleInstr)
    (antecedent consequent : SectionData) where
  made : ProgramData
  made =
      record {
        header = header;
        signals = signals;
        counters = counters;
        sample = sample;
        antecedent = antecedent;
        consequent = consequent;
      }

  made-taken : (first : Bool) (bytes h a b c d e f : List ℕ) → Takes bytes (head_spelling_in first) h
      → Takes h (header_spelling header) a
      → Takes a (counted_spelling slot_spelling signals) b → Takes b (counted_spelling byte counters) c
      → Takes c (counted_spelling sample_spelling sample) d → Takes d (section_spelling antecedent) e
      → Takes e (section_spelling consequent) f → Takes bytes (spelling_in first made) f
  unfolding made
  made-taken first bytes h a b c d e f start p q r t k m =
      Takes-then bytes (head_spelling_in first) h
      (header_spelling header ++ counted_spelling slot_spelling signals ++ counted_spelling byte counters
      ++ counted_spelling sample_spelling sample ++ section_spelling antecedent ++ section_spelling consequent) f
      start
      (six-taken h a b c d e f (header_spelling header) (counted_spelling slot_spelling signals)
      (counted_spelling byte counters) (counted_spelling sample_spelling sample) (section_spelling antecedent)
      (section_spelling consequent) p q r t k m)

  made-fits : (first : Bool) → fits_header header ≡ true → fits_list fits_slot signals ≡ true
      → fits_list is_width counters ≡ true
      → fits_list fits_sample sample ≡ true → fits_section_in first antecedent ≡ true
      → fits_section_in first consequent ≡ true
      → fits_program_in first made ≡ true
  unfolding made
  made-fits first p q r t k m =
      and_from (fits_header header)
      (fits_list fits_slot signals
      && (fits_list is_width counters
      && (fits_list fits_sample sample && (fits_section_in first antecedent && fits_section_in first consequent)))) p
      (and_from (fits_list fits_slot signals)
      (fits_list is_width counters
      && (fits_list fits_sample sample && (fits_section_in first antecedent && fits_section_in first consequent))) q
      (and_from (fits_list is_width counters)
      (fits_list fits_sample sample && (fits_section_in first antecedent && fits_section_in first consequent)) r
      (and_from (fits_list fits_sample sample) (fits_section_in first antecedent && fits_section_in first consequent) t
      (and_from (fits_section_in first antecedent) (fits_section_in first consequent) k m))))

abbrev ok_program : ProgramData → List ℕ → Result (ProgramData × List ℕ) Stop
ok_program x rest = Ok (x, rest)

record Rest5 (first : Bool) (header : HeaderData) (signals : List SlotData) (counters : List ℕ)
    (sample : List SampleInstr)
    (antecedent : SectionData) (bytes : List ℕ) (x : ProgramData) (rest : List ℕ) : Type 0 where
  pub consequent' : SectionData
  pub after5 : List ℕ
  pub taken5 : Takes bytes (section_spelling consequent') after5
  pub fits5 : fits_section_in first consequent' ≡ true
  pub is : x ≡ made header signals counters sample antecedent consequent'
  pub left : after5 ≡ rest

rest5 : (first : Bool) (header : HeaderData) (signals : List SlotData) (counters : List ℕ) (sample : List SampleInstr)
    (antecedent : SectionData) (bytes : List ℕ) (x : ProgramData) (rest : List ℕ) → IsBytes bytes
    → (section_at first bytes
    >>= λ n_consequent. ok_program
    (record {
      header = header;
      signals = signals;
      counters = counters;
      sample = sample;
      antecedent = antecedent;
      consequent = n_consequent.0;
    }) n_consequent.1) ≡ Ok (x, rest)
    → Rest5 first header signals counters sample antecedent bytes x rest
unfolding made
rest5 first header signals counters sample antecedent bytes x rest fits e =
    let b =
    bind_ok (section_at first bytes)
    (λ n_consequent. ok_program
    (record {
      header = header;
      signals = signals;
      counters = counters;
      sample = sample;
      antecedent = antecedent;
      consequent = n_consequent.0;
    }) n_consequent.1) (x, rest) e in
    let s = (section-codec first).takes bytes b.0.0 b.0.1 fits b.1 in
    let same =
    ok_is (
      record {
        header = header;
        signals = signals;
        counters = counters;
        sample = sample;
        antecedent = antecedent;
        consequent = b.0.0;
      },
      b.0.1,
    ) (x, rest) b.2 in
    record {
      consequent' = b.0.0;
      after5 = b.0.1;
      taken5 = s.0;
      fits5 = s.1;
      is = ap (λ (p : ProgramData × List ℕ). p.0) (sym same);
      left = ap (λ (p : ProgramData × List ℕ). p.1) same;
    }

record Rest4 (first : Bool) (header : HeaderData) (signals : List SlotData) (counters : List ℕ)
    (sample : List SampleInstr)
    (bytes : List ℕ) (x : ProgramData) (rest : List ℕ) : Type 0 where
  pub antecedent' : SectionData
  pub after4 : List ℕ
  pub taken4 : Takes bytes (section_spelling antecedent') after4
  pub fits4 : fits_section_in first antecedent' ≡ true
  pub consequent' : SectionData
  pub after5 : List ℕ
  pub taken5 : Takes after4 (section_spelling consequent') after5
  pub fits5 : fits_section_in first consequent' ≡ true
  pub is : x ≡ made header signals counters sample antecedent' consequent'
  pub left : after5 ≡ rest

rest4 : (first : Bool) (header : HeaderData) (signals : List SlotData) (counters : List ℕ) (sample : List SampleInstr)
    (bytes : List ℕ)
    (x : ProgramData) (rest : List ℕ) → IsBytes bytes
    → (section_at first bytes >>= λ n_antecedent. section_at first n_antecedent.1
    >>= λ n_consequent. ok_program
    (record {
      header = header;
      signals = signals;
      counters = counters;
      sample = sample;
      antecedent = n_antecedent.0;
      consequent = n_consequent.0;
    }) n_consequent.1) ≡ Ok (x, rest) → Rest4 first header signals counters sample bytes x rest
unfolding made
rest4 first header signals counters sample bytes x rest fits e =
    let b =
    bind_ok (section_at first bytes) (λ n_antecedent. section_at first n_antecedent.1
    >>= λ n_consequent. ok_program
    (record {
      header = header;
      signals = signals;
      counters = counters;
      sample = sample;
      antecedent = n_antecedent.0;
      consequent = n_consequent.0;
    }) n_consequent.1) (x, rest) e in
    let s = (section-codec first).takes bytes b.0.0 b.0.1 fits b.1 in
    let m = rest5 first header signals counters sample b.0.0 b.0.1 x rest s.0.rest_fits b.2 in
    record {
      antecedent' = b.0.0;
      after4 = b.0.1;
      taken4 = s.0;
      fits4 = s.1;
      consequent' = m.consequent';
      after5 = m.after5;
      taken5 = m.taken5;
      fits5 = m.fits5;
      is = m.is;
      left = m.left;
    }

record Rest3 (first : Bool) (header : HeaderData) (signals : List SlotData) (counters : List ℕ) (bytes : List ℕ)
    (x : ProgramData)
    (rest : List ℕ) : Type 0 where
  pub sample' : List SampleInstr
  pub after3 : List ℕ
  pub taken3 : Takes bytes (counted_spelling sample_spelling sample') after3
  pub fits3 : fits_list fits_sample sample' ≡ true
  pub antecedent' : SectionData
  pub after4 : List ℕ
  pub taken4 : Takes after3 (section_spelling antecedent') after4
  pub fits4 : fits_section_in first antecedent' ≡ true
  pub consequent' : SectionData
  pub after5 : List ℕ
  pub taken5 : Takes after4 (section_spelling consequent') after5
  pub fits5 : fits_section_in first consequent' ≡ true
  pub is : x ≡ made header signals counters sample' antecedent' consequent'
  pub left : after5 ≡ rest

rest3 : (first : Bool) (header : HeaderData) (signals : List SlotData) (counters : List ℕ) (bytes : List ℕ)
    (x : ProgramData)
    (rest : List ℕ) → IsBytes bytes
    → (counted_at sample_at bytes >>= λ n_sample. section_at first n_sample.1
    >>= λ n_antecedent. section_at first n_antecedent.1
    >>= λ n_consequent. ok_program
    (record {
      header = header;
      signals = signals;
      counters = counters;
      sample = n_sample.0;
      antecedent = n_antecedent.0;
      consequent = n_consequent.0;
    }) n_consequent.1) ≡ Ok (x, rest) → Rest3 first header signals counters bytes x rest
unfolding made
rest3 first header signals counters bytes x rest fits e =
    let b =
    bind_ok (counted_at sample_at bytes) (λ n_sample. section_at first n_sample.1
    >>= λ n_antecedent. section_at first n_antecedent.1
    >>= λ n_consequent. ok_program
    (record {
      header = header;
      signals = signals;
      counters = counters;
      sample = n_sample.0;
      antecedent = n_antecedent.0;
      consequent = n_consequent.0;
    }) n_consequent.1) (x, rest) e in
    let s = samples-codec.takes bytes b.0.0 b.0.1 fits b.1 in
    let m = rest4 first header signals counters b.0.0 b.0.1 x rest s.0.rest_fits b.2 in
    record {
      sample' = b.0.0;
      after3 = b.0.1;
      taken3 = s.0;
      fits3 = s.1;
      antecedent' = m.antecedent';
      after4 = m.after4;
      taken4 = m.taken4;
      fits4 = m.fits4;
      consequent' = m.consequent';
      after5 = m.after5;
      taken5 = m.taken5;
      fits5 =
          m.fits5;
      is = m.is;
      left = m.left;
    }

record Rest2 (first : Bool) (header : HeaderData) (signals : List SlotData) (bytes : List ℕ) (x : ProgramData)
    (rest : List ℕ) : Type 0
  where
    pub counters' : List ℕ
    pub after2 : List ℕ
    pub taken2 : Takes bytes (counted_spelling byte counters') after2
    pub fits2 : fits_list is_width counters' ≡ true
    pub sample' : List SampleInstr
    pub after3 : List ℕ
    pub taken3 : Takes after2 (counted_spelling sample_spelling sample') after3
    pub fits3 : fits_list fits_sample sample' ≡ true
    pub antecedent' : SectionData
    pub after4 : List ℕ
    pub taken4 : Takes after3 (section_spelling antecedent') after4
    pub fits4 : fits_section_in first antecedent' ≡ true
    pub consequent' : SectionData
    pub after5 : List ℕ
    pub taken5 : Takes after4 (section_spelling consequent') after5
    pub fits5 : fits_section_in first consequent' ≡ true
    pub is : x ≡ made header signals counters' sample' antecedent' consequent'
    pub left : after5 ≡ rest

rest2 : (first : Bool) (header : HeaderData) (signals : List SlotData) (bytes : List ℕ) (x : ProgramData)
    (rest : List ℕ)
    → IsBytes bytes
    → (counted_at width_at bytes >>= λ n_counters. counted_at sample_at n_counters.1
    >>= λ n_sample. section_at first n_sample.1 >>= λ n_antecedent. section_at first n_antecedent.1
    >>= λ n_consequent. ok_program
    (record {
      header = header;
      signals = signals;
      counters = n_counters.0;
      sample = n_sample.0;
      antecedent = n_antecedent.0;
      consequent = n_consequent.0;
    }) n_consequent.1) ≡ Ok (x, rest) → Rest2 first header signals bytes x rest
unfolding made
rest2 first header signals bytes x rest fits e =
    let b =
    bind_ok (counted_at width_at bytes) (λ n_counters. counted_at sample_at n_counters.1
    >>= λ n_sample. section_at first n_sample.1 >>= λ n_antecedent. section_at first n_antecedent.1
    >>= λ n_consequent. ok_program
    (record {
      header = header;
      signals = signals;
      counters = n_counters.0;
      sample = n_sample.0;
      antecedent = n_antecedent.0;
      consequent = n_consequent.0;
    }) n_consequent.1) (x, rest) e in
    let s = widths-codec.takes bytes b.0.0 b.0.1 fits b.1 in
    let m = rest3 first header signals b.0.0 b.0.1 x rest s.0.rest_fits b.2 in
    record {
      counters' = b.0.0;
      after2 = b.0.1;
      taken2 = s.0;
      fits2 = s.1;
      sample' = m.sample';
      after3 = m.after3;
      taken3 = m.taken3;
      fits3 = m.fits3;
      antecedent' = m.antecedent';
      after4 = m.after4;
      taken4 = m.taken4;
      fits4 =
          m.fits4;
      consequent' = m.consequent';
      after5 = m.after5;
      taken5 = m.taken5;
      fits5 = m.fits5;
      is = m.is;
      left =
          m.left;
    }

record Rest1 (first : Bool) (header : HeaderData) (bytes : List ℕ) (x : ProgramData) (rest : List ℕ) : Type 0 where
  pub signals' : List SlotData
  pub after1 : List ℕ
  pub taken1 : Takes bytes (counted_spelling slot_spelling signals') after1
  pub fits1 : fits_list fits_slot signals' ≡ true
  pub counters' : List ℕ
  pub after2 : List ℕ
  pub taken2 : Takes after1 (counted_spelling byte counters') after2
  pub fits2 : fits_list is_width counters' ≡ true
  pub sample' : List SampleInstr
  pub after3 : List ℕ
  pub taken3 : Takes after2 (counted_spelling sample_spelling sample') after3
  pub fits3 : fits_list fits_sample sample' ≡ true
  pub antecedent' : SectionData
  pub after4 : List ℕ
  pub taken4 : Takes after3 (section_spelling antecedent') after4
  pub fits4 : fits_section_in first antecedent' ≡ true
  pub consequent' : SectionData
  pub after5 : List ℕ
  pub taken5 : Takes after4 (section_spelling consequent') after5
  pub fits5 : fits_section_in first consequent' ≡ true
  pub is : x ≡ made header signals' counters' sample' antecedent' consequent'
  pub left : after5 ≡ rest

rest1 : (first : Bool) (header : HeaderData) (bytes : List ℕ) (x : ProgramData) (rest : List ℕ) → IsBytes bytes
    → (counted_at slot_at bytes >>= λ n_signals. counted_at width_at n_signals.1
    >>= λ n_counters. counted_at sample_at n_counters.1 >>= λ n_sample. section_at first n_sample.1
    >>= λ n_antecedent. section_at first n_antecedent.1
    >>= λ n_consequent. ok_program
    (record {
      header = header;
      signals = n_signals.0;
      counters = n_counters.0;
      sample = n_sample.0;
      antecedent = n_antecedent.0;
      consequent = n_consequent.0;
    }) n_consequent.1) ≡ Ok (x, rest)
    → Rest1 first header bytes x rest
unfolding made
rest1 first header bytes x rest fits e =
    let b =
    bind_ok (counted_at slot_at bytes) (λ n_signals. counted_at width_at n_signals.1
    >>= λ n_counters. counted_at sample_at n_counters.1 >>= λ n_sample. section_at first n_sample.1
    >>= λ n_antecedent. section_at first n_antecedent.1
    >>= λ n_consequent. ok_program
    (record {
      header = header;
      signals = n_signals.0;
      counters = n_counters.0;
      sample = n_sample.0;
      antecedent = n_antecedent.0;
      consequent = n_consequent.0;
    }) n_consequent.1) (x, rest) e in
    let s = slots-codec.takes bytes b.0.0 b.0.1 fits b.1 in
    let m = rest2 first header b.0.0 b.0.1 x rest s.0.rest_fits b.2 in
    record {
      signals' = b.0.0;
      after1 = b.0.1;
      taken1 = s.0;
      fits1 = s.1;
      counters' = m.counters';
      after2 = m.after2;
      taken2 = m.taken2;
      fits2 = m.fits2;
      sample' = m.sample';
      after3 = m.after3;
      taken3 = m.taken3;
      fits3 =
          m.fits3;
      antecedent' = m.antecedent';
      after4 = m.after4;
      taken4 = m.taken4;
      fits4 = m.fits4;
      consequent' =
          m.consequent';
      after5 = m.after5;
      taken5 = m.taken5;
      fits5 = m.fits5;
      is = m.is;
      left = m.left;
    }

record Rest0 (first : Bool) (bytes : List ℕ) (x : ProgramData) (rest : List ℕ) : Type 0 where
  pub header' : HeaderData
  pub after0 : List ℕ
  pub taken0 : Takes bytes (header_spelling header') after0
  pub fits0 : fits_header header' ≡ true
  pub signals' : List SlotData
  pub after1 : List ℕ
  pub taken1 : Takes after0 (counted_spelling slot_spelling signals') after1
  pub fits1 : fits_list fits_slot signals' ≡ true
  pub counters' : List ℕ
  pub after2 : List ℕ
  pub taken2 : Takes after1 (counted_spelling byte counters') after2
  pub fits2 : fits_list is_width counters' ≡ true
  pub sample' : List SampleInstr
  pub after3 : List ℕ
  pub taken3 : Takes after2 (counted_spelling sample_spelling sample') after3
  pub fits3 : fits_list fits_sample sample' ≡ true
  pub antecedent' : SectionData
  pub after4 : List ℕ
  pub taken4 : Takes after3 (section_spelling antecedent') after4
  pub fits4 : fits_section_in first antecedent' ≡ true
  pub consequent' : SectionData
  pub after5 : List ℕ
  pub taken5 : Takes after4 (section_spelling consequent') after5
  pub fits5 : fits_section_in first consequent' ≡ true
  pub is : x ≡ made header' signals' counters' sample' antecedent' consequent'
  pub left : after5 ≡ rest

rest0 : (first : Bool) (bytes : List ℕ) (x : ProgramData) (rest : List ℕ) → IsBytes bytes
    → (header_at bytes >>= λ n_header. counted_at slot_at n_header.1 >>= λ n_signals. counted_at width_at n_signals.1
    >>= λ n_counters. counted_at sample_at n_counters.1 >>= λ n_sample. section_at first n_sample.1
    >>= λ n_antecedent. section_at first n_antecedent.1
    >>= λ n_consequent. ok_program
    (record {
      header = n_header.0;
      signals = n_signals.0;
      counters = n_counters.0;
      sample = n_sample.0;
      antecedent = n_antecedent.0;
      consequent = n_consequent.0;
    }) n_consequent.1) ≡ Ok (x, rest) → Rest0 first bytes x rest
unfolding made
rest0 first bytes x rest fits e =
    let b =
    bind_ok (header_at bytes) (λ n_header. counted_at slot_at n_header.1
    >>= λ n_signals. counted_at width_at n_signals.1 >>= λ n_counters. counted_at sample_at n_counters.1
    >>= λ n_sample. section_at first n_sample.1 >>= λ n_antecedent. section_at first n_antecedent.1
    >>= λ n_consequent. ok_program
    (record {
      header = n_header.0;
      signals = n_signals.0;
      counters = n_counters.0;
      sample = n_sample.0;
      antecedent = n_antecedent.0;
      consequent = n_consequent.0;
    }) n_consequent.1) (x, rest) e in
    let s = header-codec.takes bytes b.0.0 b.0.1 fits b.1 in
    let m = rest1 first b.0.0 b.0.1 x rest s.0.rest_fits b.2 in
    record {
      header' = b.0.0;
      after0 = b.0.1;
      taken0 = s.0;
      fits0 = s.1;
      signals' = m.signals';
      after1 = m.after1;
      taken1 = m.taken1;
      fits1 = m.fits1;
      counters' = m.counters';
      after2 = m.after2;
      taken2 = m.taken2;
      fits2 =
          m.fits2;
      sample' = m.sample';
      after3 = m.after3;
      taken3 = m.taken3;
      fits3 = m.fits3;
      antecedent' =
          m.antecedent';
      after4 = m.after4;
      taken4 = m.taken4;
      fits4 = m.fits4;
      consequent' = m.consequent';
      after5 =
          m.after5;
      taken5 = m.taken5;
      fits5 = m.fits5;
      is = m.is;
      left = m.left;
    }

program-takes : (bytes : List ℕ) (x : ProgramData) (rest : List ℕ) → IsBytes bytes → program_at bytes ≡ Ok (x, rest)
    → (first : Bool) × Takes bytes (spelling_in first x) rest × (fits_program_in first x ≡ true)
unfolding program_at
program-takes bytes x rest fits e =
    let h =
    bind_ok (head_at bytes) (λ a. header_at a.1 >>= λ header. counted_at slot_at header.1
    >>= λ signals. counted_at width_at signals.1 >>= λ counters. counted_at sample_at counters.1
    >>= λ sample. section_at a.0 sample.1 >>= λ antecedent. section_at a.0 antecedent.1
    >>= λ consequent.
    Ok (
      record {
        header = header.0;
        signals = signals.0;
        counters = counters.0;
        sample = sample.0;
        antecedent = antecedent.0;
        consequent = consequent.0;
      },
      consequent.1,
    )) (x, rest) e in
    let th = head-takes h.0.0 bytes h.0.1 fits h.1 in
    let m = rest0 h.0.0 h.0.1 x rest th.rest_fits h.2 in
    let taken : Takes bytes
    (spelling_in h.0.0 (made m.header' m.signals' m.counters' m.sample' m.antecedent' m.consequent'))
    rest =
    subst (λ (r : List ℕ). Takes bytes
    (spelling_in h.0.0 (made m.header' m.signals' m.counters' m.sample' m.antecedent' m.consequent')) r) m.left
    (made-taken m.header' m.signals' m.counters' m.sample' m.antecedent' m.consequent' h.0.0 bytes h.0.1 m.after0
    m.after1
    m.after2 m.after3 m.after4 m.after5 th m.taken0 m.taken1 m.taken2 m.taken3 m.taken4 m.taken5) in (
      h.0.0,
      subst (λ (y : ProgramData). Takes bytes (spelling_in h.0.0 y) rest) (sym m.is) taken,
      subst (λ (y : ProgramData). fits_program_in h.0.0 y ≡ true) (sym m.is)
          (made-fits m.header' m.signals' m.counters' m.sample' m.antecedent' m.consequent' h.0.0 m.fits0 m.fits1
          m.fits2
          m.fits3 m.fits4 m.fits5),
    )

right_before : (a b c d e f g : List ℕ) → (a ++ b ++ c ++ d ++ e ++ f) ++ g ≡ a ++ (b ++ (c ++ (d ++ (e ++ (f ++ g)))))
right_before a b c d e f g = append_assoc (a ++ b ++ c ++ d ++ e) f g ∙ right_grouped a b c d e (f ++ g)

again5 : (first : Bool) (header : HeaderData) (signals : List SlotData) (counters : List ℕ) (sample : List SampleInstr)
    (antecedent : SectionData) (consequent : SectionData) (rest : List ℕ) → fits_section_in first consequent ≡ true
    → (section_at first (section_spelling consequent ++ rest)
    >>= λ n_consequent. ok_program
    (record {
      header = header;
      signals = signals;
      counters = counters;
      sample = sample;
      antecedent = antecedent;
      consequent = n_consequent.0;
    }) n_consequent.1)
    ≡ ok_program (made header signals counters sample antecedent consequent) rest
unfolding made
again5 first header signals counters sample antecedent consequent rest h5 =
    ap (λ (r : Result (SectionData × List ℕ) Stop). r
    >>= λ n_consequent. ok_program
    (record {
      header = header;
      signals = signals;
      counters = counters;
      sample = sample;
      antecedent = antecedent;
      consequent = n_consequent.0;
    }) n_consequent.1) ((section-codec first).again consequent rest h5)

again4 : (first : Bool) (header : HeaderData) (signals : List SlotData) (counters : List ℕ) (sample : List SampleInstr)
    (antecedent : SectionData) (consequent : SectionData) (rest : List ℕ) → fits_section_in first antecedent ≡ true
    → fits_section_in first consequent ≡ true
    → (section_at first (section_spelling antecedent ++ (section_spelling consequent ++ rest))
    >>= λ n_antecedent. section_at first n_antecedent.1
    >>= λ n_consequent. ok_program
    (record {
      header = header;
      signals = signals;
      counters = counters;
      sample = sample;
      antecedent = n_antecedent.0;
      consequent = n_consequent.0;
    }) n_consequent.1)
    ≡ ok_program (made header signals counters sample antecedent consequent) rest
unfolding made
again4 first header signals counters sample antecedent consequent rest h4 h5 =
    ap (λ (r : Result (SectionData × List ℕ) Stop). r >>= λ n_antecedent. section_at first n_antecedent.1
    >>= λ n_consequent. ok_program
    (record {
      header = header;
      signals = signals;
      counters = counters;
      sample = sample;
      antecedent = n_antecedent.0;
      consequent = n_consequent.0;
    }) n_consequent.1)
    ((section-codec first).again antecedent (section_spelling consequent ++ rest) h4)
    ∙ again5 first header signals counters sample antecedent consequent rest h5

again3 : (first : Bool) (header : HeaderData) (signals : List SlotData) (counters : List ℕ) (sample : List SampleInstr)
    (antecedent : SectionData) (consequent : SectionData) (rest : List ℕ) → fits_list fits_sample sample ≡ true
    → fits_section_in first antecedent ≡ true → fits_section_in first consequent ≡ true
    → (counted_at sample_at
    (counted_spelling sample_spelling sample
    ++ (section_spelling antecedent ++ (section_spelling consequent ++ rest)))
    >>= λ n_sample. section_at first n_sample.1
    >>= λ n_antecedent. section_at first n_antecedent.1
    >>= λ n_consequent. ok_program
    (record {
      header = header;
      signals = signals;
      counters = counters;
      sample = n_sample.0;
      antecedent = n_antecedent.0;
      consequent = n_consequent.0;
    }) n_consequent.1)
    ≡ ok_program (made header signals counters sample antecedent consequent) rest
unfolding made
again3 first header signals counters sample antecedent consequent rest h3 h4 h5 =
    ap (λ (r : Result (List SampleInstr × List ℕ) Stop). r >>= λ n_sample. section_at first n_sample.1
    >>= λ n_antecedent. section_at first n_antecedent.1
    >>= λ n_consequent. ok_program
    (record {
      header = header;
      signals = signals;
      counters = counters;
      sample = n_sample.0;
      antecedent = n_antecedent.0;
      consequent = n_consequent.0;
    }) n_consequent.1)
    (samples-codec.again sample (section_spelling antecedent ++ (section_spelling consequent ++ rest)) h3)
    ∙ again4 first header signals counters sample antecedent consequent rest h4 h5

again2 : (first : Bool) (header : HeaderData) (signals : List SlotData) (counters : List ℕ) (sample : List SampleInstr)
    (antecedent : SectionData) (consequent : SectionData) (rest : List ℕ) → fits_list is_width counters ≡ true
    → fits_list fits_sample sample ≡ true → fits_section_in first antecedent ≡ true → fits_section_in first consequent
    ≡ true
    → (counted_at width_at
    (counted_spelling byte counters
    ++ (counted_spelling sample_spelling sample
    ++ (section_spelling antecedent ++ (section_spelling consequent ++ rest))))
    >>= λ n_counters. counted_at sample_at n_counters.1 >>= λ n_sample. section_at first n_sample.1
    >>= λ n_antecedent. section_at first n_antecedent.1
    >>= λ n_consequent. ok_program
    (record {
      header = header;
      signals = signals;
      counters = n_counters.0;
      sample = n_sample.0;
      antecedent = n_antecedent.0;
      consequent = n_consequent.0;
    }) n_consequent.1)
    ≡ ok_program (made header signals counters sample antecedent consequent) rest
unfolding made
again2 first header signals counters sample antecedent consequent rest h2 h3 h4 h5 =
    ap (λ (r : Result (List ℕ × List ℕ) Stop). r >>= λ n_counters. counted_at sample_at n_counters.1
    >>= λ n_sample. section_at first n_sample.1 >>= λ n_antecedent. section_at first n_antecedent.1
    >>= λ n_consequent. ok_program
    (record {
      header = header;
      signals = signals;
      counters = n_counters.0;
      sample = n_sample.0;
      antecedent = n_antecedent.0;
      consequent = n_consequent.0;
    }) n_consequent.1)
    (widths-codec.again counters
    (counted_spelling sample_spelling sample
    ++ (section_spelling antecedent ++ (section_spelling consequent ++ rest))) h2)
    ∙ again3 first header signals counters sample antecedent consequent rest h3 h4 h5

again1 : (first : Bool) (header : HeaderData) (signals : List SlotData) (counters : List ℕ) (sample : List SampleInstr)
    (antecedent : SectionData) (consequent : SectionData) (rest : List ℕ) → fits_list fits_slot signals ≡ true
    → fits_list is_width counters ≡ true → fits_list fits_sample sample ≡ true → fits_section_in first antecedent ≡ true
    → fits_section_in first consequent ≡ true
    → (counted_at slot_at
    (counted_spelling slot_spelling signals
    ++ (counted_spelling byte counters
    ++ (counted_spelling sample_spelling sample
    ++ (section_spelling antecedent ++ (section_spelling consequent ++ rest)))))
    >>= λ n_signals. counted_at width_at n_signals.1 >>= λ n_counters. counted_at sample_at n_counters.1
    >>= λ n_sample. section_at first n_sample.1 >>= λ n_antecedent. section_at first n_antecedent.1
    >>= λ n_consequent. ok_program
    (record {
      header = header;
      signals = n_signals.0;
      counters = n_counters.0;
      sample = n_sample.0;
      antecedent = n_antecedent.0;
      consequent = n_consequent.0;
    }) n_consequent.1)
    ≡ ok_program (made header signals counters sample antecedent consequent) rest
unfolding made
again1 first header signals counters sample antecedent consequent rest h1 h2 h3 h4 h5 =
    ap (λ (r : Result (List SlotData × List ℕ) Stop). r >>= λ n_signals. counted_at width_at n_signals.1
    >>= λ n_counters. counted_at sample_at n_counters.1 >>= λ n_sample. section_at first n_sample.1
    >>= λ n_antecedent. section_at first n_antecedent.1
    >>= λ n_consequent. ok_program
    (record {
      header = header;
      signals = n_signals.0;
      counters = n_counters.0;
      sample = n_sample.0;
      antecedent = n_antecedent.0;
      consequent = n_consequent.0;
    }) n_consequent.1)
    (slots-codec.again signals
    (counted_spelling byte counters
    ++ (counted_spelling sample_spelling sample
    ++ (section_spelling antecedent ++ (section_spelling consequent ++ rest)))) h1)
    ∙ again2 first header signals counters sample antecedent consequent rest h2 h3 h4 h5

again0 : (first : Bool) (header : HeaderData) (signals : List SlotData) (counters : List ℕ) (sample : List SampleInstr)
    (antecedent : SectionData) (consequent : SectionData) (rest : List ℕ) → fits_header header ≡ true
    → fits_list fits_slot signals ≡ true → fits_list is_width counters ≡ true → fits_list fits_sample sample ≡ true
    → fits_section_in first antecedent ≡ true → fits_section_in first consequent ≡ true
    → (header_at
    (header_spelling header
    ++ (counted_spelling slot_spelling signals
    ++ (counted_spelling byte counters
    ++ (counted_spelling sample_spelling sample
    ++ (section_spelling antecedent ++ (section_spelling consequent ++ rest))))))
    >>= λ n_header. counted_at slot_at n_header.1 >>= λ n_signals. counted_at width_at n_signals.1
    >>= λ n_counters. counted_at sample_at n_counters.1 >>= λ n_sample. section_at first n_sample.1
    >>= λ n_antecedent. section_at first n_antecedent.1
    >>= λ n_consequent. ok_program
    (record {
      header = n_header.0;
      signals = n_signals.0;
      counters = n_counters.0;
      sample = n_sample.0;
      antecedent = n_antecedent.0;
      consequent = n_consequent.0;
    }) n_consequent.1)
    ≡ ok_program (made header signals counters sample antecedent consequent) rest
unfolding made
again0 first header signals counters sample antecedent consequent rest h0 h1 h2 h3 h4 h5 =
    ap (λ (r : Result (HeaderData × List ℕ) Stop). r >>= λ n_header. counted_at slot_at n_header.1
    >>= λ n_signals. counted_at width_at n_signals.1 >>= λ n_counters. counted_at sample_at n_counters.1
    >>= λ n_sample. section_at first n_sample.1 >>= λ n_antecedent. section_at first n_antecedent.1
    >>= λ n_consequent. ok_program
    (record {
      header = n_header.0;
      signals = n_signals.0;
      counters = n_counters.0;
      sample = n_sample.0;
      antecedent = n_antecedent.0;
      consequent = n_consequent.0;
    }) n_consequent.1)
    (header-codec.again header
    (counted_spelling slot_spelling signals
    ++ (counted_spelling byte counters
    ++ (counted_spelling sample_spelling sample
    ++ (section_spelling antecedent ++ (section_spelling consequent ++ rest))))) h0)
    ∙ again1 first header signals counters sample antecedent consequent rest h1 h2 h3 h4 h5

program-again : (first : Bool) (x : ProgramData) (rest : List ℕ) → fits_program_in first x ≡ true
    → program_at (spelling_in first x ++ rest)
    ≡ ok_program x rest
unfolding program_at made
program-again first x rest fits =
    let p0 =
    and_parts (fits_header x.header) (fits_list fits_slot x.signals
    && (fits_list is_width x.counters
    && (fits_list fits_sample x.sample && (fits_section_in first x.antecedent && fits_section_in first x.consequent))))
    fits in
    let p1 =
    and_parts (fits_list fits_slot x.signals) (fits_list is_width x.counters
    && (fits_list fits_sample x.sample && (fits_section_in first x.antecedent && fits_section_in first x.consequent)))
    p0.1 in
    let p2 =
    and_parts (fits_list is_width x.counters) (fits_list fits_sample x.sample
    && (fits_section_in first x.antecedent && fits_section_in first x.consequent)) p1.1 in
    let p3 = and_parts (fits_list fits_sample x.sample)
    (fits_section_in first x.antecedent && fits_section_in first x.consequent) p2.1 in
    let p4 = and_parts (fits_section_in first x.antecedent) (fits_section_in first x.consequent) p3.1 in
    let texts : spelling_in first x ++ rest
    ≡ head_spelling_in first
    ++ (header_spelling x.header
    ++ (counted_spelling slot_spelling x.signals
    ++ (counted_spelling byte x.counters
    ++ (counted_spelling sample_spelling x.sample
    ++ (section_spelling x.antecedent ++ (section_spelling x.consequent ++ rest)))))) =
    ap (λ (t : List ℕ). head_spelling_in first ++ t)
    (right_before (header_spelling x.header) (counted_spelling slot_spelling x.signals)
    (counted_spelling byte x.counters) (counted_spelling sample_spelling x.sample) (section_spelling x.antecedent)
    (section_spelling x.consequent) rest) in
    ap program_at texts
    ∙ ap (λ (r : Result (Bool × List ℕ) Stop). r >>= λ a. header_at a.1 >>= λ n_header. counted_at slot_at n_header.1
    >>= λ n_signals. counted_at width_at n_signals.1 >>= λ n_counters. counted_at sample_at n_counters.1
    >>= λ n_sample. section_at a.0 n_sample.1 >>= λ n_antecedent. section_at a.0 n_antecedent.1
    >>= λ n_consequent. ok_program
    (record {
      header = n_header.0;
      signals = n_signals.0;
      counters = n_counters.0;
      sample = n_sample.0;
      antecedent = n_antecedent.0;
      consequent = n_consequent.0;
    }) n_consequent.1)
    (head-again first
    (header_spelling x.header
    ++ (counted_spelling slot_spelling x.signals
    ++ (counted_spelling byte x.counters
    ++ (counted_spelling sample_spelling x.sample
    ++ (section_spelling x.antecedent ++ (section_spelling x.consequent ++ rest)))))))
    ∙ again0 first x.header x.signals x.counters x.sample x.antecedent x.consequent rest p0.0 p1.0 p2.0 p3.0 p4.0 p4.1

-- ---- whole files

abbrev ok_whole : ProgramData → Result ProgramData Stop
ok_whole x = Ok x

pub whole-takes : (bytes : List ℕ) (x : ProgramData) → IsBytes bytes → whole_of bytes ≡ ok_whole x
    → IsSpelled bytes x
unfolding whole_of
whole-takes bytes x fits e =
    let b =
    bind_ok (program_at bytes) (λ p. if eqb (length p.1) 0 then Ok p.0 else Err (stops.Trailing (length p.1))) x e
    in
    let g = test_ok (eqb (length b.0.1) 0) (stops.Trailing (length b.0.1)) b.0.0 x b.2 in
    let t = program-takes bytes b.0.0 b.0.1 fits b.1 in
    let nothing : b.0.1 ≡ [] = nil_from_length b.0.1 (eqb-true (length b.0.1) 0 g.0) in
    let whole : bytes ≡ spelling_in t.0 b.0.0 =
    t.1.parts ∙ ap (λ (r : List ℕ). spelling_in t.0 b.0.0 ++ r) nothing ∙ append-nil (spelling_in t.0 b.0.0) in
    subst (IsSpelled bytes) g.1 (t.0, t.2, whole)

pub whole-again : (first : Bool) (x : ProgramData) → fits_program_in first x ≡ true
    → whole_of (spelling_in first x) ≡ ok_whole x
unfolding whole_of
whole-again first x fits =
    let read : program_at (spelling_in first x) ≡ ok_program x [] =
    ap program_at (sym (append-nil (spelling_in first x))) ∙ program-again first x [] fits in
    ap (λ (r : Result (ProgramData × List ℕ) Stop). r
    >>= λ p. if eqb (length p.1) 0 then ok_whole p.0 else Err (stops.Trailing (length p.1))) read

same-version : (first other : Bool) → version_of first ≡ version_of other → first ≡ other
same-version true true e = refl
same-version true false e = absurd (omega (arith, e))
same-version false true e = absurd (omega (arith, e))
same-version false false e = refl

-- No spelling begins another, and one bytes spell one program.
pub one-program : (first other : Bool) (x y : ProgramData) (a b : List ℕ) → fits_program_in first x ≡ true
    → fits_program_in other y ≡ true → spelling_in first x ++ a ≡ spelling_in other y ++ b
    → (first ≡ other) × (x ≡ y) × (a ≡ b)
one-program first other x y a b p q e =
    let same = ok_is (x, a) (y, b) (sym (program-again first x a p) ∙ ap program_at e ∙ program-again other y b q) in
    let version : version_of first ≡ version_of other = ap (λ (t : List ℕ). get_or t 4 0) e in (
      same-version first other version,
      ap (λ (r : ProgramData × List ℕ). r.0) same,
      ap (λ (r : ProgramData × List ℕ). r.1) same,
    )

-- ---- what version 1 can spell, version 2 can

all-more : {A : Type 0} (p q : A → Bool) → ((x : A) → p x ≡ true → q x ≡ true) → (xs : List A)
    → list_all p xs ≡ true → list_all q xs ≡ true
all-more p q more [] h = refl
all-more p q more (x ∷ xs) h =
    let both = and_parts (p x) (list_all p xs) h in
    and_from (q x) (list_all q xs) (more x both.0) (all-more p q more xs both.1)

step-more : (first : Bool) (i : BlockInstr) → fits_block_in first i ≡ true → fits_block_in true i ≡ true
step-more true i h = h
step-more false (block.Unless atom target) h = h
step-more false (block.Enter q) h = h
step-more false block.Accept h = refl
step-more false block.Stop h = refl
step-more false block.AcceptFirst h = absurd cc

steps-more : (first : Bool) (b : List BlockInstr) → fits_list (fits_block_in first) b ≡ true
    → fits_list (fits_block_in true) b ≡ true
steps-more first b h =
    let both = and_parts (in_two (length b)) (list_all (fits_block_in first) b) h in
    and_from (in_two (length b)) (list_all (fits_block_in true) b) both.0
    (all-more (fits_block_in first) (fits_block_in true) (step-more first) b both.1)

section-more : (first : Bool) (s : SectionData) → fits_section_in first s ≡ true → fits_section_in true s ≡ true
section-more first s h =
    let a =
    and_parts (in_sixteen s.start)
    (in_byte (length s.blocks) && list_all (fits_list (fits_block_in first)) s.blocks) h in
    let b = and_parts (in_byte (length s.blocks)) (list_all (fits_list (fits_block_in first)) s.blocks) a.1 in
    and_from (in_sixteen s.start) (in_byte (length s.blocks) && list_all (fits_list (fits_block_in true)) s.blocks) a.0
    (and_from (in_byte (length s.blocks)) (list_all (fits_list (fits_block_in true)) s.blocks) b.0
    (all-more (fits_list (fits_block_in first)) (fits_list (fits_block_in true)) (steps-more first) s.blocks b.1))

pub program-more : (first : Bool) (x : ProgramData) → fits_program_in first x ≡ true → fits_program_in true x ≡ true
unfolding made
program-more first x fits =
    let p0 =
    and_parts (fits_header x.header) (fits_list fits_slot x.signals
    && (fits_list is_width x.counters
    && (fits_list fits_sample x.sample && (fits_section_in first x.antecedent && fits_section_in first x.consequent))))
    fits in
    let p1 =
    and_parts (fits_list fits_slot x.signals) (fits_list is_width x.counters
    && (fits_list fits_sample x.sample && (fits_section_in first x.antecedent && fits_section_in first x.consequent)))
    p0.1 in
    let p2 =
    and_parts (fits_list is_width x.counters) (fits_list fits_sample x.sample
    && (fits_section_in first x.antecedent && fits_section_in first x.consequent)) p1.1 in
    let p3 =
    and_parts (fits_list fits_sample x.sample)
    (fits_section_in first x.antecedent && fits_section_in first x.consequent) p2.1 in
    let p4 = and_parts (fits_section_in first x.antecedent) (fits_section_in first x.consequent) p3.1 in
    made-fits x.header x.signals x.counters x.sample x.antecedent x.consequent true p0.0 p1.0 p2.0 p3.0
    (section-more first x.antecedent p4.0) (section-more first x.consequent p4.1)

-- reading that gives a program stopped for want of memory alone
pub no-fault : (stop : Stop) (total : ℕ) (x : ProgramData) (read : Result ProgramData Stop) → Fails stop read
    → read ≡ ok_whole x → fault_of total stop ≡ faults.Memory
no-fault stops.Memory total x read h e = refl
no-fault stops.Magic total x read h e = absurd cc
no-fault stops.Version total x read h e = absurd cc
no-fault stops.Cut total x read h e = absurd cc
no-fault (stops.Opcode left) total x read h e = absurd cc
no-fault (stops.Field left) total x read h e = absurd cc
no-fault (stops.Trailing left) total x read h e = absurd cc
