-- All parts of a program.
use Rattle.std.proofs.Common.{◌≡◌, ◌⊎◌, inl, inr, ℕ, ◌+◌, ◌<◌, true, false, cond, List, [], ◌∷◌}
use Rattle.std.proofs.Common.{◌++◌, length, map, Option, Some, None, refl, sym, ap, ◌∙◌, arith}
use Rattle.std.specs.Prelude.{nat_lt}
use Rattle.std.proofs.lemmas.Bool.{lt-ltb, ltb-true, cases_Bool}
use Rattle.verifier.specs.declared.refusal.Refusal.TheVariants.{SlotRange}
use Rattle.verifier.specs.Rules.{sample_rules}
use Rattle.verifier.specs.Inference.{Found, found, code_faults, entry}
use Rattle.verifier.specs.Typing.{IsCodeTyped, AreShort, longest_list}
use Rattle.verifier.specs.Sections.{section_faults}
use Rattle.bytecode_programs.specs.Instructions.{frame_of}
use Rattle.verifier.proofs.CodeLaws.{typed_code, faultless_code, typed_section, faultless_section}
use Rattle.bytecode_programs.specs.Values.{ProgramData}
use Rattle.verifier.specs.Programs.{disable_faults, header_refusals, part_faults, least_stack}
use Rattle.verifier.specs.Programs.{HasRoom, IsAtom, IsWellFormed}
use Rattle.verifier.proofs.TypingLaws.{nil_parts, nil_map, longest_typed}
use Rattle.verifier.specs.Scans.{longest_agreed}
use Rattle.verifier.proofs.HeaderLaws.{header_clear, header_none}

atom_there : (disable : Option ℕ) (atoms : ℕ) → disable_faults disable atoms ≡ [] → IsAtom disable atoms
atom_there None atoms h = tt
atom_there (Some atom) atoms h = by_test (cases_Bool (nat_lt atom atoms))
  where
    by_test : (nat_lt atom atoms ≡ true) ⊎ (nat_lt atom atoms ≡ false) → atom < atoms
    by_test (inl hit) = ltb-true atom atoms hit
    by_test (inr miss) =
        (let some : SlotRange 0 ∷ [] ≡ [] = sym (ap (λ b. cond b [] (SlotRange 0 ∷ [])) miss) ∙ h in cc)

atom_none : (disable : Option ℕ) (atoms : ℕ) → IsAtom disable atoms → disable_faults disable atoms ≡ []
atom_none None atoms h = refl
atom_none (Some atom) atoms h = ap (λ b. cond b [] (SlotRange 0 ∷ [])) (lt-ltb atom atoms h)

-- No fault but of the limits stands exactly where the program is well formed and nothing is over the most.
pub formed : (p : ProgramData) → part_faults p ≡ [] → IsWellFormed p × HasRoom p
formed p h =
    let consequent =
    nil_parts (map (found 0 0) (header_refusals p) ++ code_faults (sample_rules (frame_of p)) 0 p.sample
    ++ section_faults 2 p.header.atoms p.antecedent) (section_faults 3 p.header.atoms p.consequent) h in
    let antecedent =
    nil_parts (map (found 0 0) (header_refusals p) ++ code_faults (sample_rules (frame_of p)) 0 p.sample)
    (section_faults 2 p.header.atoms p.antecedent) consequent.0 in
    let sample =
    nil_parts (map (found 0 0) (header_refusals p)) (code_faults (sample_rules (frame_of p)) 0 p.sample)
    antecedent.0 in
    let header = header_clear p (nil_map (found 0 0) (header_refusals p) sample.0) in
    let typed = typed_code (sample_rules (frame_of p)) 0 p.sample sample.1 in (
      record {
        disable = atom_there p.header.disable p.header.atoms header.1;
        table = typed.0;
        sample = typed.1;
        short = typed.2;
        antecedent = typed_section 2 p.header.atoms p.antecedent antecedent.1;
        consequent = typed_section 3 p.header.atoms p.consequent consequent.1;
      },
      header.0,
    )

join_nil : (xs ys : List Found) → xs ≡ [] → ys ≡ [] → xs ++ ys ≡ []
join_nil xs ys a b = ap (λ zs. zs ++ ys) a ∙ b

pub faultless : (p : ProgramData) → IsWellFormed p → HasRoom p → part_faults p ≡ []
faultless p w room =
    join_nil _ _
    (join_nil _ _
    (join_nil _ _
    (ap (map (found 0 0)) (header_none p room (atom_none p.header.disable p.header.atoms w.disable)))
    (faultless_code (sample_rules (frame_of p)) 0 p.sample w.table w.sample w.short))
    (faultless_section 2 p.header.atoms p.antecedent w.antecedent))
    (faultless_section 3 p.header.atoms p.consequent w.consequent)

pub longest_is_least : (p : ProgramData) (table : ℕ → List ℕ) → IsCodeTyped (sample_rules (frame_of p)) 0 p.sample table
    → AreShort (sample_rules (frame_of p)) 0 p.sample table → least_stack p ≡ longest_list table 0 p.sample
longest_is_least p table typed short =
    (let e : length p.sample ≡ 0 + length p.sample =
    omega arith in ap (λ n. longest_agreed (sample_rules (frame_of p)) n 0 p.sample (entry 0)) e)
    ∙ longest_typed (sample_rules (frame_of p)) 0 p.sample table typed short
