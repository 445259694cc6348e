-- The sample code of an accepted program.
use Rattle.std.proofs.Common.{◌≡◌, ◌∙◌, ℕ, zero, suc, ◌+◌, ◌-◌, ◌<◌, ◌≤◌, List, [], ◌∷◌}
use Rattle.std.proofs.Common.{length, map, Some, sym, ap, subst, arith, length-append}
use Rattle.bytecode_programs.specs.declared.limits.Limits.{Limits}
use Rattle.bytecode_programs.specs.declared.sample_instr.SampleInstr.{SampleInstr}
use Rattle.bytecode_programs.specs.declared.sample_instr.SampleInstr.TheVariants.{Halt}
use Rattle.bytecode_programs.specs.Instructions.{FrameData, leaves, frame_of, LeadsTo, sample_flow}
use Rattle.verifier.specs.Rules.{sample_rules}
use Rattle.verifier.specs.Inference.{after_of}
use Rattle.verifier.specs.Typing.{IsCodeTyped, longest_list}
use Rattle.verifier.specs.Limits.{farthest, longest_path}
use Rattle.machine_checked.specs.Outcomes.{done}
use Rattle.machine_checked.specs.Samples.{Operand, operand_width, results, nothing_made, run_sample}
use Rattle.compiler.specs.Samples.{sample_code}
use Rattle.compiler.specs.Laws.{SamplesTell}
use Rattle.compiler.proofs.Steps.{State, state, steps, step-some, steps-append}
use Rattle.compiler.proofs.Runs.{Stands, stands-between, run-halt}
use Rattle.compiler.proofs.Programs.{body, made_by, body-steps}
use Rattle.compiler.proofs.Tables.{first-of, reaches-under, farthest-halt}
use Rattle.compiler.proofs.Quiet.{asked, samples-are-typed}

list-within :
    (table : ℕ → List ℕ) (pc : ℕ) (code : List SampleInstr) (k : ℕ) → k < length code →
    length (table (pc + k)) ≤ longest_list table pc code
list-within table pc [] k lt = absurd (omega (arith, lt))
list-within table pc (i ∷ code) zero lt =
    let here : pc + 0 ≡ pc = omega arith in
    rw here (omega arith)
list-within table pc (i ∷ code) (suc k) lt =
    let on : pc + suc k ≡ pc + 1 + k = omega arith in
    let h : length (table (pc + 1 + k)) ≤ longest_list table (pc + 1) code =
    list-within table (pc + 1) code k (omega (arith, lt)) in
    rw on (omega (arith, h))

-- Typed code that runs under some limits runs under any that hold its lists and its reach.
module _ (f : FrameData) (wide d : Limits) (s : ℕ → ℕ → ℕ) (code : List SampleInstr) (table : ℕ →
    List ℕ) (typed : IsCodeTyped (sample_rules f) 0 code table) (lists : longest_list table 0 code ≤
    d.stack) where
  fit : (pc : ℕ) → pc < length code → length (table pc) ≤ d.stack
  fit pc lt =
      let h : length (table pc) ≤ longest_list table 0 code =
      subst (λ n. length (table n) ≤ longest_list table 0 code) (omega arith)
      (list-within table 0 code pc lt) in
      omega (arith, h, lists)

  narrowed :
      (part : List SampleInstr) (pc : ℕ) (from to : State) → Stands code pc part →
      pc + length part < length code → table pc ≡ map operand_width from.operands →
      farthest part ≤ d.history → steps f wide s part from ≡ Some to →
      steps f d s part from ≡ Some to
  narrowed [] pc from to stand inside at near h = h
  narrowed (i ∷ part) pc from to stand inside at near h =
      let g = first-of f wide s i part from to h in
      let xs : List Operand = from.operands in
      let ys : List ℕ = map operand_width (results f s i xs) in
      let zero_on : 0 + pc ≡ pc = omega arith in
      let fine = typed.each pc i stand.0 in
      let rule : leaves ys ≡ leaves fine.after =
      sym g.first.rule
      ∙ (ap (λ ws. (sample_rules f).effect i ws) (sym at ∙ ap table (sym zero_on)) ∙ fine.rule) in
      let same : ys ≡ fine.after = ap after_of rule in
      let leads : pc + 1 ≡ 0 + pc + 1 = omega arith in
      let next : table (pc + 1) ≡ fine.after =
      fine.sends (pc + 1) (subst (λ flow. LeadsTo flow (0 + pc) (pc + 1)) (sym g.on) leads) in
      let on : table (pc + 1) ≡ ys = next ∙ sym same in
      let fits : length ys ≤ d.stack =
      subst (λ (l : List ℕ). length l ≤ d.stack) on (fit (pc + 1) (omega (arith, inside))) in
      let first : steps f d s (i ∷ []) from ≡ Some g.next =
      step-some f d s i from ys g.first.there g.first.rule fits
      (reaches-under d i (omega (arith, near))) g.on
      ∙ ap (λ r. Some r) g.first.left in
      let ops : results f s i xs ≡ g.next.operands =
      ap (λ (r : State). r.operands) g.first.left in
      steps-append f d s (i ∷ []) part from g.next first
      ∙ narrowed part (pc + 1) g.next to stand.1 (omega (arith, inside)) (on ∙ ap (map operand_width)
      ops)
      (omega (arith, near)) g.others

pub samples-tell : SamplesTell
samples-tell p at es hs accepted is frame t s k told =
    let f : FrameData = frame_of p in
    let d : Limits = p.header.limits in
    let part : List SampleInstr = body at es hs in
    let code : List SampleInstr = sample_code at es hs in
    let long : length code ≡ length part + 1 = length-append part (Halt ∷ []) in
    let from : State = state [] (nothing_made f) in
    let to : State = state [] (made_by t k es hs) in
    let wide : steps f (asked es hs) s part from ≡ Some to =
    body-steps f (asked es hs) t at s k es hs frame told (omega arith) (omega arith) in
    let typed : IsCodeTyped (sample_rules f) 0 code accepted.table =
    subst (λ c. IsCodeTyped (sample_rules f) 0 c accepted.table) is accepted.sample in
    let lists : longest_list accepted.table 0 code ≤ d.stack =
    subst (λ c. longest_list accepted.table 0 c ≤ d.stack) is accepted.stack in
    let near : farthest code ≤ d.history =
    subst (λ c. farthest c ≤ d.history) is accepted.history in
    let straight : steps f d s part from ≡ Some to =
    narrowed f (asked es hs) d s code accepted.table typed lists part 0 from to
    (stands-between [] part (Halt ∷ [])) (omega (arith, long)) accepted.sample.begins
    (omega (arith, near, farthest-halt part)) wide in
    let path : longest_path 0 (map sample_flow code) ≡ length code =
    (samples-are-typed f at es hs frame).path in
    let short : length code ≤ d.budget =
    omega (arith, path, ap (λ c. longest_path 0 (map sample_flow c)) is, accepted.budget) in
    let spent : d.budget ≡ length part + suc (d.budget - length code) = omega (arith, long, short)
    in
    ap (λ c. run_sample f d s c d.budget 0 [] (nothing_made f)) is
    ∙ (ap (λ n. run_sample f d s code n 0 [] (nothing_made f)) spent
    ∙ (run-halt f d s part (d.budget - length code) (nothing_made f) (made_by t k es hs) straight
    ∙ ap (λ c. done (made_by t k es hs) (d.budget - length c)) (sym is)))
