-- Code that runs in order is typed by the widths of the operands between its instructions.
use Rattle.std.proofs.Common.{◌≡◌, ◌∙◌, inl, inr, ◌⊎◌, ℕ, zero, suc, ◌+◌, ◌-◌, ◌<◌, ◌≤◌, max, Bool}
use Rattle.std.proofs.Common.{true, false, List, [], ◌∷◌, ◌++◌, length, map, Some, refl}
use Rattle.std.proofs.Common.{sym, ap, subst, arith, length-append, get_or}
use Rattle.std.specs.Prelude.{slice_get, nat_le}
use Rattle.std.proofs.lemmas.Bool.{le-leb, leb-true}
use Rattle.std.proofs.lemmas.Option.{same_Some, slice_get-get_or, slice_get_within}
use Rattle.bytecode_programs.specs.declared.flow.Flow.{Flow}
use Rattle.bytecode_programs.specs.declared.flow.Flow.TheVariants.{Stops, GoesOn}
use Rattle.bytecode_programs.specs.declared.limits.Limits.{Limits}
use Rattle.bytecode_programs.specs.declared.sample_instr.SampleInstr.{SampleInstr}
use Rattle.bytecode_programs.specs.declared.sample_instr.SampleInstr.TheVariants.{Past, Halt}
use Rattle.bytecode_programs.specs.Instructions.{FrameData, Effect, leaves, too_few, misfit, LeadsTo}
use Rattle.bytecode_programs.specs.Instructions.{sample_flow, sample_effect, is_there}
use Rattle.verifier.specs.Rules.{sample_rules}
use Rattle.verifier.specs.Inference.{after_of}
use Rattle.verifier.specs.Typing.{IsFine, longest_list}
use Rattle.verifier.specs.Limits.{reach_of, farthest, path_of, paths_from, longest_path}
use Rattle.machine_checked.specs.Samples.{Operand, operand_width, results, making, reaches}
use Rattle.machine_checked.proofs.Samples.{results-widths}
use Rattle.compiler.specs.Laws.{IsTypedWithin}
use Rattle.compiler.proofs.Steps.{State, state, tested, stepped, step, steps}
use Rattle.compiler.proofs.Runs.{first-step}

-- an instruction that was taken
pub record Taken (f : FrameData) (d : Limits) (s : ℕ → ℕ → ℕ) (i : SampleInstr) (from to : State) :
    Type 0 where
  pub there : is_there f i ≡ true
  pub rule :
      sample_effect f i (map operand_width from.operands)
      ≡ leaves (map operand_width (results f s i from.operands))
  pub fits : length (map operand_width (results f s i from.operands)) ≤ d.stack
  pub back : reaches d i ≡ true
  pub left : state (results f s i from.operands) (making i from.operands from.made) ≡ to

-- an element of a list with one more after it
get-split :
    {A : Type 0} (xs : List A) (x y : A) (k : ℕ) → slice_get (xs ++ x ∷ []) k ≡ Some y →
    (slice_get xs k ≡ Some y) ⊎ ((k ≡ length xs) × (x ≡ y))
get-split [] x y zero h = inr (refl, same_Some x y h)
get-split [] x y (suc k) h = cc
get-split (z ∷ xs) x y zero h = inl h
get-split (z ∷ xs) x y (suc k) h = elim (get-split xs x y k h) [
  | inl found ↦ inl found
  | inr last ↦ inr (ap suc last.0, last.1)
]

get-front :
    {A : Type 0} (xs ys : List A) (y : A) (k : ℕ) → slice_get xs k ≡ Some y →
    slice_get (xs ++ ys) k ≡ Some y
get-front [] ys y k h = cc
get-front (x ∷ xs) ys y zero h = h
get-front (x ∷ xs) ys y (suc k) h = get-front xs ys y k h

list-under :
    (table : ℕ → List ℕ) (n pc : ℕ) (code : List SampleInstr) →
    ((k : ℕ) → k < length code → length (table (pc + k)) ≤ n) → longest_list table pc code ≤ n
list-under table n pc [] h = omega arith
list-under table n pc (i ∷ code) h =
    let here : length (table pc) ≤ n =
    subst (λ m. length (table m) ≤ n) (omega arith) (h 0 (omega arith)) in
    let later : longest_list table (pc + 1) code ≤ n =
    list-under table n (pc + 1) code
    (λ k lt. subst (λ m. length (table m) ≤ n) (omega arith) (h (k + 1) (omega (arith, lt)))) in
    omega (arith, here, later)

pub farthest-halt :
    (part : List SampleInstr) → farthest (part ++ Halt ∷ []) ≡ farthest part
farthest-halt [] = refl
farthest-halt (j ∷ part) = ap (max (reach_of j)) (farthest-halt part)

-- how far back an instruction that reaches reads
reach-under : (d : Limits) (i : SampleInstr) → reaches d i ≡ true → reach_of i ≤ d.history
reach-under d (Past slot k) h = leb-true k d.history h
reach-under d i h = omega arith

pub reaches-under : (d : Limits) (i : SampleInstr) → reach_of i ≤ d.history → reaches d i ≡ true
reaches-under d (Past slot k) h = le-leb k d.history h
reaches-under d i h = refl

module _ (f : FrameData) (d : Limits) (s : ℕ → ℕ → ℕ) where
  taken-tested :
      (fits back : Bool) (r to : State) → tested fits back r ≡ Some to →
      (fits ≡ true) × (back ≡ true) × (r ≡ to)
  taken-tested true true r to h = (refl, refl, same_Some r to h)
  taken-tested true false r to h = cc
  taken-tested false back r to h = cc

  taken :
      (i : SampleInstr) (from to : State) (there : Bool) (e : Effect) → is_there f i ≡ there →
      sample_effect f i (map operand_width from.operands) ≡ e →
      stepped f d s i from there e ≡ Some to → Taken f d s i from to
  taken i from to false e th rule h = cc
  taken i from to true too_few th rule h = cc
  taken i from to true misfit th rule h = cc
  taken i from to true (leaves ws) th rule h =
      let parts =
      taken-tested (nat_le (length ws) d.stack) (reaches d i)
      (state (results f s i from.operands) (making i from.operands from.made)) to h in
      let same : map operand_width (results f s i from.operands) ≡ ws =
      results-widths f s i from.operands ws rule in
      record {
        there = th;
        rule = rule ∙ ap leaves (sym same);
        fits = subst (λ l. length l ≤ d.stack) (sym same) (leb-true (length ws) d.stack parts.0);
        back = parts.1;
        left = parts.2;
      }

  -- the first of instructions in order, and what it leaves for the others
  pub record First (i : SampleInstr) (part : List SampleInstr) (from to : State) : Type 0 where
    pub next : State
    pub on : sample_flow i ≡ GoesOn
    pub first : Taken f d s i from next
    pub others : steps f d s part next ≡ Some to

  pub first-of :
      (i : SampleInstr) (part : List SampleInstr) (from to : State) →
      steps f d s (i ∷ part) from ≡ Some to → First i part from to
  first-of i part from to h =
      let parts = first-step f d s (sample_flow i) (step f d s i from) part to h in
      record {
        next = parts.0;
        on = parts.1;
        first = taken i from parts.0 (is_there f i) (sample_effect f i (map operand_width from.operands))
            refl refl parts.2;
        others = parts.3;
      }

  -- the widths of the operands before each instruction, and after the last
  abbrev pub lists_of : List SampleInstr → List Operand → ℕ → List ℕ
  lists_of [] xs k = map operand_width xs
  lists_of (i ∷ part) xs zero = map operand_width xs
  lists_of (i ∷ part) xs (suc k) = lists_of part (results f s i xs) k

  lists-first : (part : List SampleInstr) (xs : List Operand) → lists_of part xs 0 ≡ map operand_width xs
  lists-first [] xs = refl
  lists-first (i ∷ part) xs = refl

  -- an instruction in its place
  pub record Placed (table : ℕ → List ℕ) (k : ℕ) (i : SampleInstr) : Type 0 where
    pub there : is_there f i ≡ true
    pub rule : sample_effect f i (table k) ≡ leaves (table (k + 1))
    pub fits : length (table (k + 1)) ≤ d.stack
    pub on : sample_flow i ≡ GoesOn

  placed :
      (part : List SampleInstr) (from to : State) → steps f d s part from ≡ Some to →
      (k : ℕ) (i : SampleInstr) → slice_get part k ≡ Some i →
      Placed (lists_of part from.operands) k i
  placed [] from to h k i at = cc
  placed (j ∷ part) from to h zero i at =
      let same : j ≡ i = same_Some j i at in
      let g = first-of j part from to h in
      let ys : List Operand = results f s j from.operands in
      let rest : lists_of part ys 0 ≡ map operand_width ys = lists-first part ys in
      subst (Placed (lists_of (j ∷ part) from.operands) 0) same
      (record {
        there = g.first.there;
        rule = g.first.rule ∙ ap leaves (sym rest);
        fits = subst (λ l. length l ≤ d.stack) (sym rest) g.first.fits;
        on = g.on;
      })
  placed (j ∷ part) from to h (suc k) i at =
      let g = first-of j part from to h in
      let xs : List Operand = from.operands in
      let ops : results f s j xs ≡ g.next.operands = ap (λ (r : State). r.operands) g.first.left in
      let p : Placed (lists_of part g.next.operands) k i = placed part g.next to g.others k i at in
      let q : Placed (lists_of part (results f s j xs)) k i =
      subst (λ ys. Placed (lists_of part ys) k i) (sym ops) p in
      let more : suc k + 1 ≡ suc (k + 1) = omega arith in
      record {
        there = q.there;
        rule = q.rule ∙ ap (λ n. leaves (lists_of (j ∷ part) xs n)) (sym more);
        fits = subst (λ n. length (lists_of (j ∷ part) xs n) ≤ d.stack) (sym more) q.fits;
        on = q.on;
      }

  last-list :
      (part : List SampleInstr) (from to : State) → steps f d s part from ≡ Some to →
      lists_of part from.operands (length part) ≡ map operand_width to.operands
  last-list [] from to h = ap (λ (r : State). map operand_width r.operands) (same_Some from to h)
  last-list (j ∷ part) from to h =
      let g = first-of j part from to h in
      let ops : results f s j from.operands ≡ g.next.operands =
      ap (λ (r : State). r.operands) g.first.left in
      ap (λ ys. lists_of part ys (length part)) ops ∙ last-list part g.next to g.others

  far-steps :
      (part : List SampleInstr) (from to : State) → steps f d s part from ≡ Some to →
      farthest part ≤ d.history
  far-steps [] from to h = omega arith
  far-steps (j ∷ part) from to h =
      let g = first-of j part from to h in
      omega (arith, reach-under d j g.first.back, far-steps part g.next to g.others)

  path-steps :
      (part : List SampleInstr) (from to : State) → steps f d s part from ≡ Some to → (pc : ℕ) →
      longest_path pc (map sample_flow (part ++ Halt ∷ [])) ≡ length part + 1
  path-steps [] from to h pc = refl
  path-steps (j ∷ part) from to h pc =
      let g = first-of j part from to h in
      let flows : List Flow = map sample_flow (part ++ Halt ∷ []) in
      ap (λ flow. path_of pc flow (paths_from (pc + 1) flows)) g.on
      ∙ omega (arith, path-steps part g.next to g.others (pc + 1))

  -- code to the Halt after it, from no operands to none
  module _ (code : List SampleInstr) (from to : State) (h : steps f d s code from ≡ Some to) (none :
      from.operands ≡ []) (end : to.operands ≡ []) where
    abbrev whole : List SampleInstr
    whole = code ++ Halt ∷ []

    abbrev table : ℕ → List ℕ
    table = lists_of code from.operands

    long : length whole ≡ length code + 1
    long = length-append code (Halt ∷ [])

    begins : table 0 ≡ []
    begins = lists-first code from.operands ∙ ap (map operand_width) none

    last : table (length code) ≡ []
    last = last-list code from to h ∙ ap (map operand_width) end

    fine-inside :
        (k : ℕ) (i : SampleInstr) → slice_get code k ≡ Some i →
        IsFine (sample_rules f) (0 + length whole) table (0 + k) i
    fine-inside k i found =
        let p = placed code from to h k i found in
        let at : 0 + k ≡ k = omega arith in
        let lt : k < length code = slice_get_within code k i found in
        subst (λ n. IsFine (sample_rules f) (0 + length whole) table n i) (sym at)
        (record {
          after = table (k + 1);
          rule = p.rule;
          sends = λ m leads.
              let to_next : m ≡ k + 1 = subst (λ flow. LeadsTo flow k m) p.on leads in
              ap table to_next;
          forward = λ m leads.
              let to_next : m ≡ k + 1 = subst (λ flow. LeadsTo flow k m) p.on leads in
              (omega (arith, to_next), omega (arith, to_next, long, lt));
          names = rw p.there refl;
        })

    fine-last : IsFine (sample_rules f) (0 + length whole) table (0 + length code) Halt
    fine-last =
        record {
          after = table (0 + length code);
          rule = refl;
          sends = λ m leads. absurd leads;
          forward = λ m leads. absurd leads;
          names = refl;
        }

    fine :
        (k : ℕ) (i : SampleInstr) → slice_get whole k ≡ Some i →
        IsFine (sample_rules f) (0 + length whole) table (0 + k) i
    fine k i found = elim (get-split code Halt i k found) [
      | inl inside ↦ fine-inside k i inside
      | inr ends ↦
          subst (λ n. IsFine (sample_rules f) (0 + length whole) table (0 + n) i) (sym ends.0)
          (subst (IsFine (sample_rules f) (0 + length whole) table (0 + length code)) ends.1
          fine-last)
    ]

    ends :
        (i : SampleInstr) → slice_get whole (length whole - 1) ≡ Some i → sample_flow i ≡ Stops
    ends i found = elim (get-split code Halt i (length whole - 1) found) [
      | inl inside ↦
          absurd (omega (arith, slice_get_within code (length whole - 1) i inside, long))
      | inr last ↦ ap sample_flow (sym last.1)
    ]

    reached :
        (k : ℕ) → 0 < k → k < length whole →
        (j : ℕ) × (i : SampleInstr) × (j < k) × (slice_get whole j ≡ Some i)
        × LeadsTo (sample_flow i) (0 + j) (0 + k)
    reached k some inside =
        let j : ℕ = k - 1 in
        let i : SampleInstr = get_or code j Halt in
        let before : slice_get code j ≡ Some i =
        slice_get-get_or code j Halt (omega (arith, long, some, inside)) in
        let p = placed code from to h j i before in
        let on : 0 + k ≡ 0 + j + 1 = omega (arith, some) in (
          j,
          i,
          omega (arith, some),
          get-front code (Halt ∷ []) i j before,
          subst (λ flow. LeadsTo flow (0 + j) (0 + k)) (sym p.on) on,
        )

    fit : (k : ℕ) → k < length whole → length (table k) ≤ d.stack
    fit zero lt = subst (λ (l : List ℕ). length l ≤ d.stack) (sym begins) (omega arith)
    fit (suc k) lt =
        let i : SampleInstr = get_or code k Halt in
        let p =
        placed code from to h k i (slice_get-get_or code k Halt (omega (arith, long, lt))) in
        let more : k + 1 ≡ suc k = omega arith in
        subst (λ n. length (table n) ≤ d.stack) more p.fits

    short :
        (k : ℕ) (i : SampleInstr) (after : List ℕ) → slice_get whole k ≡ Some i →
        sample_effect f i (table (0 + k)) ≡ leaves after → length after ≤ d.stack
    short k i after found rule =
        let at : 0 + k ≡ k = omega arith in
        let here : sample_effect f i (table k) ≡ leaves after =
        ap (λ n. sample_effect f i (table n)) (sym at) ∙ rule in
        elim (get-split code Halt i k found) [
          | inl inside ↦
              let p = placed code from to h k i inside in
              let same : table (k + 1) ≡ after = ap after_of (sym p.rule ∙ here) in
              subst (λ (l : List ℕ). length l ≤ d.stack) same p.fits
          | inr last ↦
              let halts : sample_effect f Halt (table k) ≡ leaves after =
              ap (λ j. sample_effect f j (table k)) last.1 ∙ here in
              let same : table k ≡ after = ap after_of halts in
              subst (λ (l : List ℕ). length l ≤ d.stack) same
              (fit k (omega (arith, last.0, long)))
        ]

    pub typed-within : IsTypedWithin f whole d.stack d.history
    typed-within = record {
      table = table;
      typed = record {
        some = omega (arith, long);
        begins = begins;
        each = fine;
        ends = ends;
        reached = reached;
      };
      lists = list-under table d.stack 0 whole
          (λ k lt. subst (λ n. length (table n) ≤ d.stack) (omega arith) (fit k lt));
      short = λ le.
          record { each = λ k i after found rule. omega (arith, le, short k i after found rule) };
      near = omega (arith, far-steps code from to h, farthest-halt code);
      path = path-steps code from to h 0 ∙ sym long;
    }
