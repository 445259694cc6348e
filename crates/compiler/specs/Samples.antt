-- The sample code of a program: an atom for each boolean, then a store for each counter.
use Rattle.std.specs.Prelude.{ℕ, ◌+◌, ◌-◌, max, nat_le, if◌then◌else◌, List, [], ◌∷◌, ◌++◌}
use Rattle.std.specs.Prelude.{Option, Some, None}
use Rattle.expressions.specs.declared.name.Origin.TheVariants.{Counter as CounterPlace}
use Rattle.expressions.specs.declared.expr.Expr.{Expr}
use Rattle.expressions.specs.declared.rule.Rule.{Rule}
use Rattle.expressions.specs.declared.counter.Counter.{Counter}
use Rattle.expressions.specs.Terms.{Term, width_of}
use Rattle.expressions.specs.Expressions.{term_of}
use Rattle.bytecode_programs.specs.declared.operator.JoinOperator.TheVariants.{AddSat, SubSat}
use Rattle.bytecode_programs.specs.declared.sample_instr.SampleInstr.{SampleInstr}
use Rattle.bytecode_programs.specs.declared.sample_instr.SampleInstr.TheVariants.{Push, Load, Join}
use Rattle.bytecode_programs.specs.declared.sample_instr.SampleInstr.TheVariants.{Slice, Mux}
use Rattle.bytecode_programs.specs.declared.sample_instr.SampleInstr.TheVariants.{SetAtom}
use Rattle.bytecode_programs.specs.declared.sample_instr.SampleInstr.TheVariants.{Store, Halt}
use Rattle.compiler.specs.Codes.{Slots, bit_test, code_of, need, reach}

-- one bit: whether the expression is true
abbrev pub truth_code : Slots → Term → List SampleInstr
truth_code at e = code_of at e (width_of e) 0 ++ bit_test (width_of e)

-- the low w bits of the value at w bits, or at the own width where that is larger
abbrev pub cut : ℕ → ℕ → List SampleInstr
cut from w = if nat_le from w then [] else Slice (w - 1) 0 ∷ []

abbrev pub number_code : Slots → ℕ → Term → List SampleInstr
number_code at w e = code_of at e (max w (width_of e)) 0 ++ cut (width_of e) w

-- what a rule counts by: its number where its condition is true, else 0
abbrev pub amount_code : Slots → ℕ → Rule → List SampleInstr
amount_code at w r =
    truth_code at (term_of r.when) ++ number_code at w (term_of r.by) ++ Push w 0 ∷ Mux ∷ []

-- Plus what is added, minus what is taken, as one whole number, held within w bits: of n - m and
-- m - n one is 0, each held at 0. The first is added and held at the largest value, the second is
-- taken and held at 0. So no number has more bits than the counter.
abbrev pub balance_code : ℕ → List SampleInstr → List SampleInstr → List SampleInstr
balance_code slot n m =
    Load slot ∷ [] ++ n ++ m ++ Join SubSat ∷ Join AddSat ∷ []
    ++ m ++ n ++ Join SubSat ∷ Join SubSat ∷ []

abbrev pub sum_code : Slots → ℕ → ℕ → Option Rule → Option Rule → List SampleInstr
sum_code at w slot None None = Load slot ∷ []
sum_code at w slot (Some add) None = Load slot ∷ [] ++ amount_code at w add ++ Join AddSat ∷ []
sum_code at w slot None (Some sub) = Load slot ∷ [] ++ amount_code at w sub ++ Join SubSat ∷ []
sum_code at w slot (Some add) (Some sub) =
    balance_code slot (amount_code at w add) (amount_code at w sub)

-- what is loaded, where the load's condition is true
abbrev pub loaded_code : Slots → ℕ → Option Rule → List SampleInstr → List SampleInstr
loaded_code at w None code = code
loaded_code at w (Some r) code =
    truth_code at (term_of r.when) ++ number_code at w (term_of r.by) ++ code ++ Mux ∷ []

-- 0, where it is cleared
abbrev pub cleared_code : Slots → ℕ → Option Expr → List SampleInstr → List SampleInstr
cleared_code at w None code = code
cleared_code at w (Some e) code = truth_code at (term_of e) ++ Push w 0 ∷ [] ++ code ++ Mux ∷ []

-- A counter that the program holds, with the place by which expressions name it.
pub record Held : Type 0 where
  pub place : ℕ
  pub counter : Counter

abbrev pub held_slot : Slots → Held → ℕ
held_slot at h = at CounterPlace h.place

-- the value that a counter has at the next tick
abbrev pub next_code : Slots → Held → List SampleInstr
next_code at h =
    let c = h.counter in
    cleared_code at c.width c.clear
    (loaded_code at c.width c.load (sum_code at c.width (held_slot at h) c.add c.sub))

-- an atom for each boolean, and a store for each counter, numbered from i on
abbrev pub atoms_code : Slots → ℕ → List Term → List SampleInstr
atoms_code at i [] = []
atoms_code at i (e ∷ es) = truth_code at e ++ SetAtom i ∷ [] ++ atoms_code at (i + 1) es

abbrev pub stores_code : Slots → ℕ → List Held → List SampleInstr
stores_code at i [] = []
stores_code at i (h ∷ hs) = next_code at h ++ Store i ∷ [] ++ stores_code at (i + 1) hs

abbrev pub sample_code : Slots → List Term → List Held → List SampleInstr
sample_code at es hs = atoms_code at 0 es ++ stores_code at 0 hs ++ Halt ∷ []

-- How many operands these put on the stack at once.
abbrev pub need_two : ℕ → ℕ → ℕ
need_two a b = max a (1 + b)

abbrev pub need_three : ℕ → ℕ → ℕ → ℕ
need_three a b c = max a (max (1 + b) (2 + c))

abbrev pub amount_need : Rule → ℕ
amount_need r = need_three (need (term_of r.when)) (need (term_of r.by)) 1

abbrev pub sum_need : Option Rule → Option Rule → ℕ
sum_need None None = 1
sum_need (Some r) None = need_two 1 (amount_need r)
sum_need None (Some r) = need_two 1 (amount_need r)
sum_need (Some add) (Some sub) = 2 + max (amount_need add) (amount_need sub)

abbrev pub loaded_need : Option Rule → ℕ → ℕ
loaded_need None d = d
loaded_need (Some r) d = need_three (need (term_of r.when)) (need (term_of r.by)) d

abbrev pub cleared_need : Option Expr → ℕ → ℕ
cleared_need None d = d
cleared_need (Some e) d = need_three (need (term_of e)) 1 d

abbrev pub next_need : Counter → ℕ
next_need c = cleared_need c.clear (loaded_need c.load (sum_need c.add c.sub))

-- the largest number of a list
abbrev pub largest : {A : Type 0} → (A → ℕ) → List A → ℕ
largest f [] = 0
largest f (x ∷ xs) = max (f x) (largest f xs)

abbrev pub sample_need : List Term → List Held → ℕ
sample_need es hs = max (largest need es) (largest (λ h. next_need h.counter) hs)

-- The expressions of a counter, and how far back they read.
abbrev pub rule_terms : Option Rule → List Term
rule_terms None = []
rule_terms (Some r) = term_of r.when ∷ term_of r.by ∷ []

abbrev pub clear_terms : Option Expr → List Term
clear_terms None = []
clear_terms (Some e) = term_of e ∷ []

abbrev pub counter_terms : Counter → List Term
counter_terms c = clear_terms c.clear ++ rule_terms c.load ++ rule_terms c.add ++ rule_terms c.sub

abbrev pub sample_reach : List Term → List Held → ℕ
sample_reach es hs =
    max (largest reach es) (largest (λ h. largest reach (counter_terms h.counter)) hs)
