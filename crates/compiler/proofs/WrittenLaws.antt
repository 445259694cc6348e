-- Code that is written after code.
use Rattle.std.proofs.Common.{◌≡◌, ◌∙◌, inl, inr, ◌+◌, ◌<◌, ◌≤◌, List, [], ◌∷◌, ◌++◌, length}
use Rattle.std.proofs.Common.{Option, Some, None, refl, sym, ap, subst, arith, append_assoc}
use Rattle.std.proofs.Common.{length-append, true}
use Rattle.std.specs.Prelude.{Result, Ok, Err, OnOk, IfOk, MatchOption, IsOkAnd, is_none}
use Rattle.std.proofs.Common.{Vec, Global}
use Rattle.compiler.specs.declared.length_fault.LengthFault.{LengthFault}
use Rattle.compiler.specs.declared.length_fault.LengthFault.TheVariants.{TooLong}
use Rattle.std.specs.declared.alloc.AllocError.{AllocError}
use Rattle.std.proofs.lemmas.Bool.{lt-ltb, le-ltb, cases_lt}
use Rattle.std.proofs.lemmas.List.{append-nil}
use Rattle.bytecode_programs.specs.declared.sample_instr.SampleInstr.{SampleInstr}
use Rattle.compiler.specs.Written.{with_instr, written, Writes}

-- one part, then the other
pub written-append :
    (code : Option (List SampleInstr)) (a b : List SampleInstr) →
    written code (a ++ b) ≡ written (written code a) b
written-append code [] b = refl
written-append code (i ∷ a) b = written-append (with_instr code i) a b

-- code that is too long stays so
pub written-none : (a : List SampleInstr) → written None a ≡ None
written-none [] = refl
written-none (i ∷ a) = written-none a

-- the same, as facts of steps
pub writes-nothing : {code : Option (List SampleInstr)} → Writes code code []
writes-nothing = record { is = refl }

pub writes-then :
    {old mid new : Option (List SampleInstr)} {a b : List SampleInstr} → Writes old mid a →
    Writes mid new b → Writes old new (a ++ b)
writes-then {old} {mid} {new} {a} {b} g h =
    record { is = h.is ∙ (ap (λ c. written c b) g.is ∙ sym (written-append old a b)) }

pub writes-as :
    {old new : Option (List SampleInstr)} {a b : List SampleInstr} → a ≡ b → Writes old new a →
    Writes old new b
writes-as {old} e h = record { is = h.is ∙ ap (written old) e }

pub writes-too_long :
    {code : Option (List SampleInstr)} (a : List SampleInstr) → code ≡ None → Writes code code a
writes-too_long a e = record { is = rw e (sym (written-none a)) }

pub written-rest :
    {old new : Option (List SampleInstr)} {a : List SampleInstr} → Writes old new a →
    (rest : List SampleInstr) → written new rest ≡ written old (a ++ rest)
written-rest {old} {new} {a} h rest =
    ap (λ c. written c rest) h.is ∙ sym (written-append old a rest)

-- a clause on the last call's result, as one on the function's own
pub on-ok :
    {P Q : Type 0} (r : Result (Unit {0}) AllocError) → OnOk r P → (P → Q) → OnOk r Q
on-ok (Ok x) p go = go p
on-ok (Err e) p go = tt

pub none-is : (o : Option (List SampleInstr)) → is_none o ≡ true → o ≡ None
none-is None h = refl
none-is (Some code) h = cc

written-some :
    (code o : List SampleInstr) → length o + length code ≤ 4096 →
    written (Some o) code ≡ Some (o ++ code)
written-some [] o fits = ap (λ c. Some c) (sym (append-nil o))
written-some (i ∷ code) o fits =
    rw (lt-ltb (length o) 4096 (omega (arith, fits)))
    (written-some code (o ++ i ∷ []) (omega (arith, fits, length-append o (i ∷ [])))
    ∙ ap (λ c. Some c) (append_assoc o (i ∷ []) code))

written-over :
    (code o : List SampleInstr) → length o ≤ 4096 → 4096 < length o + length code →
    written (Some o) code ≡ None
written-over [] o fits over = absurd (omega (arith, fits, over))
written-over (i ∷ code) o fits over = elim (cases_lt (length o) 4096) [
  | inl less ↦
      rw (lt-ltb (length o) 4096 less)
      (written-over code (o ++ i ∷ []) (omega (arith, less, length-append o (i ∷ [])))
      (omega (arith, over, length-append o (i ∷ []))))
  | inr more ↦ rw (le-ltb (length o) 4096 more) (written-none code)
]

-- what was written from nothing on is the code, where it has at most 4,096 instructions
abbrev pub IsWhole : List SampleInstr → Option (List SampleInstr) → Type 0
IsWhole code None = 4096 < length code
IsWhole code (Some made) = (made ≡ code) × (length made ≤ 4096)

pub is-whole :
    (out : Option (List SampleInstr)) (code : List SampleInstr) → Writes (Some []) out code →
    IsWhole code out
is-whole out code h = elim (cases_lt 4096 (length code)) [
  | inl over ↦
      let e : out ≡ None = h.is ∙ written-over code [] (omega arith) (omega (arith, over)) in
      subst (IsWhole code) (sym e) over
  | inr fits ↦
      let e : out ≡ Some code = h.is ∙ written-some code [] (omega (arith, fits)) in
      subst (IsWhole code) (sym e) (refl, fits)
]

-- what a finished buffer answers
abbrev pub Finishes : Result (Vec SampleInstr Global) LengthFault → Option (List SampleInstr) → Type
    0
Finishes r out =
    MatchOption out (r ≡ Err TooLong) (λ code. IsOkAnd r (λ made. made.items ≡ code))

pub finish-made :
    (r : Result (Vec SampleInstr Global) LengthFault) (out : Option (List SampleInstr))
    (code : List SampleInstr) → IsWhole code out → Finishes r out →
    IfOk r (λ made. made.items ≡ code)
finish-made (Ok made) None code whole h = cc
finish-made (Ok made) (Some c) code whole h = h ∙ whole.0
finish-made (Err e) out code whole h = tt

pub finish-long :
    (r : Result (Vec SampleInstr Global) LengthFault) (out : Option (List SampleInstr))
    (code : List SampleInstr) → IsWhole code out → Finishes r out → r ≡ Err TooLong →
    4096 < length code
finish-long r None code whole h long = whole
finish-long (Ok made) (Some c) code whole h long = cc
finish-long (Err e) (Some c) code whole h long = absurd h
