-- Lists that grow, and why there are no lines.
use Rattle.std.proofs.Common.{
  ◌≡◌,
  ◌∙◌,
  inl,
  inr,
  ℕ,
  suc,
  ◌+◌,
  ◌<◌,
  ◌≤◌,
  List,
  [],
  ◌∷◌,
  ◌++◌,
  length,
  take,
  Some,
  None,
  slice_get,
  refl,
  ap,
  sym,
  subst,
  add-one,
  arith,
}
use Rattle.std.specs.Prelude.{slice_index_or, Result, Ok, Err, IfErr, IsErrAnd}
use Rattle.std.specs.List.{AllByRecursion, AllZip}
use Rattle.std.proofs.Math.Seq.{take-suc}
use Rattle.std.proofs.lemmas.Option.{slice_get-get_or}
use Rattle.assertions.specs.declared.assertion.Assertion.{Assertion}
use Rattle.assertions.specs.declared.suite.Suite.{Suite}
use Rattle.bytecode_programs.specs.Values.{ProgramData}
use Rattle.vcd_reader.specs.Variables.{Declared}
use Rattle.cycle_window.specs.Bound.{first_refused}
use Rattle.compiler.specs.declared.fault.CompileFault.{CompileFault}
use Rattle.compiler.specs.declared.fault.CompileFault.TheVariants as faults
use Rattle.compiler.specs.Faults.{WhyNotCompiled}
use Rattle.report_programs.specs.declared.fault.LinesFault.{LinesFault}
use Rattle.report_programs.specs.declared.fault.LinesFault.TheVariants.{Program, BadJob, Memory}
use Rattle.report_programs.specs.Faults.{
  IsMadeOf,
  HasAcceptedProgram,
  program_fault,
  WhyNoPrograms,
  WhyBadJob,
  WhyNoLines,
}

-- one more in step
pub zip-push : {A B : Type 0} (R : A → B → Type 0) (a : A) (b : B) → R a b →
    (xs : List A) (ys : List B) →
    AllZip R xs ys → AllZip R (xs ++ a ∷ []) (ys ++ b ∷ [])
zip-push R a b is [] [] h = (is, tt)
zip-push R a b is [] (y ∷ ys) h = absurd h
zip-push R a b is (x ∷ xs) [] h = absurd h
zip-push R a b is (x ∷ xs) (y ∷ ys) h = (h.0, zip-push R a b is xs ys h.1)

pub all-push : {A : Type 0} (P : A → Type 0) (a : A) → P a → (xs : List A) → AllByRecursion P xs
    → AllByRecursion P (xs ++ a ∷ [])
all-push P a is [] h = (is, tt)
all-push P a is (x ∷ xs) h = (h.0, all-push P a is xs h.1)

-- the element at a place, and the elements up to it
pub at-place : {A : Type 0} (items all : List A) (i : ℕ) (a : A) → items ≡ all → i < length items
    → a ≡ slice_index_or items i a → slice_get all i ≡ Some a
at-place items all i a same below is =
    subst (λ xs. slice_get xs i ≡ Some a) same
    (slice_get-get_or items i a below ∙ ap (λ b. Some b) (sym is))

pub up-to : {A : Type 0} (items all : List A) (i : ℕ) (a : A) → items ≡ all → i < length items
    → a ≡ slice_index_or items i a → take (i + 1) all ≡ take i all ++ a ∷ []
up-to items all i a same below is =
    subst (λ xs. take (i + 1) xs ≡ take i xs ++ a ∷ []) same
    (ap (λ k. take k items) (add-one i) ∙ take-suc items i a below
    ∙ ap (λ b. take i items ++ b ∷ []) (sym is))

-- one more of each
pub made-pushed :
    {A B : Type 0} (R : A → B → Type 0) (front more : List A) (a : A) (old new : List B) (b : B) →
    more ≡ front ++ a ∷ [] → new ≡ old ++ b ∷ [] → R a b → AllZip R front old → AllZip R more new
made-pushed R front more a old new b grown pushed is h =
    subst (λ xs. AllZip R xs new) (sym grown)
    (subst (AllZip R (front ++ a ∷ [])) (sym pushed) (zip-push R a b is front old h))

pub program-pushed : {A : Type 0} (P : A → Type 0) (front more : List A) (a : A)
    → more ≡ front ++ a ∷ [] → P a → AllByRecursion P front → AllByRecursion P more
program-pushed P front more a grown is h =
    subst (AllByRecursion P) (sym grown) (all-push P a is front h)

-- assertions with their programs have programs
pub have-programs : (suite : Suite) (all : List Assertion) (ps : List ProgramData)
    → AllZip (IsMadeOf suite) all ps → AllByRecursion (HasAcceptedProgram suite) all
have-programs suite [] [] made = tt
have-programs suite [] (p ∷ ps) made = absurd made
have-programs suite (a ∷ all) [] made = absurd made
have-programs suite (a ∷ all) (p ∷ ps) made = (
  record {
    faultless = made.0.faultless;
    program = p;
    of = made.0.of;
    accepted = made.0.accepted;
  },
  have-programs suite all ps made.1,
)

same-long : {A B : Type 0} (R : A → B → Type 0) (xs : List A) (ys : List B) → AllZip R xs ys
    → length xs ≡ length ys
same-long R [] [] h = refl
same-long R [] (y ∷ ys) h = absurd h
same-long R (x ∷ xs) [] h = absurd h
same-long R (x ∷ xs) (y ∷ ys) h = ap (λ n. suc n) (same-long R xs ys h.1)

-- why there are no programs
pub no-programs : (suite : Suite) (place : ℕ) (a : Assertion) (e : CompileFault) →
    slice_get suite.assertions.items place ≡ Some a →
    AllByRecursion (HasAcceptedProgram suite) (take place suite.assertions.items) →
    WhyNotCompiled suite a e → WhyNoPrograms suite (program_fault e)
no-programs suite place a faults.TooManyAtoms is before why =
    record { place = place; assertion = a; is = is; why = why; before = before }
no-programs suite place a faults.CodeTooLong is before why =
    record { place = place; assertion = a; is = is; why = why; before = before }
no-programs suite place a faults.TooManySlots is before why =
    record { place = place; assertion = a; is = is; why = why; before = before }
no-programs suite place a faults.TextTooLong is before why =
    record { place = place; assertion = a; is = is; why = why; before = before }
no-programs suite place a faults.Memory is before why = tt

-- no job, and so no lines
pub job-lines : (suite : Suite) (ps : List ProgramData) (e : LinesFault)
    → AllZip (IsMadeOf suite) suite.assertions.items ps → WhyBadJob ps e → WhyNoLines suite e
job-lines suite ps (Program fault) made why = absurd why
job-lines suite ps BadJob made why =
    let long = same-long (IsMadeOf suite) suite.assertions.items ps made in
    record {
      count = elim why [
        | inl none ↦
            inl (omega (arith, none, long))
        | inr many ↦ inr (omega (arith, many, long))
      ];
      programs = have-programs suite suite.assertions.items ps made;
    }
job-lines suite ps Memory made why = tt

-- what an error that is known says
pub err-is : {X E : Type 0} (r : Result X E) (e : E) (Why : E → Type 0) → IsErrAnd r (λ f. f ≡ e)
    → Why e → IfErr r Why
err-is (Ok x) e Why h why = tt
err-is (Err f) e Why h why = subst Why (sym h) why
