-- Faults in their order.
use Rattle.std.proofs.Common.{◌≡◌, ◌⊎◌, inl, inr, ℕ, ◌+◌, ◌<◌, ◌≤◌, ◌==◌, Bool, true, false, cond}
use Rattle.std.proofs.Common.{List, [], ◌∷◌, ◌++◌, length, map, refl, sym, ap, ◌∙◌, subst, arith}
use Rattle.std.specs.Prelude.{nat_lt, nat_le}
use Rattle.bytecode_programs.specs.declared.flow.Flow.{Flow}
use Rattle.bytecode_programs.specs.declared.flow.Flow.TheVariants.{Stops, GoesOn, Jumps, Branches}
use Rattle.verifier.specs.declared.refusal.Refusal.{Refusal}
use Rattle.verifier.specs.declared.refusal.Refusal.TheVariants.{Overflow, JumpRange, BackwardJump}
use Rattle.verifier.specs.declared.refusal.Refusal.TheVariants.{NoHalt}
use Rattle.bytecode_programs.specs.Instructions.{Effect, leaves, too_few, misfit}
use Rattle.verifier.specs.Rules.{Rules}
use Rattle.verifier.specs.Inference.{Message, ArrivalData, nothing, agreed, mismatch, arrival_at}
use Rattle.verifier.specs.Inference.{effect_faults, operand_faults, target_faults, jump_faults}
use Rattle.verifier.specs.Inference.{arrival_faults, end_faults, faults_at, told, Found, found}
use Rattle.verifier.specs.Inference.{faults_from}
use Rattle.verifier.specs.Order.{number_of, fault_part, IsUpTo, found_place, IsIn, IsFirstFound}

pub in_append : {A : Type 0} (y : A) (xs ys : List A) → IsIn y (xs ++ ys) → IsIn y xs ⊎ IsIn y ys
in_append y [] ys h = inr h
in_append y (x ∷ xs) ys (inl e) = inl (inl e)
in_append y (x ∷ xs) ys (inr h) =
    elim (in_append y xs ys h) [
      | inl i ↦ inl (inr i)
      | inr i ↦ inr i
    ]

pub in_left : {A : Type 0} (y : A) (xs ys : List A) → IsIn y xs → IsIn y (xs ++ ys)
in_left y [] ys h = absurd h
in_left y (x ∷ xs) ys (inl e) = inl e
in_left y (x ∷ xs) ys (inr h) = inr (in_left y xs ys h)

pub in_right : {A : Type 0} (y : A) (xs ys : List A) → IsIn y ys → IsIn y (xs ++ ys)
in_right y [] ys h = h
in_right y (x ∷ xs) ys h = inr (in_right y xs ys h)

-- Refusals that rise above a number, up to another one, each the only one of its number.
abbrev pub Rises : ℕ → ℕ → List Refusal → Type 0
Rises low high [] = low ≤ high
Rises low high (r ∷ rs) = (low < number_of r) × (fault_part r ≡ 0) × Rises (number_of r) high rs

rises_join : (low middle high : ℕ) (xs ys : List Refusal) → Rises low middle xs → Rises middle high ys
    → Rises low high (xs ++ ys)
rises_join low middle high [] ys a b = rises_weaker low middle high ys a b
  where
    rises_weaker : (low middle high : ℕ) (ys : List Refusal) → low ≤ middle → Rises middle high ys → Rises low high ys
    rises_weaker low middle high [] a b = omega arith
    rises_weaker low middle high (y ∷ ys) a b = (omega (arith, b.0), b.1, b.2)
rises_join low middle high (x ∷ xs) ys a b = (a.0, a.1, rises_join (number_of x) middle high xs ys a.2 b)

if_one : (b : Bool) (r : Refusal) (low high : ℕ) → low < number_of r → number_of r ≤ high → fault_part r ≡ 0
    → Rises low high (cond b (r ∷ []) [])
if_one true r low high l h p = (l, p, h)
if_one false r low high l h p = omega arith

if_none : (b : Bool) (rs : List Refusal) (low high : ℕ) → Rises low high rs → Rises low high (cond b [] rs)
if_none true rs low high h = weaker low high rs h
  where
    weaker : (low high : ℕ) (rs : List Refusal) → Rises low high rs → low ≤ high
    weaker low high [] h = h
    weaker low high (r ∷ rs) h = omega (arith, h.0, weaker (number_of r) high rs h.2)
if_none false rs low high h = h

effect_rises : (pc : ℕ) (e : Effect) → Rises 0 3 (effect_faults pc e)
effect_rises pc misfit = (omega arith, refl, omega arith)
effect_rises pc too_few = (omega arith, refl, omega arith)
effect_rises pc (leaves after) = if_one (nat_lt 1024 (length after)) (Overflow pc) 0 3 (omega arith) (omega arith) refl

operand_rises : {I : Type 0} (r : Rules I) (pc : ℕ) (i : I) (a : ArrivalData) → Rises 0 3 (operand_faults r pc i a)
operand_rises r pc i nothing = omega arith
operand_rises r pc i (agreed ws) = effect_rises pc (r.effect i ws)
operand_rises r pc i mismatch = omega arith

target_rises : (end pc target : ℕ) → Rises 3 5 (target_faults end pc target)
target_rises end pc target = by_test (nat_le end target) (nat_le target pc)
  where
    by_test : (b d : Bool) → Rises 3 5 (cond b (JumpRange pc ∷ []) (cond d (BackwardJump pc ∷ []) []))
    by_test true d = (omega arith, refl, omega arith)
    by_test false d = if_one d (BackwardJump pc) 3 5 (omega arith) (omega arith) refl

jump_rises : (end pc : ℕ) (flow : Flow) → Rises 3 5 (jump_faults end pc flow)
jump_rises end pc Stops = omega arith
jump_rises end pc GoesOn = omega arith
jump_rises end pc (Jumps target) = target_rises end pc target
jump_rises end pc (Branches target) = target_rises end pc target

arrival_rises : (pc : ℕ) (a : ArrivalData) → Rises 5 7 (arrival_faults pc a)
arrival_rises pc nothing = (omega arith, refl, omega arith)
arrival_rises pc (agreed ws) = omega arith
arrival_rises pc mismatch = (omega arith, refl, omega arith)

end_rises : (end pc : ℕ) (flow : Flow) → Rises 7 8 (end_faults end pc flow)
end_rises end pc Stops = omega arith
end_rises end pc GoesOn = if_one ((pc + 1) == end) NoHalt 7 8 (omega arith) (omega arith) refl
end_rises end pc (Jumps target) = if_one ((pc + 1) == end) NoHalt 7 8 (omega arith) (omega arith) refl
end_rises end pc (Branches target) = if_one ((pc + 1) == end) NoHalt 7 8 (omega arith) (omega arith) refl

-- what the names of a kind of instruction must keep to
abbrev pub NamesRise : {I : Type 0} → Rules I → Type 0
NamesRise {I} r = (pc : ℕ) (i : I) → Rises 8 17 (r.names pc i)

pub faults_rise : {I : Type 0} (r : Rules I) → NamesRise r → (end pc : ℕ) (i : I) (a : ArrivalData)
    → Rises 0 17 (faults_at r end pc i a)
faults_rise r rise end pc i a =
    rises_join 0 3 17 (operand_faults r pc i a) _ (operand_rises r pc i a)
    (rises_join 3 5 17 (jump_faults end pc (r.flow i)) _ (jump_rises end pc (r.flow i))
    (rises_join 5 7 17 (arrival_faults pc a) _ (arrival_rises pc a)
    (rises_join 7 8 17 (end_faults end pc (r.flow i)) (r.names pc i) (end_rises end pc (r.flow i)) (rise pc i))))

above : (x : Refusal) (low high : ℕ) (rs : List Refusal) → Rises low high rs → IsIn x rs → (low < number_of x)
    × (fault_part x ≡ 0)
above x low high [] h i = absurd i
above x low high (r ∷ rs) h (inl e) = (subst (λ (y : Refusal). low < number_of y) (sym e) h.0, ap fault_part e ∙ h.1)
above x low high (r ∷ rs) h (inr i) =
    (let more = above x (number_of r) high rs h.2 i in (omega (arith, h.0, more.0), more.1))

in_found : (y : Found) (section pc : ℕ) (rs : List Refusal) → IsIn y (map (found section pc) rs) → (x : Refusal)
    × IsIn x rs × (y ≡ found section pc x)
in_found y section pc [] h = absurd h
in_found y section pc (r ∷ rs) (inl e) = (r, inl refl, e)
in_found y section pc (r ∷ rs) (inr h) = (let more = in_found y section pc rs h in (more.0, inr more.1, more.2))

-- where a fault stands, of those from pc on
pub record Stands (section pc : ℕ) (y : Found) : Type 0 where
  pub section_is : y.section ≡ section
  pub from : pc ≤ y.pc

pub stands_from : {I : Type 0} (r : Rules I) (end pc : ℕ) (is : List I) (ms : List Message) (y : Found)
    → IsIn y (faults_from r end pc is ms) → Stands r.section pc y
stands_from r end pc [] ms y h = absurd h
stands_from r end pc (i ∷ is) ms y h =
    elim (in_append y (map (found r.section pc) (faults_at r end pc i (arrival_at pc ms))) _ h) [
      | inl here ↦
          let at = in_found y r.section pc (faults_at r end pc i (arrival_at pc ms)) here in
          record { section_is = ap (λ f. f.section) at.2; from = omega (arith, ap (λ f. f.pc) at.2) }
      | inr later ↦
          let more = stands_from r end (pc + 1) is (told r end pc i ms) y later in
          record { section_is = more.section_is; from = omega (arith, more.from) }
    ]

-- the first of those at one place, before all that stand later in the section
pub first_here : (section pc : ℕ) (e : Refusal) (rest : List Refusal) (later : List Found) → Rises 0 17 (e ∷ rest)
    → ((y : Found) → IsIn y later → Stands section (pc + 1) y) →
    IsFirstFound (found section pc e) (map (found section pc) (e ∷ rest) ++ later)
first_here section pc e rest later rises after =
    record {
      stands = inl refl;
      first = λ y h. by_part y (in_append y (map (found section pc) (e ∷ rest)) later h);
    }
  where
    at_place : (x : Refusal) → IsIn x (e ∷ rest)
        → IsUpTo (found_place (found section pc e)) (found_place (found section pc x))
    at_place x (inl same) = inr (refl, inr (refl, inr (ap number_of (sym same), inr (ap fault_part (sym same), tt))))
    at_place x (inr i) = inr (refl, inr (refl, inl ((above x (number_of e) 17 rest rises.2 i).0)))

    by_part : (y : Found) → IsIn y (map (found section pc) (e ∷ rest)) ⊎ IsIn y later
        → IsUpTo (found_place (found section pc e)) (found_place y)
    by_part y (inl here) =
        let at = in_found y section pc (e ∷ rest) here in
        subst (λ (f : Found). IsUpTo (found_place (found section pc e)) (found_place f)) (sym at.2) (at_place at.0 at.1)
    by_part y (inr there) = inr (sym (after y there).section_is, inl (omega (arith, (after y there).from)))
