-- The steps of a scan.
use Rattle.std.proofs.Common.{◌≡◌, ◌⊎◌, inl, inr, ℕ, ◌+◌, ◌<◌, ◌≤◌, max, List, [], ◌∷◌, ◌++◌}
use Rattle.std.proofs.Common.{length, map, drop, get_or, Some, refl, sym, ap, ◌∙◌, subst, arith}
use Rattle.std.proofs.lemmas.List.{drop_more, drop_all}
use Rattle.verifier.specs.declared.refusal.Refusal.{Refusal}
use Rattle.verifier.specs.declared.refusal.Refusal.TheVariants.{NoHalt, Memory}
use Rattle.verifier.specs.Rules.{Rules}
use Rattle.verifier.specs.Inference.{Message, ArrivalData, arrival_at, sends, faults_at, left_by}
use Rattle.verifier.specs.Inference.{if_faultless, told, Found, found, faults_from, code_faults}
use Rattle.verifier.specs.Inference.{entry}
use Rattle.verifier.specs.Scans.{list_at, longest_agreed, IsHeadRefusal, IsHeadOr, HasRead}
use Rattle.verifier.specs.Order.{IsUpTo, found_place, fault_part, IsIn, IsFirstFound, IsFirstRefusal}
use Rattle.verifier.specs.Order.{first_refusal}
use Rattle.verifier.proofs.OrderLaws.{NamesRise, faults_rise, Rises, stands_from, first_here}

pub head_front : (r : Refusal) (xs ys : List Refusal) → IsHeadOr r xs → IsHeadOr r (xs ++ ys)
head_front r xs ys (inl m) = inl m
head_front r xs ys (inr h) = inr (h.0 ++ ys, ap (λ zs. zs ++ ys) h.1)

pub head_of : (r : Refusal) (xs : List Refusal) → Some r ≡ first_refusal xs → IsHeadRefusal r xs
head_of r [] e = cc
head_of r (x ∷ xs) e = (let same : r ≡ x = cc in (xs, ap (λ y. y ∷ xs) (sym same)))

pub head_rest : (r : Refusal) (xs ys : List Refusal) → xs ≡ [] → Some r ≡ first_refusal ys → IsHeadOr r (xs ++ ys)
head_rest r xs ys none e = inr (subst (λ (zs : List Refusal). IsHeadRefusal r (zs ++ ys)) (sym none) (head_of r ys e))

-- a fault alone
pub first_alone : (x : Found) → IsFirstFound x (x ∷ [])
first_alone x = record { stands = inl refl; first = λ y h. only y h }
  where
    only : (y : Found) → IsIn y (x ∷ []) → IsUpTo (found_place x) (found_place y)
    only y (inl e) =
        subst (λ (f : Found). IsUpTo (found_place x) (found_place f)) (sym e)
        (inr (refl, inr (refl, inr (refl, inr (refl, tt)))))
    only y (inr h) = absurd h

pub empty_first : {I : Type 0} (r : Rules I) (base : ℕ) (instrs : List I) → instrs ≡ []
    → IsFirstFound (found r.section base NoHalt) (code_faults r base instrs)
empty_first r base instrs none =
    subst (λ is. IsFirstFound (found r.section base NoHalt) (code_faults r base is)) (sym none)
    (first_alone (found r.section base NoHalt))

code_faults-some : {I : Type 0} (r : Rules I) (base end : ℕ) (instrs : List I) → end ≡ base + length instrs
    → 0 < length instrs → faults_from r end base instrs (entry base) ≡ code_faults r base instrs
code_faults-some r base end [] e h = absurd (omega (arith, h))
code_faults-some r base end (i ∷ is) e h = ap (λ n. faults_from r n base (i ∷ is) (entry base)) e

pub start : {I : Type 0} (r : Rules I) (base end : ℕ) (instrs : List I) (Holds : List Message → Type 0)
    → end ≡ base + length instrs → 0 < length instrs → Holds (entry base) → HasRead r base instrs Holds 0 end base 0
start r base end instrs Holds e some holds =
    record {
      sent = entry base;
      holds = holds;
      end_is = e;
      pc_is = omega arith;
      left = code_faults-some r base end instrs e some;
      most = omega arith;
    }

pub told-clear : {I : Type 0} (r : Rules I) (end pc : ℕ) (i : I) (ms : List Message)
    → faults_at r end pc i (arrival_at pc ms) ≡ [] → told r end pc i ms
    ≡ sends pc (r.flow i) (left_by r i (arrival_at pc ms)) ms
told-clear r end pc i ms clear =
    ap (λ x. if_faultless x (sends pc (r.flow i) (left_by r i (arrival_at pc ms)) ms) ms) clear

-- One instruction more, of which a is what arrives.
module _ {I : Type 0} (r : Rules I) (base : ℕ) (instrs : List I) (Holds : List Message → Type 0) (longest end pc k : ℕ)
    (i d : I) (a : ArrivalData) (read : HasRead r base instrs Holds longest end pc k) (below : k < length instrs)
    (here : i ≡ get_or instrs k d) (arrives : arrival_at pc read.sent ≡ a) where
  rest_is : drop k instrs ≡ i ∷ drop (k + 1) instrs
  rest_is = drop_more instrs k d below ∙ ap (λ x. x ∷ drop (k + 1) instrs) (sym here)

  told_is : (list : List ℕ) → faults_at r end pc i a ≡ [] → left_by r i a ≡ list → told r end pc i read.sent
      ≡ sends pc (r.flow i) list read.sent
  told_is list clear left =
      told-clear r end pc i read.sent (ap (faults_at r end pc i) arrives ∙ clear)
      ∙ ap (λ ws. sends pc (r.flow i) ws read.sent) (ap (left_by r i) arrives ∙ left)

  pub step : (list : List ℕ) (New : List Message → Type 0) (more : ℕ) → faults_at r end pc i a ≡ []
      → left_by r i a ≡ list → more ≡ max longest (length (list_at a)) →
      ((ms : List Message) → Holds ms → New (sends pc (r.flow i) list ms))
      → HasRead r base instrs New more end (pc + 1) (k + 1)
  step list New more clear left longer sent =
      record {
        sent = sends pc (r.flow i) list read.sent;
        holds = sent read.sent read.holds;
        end_is = read.end_is;
        pc_is = omega (arith, read.pc_is);
        left =
            sym (ap (λ is. faults_from r end pc is read.sent) rest_is ∙ by_clear
            ∙ ap (faults_from r end (pc + 1) (drop (k + 1) instrs)) (told_is list clear left)) ∙ read.left;
        most = omega (arith, longer, read.most, of_rest);
      }
    where
      by_clear : faults_from r end pc (i ∷ drop (k + 1) instrs) read.sent
          ≡ faults_from r end (pc + 1) (drop (k + 1) instrs) (told r end pc i read.sent)
      by_clear =
          ap (λ rs. map (found r.section pc) rs ++ faults_from r end (pc + 1) (drop (k + 1) instrs)
          (told r end pc i read.sent)) (ap (faults_at r end pc i) arrives ∙ clear)

      of_rest : longest_agreed r end pc (drop k instrs) read.sent
          ≡ max (length (list_at a))
          (longest_agreed r end (pc + 1) (drop (k + 1) instrs) (sends pc (r.flow i) list read.sent))
      of_rest =
          ap (λ is. longest_agreed r end pc is read.sent) rest_is
          ∙ ap (λ x. max (length (list_at x))
          (longest_agreed r end (pc + 1) (drop (k + 1) instrs) (told r end pc i read.sent))) arrives
          ∙ ap (λ ms. max (length (list_at a)) (longest_agreed r end (pc + 1) (drop (k + 1) instrs) ms))
          (told_is list clear left)

  pub refused_at : (e : Refusal) → NamesRise r → IsHeadRefusal e (faults_at r end pc i a)
      → IsFirstFound (found r.section pc e) (code_faults r base instrs) × (fault_part e ≡ 0)
  refused_at e rise h = (
    subst (IsFirstFound (found r.section pc e)) all_is
        (first_here r.section pc e h.0 later rises
        (λ y there. stands_from r end (pc + 1) (drop (k + 1) instrs) (told r end pc i read.sent) y there)),
    rises.1,
  )
    where
      later : List Found
      later = faults_from r end (pc + 1) (drop (k + 1) instrs) (told r end pc i read.sent)

      rises : Rises 0 17 (e ∷ h.0)
      rises = subst (Rises 0 17) h.1 (faults_rise r rise end pc i a)

      all_is : map (found r.section pc) (e ∷ h.0) ++ later ≡ code_faults r base instrs
      all_is =
          ap (λ rs. map (found r.section pc) rs ++ later) (sym (ap (faults_at r end pc i) arrives ∙ h.1))
          ∙ sym (ap (λ is. faults_from r end pc is read.sent) rest_is) ∙ read.left

  pub refused : (e : Refusal) → NamesRise r → IsHeadOr e (faults_at r end pc i a) → (e ≡ Memory)
      ⊎ IsFirstRefusal e (code_faults r base instrs)
  refused e rise (inl m) = inl m
  refused e rise (inr h) = inr (record { fault = found r.section pc e; first = (refused_at e rise h).0; is = refl })

pub stop : {I : Type 0} (r : Rules I) (base : ℕ) (instrs : List I) (Holds : List Message → Type 0)
    (longest end pc k : ℕ) → HasRead r base instrs Holds longest end pc k → length instrs ≤ k →
    (code_faults r base instrs ≡ []) × (longest ≡ longest_agreed r end base instrs (entry base))
stop r base instrs Holds longest end pc k read past = (
  sym read.left ∙ ap (λ is. faults_from r end pc is read.sent) (drop_all k instrs past),
  (let none = ap (λ is. longest_agreed r end pc is read.sent) (drop_all k instrs past) in omega
      (arith, none, read.most)),
)
