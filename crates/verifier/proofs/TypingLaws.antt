-- No fault stands exactly where there is a table of lists.
use Rattle.std.proofs.Common.{◌≡◌, ◌⊎◌, inl, inr, ℕ, zero, suc, ◌+◌, ◌-◌, ◌<◌, ◌≤◌, max, ◌==◌, Bool}
use Rattle.std.proofs.Common.{true, false, cond, List, [], ◌∷◌, ◌++◌, length, map, Some, refl, sym}
use Rattle.std.proofs.Common.{ap, ◌∙◌, subst, arith}
use Rattle.std.specs.Prelude.{slice_get, nat_lt, nat_le}
use Rattle.std.specs.Str.{bytes_eq}
use Rattle.std.proofs.lemmas.Slice.Eq.{bytes_eq-Decides}
use Rattle.std.proofs.lemmas.Bool.{cases_Bool, cases_eq, eqb-true, eqb-false, eq-eqb, ne_eqb}
use Rattle.std.proofs.lemmas.Bool.{ltb-false, leb-false, le-ltb, lt-leb}
use Rattle.std.proofs.lemmas.Option.{slice_get_within}
use Rattle.bytecode_programs.specs.declared.flow.Flow.{Flow}
use Rattle.bytecode_programs.specs.declared.flow.Flow.TheVariants.{Stops, GoesOn, Jumps, Branches}
use Rattle.verifier.specs.declared.refusal.Refusal.{Refusal}
use Rattle.verifier.specs.declared.refusal.Refusal.TheVariants.{Overflow, JumpRange, BackwardJump}
use Rattle.verifier.specs.declared.refusal.Refusal.TheVariants.{NoHalt}
use Rattle.bytecode_programs.specs.Instructions.{Effect, leaves, too_few, misfit}
use Rattle.verifier.specs.Rules.{Rules}
use Rattle.verifier.specs.Inference.{Message, ArrivalData, nothing, agreed, mismatch, merge}
use Rattle.verifier.specs.Inference.{arrival_at, sends, effect_faults, operand_faults}
use Rattle.verifier.specs.Inference.{target_faults, jump_faults, arrival_faults, end_faults}
use Rattle.verifier.specs.Inference.{faults_at, after_of, left_by, if_faultless, told, found}
use Rattle.verifier.specs.Inference.{faults_from, entry}
use Rattle.verifier.specs.Scans.{list_at, longest_agreed}
use Rattle.verifier.specs.Order.{IsIn}
use Rattle.bytecode_programs.specs.Instructions.{LeadsTo}
use Rattle.verifier.specs.Typing.{IsFine, IsCodeTyped, AreShort, longest_list}
use Rattle.verifier.proofs.ScanLaws.{told-clear}

-- parts of an empty list
pub nil_parts : {A : Type 0} (xs ys : List A) → xs ++ ys ≡ [] → (xs ≡ []) × (ys ≡ [])
nil_parts [] ys h = (refl, h)
nil_parts (x ∷ xs) ys h = cc

pub nil_map : {A B : Type 0} (f : A → B) (xs : List A) → map f xs ≡ [] → xs ≡ []
nil_map f [] h = refl
nil_map f (x ∷ xs) h = cc

nil_if : {A : Type 0} (b : Bool) (x : A) (ys : List A) → cond b (x ∷ []) ys ≡ [] → (b ≡ false) × (ys ≡ [])
nil_if true x ys h = cc
nil_if false x ys h = (refl, h)

-- one message
abbrev msg : ℕ → List ℕ → Message
msg to list = record { to = to; list = list }

same_list : (ws : List ℕ) → bytes_eq ws ws ≡ true
same_list ws = (bytes_eq-Decides ws ws).1 refl

merge_same : (vs ws : List ℕ) (a : ArrivalData) → vs ≡ ws → a ≡ agreed ws → merge vs a ≡ agreed ws
merge_same vs ws a e is =
    ap (merge vs) is ∙ ap (λ x. cond (bytes_eq x ws) (agreed ws) mismatch) e
    ∙ ap (λ b. cond b (agreed ws) mismatch) (same_list ws)

-- lists that agree with one that arrives are that one
module _ (pc : ℕ) (ws : List ℕ) where
  abbrev pub Agree : List Message → Type 0
  Agree ms = (m : Message) → IsIn m ms → m.to ≡ pc → m.list ≡ ws

  -- nothing or that list
  abbrev AtMost : ArrivalData → Type 0
  AtMost a = (a ≡ nothing) ⊎ (a ≡ agreed ws)

  merge_at_most : (vs : List ℕ) (a : ArrivalData) → vs ≡ ws → AtMost a → merge vs a ≡ agreed ws
  merge_at_most vs a e (inl none) = ap (merge vs) none ∙ ap agreed e
  merge_at_most vs a e (inr is) = merge_same vs ws a e is

  at_most : (ms : List Message) → Agree ms → AtMost (arrival_at pc ms)
  at_most [] agree = inl refl
  at_most (m ∷ ms) agree =
      let rest = at_most ms (λ n i. agree n (inr i)) in
      elim (cases_Bool (m.to == pc)) [
        | inl hit ↦ inr (ap (λ b. cond b (merge m.list (arrival_at pc ms)) (arrival_at pc ms)) hit
            ∙ merge_at_most m.list (arrival_at pc ms) (agree m (inl refl) (eqb-true m.to pc hit)) rest)
        | inr miss ↦ subst (λ (b : Bool). AtMost (cond b (merge m.list (arrival_at pc ms)) (arrival_at pc ms)))
            (sym miss) rest
      ]

  pub all_agree : (ms : List Message) → Agree ms → IsIn (msg pc ws) ms → arrival_at pc ms ≡ agreed ws
  all_agree [] agree here = absurd here
  all_agree (m ∷ ms) agree (inl same) =
      let hit : (m.to == pc) ≡ true = eq-eqb m.to pc (ap (λ n. n.to) (sym same)) in
      ap (λ b. cond b (merge m.list (arrival_at pc ms)) (arrival_at pc ms)) hit
      ∙ merge_at_most m.list (arrival_at pc ms) (ap (λ n. n.list) (sym same)) (at_most ms (λ n i. agree n (inr i)))
  all_agree (m ∷ ms) agree (inr later) =
      let rest = all_agree ms (λ n i. agree n (inr i)) later in
      elim (cases_Bool (m.to == pc)) [
        | inl hit ↦ ap (λ b. cond b (merge m.list (arrival_at pc ms)) (arrival_at pc ms)) hit
            ∙ merge_same m.list ws (arrival_at pc ms) (agree m (inl refl) (eqb-true m.to pc hit)) rest
        | inr miss ↦ ap (λ b. cond b (merge m.list (arrival_at pc ms)) (arrival_at pc ms)) miss ∙ rest
      ]

  -- the other way: where one list is agreed on, each that was sent is that one, and some was
  merge_agreed : (vs : List ℕ) (a : ArrivalData) → merge vs a ≡ agreed ws → (vs ≡ ws) × AtMost a
  merge_agreed vs nothing h = (cc, inl refl)
  merge_agreed vs mismatch h = cc
  merge_agreed vs (agreed us) h = by_test (cases_Bool (bytes_eq vs us))
    where
      by_test : (bytes_eq vs us ≡ true) ⊎ (bytes_eq vs us ≡ false) → (vs ≡ ws) × AtMost (agreed us)
      by_test (inl hit) =
          let same = (bytes_eq-Decides vs us).0 hit in
          let is : agreed us ≡ agreed ws = sym (ap (λ b. cond b (agreed us) mismatch) hit) ∙ h in
          let us_is : us ≡ ws = cc in
          (same ∙ us_is, inr is)
      by_test (inr miss) = (let is : mismatch ≡ agreed ws = sym (ap (λ b. cond b (agreed us) mismatch) miss) ∙ h in cc)

  merge_some : (vs : List ℕ) (a : ArrivalData) → merge vs a ≡ nothing → ⊥
  merge_some vs nothing h = cc
  merge_some vs mismatch h = cc
  merge_some vs (agreed us) h = by_test (bytes_eq vs us) h
    where
      by_test : (b : Bool) → cond b (agreed us) mismatch ≡ nothing → ⊥
      by_test true h = cc
      by_test false h = cc

  agree_hit : (m n : Message) (ms : List Message) → (AtMost (arrival_at pc ms) → IsIn m ms → m.list ≡ ws)
      → AtMost (merge n.list (arrival_at pc ms)) → IsIn m (n ∷ ms) → m.list ≡ ws
  agree_hit m n ms rest (inl none) i = absurd (merge_some n.list (arrival_at pc ms) none)
  agree_hit m n ms rest (inr is) (inl e) = ap (λ x. x.list) e ∙ (merge_agreed n.list (arrival_at pc ms) is).0
  agree_hit m n ms rest (inr is) (inr j) = rest ((merge_agreed n.list (arrival_at pc ms) is).1) j

  agree_miss : (m n : Message) (ms : List Message) → (AtMost (arrival_at pc ms) → IsIn m ms → m.list ≡ ws)
      → (n.to == pc) ≡ false → m.to ≡ pc → AtMost (arrival_at pc ms) → IsIn m (n ∷ ms) → m.list ≡ ws
  agree_miss m n ms rest miss to a (inl e) = absurd (eqb-false n.to pc miss (ap (λ x. x.to) (sym e) ∙ to))
  agree_miss m n ms rest miss to a (inr j) = rest a j

  pub sent_agree : (ms : List Message) → AtMost (arrival_at pc ms) → Agree ms
  sent_agree [] a m i to = absurd i
  sent_agree (n ∷ ms) a m i to =
      let rest = λ (b : AtMost (arrival_at pc ms)) (j : IsIn m ms). sent_agree ms b m j to in
      elim (cases_Bool (n.to == pc)) [
        | inl hit ↦ agree_hit m n ms rest
            (subst (λ (b : Bool). AtMost (cond b (merge n.list (arrival_at pc ms)) (arrival_at pc ms))) hit a) i
        | inr miss ↦ agree_miss m n ms rest miss to
            (subst (λ (b : Bool). AtMost (cond b (merge n.list (arrival_at pc ms)) (arrival_at pc ms))) miss a) i
      ]

-- where one list is agreed on, some message came
pub some_sent : (pc : ℕ) (ws : List ℕ) (ms : List Message) → arrival_at pc ms ≡ agreed ws → (m : Message) × IsIn m ms
    × (m.to ≡ pc)
some_sent pc ws [] h = cc
some_sent pc ws (m ∷ ms) h =
    elim (cases_Bool (m.to == pc)) [
      | inl hit ↦ (m, inl refl, eqb-true m.to pc hit)
      | inr miss ↦
          let more =
          some_sent pc ws ms (sym (ap (λ b. cond b (merge m.list (arrival_at pc ms)) (arrival_at pc ms)) miss)
          ∙ h) in
          (more.0, inr more.1, more.2)
    ]

-- what an instruction sends
sends_keep : (pc : ℕ) (flow : Flow) (ws : List ℕ) (ms : List Message) (m : Message) → IsIn m ms
    → IsIn m (sends pc flow ws ms)
sends_keep pc Stops ws ms m i = i
sends_keep pc GoesOn ws ms m i = inr i
sends_keep pc (Jumps target) ws ms m i = inr i
sends_keep pc (Branches target) ws ms m i = inr (inr i)

sends_each : (pc : ℕ) (flow : Flow) (ws : List ℕ) (ms : List Message) (to : ℕ) → LeadsTo flow pc to
    → IsIn (msg to ws) (sends pc flow ws ms)
sends_each pc Stops ws ms to h = absurd h
sends_each pc GoesOn ws ms to h = inl (ap (λ n. msg n ws) h)
sends_each pc (Jumps target) ws ms to h = inl (ap (λ n. msg n ws) h)
sends_each pc (Branches target) ws ms to (inl h) = inr (inl (ap (λ n. msg n ws) h))
sends_each pc (Branches target) ws ms to (inr h) = inl (ap (λ n. msg n ws) h)

sends_only : (pc : ℕ) (flow : Flow) (ws : List ℕ) (ms : List Message) (m : Message) → IsIn m (sends pc flow ws ms)
    → IsIn m ms ⊎ (LeadsTo flow pc m.to × (m.list ≡ ws))
sends_only pc Stops ws ms m i = inl i
sends_only pc GoesOn ws ms m (inl e) = inr (ap (λ x. x.to) e, ap (λ x. x.list) e)
sends_only pc GoesOn ws ms m (inr i) = inl i
sends_only pc (Jumps target) ws ms m (inl e) = inr (ap (λ x. x.to) e, ap (λ x. x.list) e)
sends_only pc (Jumps target) ws ms m (inr i) = inl i
sends_only pc (Branches target) ws ms m (inl e) = inr (inr (ap (λ x. x.to) e), ap (λ x. x.list) e)
sends_only pc (Branches target) ws ms m (inr (inl e)) = inr (inl (ap (λ x. x.to) e), ap (λ x. x.list) e)
sends_only pc (Branches target) ws ms m (inr (inr i)) = inl i

arrival_other : (q to : ℕ) (ws : List ℕ) (ms : List Message) → (to ≡ q → ⊥) → arrival_at q (msg to ws ∷ ms)
    ≡ arrival_at q ms
arrival_other q to ws ms n = ap (λ b. cond b (merge ws (arrival_at q ms)) (arrival_at q ms)) (ne_eqb to q n)

-- what goes elsewhere changes nothing here
sends_other : (q pc : ℕ) (flow : Flow) (ws : List ℕ) (ms : List Message) → ((to : ℕ) → LeadsTo flow pc to → q < to)
    → arrival_at q (sends pc flow ws ms) ≡ arrival_at q ms
sends_other q pc Stops ws ms h = refl
sends_other q pc GoesOn ws ms h = arrival_other q (pc + 1) ws ms (λ e. omega (arith, h (pc + 1) refl, e))
sends_other q pc (Jumps target) ws ms h = arrival_other q target ws ms (λ e. omega (arith, h target refl, e))
sends_other q pc (Branches target) ws ms h =
    arrival_other q (pc + 1) ws (msg target ws ∷ ms) (λ e. omega (arith, h (pc + 1) (inr refl), e))
    ∙ arrival_other q target ws ms (λ e. omega (arith, h target (inl refl), e))

-- what no fault at a place says
pub record IsClear {I : Type 0} (r : Rules I) (end pc : ℕ) (i : I) (a : ArrivalData) : Type 0 where
  pub list : List ℕ
  pub is : a ≡ agreed list
  pub after : List ℕ
  pub rule : r.effect i list ≡ leaves after
  pub short : length after ≤ 1024
  pub forward : (to : ℕ) → LeadsTo (r.flow i) pc to → (pc < to) × (to < end)
  pub names : r.names pc i ≡ []

effect_clear : (pc : ℕ) (e : Effect) → effect_faults pc e ≡ [] → (after : List ℕ) × (e ≡ leaves after)
    × (length after ≤ 1024)
effect_clear pc misfit h = cc
effect_clear pc too_few h = cc
effect_clear pc (leaves after) h =
    (after, refl, ltb-false 1024 (length after) ((nil_if (nat_lt 1024 (length after)) (Overflow pc) [] h).0))

arrival_clear : (pc : ℕ) (a : ArrivalData) → arrival_faults pc a ≡ [] → (ws : List ℕ) × (a ≡ agreed ws)
arrival_clear pc nothing h = cc
arrival_clear pc (agreed ws) h = (ws, refl)
arrival_clear pc mismatch h = cc

pub target_clear : (end pc target : ℕ) → target_faults end pc target ≡ [] → (pc < target) × (target < end)
target_clear end pc target h =
    let outer = nil_if (nat_le end target) (JumpRange pc) _ h in
    let inner = nil_if (nat_le target pc) (BackwardJump pc) [] outer.1 in
    (leb-false target pc inner.0, leb-false end target outer.0)

next_clear : (end pc : ℕ) → pc < end → cond ((pc + 1) == end) (NoHalt ∷ []) [] ≡ [] → pc + 1 < end
next_clear end pc below h = omega (arith, below, eqb-false (pc + 1) end ((nil_if ((pc + 1) == end) NoHalt [] h).0))

flow_clear : (end pc : ℕ) (flow : Flow) → pc < end → jump_faults end pc flow ≡ [] → end_faults end pc flow ≡ []
    → (to : ℕ) → LeadsTo flow pc to → (pc < to) × (to < end)
flow_clear end pc Stops below jump last to h = absurd h
flow_clear end pc GoesOn below jump last to h =
    (let n = next_clear end pc below last in (omega (arith, h), omega (arith, h, n)))
flow_clear end pc (Jumps target) below jump last to h =
    (let n = target_clear end pc target jump in (omega (arith, h, n.0), omega (arith, h, n.1)))
flow_clear end pc (Branches target) below jump last to (inl h) =
    (let n = target_clear end pc target jump in (omega (arith, h, n.0), omega (arith, h, n.1)))
flow_clear end pc (Branches target) below jump last to (inr h) =
    (let n = next_clear end pc below last in (omega (arith, h), omega (arith, h, n)))

operand_clear : {I : Type 0} (r : Rules I) (pc : ℕ) (i : I) (a : ArrivalData) (ws : List ℕ) → a ≡ agreed ws
    → operand_faults r pc i a ≡ [] → effect_faults pc (r.effect i ws) ≡ []
operand_clear r pc i a ws is h = sym (ap (operand_faults r pc i) is) ∙ h

pub faults_clear : {I : Type 0} (r : Rules I) (end pc : ℕ) (i : I) (a : ArrivalData) → pc < end → faults_at r end pc i a
    ≡ [] → IsClear r end pc i a
faults_clear r end pc i a below h =
    let operands = nil_parts (operand_faults r pc i a) _ h in
    let jump = nil_parts (jump_faults end pc (r.flow i)) _ operands.1 in
    let arrives = nil_parts (arrival_faults pc a) _ jump.1 in
    let last = nil_parts (end_faults end pc (r.flow i)) (r.names pc i) arrives.1 in
    let one = arrival_clear pc a arrives.0 in
    let effect = effect_clear pc (r.effect i one.0) (operand_clear r pc i a one.0 one.1 operands.0) in
    record {
      list = one.0;
      is = one.1;
      after = effect.0;
      rule = effect.1;
      short = effect.2;
      forward = flow_clear end pc (r.flow i) below jump.0 last.0;
      names = last.1;
    }

-- the two parts that say where it leads
pub faults_parts : {I : Type 0} (r : Rules I) (end pc : ℕ) (i : I) (a : ArrivalData) → faults_at r end pc i a ≡ []
    → (jump_faults end pc (r.flow i) ≡ []) × (end_faults end pc (r.flow i) ≡ [])
faults_parts r end pc i a h =
    let operands = nil_parts (operand_faults r pc i a) _ h in
    let jump = nil_parts (jump_faults end pc (r.flow i)) _ operands.1 in
    let arrives = nil_parts (arrival_faults pc a) _ jump.1 in
    (jump.0, (nil_parts (end_faults end pc (r.flow i)) (r.names pc i) arrives.1).0)

-- and the other way
target_none : (end pc target : ℕ) → pc < target → target < end → target_faults end pc target ≡ []
target_none end pc target low high =
    ap (λ b. cond b (JumpRange pc ∷ []) (cond (nat_le target pc) (BackwardJump pc ∷ []) [])) (lt-leb end target high)
    ∙ ap (λ b. cond b (BackwardJump pc ∷ []) []) (lt-leb target pc low)

jump_none : (end pc : ℕ) (flow : Flow) → ((to : ℕ) → LeadsTo flow pc to → (pc < to) × (to < end))
    → jump_faults end pc flow ≡ []
jump_none end pc Stops h = refl
jump_none end pc GoesOn h = refl
jump_none end pc (Jumps target) h = (let n = h target refl in target_none end pc target n.0 n.1)
jump_none end pc (Branches target) h = (let n = h target (inl refl) in target_none end pc target n.0 n.1)

next_none : (end pc : ℕ) → ((pc + 1) ≡ end → ⊥) → cond ((pc + 1) == end) (NoHalt ∷ []) [] ≡ []
next_none end pc n = ap (λ b. cond b (NoHalt ∷ []) []) (ne_eqb (pc + 1) end n)

end_none : (end pc : ℕ) (flow : Flow) → ((to : ℕ) → LeadsTo flow pc to → (pc < to) × (to < end))
    → end_faults end pc flow ≡ []
end_none end pc Stops h = refl
end_none end pc GoesOn h = (let n = h (pc + 1) refl in next_none end pc (λ e. omega (arith, e, n.1)))
end_none end pc (Jumps target) h = (let n = h target refl in next_none end pc (λ e. omega (arith, e, n.0, n.1)))
end_none end pc (Branches target) h = (let n = h (pc + 1) (inr refl) in next_none end pc (λ e. omega (arith, e, n.1)))

effect_none : (pc : ℕ) (e : Effect) (after : List ℕ) → e ≡ leaves after → length after ≤ 1024 → effect_faults pc e ≡ []
effect_none pc e after is short =
    ap (effect_faults pc) is ∙ ap (λ b. cond b (Overflow pc ∷ []) []) (le-ltb 1024 (length after) short)

pub clear_faults : {I : Type 0} (r : Rules I) (end pc : ℕ) (i : I) (a : ArrivalData) → IsClear r end pc i a
    → faults_at r end pc i a ≡ []
clear_faults r end pc i a clear =
    ap (λ x. faults_at r end pc i x) clear.is
    ∙ ap (λ xs. xs ++ (jump_faults end pc (r.flow i) ++ ([] ++ (end_faults end pc (r.flow i) ++ r.names pc i))))
    (effect_none pc (r.effect i clear.list) clear.after clear.rule clear.short)
    ∙ ap (λ xs. xs ++ (end_faults end pc (r.flow i) ++ r.names pc i)) (jump_none end pc (r.flow i) clear.forward)
    ∙ ap (λ xs. xs ++ r.names pc i) (end_none end pc (r.flow i) clear.forward)
    ∙ clear.names

-- No fault: the table is what arrives at the end.
-- all that was sent
abbrev pub all_sent : {I : Type 0} → Rules I → ℕ → ℕ → List I → List Message → List Message
all_sent r end pc [] ms = ms
all_sent r end pc (i ∷ is) ms = all_sent r end (pc + 1) is (told r end pc i ms)

-- an instruction that has one list at the end
pub record IsSettled {I : Type 0} (r : Rules I) (end : ℕ) (sent : List Message) (pc : ℕ) (i : I) : Type 0 where
  pub clear : IsClear r end pc i (arrival_at pc sent)
  pub each : (to : ℕ) → LeadsTo (r.flow i) pc to → IsIn (msg to clear.after) sent

module _ {I : Type 0} (r : Rules I) (end : ℕ) where
  keeps : (pc : ℕ) (is : List I) (ms : List Message) (m : Message) → IsIn m ms → IsIn m (all_sent r end pc is ms)
  keeps pc [] ms m i = i
  keeps pc (x ∷ is) ms m i =
      keeps (pc + 1) is (told r end pc x ms) m (told_keeps (faults_at r end pc x (arrival_at pc ms)))
    where
      told_keeps : (fs : List Refusal)
          → IsIn m (if_faultless fs (sends pc (r.flow x) (left_by r x (arrival_at pc ms)) ms) ms)
      told_keeps [] = sends_keep pc (r.flow x) (left_by r x (arrival_at pc ms)) ms m i
      told_keeps (f ∷ fs) = i

  -- where a message comes from
  abbrev pub Comes : ℕ → List I → List Message → Message → Type 0
  Comes pc is ms m = IsIn m ms ⊎ ((k : ℕ) × (i : I) × (slice_get is k ≡ Some i) × LeadsTo (r.flow i) (pc + k) m.to)

  told_from : (pc : ℕ) (i : I) (ms : List Message) (m : Message) (fs : List Refusal)
      → IsIn m (if_faultless fs (sends pc (r.flow i) (left_by r i (arrival_at pc ms)) ms) ms) → IsIn m ms
      ⊎ LeadsTo (r.flow i) pc m.to
  told_from pc i ms m [] h =
      elim (sends_only pc (r.flow i) (left_by r i (arrival_at pc ms)) ms m h) [
        | inl old ↦ inl old
        | inr new ↦ inr new.0
      ]
  told_from pc i ms m (f ∷ fs) h = inl h

  comes : (pc : ℕ) (is : List I) (ms : List Message) (m : Message) → IsIn m (all_sent r end pc is ms) → Comes pc is ms m
  comes pc [] ms m h = inl h
  comes pc (x ∷ is) ms m h =
      elim (comes (pc + 1) is (told r end pc x ms) m h) [
        | inl now ↦ by_now (told_from pc x ms m (faults_at r end pc x (arrival_at pc ms)) now)
        | inr later ↦
            inr (
              suc later.0,
              later.1,
              later.2,
              (let e : pc + 1 + later.0 ≡ pc + suc later.0 = omega arith in
                  subst (λ (n : ℕ). LeadsTo (r.flow later.1) n m.to) e later.3),
            )
      ]
    where
      by_now : IsIn m ms ⊎ LeadsTo (r.flow x) pc m.to → Comes pc (x ∷ is) ms m
      by_now (inl old) = inl old
      by_now (inr new) =
          inr (0, x, refl, (let e : pc ≡ pc + 0 = omega arith in subst (λ (n : ℕ). LeadsTo (r.flow x) n m.to) e new))

  -- what the code from pc on sends doesn't arrive at or below pc
  told_clear : (pc : ℕ) (i : I) (ms : List Message) (clear : IsClear r end pc i (arrival_at pc ms)) → told r end pc i ms
      ≡ sends pc (r.flow i) clear.after ms
  told_clear pc i ms clear =
      told-clear r end pc i ms (clear_faults r end pc i (arrival_at pc ms) clear)
      ∙ ap (λ ws. sends pc (r.flow i) ws ms) (ap (left_by r i) clear.is ∙ ap after_of clear.rule)

  arrival_stays : (pc : ℕ) (is : List I) (ms : List Message) (q : ℕ) → pc + length is ≡ end → faults_from r end pc is ms
      ≡ [] → q ≤ pc → arrival_at q (all_sent r end pc is ms) ≡ arrival_at q ms
  arrival_stays pc [] ms q long none low = refl
  arrival_stays pc (i ∷ is) ms q long none low =
      let parts = nil_parts (map (found r.section pc) (faults_at r end pc i (arrival_at pc ms))) _ none in
      let clear =
      faults_clear r end pc i (arrival_at pc ms) (omega (arith, long)) (nil_map (found r.section pc) _ parts.0) in
      arrival_stays (pc + 1) is (told r end pc i ms) q (omega (arith, long)) parts.1 (omega (arith, low))
      ∙ ap (arrival_at q) (told_clear pc i ms clear)
      ∙ sends_other q pc (r.flow i) clear.after ms (λ to h. omega (arith, low, (clear.forward to h).0))

  settled : (pc : ℕ) (is : List I) (ms : List Message) → pc + length is ≡ end → faults_from r end pc is ms ≡ []
      → (k : ℕ) (i : I) → slice_get is k ≡ Some i → IsSettled r end (all_sent r end pc is ms) (pc + k) i
  settled pc [] ms long none k i h = cc
  settled pc (x ∷ is) ms long none zero i h =
      let same : x ≡ i = cc in
      let e : pc ≡ pc + 0 = omega arith in
      let parts = nil_parts (map (found r.section pc) (faults_at r end pc x (arrival_at pc ms))) _ none in
      let clear =
      faults_clear r end pc x (arrival_at pc ms) (omega (arith, long)) (nil_map (found r.section pc) _ parts.0) in
      subst (λ (n : ℕ). IsSettled r end (all_sent r end pc (x ∷ is) ms) n i) e
      (subst (IsSettled r end (all_sent r end pc (x ∷ is) ms) pc) same
      (record {
        clear = record {
          list = clear.list;
          is = arrival_stays pc (x ∷ is) ms pc long none (omega arith) ∙ clear.is;
          after = clear.after;
          rule = clear.rule;
          short = clear.short;
          forward = clear.forward;
          names = clear.names;
        };
        each =
            λ to h. keeps (pc + 1) is (told r end pc x ms) (msg to clear.after)
            (subst (IsIn (msg to clear.after)) (sym (told_clear pc x ms clear))
            (sends_each pc (r.flow x) clear.after ms to h));
      }))
  settled pc (x ∷ is) ms long none (suc k) i h =
      let e : pc + 1 + k ≡ pc + suc k = omega arith in
      let parts = nil_parts (map (found r.section pc) (faults_at r end pc x (arrival_at pc ms))) _ none in
      subst (λ (n : ℕ). IsSettled r end (all_sent r end pc (x ∷ is) ms) n i) e
      (settled (pc + 1) is (told r end pc x ms) (omega (arith, long)) parts.1 k i h)

last_stops : (pc : ℕ) (flow : Flow) → ((to : ℕ) → LeadsTo flow pc to → (pc < to) × (to < pc + 1)) → flow ≡ Stops
last_stops pc Stops h = refl
last_stops pc GoesOn h = absurd (omega (arith, h (pc + 1) refl))
last_stops pc (Jumps target) h = (let n = h target refl in absurd (omega (arith, n.0, n.1)))
last_stops pc (Branches target) h = (let n = h target (inl refl) in absurd (omega (arith, n.0, n.1)))

-- Code in which no fault stands is typed by the lists that arrive.
module _ {I : Type 0} (r : Rules I) (base : ℕ) (code : List I) (some : 0 < length code)
    (none : faults_from r (base + length code) base code (entry base) ≡ []) where
  abbrev sent : List Message
  sent = all_sent r (base + length code) base code (entry base)

  abbrev pub table_of : ℕ → List ℕ
  table_of pc = list_at (arrival_at pc sent)

  at : (k : ℕ) (i : I) → slice_get code k ≡ Some i → IsSettled r (base + length code) sent (base + k) i
  at k i h = settled r (base + length code) base code (entry base) refl none k i h

  -- what was sent to a place of the code is its list
  list_is : (k : ℕ) (i : I) → slice_get code k ≡ Some i → (ws : List ℕ) → IsIn (msg (base + k) ws) sent
      → table_of (base + k) ≡ ws
  list_is k i h ws sent_there =
      let here = (at k i h).clear in
      ap list_at here.is ∙ sym (sent_agree (base + k) here.list sent (inr here.is) (msg (base + k) ws) sent_there refl)

  -- a place of the code
  place : (k : ℕ) → k < length code → (i : I) × (slice_get code k ≡ Some i)
  place k below = in_code code k below
    where
      in_code : (is : List I) (k : ℕ) → k < length is → (i : I) × (slice_get is k ≡ Some i)
      in_code [] k h = absurd (omega (arith, h))
      in_code (x ∷ is) zero h = (x, refl)
      in_code (x ∷ is) (suc k) h = in_code is k (omega (arith, h))

  fine : (k : ℕ) (i : I) → slice_get code k ≡ Some i → IsFine r (base + length code) table_of (base + k) i
  fine k i h =
      let s = at k i h in
      record {
        after = s.clear.after;
        rule = ap (λ a. r.effect i (list_at a)) s.clear.is ∙ s.clear.rule;
        sends = λ to leads.
            let inside = s.clear.forward to leads in
            let e : to ≡ base + (to - base) = omega (arith, inside.0) in
            let there = place (to - base) (omega (arith, inside.0, inside.1)) in
            ap table_of e
            ∙ list_is (to - base) there.0 there.1 s.clear.after
            (subst (λ (n : ℕ). IsIn (msg n s.clear.after) sent) e (s.each to leads));
        forward = s.clear.forward;
        names = s.clear.names;
      }

  pub typed_by : IsCodeTyped r base code table_of × AreShort r base code table_of
  typed_by = (
    record {
      some = some;
      begins = begins;
      each = fine;
      ends =
          λ i h. last_stops (base + (length code - 1)) (r.flow i)
          (λ to leads. let f = (at (length code - 1) i h).clear.forward to leads in (f.0, omega (arith, f.1, some)));
      reached = λ k positive below. reached k positive below;
    },
    record { each = short },
  )
    where
      begins : table_of base ≡ []
      begins =
          let first = place 0 some in
          let e : base ≡ base + 0 = omega arith in
          ap table_of e
          ∙ list_is 0 first.0 first.1 []
          (keeps r (base + length code) base code (entry base) (msg (base + 0) [])
          (inl (ap (λ n. msg n []) (sym e))))

      short : (k : ℕ) (i : I) (after : List ℕ) → slice_get code k ≡ Some i → r.effect i (table_of (base + k))
          ≡ leaves after → length after ≤ 1024
      short k i after h rule =
          let s = at k i h in
          let same : leaves s.clear.after ≡ leaves after =
          sym (ap (λ a. r.effect i (list_at a)) s.clear.is ∙ s.clear.rule) ∙ rule in
          let is : s.clear.after ≡ after = cc in
          omega (arith, s.clear.short, ap (length {A = ℕ}) is)

      by_source : (k : ℕ) → 0 < k → (m : Message) → m.to ≡ base + k
          → Comes r (base + length code) base code (entry base) m → (j : ℕ) × (i : I) × (j < k)
          × (slice_get code j ≡ Some i) × LeadsTo (r.flow i) (base + j) (base + k)
      by_source k positive m to (inl (inl e)) = absurd (omega (arith, to, ap (λ x. x.to) e, positive))
      by_source k positive m to (inl (inr i)) = absurd i
      by_source k positive m to (inr from) =
          let leads = subst (λ (n : ℕ). LeadsTo (r.flow from.1) (base + from.0) n) to from.3 in
          let f = (at from.0 from.1 from.2).clear.forward (base + k) leads in
          (from.0, from.1, omega (arith, f.0), from.2, leads)

      reached : (k : ℕ) → 0 < k → k < length code → (j : ℕ) × (i : I) × (j < k) × (slice_get code j ≡ Some i)
          × LeadsTo (r.flow i) (base + j) (base + k)
      reached k positive below =
          let here = place k below in
          let clear = (at k here.0 here.1).clear in
          let m = some_sent (base + k) clear.list sent clear.is in
          by_source k positive m.0 m.2 (comes r (base + length code) base code (entry base) m.0 m.1)

-- Typed code has no fault, and its longest list is that of the table.
module _ {I : Type 0} (r : Rules I) (base : ℕ) (code : List I) (table : ℕ → List ℕ)
    (typed : IsCodeTyped r base code table)
    (are_short : AreShort r base code table) where
  -- what was sent agrees with the table, and each instruction below k has sent
  record IsFaithful (k : ℕ) (ms : List Message) : Type 0 where
    agree : (m : Message) → IsIn m ms → m.list ≡ table m.to
    first : IsIn (msg base []) ms
    each : (j : ℕ) (i : I) → j < k → slice_get code j ≡ Some i → (to : ℕ) → LeadsTo (r.flow i) (base + j) to
        → IsIn (msg to (table to)) ms

  arrives : (k : ℕ) (ms : List Message) → IsFaithful k ms → k < length code → arrival_at (base + k) ms
      ≡ agreed (table (base + k))
  arrives zero ms f below =
      let e : base ≡ base + 0 = omega arith in
      let is : msg base [] ≡ msg (base + 0) (table (base + 0)) =
      ap (λ n. msg n []) e ∙ ap (msg (base + 0)) (sym typed.begins ∙ ap table e) in
      all_agree (base + 0) (table (base + 0)) ms (λ m i to. f.agree m i ∙ ap table to)
      (subst (λ (m : Message). IsIn m ms) is f.first)
  arrives (suc k) ms f below =
      let from = typed.reached (suc k) (omega arith) below in
      all_agree (base + suc k) (table (base + suc k)) ms (λ m i to. f.agree m i ∙ ap table to)
      (f.each from.0 from.1 from.2 from.3 (base + suc k) from.4)

  clear_at : (k : ℕ) (i : I) (ms : List Message) → IsFaithful k ms → slice_get code k ≡ Some i
      → IsClear r (base + length code) (base + k) i (arrival_at (base + k) ms)
  clear_at k i ms f h =
      let fine = typed.each k i h in
      record {
        list = table (base + k);
        is = arrives k ms f (slice_get_within code k i h);
        after = fine.after;
        rule = fine.rule;
        short = are_short.each k i fine.after h fine.rule;
        forward = fine.forward;
        names = fine.names;
      }

  more : (k : ℕ) (i : I) (ms : List Message) → IsFaithful k ms → (h : slice_get code k ≡ Some i)
      → IsFaithful (suc k) (sends (base + k) (r.flow i) (typed.each k i h).after ms)
  more k i ms f h =
      record {
        agree = λ m j. by_source m (sends_only (base + k) (r.flow i) (typed.each k i h).after ms m j);
        first = sends_keep (base + k) (r.flow i) (typed.each k i h).after ms (msg base []) f.first;
        each = λ j x below there to leads. by_place j x below there to leads;
      }
    where
      by_source : (m : Message) → IsIn m ms ⊎ (LeadsTo (r.flow i) (base + k) m.to × (m.list ≡ (typed.each k i h).after))
          → m.list ≡ table m.to
      by_source m (inl old) = f.agree m old
      by_source m (inr new) = new.1 ∙ sym ((typed.each k i h).sends m.to new.0)

      by_place : (j : ℕ) (x : I) → j < suc k → slice_get code j ≡ Some x → (to : ℕ) → LeadsTo (r.flow x) (base + j) to
          → IsIn (msg to (table to)) (sends (base + k) (r.flow i) (typed.each k i h).after ms)
      by_place j x below there to leads =
          elim (cases_eq j k) [
            | inl same ↦
                let e : slice_get code k ≡ Some x = subst (λ (n : ℕ). slice_get code n ≡ Some x) same there in
                let one : Some x ≡ Some i = sym e ∙ h in
                let is : x ≡ i = cc in
                let leads_i =
                subst (λ (n : ℕ). LeadsTo (r.flow i) (base + n) to) same
                (subst (λ (y : I). LeadsTo (r.flow y) (base + j) to) is leads) in
                subst (λ (ws : List ℕ). IsIn (msg to ws) (sends (base + k) (r.flow i) (typed.each k i h).after ms))
                (sym ((typed.each k i h).sends to leads_i))
                (sends_each (base + k) (r.flow i) (typed.each k i h).after ms to leads_i)
            | inr other ↦ sends_keep (base + k) (r.flow i) (typed.each k i h).after ms (msg to (table to))
                (f.each j x (omega (arith, below, other)) there to leads)
          ]

  told_more : (k : ℕ) (i : I) (ms : List Message) → IsFaithful k ms → slice_get code k ≡ Some i
      → IsFaithful (suc k) (told r (base + length code) (base + k) i ms)
  unfolding clear_at
  told_more k i ms f h =
      subst (IsFaithful (suc k)) (sym (told_clear r (base + length code) (base + k) i ms (clear_at k i ms f h)))
      (more k i ms f h)

  -- the rest of the code is what stands from k on
  abbrev IsRest : ℕ → List I → Type 0
  IsRest k is = (j : ℕ) → slice_get code (k + j) ≡ slice_get is j

  rest_head : (k : ℕ) (i : I) (is : List I) → IsRest k (i ∷ is) → slice_get code k ≡ Some i
  rest_head k i is rest = (let e : k ≡ k + 0 = omega arith in ap (slice_get code) e ∙ rest 0)

  rest_tail : (k : ℕ) (i : I) (is : List I) → IsRest k (i ∷ is) → IsRest (suc k) is
  rest_tail k i is rest j = (let e : suc k + j ≡ k + suc j = omega arith in ap (slice_get code) e ∙ rest (suc j))

  no_faults_from : (k pc : ℕ) (is : List I) (ms : List Message) → pc ≡ base + k → IsRest k is → IsFaithful k ms
      → faults_from r (base + length code) pc is ms ≡ []
  no_faults_from k pc [] ms here rest f = refl
  no_faults_from k pc (i ∷ is) ms here rest f =
      let h = rest_head k i is rest in
      ap (λ fs. map (found r.section pc) fs ++ faults_from r (base + length code) (pc + 1) is
      (told r (base + length code) pc i ms))
      (ap (λ n. faults_at r (base + length code) n i (arrival_at n ms)) here
      ∙ clear_faults r (base + length code) (base + k) i (arrival_at (base + k) ms) (clear_at k i ms f h))
      ∙ no_faults_from (suc k) (pc + 1) is (told r (base + length code) pc i ms) (omega (arith, here))
      (rest_tail k i is rest)
      (subst (λ (n : ℕ). IsFaithful (suc k) (told r (base + length code) n i ms)) (sym here) (told_more k i ms f h))

  longest_is : (k pc : ℕ) (is : List I) (ms : List Message) → pc ≡ base + k → IsRest k is → IsFaithful k ms
      → longest_agreed r (base + length code) pc is ms ≡ longest_list table pc is
  longest_is k pc [] ms here rest f = refl
  longest_is k pc (i ∷ is) ms here rest f =
      let h = rest_head k i is rest in
      let below = slice_get_within code k i h in
      ap (λ a. max (length (list_at a))
      (longest_agreed r (base + length code) (pc + 1) is (told r (base + length code) pc i ms)))
      (ap (λ n. arrival_at n ms) here ∙ arrives k ms f below ∙ ap (λ n. agreed (table n)) (sym here))
      ∙ ap (max (length (table pc)))
      (longest_is (suc k) (pc + 1) is (told r (base + length code) pc i ms) (omega (arith, here))
      (rest_tail k i is rest)
      (subst (λ (n : ℕ). IsFaithful (suc k) (told r (base + length code) n i ms)) (sym here) (told_more k i ms f h)))

  at_first : IsFaithful 0 (entry base)
  at_first = record { agree = λ m i. by_first m i; first = inl refl; each = λ j i below. absurd (omega (arith, below)) }
    where
      by_first : (m : Message) → IsIn m (entry base) → m.list ≡ table m.to
      by_first m (inl e) = ap (λ x. x.list) e ∙ sym typed.begins ∙ ap table (ap (λ x. x.to) (sym e))
      by_first m (inr i) = absurd i

  whole : IsRest 0 code
  whole j = (let e : 0 + j ≡ j = omega arith in ap (slice_get code) e)

  pub no_faults : faults_from r (base + length code) base code (entry base) ≡ []
  no_faults = no_faults_from 0 base code (entry base) (omega arith) whole at_first

  pub longest_typed : longest_agreed r (base + length code) base code (entry base) ≡ longest_list table base code
  longest_typed = longest_is 0 base code (entry base) (omega arith) whole at_first
