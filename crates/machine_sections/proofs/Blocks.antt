-- A visit that meets no trap makes what the blocks make.
use Rattle.std.proofs.Common.{◌≡◌, ◌∙◌, inl, inr, ℕ, zero, suc, ◌+◌, ◌-◌, ◌^◌, Bool, true, false, if◌then◌else◌, List}
use Rattle.std.proofs.Common.{[], ◌∷◌, length, Option, Some, None, refl, sym, ap, subst, arith, drop, drop-drop}
use Rattle.std.proofs.Common.{drop-cons}
use Rattle.std.specs.Prelude.{slice_get, slice_index_or, bit_or, ◌==◌, nat_lt}
use Rattle.std.specs.Int.{bit_at}
use Rattle.std.proofs.lemmas.Bool.{cases_Bool, le-ltb}
use Rattle.std.proofs.lemmas.Option.{get_or_from_slice_get, slice_get_within}
use Rattle.bytecode_programs.specs.declared.block_instr.BlockInstr.{BlockInstr}
use Rattle.bytecode_programs.specs.declared.block_instr.BlockInstr.TheVariants.{Unless, Enter, Accept, Stop}
use Rattle.bytecode_programs.specs.declared.block_instr.BlockInstr.TheVariants.{AcceptFirst}
use Rattle.machine_checked.specs.Blocks.{Visit}
use Rattle.machine_checked.specs.Outcomes.{Ran, done, trapped, and_then, costs_one}
use Rattle.bytecode_programs.specs.Values.{SectionData}
use Rattle.machine_checked.specs.Blocks.{fetch, branch, obey, run, visit_blocks, run_set, visit, ended}
use Rattle.machine_checked.proofs.Typing.{IsBlock, AreBlocks, IsSection}
use Rattle.machine_sections.specs.Effects.{effect, effects, visit_of}

-- Where it comes to a value, P holds of that.
abbrev pub Gives : {A : Type 0} → (A → Type 0) → Ran A → Type 0
Gives P (done a left) = P a
Gives P (trapped t) = Unit {0}

pub Gives-and_then : {A B : Type 0} (P : A → Type 0) (Q : B → Type 0) (x : Ran A) (go : A → ℕ → Ran B) → Gives P x
    → ((a : A) (left : ℕ) → P a → Gives Q (go a left)) → Gives Q (and_then x go)
Gives-and_then P Q (done a left) go h next = next a left h
Gives-and_then P Q (trapped t) go h next = tt

pub Gives-costs_one : {B : Type 0} (Q : B → Type 0) (left : ℕ) (go : ℕ → Ran B) → ((left : ℕ) → Gives Q (go left))
    → Gives Q (costs_one left go)
Gives-costs_one Q zero go next = tt
Gives-costs_one Q (suc left) go next = next left

-- a jump over so many instructions
effect-skip : (atoms : List Bool) (k pc : ℕ) (is : List BlockInstr) (v : Visit) → effect atoms k pc is v
    ≡ effect atoms zero (pc + k) (drop k is) v
effect-skip atoms zero pc is v = let e : pc ≡ pc + zero = omega arith in ap (λ n. effect atoms zero n is v) e
effect-skip atoms (suc k) pc [] v = refl
effect-skip atoms (suc k) pc (i ∷ is) v =
    let e : pc + 1 + k ≡ pc + suc k = omega arith in
    effect-skip atoms k (pc + 1) is v ∙ ap (λ n. effect atoms zero n (drop k is) v) e

module _ (block : List BlockInstr) (base positions p : ℕ) (atoms : List Bool)
    (fine : IsBlock (length atoms) positions p base block) where
  abbrev from : ℕ → Visit → Visit
  from j v = effect atoms zero (base + j) (drop j block) v

  abbrev Makes : ℕ → (ℕ → Visit → Ran Visit) → Type 0
  Makes left go = (j : ℕ) (v : Visit) → Gives (λ w. w ≡ from j v) (go (base + j) v)

  -- at the instruction there
  from-here : (j : ℕ) (i : BlockInstr) (v : Visit) → slice_get block j ≡ Some i
      → from j v ≡ effect atoms zero (base + j) (i ∷ drop (suc j) block) v
  from-here j i v h =
      let e : drop j block ≡ i ∷ drop (suc j) block =
      drop-cons block j i (slice_get_within block j i h)
      ∙ ap (λ x. x ∷ drop (suc j) block) (get_or_from_slice_get block j i i h) in
      ap (λ is. effect atoms zero (base + j) is v) e

  next-gives : (left : ℕ) (go : ℕ → Visit → Ran Visit) → Makes left go → (j : ℕ) (v w : Visit)
      → from j v ≡ effect atoms zero (base + j + 1) (drop (suc j) block) w
      → Gives (λ x. x ≡ from j v) (go (base + j + 1) w)
  next-gives left go makes j v w e =
      let there : base + suc j ≡ base + j + 1 = omega arith in
      let same : from (suc j) w ≡ from j v = ap (λ n. effect atoms zero n (drop (suc j) block) w) there ∙ sym e in
      subst (λ y. Gives (λ x. x ≡ y) (go (base + j + 1) w)) same
      (subst (λ n. Gives (λ x. x ≡ from (suc j) w) (go n w)) there (makes (suc j) w))

  branch-gives : (left : ℕ) (go : ℕ → Visit → Ran Visit) → Makes left go → (j atom target : ℕ) (v : Visit)
      → slice_get block j ≡ Some (Unless atom target) → (o : Option Bool) → slice_get atoms atom ≡ o
      → Gives (λ x. x ≡ from j v) (branch o (base + j + 1) target v go)
  branch-gives left go makes j atom target v h None e = tt
  branch-gives left go makes j atom target v h (Some true) e =
      let bit : slice_index_or atoms atom true ≡ true = get_or_from_slice_get atoms atom true true e in
      next-gives left go makes j v v (from-here j (Unless atom target) v h
      ∙ ap (λ b. effect atoms (if b then 0 else target - (base + j + 1)) (base + j + 1) (drop (suc j) block) v)
      bit)
  branch-gives left go makes j atom target v h (Some false) e =
      let bit : slice_index_or atoms atom true ≡ false = get_or_from_slice_get atoms atom false true e in
      let is = fine.each j (Unless atom target) h in
      let there : base + (target - base) ≡ target = omega (arith, is.1) in
      let skip : base + j + 1 + (target - (base + j + 1)) ≡ base + (target - base) = omega (arith, is.1) in
      let far : suc j + (target - (base + j + 1)) ≡ target - base = omega (arith, is.1) in
      let same : from (target - base) v ≡ from j v =
      sym (
      from-here j (Unless atom target) v h
      ∙ ap (λ b. effect atoms (if b then 0 else target - (base + j + 1)) (base + j + 1) (drop (suc j) block) v) bit
      ∙ effect-skip atoms (target - (base + j + 1)) (base + j + 1) (drop (suc j) block) v
      ∙ ap (λ is. effect atoms zero (base + j + 1 + (target - (base + j + 1))) is v)
      (drop-drop (target - (base + j + 1)) (suc j) block)
      ∙ ap (λ n. effect atoms zero (base + j + 1 + (target - (base + j + 1))) (drop n block) v) far
      ∙ ap (λ n. effect atoms zero n (drop (target - base) block) v) skip
      ) in
      subst (λ y. Gives (λ x. x ≡ y) (go target v)) same
      (subst (λ n. Gives (λ x. x ≡ from (target - base) v) (go n v)) there (makes (target - base) v))

  obey-gives : (left : ℕ) (go : ℕ → Visit → Ran Visit) → Makes left go → (j : ℕ) (v : Visit) (o : Option BlockInstr)
      → slice_get block j ≡ o → Gives (λ x. x ≡ from j v) (obey positions atoms (base + j) v go left o)
  obey-gives left go makes j v None h = tt
  obey-gives left go makes j v (Some Stop) h = sym (from-here j Stop v h)
  obey-gives left go makes j v (Some Accept) h =
      next-gives left go makes j v (record { entered = v.entered; accepted = true; first = v.first })
      (from-here j Accept v h)
  obey-gives left go makes j v (Some AcceptFirst) h =
      next-gives left go makes j v (record { entered = v.entered; accepted = true; first = true })
      (from-here j AcceptFirst v h)
  obey-gives left go makes j v (Some (Enter q)) h =
      elim (cases_Bool (nat_lt q positions)) [
        | inl there ↦
            rw there
            (next-gives left go makes j v
            (record { entered = bit_or v.entered (2 ^ q); accepted = v.accepted; first = v.first })
            (from-here j (Enter q) v h))
        | inr not_there ↦ rw not_there tt
      ]
  obey-gives left go makes j v (Some (Unless atom target)) h =
      branch-gives left go makes j atom target v h (slice_get atoms atom) refl

  run-gives : (left j : ℕ) (v : Visit) → Gives (λ x. x ≡ from j v) (run block base positions atoms left (base + j) v)
  run-gives zero j v = tt
  run-gives (suc left) j v =
      let there : base + j - base ≡ j = omega arith in
      let fetched : slice_get block j ≡ fetch block base (base + j) =
      sym (rw (le-ltb (base + j) base (omega arith)) (ap (slice_get block) there)) in
      obey-gives left (run block base positions atoms left) (run-gives left) j v (fetch block base (base + j)) fetched

  pub block-gives : (left : ℕ) (v : Visit)
      → Gives (λ x. x ≡ effect atoms zero base block v) (run block base positions atoms left base v)
  block-gives left v =
      let here : base + 0 ≡ base = omega arith in
      subst (λ n. Gives (λ x. x ≡ effect atoms zero n block v) (run block base positions atoms left n v)) here
      (run-gives left 0 v)

visit_blocks-gives : (atoms : List Bool) (positions set p base : ℕ) (bs : List (List BlockInstr))
    → AreBlocks (length atoms) positions p base bs → (v : Visit) (left : ℕ)
    → Gives (λ x. x ≡ effects atoms set p base bs v) (visit_blocks positions atoms set bs p base v left)
visit_blocks-gives atoms positions set p base [] fine v left = refl
visit_blocks-gives atoms positions set p base (b ∷ bs) fine v left =
    elim (cases_Bool (bit_at set p == 1)) [
      | inl on ↦
          rw on
          (Gives-and_then (λ x. x ≡ effect atoms zero base b v)
          (λ x. x ≡ effects atoms set (p + 1) (base + length b) bs (effect atoms zero base b v))
          (run b base positions atoms left base v) (visit_blocks positions atoms set bs (p + 1) (base + length b))
          (block-gives b base positions p atoms fine.0 left v)
          (λ w rest e. subst
          (λ y. Gives (λ x. x ≡ effects atoms set (p + 1) (base + length b) bs y)
          (visit_blocks positions atoms set bs (p + 1) (base + length b) w rest)) e
          (visit_blocks-gives atoms positions set (p + 1) (base + length b) bs fine.1 w rest)))
      | inr off ↦ rw off (visit_blocks-gives atoms positions set (p + 1) (base + length b) bs fine.1 v left)
    ]

-- a visit of a well formed section makes what its blocks make
pub visit-gives : (s : SectionData) (atoms : List Bool) → IsSection (length atoms) s → (set left : ℕ)
    → Gives (λ x. x ≡ visit_of s atoms set) (visit s atoms set left)
unfolding visit run_set visit_of
visit-gives s atoms section set left =
    let v0 : Visit = record { entered = 0; accepted = false; first = false } in
    Gives-and_then (λ x. x ≡ effects atoms set 0 0 s.blocks v0)
    (λ x. x ≡ ended (effects atoms set 0 0 s.blocks v0))
    (visit_blocks (length s.blocks) atoms set s.blocks 0 0 v0 left) (λ v left. done (ended v) left)
    (visit_blocks-gives atoms (length s.blocks) set 0 0 s.blocks section.blocks v0 left)
    (λ v left e. ap ended e)
