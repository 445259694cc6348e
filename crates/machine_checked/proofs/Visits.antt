-- A visit of a well formed section.
use Rattle.std.proofs.Common.{◌≡◌, inl, inr, ℕ, ◌+◌, ◌-◌, ◌<◌, ◌≤◌, Bool, true, false, List, []}
use Rattle.std.proofs.Common.{◌∷◌, length, map, Some, ap, subst, arith}
use Rattle.std.specs.Prelude.{slice_get, slice_index, ◌==◌}
use Rattle.std.specs.Int.{bit_at}
use Rattle.std.proofs.lemmas.Bool.{cases_Bool, eqb-true}
use Rattle.bytecode_programs.specs.declared.block_instr.BlockInstr.{BlockInstr}
use Rattle.bytecode_programs.specs.declared.block_instr.BlockInstr.TheVariants.{Unless, Enter, Accept, Stop}
use Rattle.bytecode_programs.specs.declared.block_instr.BlockInstr.TheVariants.{AcceptFirst}
use Rattle.machine_checked.specs.Outcomes.{done, Meets}
use Rattle.bytecode_programs.specs.Values.{SectionData}
use Rattle.machine_checked.specs.Blocks.{Visit}
use Rattle.machine_checked.specs.Blocks.{run, visit_blocks, run_set, visit, ended}
use Rattle.machine_checked.proofs.Typing.{IsFine, IsBlock, AreBlocks, IsSection}
use Rattle.bytecode_programs.specs.Instructions.{block_flow}
use Rattle.verifier.specs.Limits.{start_life, paths_from, path_sum}
use Rattle.machine_checked.specs.Bounds.{EachIn, IsAlive, life}
use Rattle.machine_checked.proofs.Outcomes.{Meets-and_then, Meets-weaker, Meets-at}
use Rattle.machine_checked.proofs.Blocks.{EachIn-none, Allows, Leaves, Leaves-ended, Within, run-meets}
use Rattle.machine_checked.proofs.Limits.{IsCosted, paths-costed, followed, IsBlock-length, Falls}
use Rattle.machine_checked.proofs.Limits.{lives-fall}

module _ (atoms : List Bool) (positions : ℕ) (P : ℕ → Type 0) (A : Type 0) where
  -- what a block may do, from its form, its costs, and what it enters and accepts
  allowed : (cost : ℕ → ℕ) (p base : ℕ) (b : List BlockInstr) → IsBlock (length atoms) positions p base b
      → ((q k : ℕ) → slice_get b k ≡ Some (Enter q) → P q) → A → (k : ℕ) (i : BlockInstr) → slice_get b k ≡ Some i
      → IsFine (length atoms) positions p (base + length b) (base + k) i → IsCosted cost (base + k) i
      → Allows (length atoms) positions cost P A (base + length b) (base + k) i
  allowed cost p base b block enters accepts k (Unless atom target) h fine costs = (
    fine.0,
    fine.1,
    fine.2,
    followed (length atoms) positions p base b block k (Unless atom target) h (λ e. cc),
    costs.0,
    costs.1,
  )
  allowed cost p base b block enters accepts k (Enter q) h fine costs =
      (fine.1, enters q k h, followed (length atoms) positions p base b block k (Enter q) h (λ e. cc), costs)
  allowed cost p base b block enters accepts k Accept h fine costs =
      (accepts, followed (length atoms) positions p base b block k Accept h (λ e. cc), costs)
  allowed cost p base b block enters accepts k AcceptFirst h fine costs =
      (accepts, followed (length atoms) positions p base b block k AcceptFirst h (λ e. cc), costs)
  allowed cost p base b block enters accepts k Stop h fine costs = costs

  block-meets : (p base : ℕ) (b : List BlockInstr) → IsBlock (length atoms) positions p base b
      → ((q k : ℕ) → slice_get b k ≡ Some (Enter q) → P q) → A → (left : ℕ) (v : Visit) → Leaves P A v
      → slice_index (paths_from base (map block_flow b)) 0 ≤ left
      → Meets (Within P A left (slice_index (paths_from base (map block_flow b)) 0))
      (run b base positions atoms left base v)
  block-meets p base b block enters accepts left v leaves fits =
      let cost : ℕ → ℕ = λ pc. slice_index (paths_from base (map block_flow b)) (pc - base) in
      let path : (k : ℕ) → cost (base + k) ≡ slice_index (paths_from base (map block_flow b)) k =
      λ k. (let e : base + k - base ≡ k = omega arith in ap (slice_index (paths_from base (map block_flow b))) e)
      in
      let e : base - base ≡ 0 = omega arith in
      let at : cost base ≡ slice_index (paths_from base (map block_flow b)) 0 =
      ap (slice_index (paths_from base (map block_flow b))) e in
      subst (λ n. Meets (Within P A left n) (run b base positions atoms left base v)) at
      (run-meets b base positions atoms cost P A
      (λ k i h. allowed cost p base b block enters accepts k i h (block.each k i h)
      (paths-costed cost (length atoms) positions p (base + length b) base b path k i h (block.each k i h)))
      left base v leaves (omega arith) (omega (arith, IsBlock-length (length atoms) positions p base b block))
      (omega (arith, at)))

  -- what the blocks of the set from position p on enter passes, and where there is one, A holds
  abbrev pub Enters : ℕ → ℕ → List (List BlockInstr) → Type 0
  Enters set p [] = Unit {0}
  Enters set p (b ∷ bs) =
      (bit_at set p ≡ 1 → ((q k : ℕ) → slice_get b k ≡ Some (Enter q) → P q) × A) × Enters set (p + 1) bs

  pub visit_blocks-meets : (set p base : ℕ) (bs : List (List BlockInstr)) → AreBlocks (length atoms) positions p base bs
      → Enters set p bs → (left : ℕ) (v : Visit) → Leaves P A v → path_sum base bs ≤ left
      → Meets (Within P A left (path_sum base bs)) (visit_blocks positions atoms set bs p base v left)
  visit_blocks-meets set p base [] blocks enters left v leaves fits = (leaves, omega arith)
  visit_blocks-meets set p base (b ∷ bs) blocks enters left v leaves fits =
      elim (cases_Bool (bit_at set p == 1)) [
        | inl on ↦
            let here = enters.0 (eqb-true (bit_at set p) 1 on) in
            rw on
            (Meets-and_then (Within P A left (slice_index (paths_from base (map block_flow b)) 0))
            (Within P A left (path_sum base (b ∷ bs)))
            (run b base positions atoms left base v) (visit_blocks positions atoms set bs (p + 1) (base + length b))
            (block-meets p base b blocks.0 here.0 here.1 left v leaves (omega arith))
            (λ w rest done. Meets-weaker (Within P A rest (path_sum (base + length b) bs))
            (Within P A left (path_sum base (b ∷ bs)))
            (visit_blocks positions atoms set bs (p + 1) (base + length b) w rest)
            (λ x more h. (h.0, omega (arith, h.1, done.1)))
            (visit_blocks-meets set (p + 1) (base + length b) bs blocks.1 enters.1 rest w done.0
            (omega (arith, done.1)))))
        | inr off ↦
            rw off
            (Meets-weaker (Within P A left (path_sum (base + length b) bs)) (Within P A left (path_sum base (b ∷ bs)))
            (visit_blocks positions atoms set bs (p + 1) (base + length b) v left)
            (λ x more h. (h.0, omega (arith, h.1)))
            (visit_blocks-meets set (p + 1) (base + length b) bs blocks.1 enters.1 left v leaves (omega arith)))
      ]

-- what is entered from something alive is alive at the next clock_after
alive-enters : (s : SectionData) (atoms : List Bool) (since now set : ℕ) → EachIn (IsAlive s since now) set
    → (p base : ℕ) (bs : List (List BlockInstr)) → AreBlocks (length atoms) (length s.blocks) p base bs
    → Falls (life s) p bs → Enters atoms (length s.blocks) (IsAlive s since (now + 1)) (now < since + start_life s)
    set p bs
alive-enters s atoms since now set alive p base [] blocks falls = tt
alive-enters s atoms since now set alive p base (b ∷ bs) blocks falls = (
  λ bit.
      let a = alive p bit in
      (λ q k h. ((blocks.0.each k (Enter q) h).1, omega (arith, a.1, falls.1 k q h)), omega (arith, a.1, falls.0)),
  alive-enters s atoms since now set alive (p + 1) (base + length b) bs blocks.1 falls.2,
)

-- what a visit of something that began at a tick leaves
abbrev pub Visited : SectionData → ℕ → ℕ → ℕ → Visit → ℕ → Type 0
Visited s since now left = Within (IsAlive s since (now + 1)) (now < since + start_life s) left (path_sum 0 s.blocks)

pub visit-meets : (s : SectionData) (atoms : List Bool) → IsSection (length atoms) s → (since now set left : ℕ)
    → EachIn (IsAlive s since now) set → path_sum 0 s.blocks ≤ left
    → Meets (Visited s since now left) (visit s atoms set left)
unfolding visit run_set
visit-meets s atoms section since now set left alive fits =
    let falls =
    lives-fall (life s) (length atoms) (length s.blocks) 0 0 s.blocks section.blocks
    (λ k. let e : 0 + k ≡ k = omega arith in ap (life s) e) in
    Meets-and_then (Visited s since now left) (Visited s since now left)
    (visit_blocks (length s.blocks) atoms set s.blocks 0 0 (record { entered = 0; accepted = false; first = false })
    left)
    (λ v rest. done (ended v) rest)
    (visit_blocks-meets atoms (length s.blocks) (IsAlive s since (now + 1)) (now < since + start_life s) set 0 0
    s.blocks section.blocks
    (alive-enters s atoms since now set alive 0 0 s.blocks section.blocks falls) left
    (record { entered = 0; accepted = false; first = false })
    (record { entered = EachIn-none (IsAlive s since (now + 1)); accepted = λ h. cc }) fits)
    (λ v rest h. (Leaves-ended (IsAlive s since (now + 1)) (now < since + start_life s) v h.0, h.1))

-- what accepts is alive
pub visit-accepted : (s : SectionData) (atoms : List Bool) → IsSection (length atoms) s
    → (since now set left rest : ℕ) (v : Visit) → EachIn (IsAlive s since now) set → path_sum 0 s.blocks ≤ left
    → visit s atoms set left ≡ done v rest → v.accepted ≡ true → now < since + start_life s
visit-accepted s atoms section since now set left rest v alive fits e on =
    (Meets-at (Visited s since now left) (visit s atoms set left) v rest e
    (visit-meets s atoms section since now set left alive fits)).0.accepted on
