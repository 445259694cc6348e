use Rattle.std.proofs.Common.{◌≡◌, ℕ, ◌+◌, ◌<◌, ◌≤◌, List, length, get_or, map, [], refl, sym, ap, subst, arith}
use Rattle.std.proofs.Math.ListN.{length-map}
use Rattle.bytecode_programs.specs.declared.block_instr.BlockInstr.{BlockInstr}
use Rattle.bytecode_programs.specs.Views.{section_data}
use Rattle.verifier.specs.Views.{blocks_of}
use Rattle.machine_checked.specs.Bounds.{EachIn}
use Rattle.machine.specs.Bases.{base_at}
use Rattle.machine.specs.Finishes.{Finishes}
use Rattle.machine.specs.Steps.{block_run}
use Rattle.machine.specs.Records.{made_by}
use Rattle.std.specs.Int.{w128, trailing_zeros}
use Rattle.machine_checked.specs.Outcomes.{done}
use Rattle.machine.proofs.SetLaws as laws
use Rattle.machine.proofs.visit.run_set.Goals as goal

inside-of : {A : Type 0} (items : A → List BlockInstr) (blocks : List A) (set : ℕ) → EachIn (λ q. q < length blocks) set
    → EachIn (λ q. q < length (map items blocks)) set
inside-of items blocks set h q bit = rw length-map (h q bit)

below-of : {A : Type 0} (items : A → List BlockInstr) (blocks slice : List A) (p : ℕ) → slice ≡ blocks
    → p < length (map items blocks) → p < length slice
below-of items blocks slice p same h =
    let long : length (map items blocks) ≡ length blocks = rw length-map refl in
    omega (arith, h, long, ap length same)

pub loop-rest-init : goal.loop-rest-init
loop-rest-init c = laws.goes-first (section_data c.args.section.now) c.args.atoms.now c.args.set c.args.left.now

pub bounds-bases-p : goal.bounds-bases-p
bounds-bases-p c =
    let s = section_data c.args.section.now in
    omega (
      arith,
      c.requires.bases.all,
      laws.low-there s c.args.atoms.now c.args.set c.args.left.now c.loop-rest.rest (made_by c.loop-rest.visit)
          c.loop-rest.left (inside-of (λ b. b.items) c.args.section.now.blocks.items c.args.set c.requires.inside)
          c.loop-rest.invariant c.loop-rest-test.true (omega arith),
    )

pub run_block-requires : goal.run_block-requires
run_block-requires c =
    let s = section_data c.args.section.now in
    let same = ap (λ bs. blocks_of bs) c.as_slice.ensures.value in
    let i = c.loop-rest.invariant in
    let inside = inside-of (λ b. b.items) c.args.section.now.blocks.items c.args.set c.requires.inside in
    let p = trailing_zeros w128 c.loop-rest.rest in
    let there =
    laws.low-there s c.args.atoms.now c.args.set c.args.left.now c.loop-rest.rest (made_by c.loop-rest.visit)
    c.loop-rest.left inside i c.loop-rest-test.true (omega arith) in
    let base : get_or c.args.bases.now p 0 ≡ base_at s.blocks p = c.requires.bases.each p there in
    record {
      few = omega (arith, c.requires.few, ap length c.as_slice.ensures.value);
      there =
          below-of (λ b. b.items) c.args.section.now.blocks.items c.as_slice.result.now p c.as_slice.ensures.value
          there;
      size =
          subst (λ bs. get_or c.args.bases.now p 0 + length (get_or bs p []) ≤ 4096) (sym same)
          (omega (arith, base, laws.size_of-within s.blocks p there, c.requires.size));
      finishes =
          subst (λ bs. Finishes
          (block_run bs p (get_or c.args.bases.now p 0) c.args.atoms.now c.loop-rest.left
          (get_or c.args.bases.now p 0) (made_by c.loop-rest.visit))) (sym same)
          (subst
          (λ b. Finishes (block_run s.blocks p b c.args.atoms.now c.loop-rest.left b (made_by c.loop-rest.visit)))
          (sym base)
          (laws.low-finishes s c.args.atoms.now c.args.set c.args.left.now c.loop-rest.rest (made_by c.loop-rest.visit)
          c.loop-rest.left inside i c.loop-rest-test.true (omega arith) c.requires.finishes));
    }

pub loop-rest-smaller : goal.loop-rest-smaller
loop-rest-smaller c =
    let s = section_data c.args.section.now in
    laws.low-less s c.args.atoms.now c.args.set c.args.left.now c.loop-rest.rest (made_by c.loop-rest.visit)
    c.loop-rest.left (inside-of (λ b. b.items) c.args.section.now.blocks.items c.args.set c.requires.inside)
    c.loop-rest.invariant c.loop-rest-test.true (omega arith)

pub loop-rest-preserved : goal.loop-rest-preserved
loop-rest-preserved c =
    let s = section_data c.args.section.now in
    let same = ap (λ bs. blocks_of bs) c.as_slice.ensures.value in
    let i = c.loop-rest.invariant in
    let inside = inside-of (λ b. b.items) c.args.section.now.blocks.items c.args.set c.requires.inside in
    let p = trailing_zeros w128 c.loop-rest.rest in
    let there =
    laws.low-there s c.args.atoms.now c.args.set c.args.left.now c.loop-rest.rest (made_by c.loop-rest.visit)
    c.loop-rest.left inside i c.loop-rest-test.true (omega arith) in
    let base : get_or c.args.bases.now p 0 ≡ base_at s.blocks p = c.requires.bases.each p there in
    laws.low-next s c.args.atoms.now c.args.set c.args.left.now c.loop-rest.rest (made_by c.loop-rest.visit)
    c.loop-rest.left inside i c.loop-rest-test.true (omega arith) (get_or c.args.bases.now p 0) base
    (made_by c.run_block.new.visit) c.run_block.new.left
    (subst
    (λ bs. block_run bs p (get_or c.args.bases.now p 0) c.args.atoms.now c.loop-rest.left
    (get_or c.args.bases.now p 0) (made_by c.loop-rest.visit)
    ≡ done (made_by c.run_block.new.visit) c.run_block.new.left) same c.run_block.ensures)

pub returns : goal.returns
returns c =
    let s = section_data c.args.section.now in
    laws.goes-end s c.args.atoms.now c.args.set c.args.left.now c.loop-rest.rest (made_by c.loop-rest.visit)
    c.loop-rest.left (inside-of (λ b. b.items) c.args.section.now.blocks.items c.args.set c.requires.inside)
    c.loop-rest.invariant c.loop-rest-test.false
