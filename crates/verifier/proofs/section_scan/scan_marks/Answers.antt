use Rattle.std.proofs.Common.{◌≡◌, ◌+◌, ℕ, [], false, length, refl, sym, ◌∙◌, subst, arith}
use Rattle.std.proofs.lemmas.Option.{slice_get-get_or}
use Rattle.bytecode_programs.specs.declared.flow.Flow.{Flow}
use Rattle.bytecode_programs.specs.declared.block_instr.BlockInstr.TheVariants.{Unless}
use Rattle.verifier.specs.Inference.{sends, jump_faults, end_faults}
use Rattle.verifier.specs.Marks.{MarksReached}
use Rattle.verifier.proofs.BlockLaws.{block_start, block_refused, block_step, block_parts}
use Rattle.verifier.proofs.BlockLaws.{block_stop}
use Rattle.verifier.proofs.section_scan.scan_marks.Goals as goal
use Rattle.verifier.specs.Rules.{section_of_side}

pub block-init : goal.block-init
block-init c =
    record {
      read =
          block_start (section_of_side c.args.side) c.args.atoms c.args.positions c.args.p c.args.base c.args.block.now
          c.args.marks.now c.requires.some c.requires.entry;
      long = c.requires.long;
    }

pub returns-in-Some : goal.returns-in-Some
returns-in-Some c =
    block_refused (section_of_side c.args.side) c.args.atoms c.args.positions c.args.p c.args.base c.args.block.now
    c.block.marks c.block.k _
    (Unless 0 0) _ (c.block.invariant.read) (omega arith) refl
    (slice_get-get_or c.block.marks c.block.k false (omega (arith, c.block.invariant.long))) c.in-Some.refusal
    (sym c.in-Some.is ∙ c.block_fault.ensures)

pub mark_on-requires-clause-forward : goal.mark_on-requires-clause-forward
mark_on-requires-clause-forward c =
    let parts =
    block_parts (section_of_side c.args.side) c.args.atoms c.args.positions c.args.p c.args.base c.args.block.now
    c.block.marks c.block.k _
    (Unless 0 0) _ (c.block.invariant.read) (omega arith) refl
    (slice_get-get_or c.block.marks c.block.k false (omega (arith, c.block.invariant.long)))
    (sym c.in-None.is ∙ c.block_fault.ensures) in
    subst (λ (n : ℕ). jump_faults (c.args.base + n) (c.args.base + c.block.k) c.flow.result ≡ [])
    (sym c.block.invariant.long)
    (subst (λ (f : Flow). jump_faults (c.args.base + length c.args.block.now) (c.args.base + c.block.k) f ≡ [])
    (sym c.flow.ensures) parts.0)

pub mark_on-requires-clause-ends : goal.mark_on-requires-clause-ends
mark_on-requires-clause-ends c =
    let parts =
    block_parts (section_of_side c.args.side) c.args.atoms c.args.positions c.args.p c.args.base c.args.block.now
    c.block.marks c.block.k _
    (Unless 0 0) _ (c.block.invariant.read) (omega arith) refl
    (slice_get-get_or c.block.marks c.block.k false (omega (arith, c.block.invariant.long)))
    (sym c.in-None.is ∙ c.block_fault.ensures) in
    subst (λ (n : ℕ). end_faults (c.args.base + n) (c.args.base + c.block.k) c.flow.result ≡ [])
    (sym c.block.invariant.long)
    (subst (λ (f : Flow). end_faults (c.args.base + length c.args.block.now) (c.args.base + c.block.k) f ≡ [])
    (sym c.flow.ensures) parts.1)

pub block-preserved : goal.block-preserved
block-preserved c =
    record {
      read =
          block_step (section_of_side c.args.side) c.args.atoms c.args.positions c.args.p c.args.base c.args.block.now
          c.block.marks c.block.k
          _ (Unless 0 0) _ (c.block.invariant.read) (omega arith) refl
          (slice_get-get_or c.block.marks c.block.k false (omega (arith, c.block.invariant.long))) c.mark_on.new.marks
          (sym c.in-None.is ∙ c.block_fault.ensures)
          (λ ms reached. subst
          (λ (f : Flow). MarksReached c.args.base c.mark_on.new.marks (sends (c.args.base + c.block.k) f [] ms))
          c.flow.ensures (c.mark_on.ensures.marks ms reached));
      long = c.mark_on.ensures.long ∙ c.block.invariant.long;
    }

pub returns : goal.returns
returns c =
    block_stop (section_of_side c.args.side) c.args.atoms c.args.positions c.args.p c.args.base c.args.block.now
    c.block.marks
    c.block.k (c.block.invariant.read) (omega arith)
