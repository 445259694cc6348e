use Rattle.std.proofs.Common.{◌≡◌, ◌<◌, ◌+◌, ℕ, List, ◌∷◌, drop, ap, sym, subst, ◌∙◌, arith, length}
use Rattle.std.proofs.lemmas.List.{length-map}
use Rattle.bytecode_programs.specs.declared.block_instr.BlockInstr.{BlockInstr}
use Rattle.verifier.specs.Rules.{block_rules, section_of_side}
use Rattle.verifier.specs.Inference.{code_faults}
use Rattle.verifier.specs.Scans.{IsFirstOf}
use Rattle.verifier.specs.Sections.{instructions_in}
use Rattle.verifier.specs.Marks.{found_in}
use Rattle.bytecode_programs.specs.Views.{section_data}
use Rattle.verifier.proofs.SectionLaws.{blocks_at, see_start, see_block}
use Rattle.verifier.proofs.section_scan.section_fault.Goals as goal

pub each-init : goal.each-init
each-init c =
    record {
      seen =
          see_start (section_of_side c.args.side) c.args.atoms (section_data c.args.section.now)
          (found_in (section_of_side c.args.side) c.start_fault-first.result)
          (c.start_fault-first.ensures (section_of_side c.args.side));
      size = omega (arith, c.requires.size);
    }

pub each-preserved : goal.each-preserved
each-preserved c =
    let s = section_data c.args.section.now in
    let below : c.each.p < length c.args.section.now.blocks.items =
    omega (arith, c.each-test.true, c.len-positions.ensures, c.args.section.now.blocks.ok.0) in
    let many : c.len-positions.result ≡ length s.blocks =
    omega (
      arith,
      c.len-positions.ensures,
      c.args.section.now.blocks.ok.0,
      length-map c.args.section.now.blocks.items (λ b. b.items),
    ) in
    let block : drop c.each.p s.blocks ≡ c.as_slice-block.result.now ∷ drop (c.each.p + 1) s.blocks =
    blocks_at c.args.section.now.blocks.items c.each.p c.index.result.now below c.index.ensures
    ∙ ap (λ (b : List BlockInstr). b ∷ drop (c.each.p + 1) s.blocks) (sym c.as_slice-block.ensures.value) in
    record {
      seen =
          see_block (section_of_side c.args.side) c.args.atoms s (found_in (section_of_side c.args.side) c.each.first)
          c.each.p c.each.base
          (c.each.invariant.seen) c.as_slice-block.result.now
          (found_in (section_of_side c.args.side) c.earlier-first.result)
          block
          (λ xs first. c.earlier-first.ensures (section_of_side c.args.side) xs _ first
          (subst
          (λ (n : ℕ). IsFirstOf
          (code_faults (block_rules (section_of_side c.args.side) c.args.atoms n c.each.p) c.each.base
          c.as_slice-block.result.now)
          (found_in (section_of_side c.args.side) c.in_ok-scan_block.field-0)) many (c.in_ok-scan_block.ensures)));
      size = omega (arith, c.each.invariant.size, ap instructions_in block);
    }
