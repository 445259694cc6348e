use Rattle.std.proofs.Common.{◌≡◌, refl, inl, inr, ℕ, ◌<◌, [], ◌∷◌, length, get_or, ap, ◌∙◌, arith, length-append}
use Rattle.std.proofs.Math.ListN.{length-map}
use Rattle.std.proofs.lemmas.Bool.{cases_lt}
use Rattle.std.proofs.lemmas.List.{get_or_append_left, get_or_push}
use Rattle.bytecode_programs.specs.Views.{section_data}
use Rattle.machine.specs.Bases.{base_at}
use Rattle.machine.proofs.RunLaws.{block-is}
use Rattle.machine.proofs.SetLaws.{size_of-more, size_of-within}
use Rattle.machine.proofs.bases.bases_of.Goals as goal

pub overflow_add-base : goal.overflow_add-base
overflow_add-base c =
    let bs = (section_data c.args.section.now).blocks in
    let p : ℕ = c.loop-p.p in
    let there : p < length bs = rw length-map (omega (arith, c.loop-p-test.true, c.len-p-end.ensures)) in
    let block =
    block-is (λ b. b.items) c.args.section.now.blocks.items p c.index.result.now c.index.result.now.items
    (omega (arith, c.loop-p-test.true, c.len-p-end.ensures)) c.index.ensures refl in
    omega (arith, c.requires, c.loop-p.invariant.here, size_of-within bs p there, ap length block, c.len-base.ensures)

pub loop-p-preserved : goal.loop-p-preserved
loop-p-preserved c =
    let bs = (section_data c.args.section.now).blocks in
    let p : ℕ = c.loop-p.p in
    let there : p < length bs = rw length-map (omega (arith, c.loop-p-test.true, c.len-p-end.ensures)) in
    let block =
    block-is (λ b. b.items) c.args.section.now.blocks.items p c.index.result.now c.index.result.now.items
    (omega (arith, c.loop-p-test.true, c.len-p-end.ensures)) c.index.ensures refl in
    record {
      here = omega (arith, c.loop-p.invariant.here, size_of-more bs p there, ap length block, c.len-base.ensures);
      all = ap length c.in_ok-push.ensures.items ∙ length-append c.loop-p.bases.items (c.loop-p.base ∷ [])
          ∙ omega (arith, c.loop-p.invariant.all);
      each = λ k below.
          ap (λ l. get_or l k 0) c.in_ok-push.ensures.items
          ∙ elim (cases_lt k p) [
            | inl lt ↦ get_or_append_left c.loop-p.bases.items (c.loop-p.base ∷ []) 0 k
                (omega (arith, lt, c.loop-p.invariant.all)) ∙ c.loop-p.invariant.each k lt
            | inr ge ↦
                let e : p ≡ k = omega (arith, ge, below) in
                get_or_push c.loop-p.bases.items c.loop-p.base 0 k (omega (arith, e, c.loop-p.invariant.all))
                ∙ c.loop-p.invariant.here ∙ ap (base_at bs) e
          ];
    }
