use Rattle.std.proofs.Common.{◌≡◌, ◌∙◌, ◌++◌, ◌+◌, ℕ, suc, List, ap, arith, map, take, drop}
use Rattle.std.specs.Prelude.{slice_set, slice_index}
use Rattle.diagnostics.specs.Blanked.{blank_for}
use Rattle.diagnostics.proofs.BlankLaws.{blank-more}
use Rattle.diagnostics.proofs.blank.blank_all.Goals as goal

pub loop-byte-preserved : goal.loop-byte-preserved
loop-byte-preserved c =
    let i = c.loop-byte.byte-index in
    let xs = c.args.bytes.now in
    let next : suc i ≡ i + 1 = omega arith in
    ap (λ (b : ℕ). slice_set c.loop-byte.bytes i b) c.blank_for.ensures
    ∙ ap (λ (bs : List ℕ). slice_set bs i (blank_for (slice_index bs i))) c.loop-byte.invariant
    ∙ blank-more blank_for xs i c.loop-byte-test.true
    ∙ ap (λ (n : ℕ). map blank_for (take n xs) ++ drop n xs) next
