use Rattle.std.proofs.Common.{
  ◌≡◌,
  ◌+◌,
  ◌<◌,
  ℕ,
  List,
  Some,
  length,
  map,
  take,
  refl,
  sym,
  ap,
  ◌∙◌,
  subst,
  arith,
  length-append,
}
use Rattle.std.specs.Prelude.{slice_get}
use Rattle.signals.specs.declared.verdict.Decided.{Decided}
use Rattle.workers_core.specs.States.{published_by}
use Rattle.workers_core.specs.Parts.{batch_state}
use Rattle.workers_core.specs.declared.growing_line.GrowingLine.{GrowingLine}
use Rattle.workers_core.specs.Taken.{TookIn, of_monitor}
use Rattle.workers_core.proofs.TakenLaws as laws
use Rattle.workers_core.proofs.published_lines.lines_published.Goals as goal

pub take_batch-requires : goal.take_batch-requires
take_batch-requires c = λ l at.
    let bs = c.args.board.now in
    let k = c.loop-batch.batch-index in
    let b = c.batch-item.result in
    let i = b.monitor in
    let ls = c.loop-batch.lines.items in
    let here : slice_get ls i ≡ Some l =
    ap (λ (xs : List GrowingLine). slice_get xs i) (sym c.as_mut_slice.ensures.value) ∙ at in
    let took = c.loop-batch.invariant.took i l here in
    let before = published_by (map batch_state (take k bs)) i in
    let more =
    ap (λ (ds : List Decided). length ds)
    (laws.published-more bs k b i c.loop-batch-test.true c.batch-item.is) in
    let both = length-append before (of_monitor b i) in
    let own = ap (λ (ds : List Decided). length ds) (laws.own-of b i refl) in
    let few = laws.published-few bs (k + 1) i in
    let inside : i < c.args.count =
    omega (arith, laws.within ls i l here, c.loop-batch.invariant.long) in
    let low = c.requires i inside in
    omega (arith, took.many, more, both, own, few, low)

pub loop-batch-preserved : goal.loop-batch-preserved
loop-batch-preserved c =
    let bs = c.args.board.now in
    let k = c.loop-batch.batch-index in
    let b = c.batch-item.result in
    let old = c.loop-batch.lines.items in
    let new = c.take_batch.new.lines in
    let lens : length new ≡ length old =
    c.take_batch.ensures.long
    ∙ ap (λ (xs : List GrowingLine). length xs) c.as_mut_slice.ensures.value in
    let whole = laws.lent new old c.loop-batch.lines.len lens c.loop-batch.lines.ok.0 in
    let before : ℕ → List Decided = λ i. published_by (map batch_state (take k bs)) i in
    record {
      long = ap (λ (xs : List GrowingLine). length xs) whole ∙ lens ∙ c.loop-batch.invariant.long;
      took = λ i x at.
          let here : slice_get new i ≡ Some x =
          ap (λ (xs : List GrowingLine). slice_get xs i) (sym whole) ∙ at in
          subst (TookIn x) (laws.published-more bs k b i c.loop-batch-test.true c.batch-item.is)
          (c.in_ok-take_batch.ensures.took before
          (λ j y there.
          c.loop-batch.invariant.took j y
          (ap (λ (xs : List GrowingLine). slice_get xs j) (sym c.as_mut_slice.ensures.value)
          ∙ there)) i x here);
    }
