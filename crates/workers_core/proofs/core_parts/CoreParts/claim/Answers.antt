use Rattle.std.proofs.Common.{
  ◌≡◌,
  ◌<◌,
  ◌∷◌,
  drop,
  List,
  ℕ,
  Some,
  true,
  sym,
  ap,
  ◌∙◌,
  length,
  arith,
  map,
}
use Rattle.std.proofs.lemmas.List.{map-set}
use Rattle.std.specs.Prelude.{slice_set, slice_get}
use Rattle.cycle_window.specs.Held.{end_in}
use Rattle.workers_core.specs.States.{done_of, is_free_one, is_below}
use Rattle.workers_core.specs.Standing.{monitor_state}
use Rattle.workers_core.specs.Parts.{core_state, worker_state}
use Rattle.workers_core.proofs.CorePartLaws as laws
use Rattle.workers_core.proofs.core_parts.CoreParts.claim.Goals as goal

pub returns-clause-reply : goal.returns-clause-reply
returns-clause-reply c =
    let f = c.args.self.now in
    let ws = f.workers.items in
    let front = c.index-front.result.now in
    let free : is_free_one (slice_get (map worker_state ws) c.args.worker) ≡ true =
    cc (c.if-not-is_free_worker.false, c.is_free_worker.ensures, c.as_slice-2.ensures.value) in
    let below : is_below (end_in f.window) (slice_get (map monitor_state f.monitors.items) front)
    ≡ true =
    cc (
      c.if-not-below.false,
      c.stands_below-below.ensures,
      c.as_slice.ensures.value,
      c.bounds-end.ensures.end,
    ) in
    let some : 0 < length f.waiting.items =
    grind (arith, c.is_empty.ensures, c.if-is_empty.false, f.waiting.ok.0) in
    let done : c.index_mut.result.now.done.items
    ≡ done_of (slice_get (map worker_state ws) c.args.worker) =
    ap (λ x. x.done.items) c.index_mut.ensures.value
    ∙ laws.done-is ws c.args.worker c.index_mut.result.now free in
    laws.claimed (core_state f) c.args.worker front c.pop_front.new.self.items _
    (laws.head-first f.waiting.items front some
    ∙ ap (λ (x : ℕ). x ∷ drop 1 f.waiting.items) (sym c.index-front.ensures)
    ∙ ap (λ (xs : List ℕ). front ∷ xs) (sym c.pop_front.ensures.rest))
    free below
    (map-set worker_state ws c.args.worker
    (record { hand = Some front; done = c.index_mut.result.now.done })
    ∙ ap (λ (ds : List ℕ).
    slice_set (map worker_state ws) c.args.worker (record { hand = Some front; done = ds }))
    done)
