use Rattle.std.proofs.Common.{
  ◌≡◌,
  ◌<◌,
  ◌++◌,
  ◌∷◌,
  [],
  List,
  Bool,
  cond,
  None,
  Some,
  refl,
  sym,
  ap,
  ◌∙◌,
  subst,
  length,
  take,
  drop,
  arith,
  map,
}
use Rattle.std.specs.Prelude.{slice_get, slice_set}
use Rattle.std.specs.Option.{is_some}
use Rattle.std.proofs.lemmas.List.{map-append}
use Rattle.cycle_window.specs.Held.{end_in}
use Rattle.machine_batches.specs.declared.batch.Batch.{Batch}
use Rattle.workers_core.specs.declared.worker.Worker.{Worker}
use Rattle.workers_core.specs.States.{WorkerState, BatchState, held, done_of}
use Rattle.workers_core.specs.Standing.{monitor_state}
use Rattle.workers_core.specs.Parts.{
  core_state,
  worker_state,
  batch_state,
  EachIsRight,
  EachIsKnown,
  EachIsTold,
}
use Rattle.workers_core.proofs.CorePartLaws as laws
use Rattle.workers_core.proofs.ToldLaws as told
use Rattle.workers_core.proofs.core_parts.CoreParts.publish.Goals as goal

pub returns-then-is_err-2-clause-reply : goal.returns-then-is_err-2-clause-reply
returns-then-is_err-2-clause-reply c =
    let f = c.args.self.now in
    let ms = f.monitors.items in
    let number = c.in-Some.number in
    let hand : held (map worker_state f.workers.items) c.args.worker ≡ Some number =
    cc (c.in-Some.is, c.held_by.ensures, c.as_slice.ensures.value) in
    let below : number < length ms =
    omega (arith, c.if-number-len.false, c.len.ensures, f.monitors.ok.0) in
    let m = c.index.result.now in
    let at : slice_get ms number ≡ Some m =
    laws.get-some ms number m below ∙ ap (λ x. Some x) (sym c.index.ensures) in
    let here : m.machine.state.standing.now ≡ end_in f.window =
    omega (arith, c.now.ensures, c.if-now-end.false, c.bounds-end.ensures.end) in
    let back =
    laws.of-err c.put_down.result (sym c.is_err-2.ensures.value ∙ c.if-is_err-2.true)
    c.put_down.ensures.refused in
    let lent : map worker_state
    (take f.workers.len
    (c.put_down.new.workers ++ drop (length c.put_down.new.workers) f.workers.items))
    ≡ map worker_state c.put_down.new.workers =
    ap (map worker_state)
    (laws.whole c.put_down.new.workers f.workers.items f.workers.len
    (c.put_down.ensures.len ∙ ap length c.as_mut_slice.ensures.value) f.workers.ok.0) in (
      ap is_some (laws.publishing (core_state f) c.args.worker number (monitor_state m) hand
          (laws.get-mapped monitor_state ms number m at) here),
      laws.same-parts (core_state f) _ _ _ _ _ _ refl
          (lent ∙ back ∙ ap (map worker_state) c.as_mut_slice.ensures.value)
          (ap (map batch_state) c.reserve.ensures.items),
    )

pub returns-clause-reply : goal.returns-clause-reply
returns-clause-reply c =
    let f = c.args.self.now in
    let ms = f.monitors.items in
    let number = c.in-Some.number in
    let hand : held (map worker_state f.workers.items) c.args.worker ≡ Some number =
    cc (c.in-Some.is, c.held_by.ensures, c.as_slice.ensures.value) in
    let below : number < length ms =
    omega (arith, c.if-number-len.false, c.len.ensures, f.monitors.ok.0) in
    let m = c.index_mut-monitor.result.now in
    let new = c.take_batch-batch.new.self in
    let taken = c.take_batch-batch.result in
    let at : slice_get ms number ≡ Some m =
    laws.get-some ms number m below
    ∙ ap (λ x. Some x) (sym c.index_mut-monitor.ensures.value) in
    let pushed : c.push-kept.new.self.items ≡ f.board.items ++ taken ∷ [] =
    c.push-kept.ensures.items
    ∙ ap (λ (b : Bool).
    cond b (c.reserve.new.self.items ++ taken ∷ []) c.reserve.new.self.items)
    (sym c.is_ok.ensures.value ∙ c.if-prove.false)
    ∙ ap (λ bs. bs ++ taken ∷ []) c.reserve.ensures.items in
    let here : m.machine.state.standing.now ≡ end_in f.window =
    ap (λ x. x.machine.state.standing.now)
    (c.index_mut-monitor.ensures.value ∙ laws.get-any ms number m c.index.result.now below
    ∙ sym c.index.ensures)
    ∙ omega (arith, c.now.ensures, c.if-now-end.false, c.bounds-end.ensures.end) in
    let down =
    laws.of-ok c.put_down.result (sym c.is_err-2.ensures.value ∙ c.if-is_err-2.false)
    c.put_down.ensures.done in
    let lent : map worker_state
    (take f.workers.len
    (c.put_down.new.workers ++ drop (length c.put_down.new.workers) f.workers.items))
    ≡ map worker_state c.put_down.new.workers =
    ap (map worker_state)
    (laws.whole c.put_down.new.workers f.workers.items f.workers.len
    (c.put_down.ensures.len ∙ ap length c.as_mut_slice.ensures.value) f.workers.ok.0) in
    let put : List WorkerState → List WorkerState = λ ws.
    slice_set ws c.args.worker
    (record { hand = None; done = done_of (slice_get ws c.args.worker) ++ number ∷ [] }) in
    laws.publishing (core_state f) c.args.worker number (monitor_state m) hand
    (laws.get-mapped monitor_state ms number m at) here
    ∙ ap (λ x. Some x) (laws.same-parts (core_state f) _ _ _ _ _ _
    (laws.cleared-set ms number m new c.take_batch-batch.ensures.cleared)
    (sym (lent ∙ down
    ∙ ap (λ (ws : List Worker). put (map worker_state ws)) c.as_mut_slice.ensures.value))
    (sym (ap (map batch_state) pushed ∙ map-append batch_state f.board.items (taken ∷ [])
    ∙ ap (λ (b : BatchState). map batch_state f.board.items ++ b ∷ [])
    c.take_batch-batch.ensures.batch)))

pub returns-clause-sound : goal.returns-clause-sound
returns-clause-sound c =
    let f = c.args.self.now in
    let ms = f.monitors.items in
    let number = c.in-Some.number in
    let below : number < length ms =
    omega (arith, c.if-number-len.false, c.len.ensures, f.monitors.ok.0) in
    let m = c.index_mut-monitor.result.now in
    let new = c.take_batch-batch.new.self in
    let taken = c.take_batch-batch.result in
    let at : slice_get ms number ≡ Some m =
    laws.get-some ms number m below
    ∙ ap (λ x. Some x) (sym c.index_mut-monitor.ensures.value) in
    let pushed : c.push-kept.new.self.items ≡ f.board.items ++ taken ∷ [] =
    c.push-kept.ensures.items
    ∙ ap (λ (b : Bool).
    cond b (c.reserve.new.self.items ++ taken ∷ []) c.reserve.new.self.items)
    (sym c.is_ok.ensures.value ∙ c.if-prove.false)
    ∙ ap (λ bs. bs ++ taken ∷ []) c.reserve.ensures.items in
    let stands = c.requires.sound.monitors number m at in
    record {
      monitors = laws.stands-set f.window ms number new c.requires.sound.monitors
          (laws.stands-cleared f.window m new stands c.take_batch-batch.ensures.cleared);
      known = subst (λ (bs : List Batch). EachIsKnown (slice_set ms number new) bs) (sym pushed)
          (laws.known-more ms f.board.items number new taken below
          (ap (λ (x : BatchState). x.monitor) c.take_batch-batch.ensures.batch)
          c.requires.sound.known);
      batches =
          subst (λ (bs : List Batch). EachIsRight f.window (slice_set ms number new) bs)
          (sym pushed)
          (laws.right-more f.window ms f.board.items number m new taken at stands
          c.take_batch-batch.ensures.cleared c.take_batch-batch.ensures.batch
          c.requires.sound.batches);
      told =
          subst (λ (bs : List Batch). EachIsTold f.window (slice_set ms number new) bs) (sym pushed)
          (told.told-more f.window ms f.board.items number m new taken at stands
          c.take_batch-batch.ensures.cleared c.take_batch-batch.ensures.batch
          c.requires.sound.told);
    }

pub returns-clause-kept : goal.returns-clause-kept
returns-clause-kept c =
    let f = c.args.self.now in
    let ms = f.monitors.items in
    let number = c.in-Some.number in
    let below : number < length ms =
    omega (arith, c.if-number-len.false, c.len.ensures, f.monitors.ok.0) in
    let m = c.index_mut-monitor.result.now in
    let new = c.take_batch-batch.new.self in
    let at : slice_get ms number ≡ Some m =
    laws.get-some ms number m below
    ∙ ap (λ x. Some x) (sym c.index_mut-monitor.ensures.value) in
    record {
      columns = refl;
      size = refl;
      parts = laws.parts-cleared ms number m new at c.take_batch-batch.ensures.cleared;
    }
