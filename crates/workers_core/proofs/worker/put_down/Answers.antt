use Rattle.std.proofs.Common.{◌++◌, ◌∷◌, [], List, ℕ, None, sym, ap, ◌∙◌, map}
use Rattle.std.specs.Prelude.{slice_index_or, slice_set}
use Rattle.std.proofs.lemmas.List.{map-set}
use Rattle.workers_core.specs.States.{done_of}
use Rattle.workers_core.specs.Parts.{worker_state}
use Rattle.workers_core.proofs.CorePartLaws as laws
use Rattle.workers_core.proofs.worker.put_down.Goals as goal

pub returns-in_err-push-clause-refused : goal.returns-in_err-push-clause-refused
returns-in_err-push-clause-refused c =
    let ws = c.args.workers.now in
    let w = c.args.worker in
    let x = slice_index_or ws w c.index-workers-worker.result in
    laws.on-err c.from_residual.result
    (laws.set-same worker_state ws w x (record { hand = x.hand; done = c.push.new.self })
    (laws.get-some ws w c.index-workers-worker.result c.requires)
    (ap (λ (ds : List ℕ). record { hand = x.hand; done = ds }) c.in_err-push.ensures.items))

pub returns-clause-done : goal.returns-clause-done
returns-clause-done c =
    let ws = c.args.workers.now in
    let w = c.args.worker in
    let x = slice_index_or ws w c.index-workers-worker.result in
    let at =
    laws.get-mapped worker_state ws w x
    (laws.get-some ws w c.index-workers-worker.result c.requires) in
    map-set worker_state ws w (record { hand = None; done = c.push.new.self })
    ∙ ap (λ (ds : List ℕ). slice_set (map worker_state ws) w (record { hand = None; done = ds }))
    (c.in_ok-push.ensures.items
    ∙ ap (λ (ds : List ℕ). ds ++ c.args.number ∷ []) (sym (ap done_of at)))
