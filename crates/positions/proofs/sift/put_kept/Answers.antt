use Rattle.std.proofs.Common.{◌≡◌, ◌∙◌, ◌++◌, ◌∷◌, [], List, ℕ, Vec, get_or, ap, sym}
use Rattle.std.specs.Global.{Global}
use Rattle.std.proofs.lemmas.List.{append-nil}
use Rattle.positions.specs.Tables.{picked_if}
use Rattle.positions.specs.Living.{kept_below}
use Rattle.positions.specs.Rows.{is_marked_at}
use Rattle.positions.proofs.SiftLaws.{put-more}
use Rattle.positions.proofs.sift.put_kept.Goals as goal
use Rattle.positions.proofs.sift.put_kept.Goals.{then-is_marked+in_ok-push, else-is_marked}

pub loop-position-preserved : goal.loop-position-preserved
loop-position-preserved c =
    let i : ℕ = c.loop-position.position-index in
    let qs : List ℕ = c.args.positions.now in
    elim c.if-is_marked.branch [
      | then-is_marked+in_ok-push w ↦
          put-more (is_marked_at c.args.marks.now) c.args.list.now.items c.loop-position.list.items
          c.if-is_marked.list.items
          qs i c.is_marked.result c.loop-position-test.true c.loop-position.invariant c.is_marked.ensures
          (ap (λ (v : Vec ℕ Global). v.items) w.list-is ∙ w.in_ok-push.ensures.items
          ∙ ap (λ n. c.loop-position.list.items ++ n ∷ []) w.rank_of.ensures.rank
          ∙ ap (λ b. c.loop-position.list.items
          ++ picked_if b (kept_below (is_marked_at c.args.marks.now) (get_or qs i 0) ∷ []))
          (sym w.if-is_marked.true))
      | else-is_marked w ↦
          put-more (is_marked_at c.args.marks.now) c.args.list.now.items c.loop-position.list.items
          c.if-is_marked.list.items
          qs i c.is_marked.result c.loop-position-test.true c.loop-position.invariant c.is_marked.ensures
          (ap (λ (v : Vec ℕ Global). v.items) w.list-is ∙ sym (append-nil c.loop-position.list.items)
          ∙ ap (λ b. c.loop-position.list.items
          ++ picked_if b (kept_below (is_marked_at c.args.marks.now) (get_or qs i 0) ∷ []))
          (sym w.if-is_marked.false))
    ]
