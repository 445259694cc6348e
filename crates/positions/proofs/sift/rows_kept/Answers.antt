use Rattle.std.proofs.Common.{◌≡◌, ◌∙◌, ◌++◌, ◌∷◌, [], List, ℕ, Vec, map, get_or, ap, sym}
use Rattle.std.specs.Global.{Global}
use Rattle.std.proofs.lemmas.List.{append-nil}
use Rattle.positions.specs.declared.edge.Edge as code
use Rattle.positions.specs.Tables.{picked_if}
use Rattle.positions.specs.Living.{sifted_edge}
use Rattle.positions.specs.Rows.{edges_at, is_marked_at}
use Rattle.positions.specs.Views.{rows_data}
use Rattle.positions.proofs.SiftLaws.{keep-next, kept-here, rows-put}
use Rattle.positions.proofs.sift.rows_kept.Goals as goal
use Rattle.positions.proofs.sift.rows_kept.Goals.{then-is_marked+in_ok-kept_row+in_ok-push, else-is_marked}

pub loop-place-preserved : goal.loop-place-preserved
loop-place-preserved c =
    elim c.if-is_marked.branch [
      | then-is_marked+in_ok-kept_row+in_ok-push w ↦
          keep-next (is_marked_at c.args.marks.now) (rows_data c.args.rows.now) c.loop-place.place c.is_marked.result
          (rows_data c.loop-place.all.items) (rows_data c.if-is_marked.all.items) c.loop-place.invariant
          c.is_marked.ensures
          (ap (λ (v : Vec (Vec code.Edge Global) Global). rows_data v.items) w.all-is
          ∙ rows-put c.loop-place.all.items w.in_ok-kept_row.field-0 w.push.new.self.items w.in_ok-push.ensures.items
          ∙ ap (λ es. rows_data c.loop-place.all.items ++ es ∷ [])
          (kept-here (is_marked_at c.args.marks.now) c.args.rows.now c.loop-place.place w.index-rows-place.result
          w.deref.result.now w.in_ok-kept_row.field-0.items c.loop-place-test.true
          (w.deref.ensures.value ∙ ap (λ (v : Vec code.Edge Global). v.items) w.index-rows-place.is)
          w.in_ok-kept_row.ensures)
          ∙ ap (λ b. rows_data c.loop-place.all.items
          ++ picked_if b (map (sifted_edge (is_marked_at c.args.marks.now)) (edges_at (rows_data c.args.rows.now)
          c.loop-place.place) ∷ [])) (sym w.if-is_marked.true))
      | else-is_marked w ↦
          keep-next (is_marked_at c.args.marks.now) (rows_data c.args.rows.now) c.loop-place.place c.is_marked.result
          (rows_data c.loop-place.all.items) (rows_data c.if-is_marked.all.items) c.loop-place.invariant
          c.is_marked.ensures
          (ap (λ (v : Vec (Vec code.Edge Global) Global). rows_data v.items) w.all-is
          ∙ sym (append-nil (rows_data c.loop-place.all.items))
          ∙ ap (λ b. rows_data c.loop-place.all.items
          ++ picked_if b (map (sifted_edge (is_marked_at c.args.marks.now)) (edges_at (rows_data c.args.rows.now)
          c.loop-place.place) ∷ [])) (sym w.if-is_marked.false))
    ]
