use Rattle.std.proofs.Common.{◌≡◌, ◌∙◌, ◌++◌, [], ◌∷◌, List, ℕ, Vec, String, Global, map, string_bytes, sym, ap}
use Rattle.std.proofs.Common.{append-nil}
use Rattle.std.specs.Prelude.{slice_get}
use Rattle.std.proofs.lemmas.List.{map-append}
use Rattle.report_explained.specs.SheetText.{gap_text, is_gap}
use Rattle.report_explained.proofs.SheetLaws.{copied_is, gaps_more, gaps_all}
use Rattle.report_explained.proofs.sheet_text.with_gaps.Goals as goal
use Rattle.report_explained.proofs.sheet_text.with_gaps.Goals.{then-is_gap+in_ok-from_str+in_ok-push, else-is_gap}

pub loop-place-preserved : goal.loop-place-preserved
loop-place-preserved c =
    let old = c.loop-place.cells.items in
    let mid = c.if-is_gap.cells.items in
    let clock = c.copied-clock.result in
    let gap : map string_bytes mid ≡ map string_bytes old ++ gap_text (is_gap c.loop-place.before clock) =
    elim c.if-is_gap.branch [
      | then-is_gap+in_ok-from_str+in_ok-push w ↦
          ap (λ (v : Vec (String Global) Global). map string_bytes v.items) w.cells-is
          ∙ ap (map string_bytes) w.in_ok-push.ensures.items
          ∙ map-append string_bytes old (w.in_ok-from_str.field-0 ∷ [])
          ∙ ap (λ (t : List ℕ). map string_bytes old ++ t ∷ []) w.in_ok-from_str.ensures.ok
          ∙ ap (λ b. map string_bytes old ++ gap_text b) w.if-is_gap.ensures
      | else-is_gap w ↦
          ap (λ (v : Vec (String Global) Global). map string_bytes v.items) w.cells-is
          ∙ sym (append-nil (map string_bytes old))
          ∙ ap (λ b. map string_bytes old ++ gap_text b) w.if-is_gap.ensures
    ] in
    let put : map string_bytes c.push-in-loop-place.new.self.items
    ≡ map string_bytes mid ++ string_bytes c.index-texts-place.result ∷ [] =
    ap (map string_bytes) c.in_ok-push-2.ensures.items
    ∙ map-append string_bytes mid (c.in_ok-clone.field-0 ∷ [])
    ∙ ap (λ (t : List ℕ). map string_bytes mid ++ t ∷ []) c.in_ok-clone.ensures.cases in
    let here : clock ≡ slice_get c.args.clocks.now c.loop-place.place =
    c.copied-clock.ensures
    ∙ copied_is _ c.args.clocks.now c.loop-place.place c.get.result c.get.ensures.lookup.1 c.get.ensures.lookup.3 in
    gaps_more c.args.clocks.now c.args.texts.now c.loop-place.before clock c.loop-place.place c.index-texts-place.result
    (map string_bytes old) (map string_bytes mid) _ _ c.loop-place-test.true here c.index-texts-place.is gap put
    c.loop-place.invariant

pub returns : goal.returns
returns c =
    gaps_all c.args.clocks.now c.args.texts.now c.loop-place.before c.loop-place.place _ _ c.loop-place-test.false
    c.loop-place.invariant
