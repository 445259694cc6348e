-- Drawings that grow, mark by mark.
use Rattle.std.proofs.Common.{◌≡◌, ◌∙◌, ◌<◌, ◌+◌, ℕ, List, [], ◌∷◌, ◌++◌, Option, None, length, take, get_or}
use Rattle.std.proofs.Common.{refl, sym, ap, subst, append-nil, add-one}
use Rattle.std.proofs.Math.Seq.{take-suc}
use Rattle.std.specs.List.{flat_map}
use Rattle.report_forms.specs.Grown.{Grows}
use Rattle.report_forms.proofs.PieceLaws.{and_then, flat_map-append}
use Rattle.report_explained.specs.declared.sheet.SheetRow.{SheetRow}
use Rattle.report_explained.proofs.ZipLaws.{zip_more}
use Rattle.report_page.specs.Pictures.{Mark, frame, upright, label, wave, mark_text, labels_of, Draws}
use Rattle.report_page.specs.Pictures.{Step, step_text, DrawsSteps}
use Rattle.report_page.specs.Pictures.{AreCellLabels, AreRowLabels}
use Rattle.report_page.specs.Pictures.{DrawsCell, DrawsBoxes, DrawsRow, DrawsRows}

labels-append : (ms ns : List Mark) → labels_of (ms ++ ns) ≡ labels_of ms ++ labels_of ns
labels-append [] ns = refl
labels-append (frame c x y width height ∷ ms) ns = labels-append ms ns
labels-append (upright c x top bottom ∷ ms) ns = labels-append ms ns
labels-append (label c a x y text ∷ ms) ns = ap (λ ls. text ∷ ls) (labels-append ms ns)
labels-append (wave steps ∷ ms) ns = labels-append ms ns

-- one mark
pub one_mark : {s t : List ℕ} (m : Mark) → Grows s t (mark_text m) → Draws s t (labels_of (m ∷ []))
one_mark {s} {t} m g =
    record {
      marks = m ∷ [];
      labelled = refl;
      grown = record { is = g.is ∙ ap (λ l. s ++ l) (sym (append-nil (mark_text m))) };
    }

-- no mark
pub no_mark : (s : List ℕ) → Draws s s []
no_mark s = record { marks = []; labelled = refl; grown = record { is = sym (append-nil s) } }

-- marks, and then others
pub draws_then : {s t u : List ℕ} {a b : List (List ℕ)} → Draws s t a → Draws t u b → Draws s u (a ++ b)
draws_then {s} {t} {u} {a} {b} p q =
    let both = and_then p.grown q.grown in
    record {
      marks = p.marks ++ q.marks;
      labelled = labels-append p.marks q.marks ∙ ap (λ l. l ++ labels_of q.marks) p.labelled
          ∙ ap (λ l. a ++ l) q.labelled;
      grown = record { is = both.is ∙ ap (λ l. s ++ l) (sym (flat_map-append mark_text p.marks q.marks)) };
    }

-- marks, and then others without labels
pub draws_bare : {s t u : List ℕ} {a : List (List ℕ)} → Draws s t a → Draws t u [] → Draws s u a
draws_bare {s} {t} {u} {a} p q = subst (λ l. Draws s u l) (append-nil a) (draws_then p q)

pieces_last : {X : Type 0} (xs : List (List X)) (x : List X) → flat_map (λ l. l) (xs ++ x ∷ [])
    ≡ flat_map (λ l. l) xs ++ x
pieces_last xs x =
    flat_map-append (λ l. l) xs (x ∷ []) ∙ ap (λ l. flat_map (λ l. l) xs ++ l) (append-nil x)

-- the marks of one number more
pub numbers_more : (f : ℕ → List (List ℕ)) (ns : List ℕ) (i : ℕ) (s t u : List ℕ) → i < length ns
    → Draws s t (flat_map f (take i ns)) → Draws t u (f (get_or ns i 0)) → Draws s u (flat_map f (take (i + 1) ns))
numbers_more f ns i s t u below p q =
    let x = get_or ns i 0 in
    let front : take (i + 1) ns ≡ take i ns ++ x ∷ [] =
    ap (λ k. take k ns) (add-one i) ∙ take-suc ns i 0 below in
    let all : flat_map f (take (i + 1) ns) ≡ flat_map f (take i ns) ++ f x =
    ap (flat_map f) front ∙ flat_map-append f (take i ns) (x ∷ [])
    ∙ ap (λ l. flat_map f (take i ns) ++ l) (append-nil (f x)) in
    subst (λ l. Draws s u l) (sym all) (draws_then p q)

-- one step
pub one_step : {s t : List ℕ} (x : Step) → Grows s t (step_text x) → DrawsSteps s t
one_step {s} {t} x g =
    record { steps = x ∷ []; grown = record { is = g.is ∙ ap (λ l. s ++ l) (sym (append-nil (step_text x))) } }

-- the box of one cell more
pub boxes_more : (width : ℕ) (cells : List (Option ℕ)) (i : ℕ) (s t u : List ℕ) → i < length cells
    → DrawsBoxes width (take i cells) s t → DrawsCell width (get_or cells i None) t u
    → DrawsBoxes width (take (i + 1) cells) s u
boxes_more width cells i s t u below p q =
    record {
      labels = p.labels ++ q.labels;
      are = record {
        pieces = p.are.pieces ++ q.labels ∷ [];
        each = zip_more (AreCellLabels width) cells i None q.labels p.are.pieces _ below refl q.are p.are.each;
        are = ap (λ l. l ++ q.labels) p.are.are ∙ sym (pieces_last p.are.pieces q.labels);
      };
      draws = draws_then p.draws q.draws;
    }

-- one row more
pub rows_more : (rows : List SheetRow) (i : ℕ) (d : SheetRow) (s t u : List ℕ) → i < length rows
    → DrawsRows (take i rows) s t → DrawsRow (get_or rows i d) t u → DrawsRows (take (i + 1) rows) s u
rows_more rows i d s t u below p q =
    record {
      labels = p.labels ++ q.labels;
      are = record {
        pieces = p.are.pieces ++ q.labels ∷ [];
        each = zip_more AreRowLabels rows i d q.labels p.are.pieces _ below refl q.are p.are.each;
        are = ap (λ l. l ++ q.labels) p.are.are ∙ sym (pieces_last p.are.pieces q.labels);
      };
      draws = draws_then p.draws q.draws;
    }

-- steps, and then others
pub steps_then : {s t u : List ℕ} → DrawsSteps s t → DrawsSteps t u → DrawsSteps s u
steps_then {s} {t} {u} p q =
    let both = and_then p.grown q.grown in
    record {
      steps = p.steps ++ q.steps;
      grown = record { is = both.is ∙ ap (λ l. s ++ l) (sym (flat_map-append step_text p.steps q.steps)) };
    }
