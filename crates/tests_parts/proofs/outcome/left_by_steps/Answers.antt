-- The row that is entered is the ring's newest.
use Rattle.std.proofs.Common.{◌≡◌, ◌-◌, ◌∷◌, ◌++◌, List, [], ℕ, length, take, drop, refl, sym, ap, ◌∙◌, subst}
use Rattle.std.proofs.Common.{append-nil, arith}
use Rattle.std.proofs.lemmas.List.{take_all, length-drop}
use Rattle.bytecode_programs.specs.Programs.{data_of}
use Rattle.bytecode_programs.specs.Instructions.{frame_of}
use Rattle.machine_checked.specs.Values.{AreValues}
use Rattle.machine_sample_code.specs.Memory.{AreRows}
use Rattle.machine_sample_code.proofs.DecodedRowLaws.{read-rows, read-newest}
use Rattle.tests_parts.proofs.outcome.left_by_steps.Goals as goal

-- what is after the constant
whole : (row : List ℕ) → row ≡ 1 ∷ drop 1 row → 1 ∷ (take (length row - 1) (drop 1 row) ++ []) ≡ row
whole row one =
    ap (λ (l : List ℕ). 1 ∷ l)
    (append-nil (take (length row - 1) (drop 1 row))
    ∙ take_all (length row - 1) (drop 1 row) (omega (arith, length-drop 1 row)))
    ∙ sym one

pub enter-requires-clause-row : goal.enter-requires-clause-row
enter-requires-clause-row c =
    let p = data_of c.args.program.now in
    let row = c.args.row.now in
    let one = c.begins_with_one.ensures c.if-not-begins_with_one.false in
    let is = whole row one in
    subst (AreValues (frame_of p).slots) (sym is)
    (subst (λ ws. AreValues ws row) c.requires.rows.slots c.requires.fits)

pub run-cost-requires-clause-rows : goal.run-cost-requires-clause-rows
run-cost-requires-clause-rows c =
    let p = data_of c.args.program.now in
    let row = c.args.row.now in
    let one = c.begins_with_one.ensures c.if-not-begins_with_one.false in
    let is = whole row one in
    let are : AreRows p (frame_of p).slots c.args.ring.now =
    record {
      slots = refl;
      depth = c.requires.rows.depth;
      row = c.requires.rows.row;
      fits = c.requires.rows.fits;
    } in
    read-rows p c.enter.new.self c.args.ring.now row (c.enter.ensures.row ∙ is)
    (subst (λ ws. AreValues ws row) c.requires.rows.slots c.requires.fits) are c.requires.newest

pub run-cost-requires-clause-row : goal.run-cost-requires-clause-row
run-cost-requires-clause-row c =
    let p = data_of c.args.program.now in
    let row = c.args.row.now in
    let one = c.begins_with_one.ensures c.if-not-begins_with_one.false in
    let is = whole row one in
    let are : AreRows p (frame_of p).slots c.args.ring.now =
    record {
      slots = refl;
      depth = c.requires.rows.depth;
      row = c.requires.rows.row;
      fits = c.requires.rows.fits;
    } in
    read-newest p c.enter.new.self c.args.ring.now row (c.enter.ensures.row ∙ is)
    (subst (λ ws. AreValues ws row) c.requires.rows.slots c.requires.fits) are c.requires.newest
