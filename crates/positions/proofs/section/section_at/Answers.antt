use Rattle.std.proofs.Common.{◌≤◌, ◌<◌, sym, subst, ap, arith}
use Rattle.verifier.specs.Sections.{instructions_in}
use Rattle.positions.specs.Rows.{rows_size}
use Rattle.positions.specs.Views.{rows_data}
use Rattle.positions.proofs.BlockLaws.{blocks-size}
use Rattle.positions.proofs.section.section_at.Goals as goal

pub returns-clause-short : goal.returns-clause-short
returns-clause-short c =
    subst (λ bs. instructions_in bs ≤ 4096) (sym c.in_ok-blocks.ensures.made)
    (omega (arith, blocks-size 0 (rows_data c.rows.result.now), c.in_ok-blocks.ensures.size))

pub returns-then-blocks-gt-LONGEST-clause-err : goal.returns-then-blocks-gt-LONGEST-clause-err
returns-then-blocks-gt-LONGEST-clause-err c = λ is.
    omega (
      arith,
      c.if-blocks-gt-LONGEST.true,
      c.in_ok-blocks.ensures.size,
      ap rows_size c.rows.ensures.rows,
      blocks-size 0 c.args.table.now.rows,
    )
