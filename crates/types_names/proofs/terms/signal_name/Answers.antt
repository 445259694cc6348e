use Rattle.std.proofs.Common.{sym}
use Rattle.types_names.specs.Views.{columns_in}
use Rattle.types_names.proofs.ColumnLaws.{column-there}
use Rattle.types_names.proofs.terms.signal_name.Goals as goal

pub unreachable-requires : goal.unreachable-requires
unreachable-requires c =
    column-there (columns_in c.args.columns.now) c.args.text.now c.requires.listed (sym c.in-None.ensures)
