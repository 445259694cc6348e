use Rattle.std.proofs.Common.{sym, ◌∙◌}
use Rattle.types_names.proofs.ColumnLaws.{column-place}
use Rattle.types_names.proofs.signal_paths.SignalPaths.column.Goals as goal

pub returns : goal.returns
returns c = c.get_index_of.ensures.index ∙ sym (column-place c.args.self.now.paths.keys c.args.path.now)
