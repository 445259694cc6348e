use Rattle.std.proofs.Common.{sym, ◌∙◌}
use Rattle.types_names.proofs.ColumnLaws.{path-there, path-new}
use Rattle.types_names.proofs.signal_paths.SignalPaths.add.Goals as goal

pub returns-then-contains : goal.returns-then-contains
returns-then-contains c =
    path-there c.args.self.now.paths.keys c.args.path.now (sym c.contains.ensures ∙ c.if-contains.true)

pub returns : goal.returns
returns c =
    path-new c.args.self.now.paths.keys c.insert.new.self.keys c.in_ok-key.key c.args.path.now c.in_ok-key.ensures.ok
    (sym c.contains.ensures ∙ c.if-contains.false) c.in_ok-insert.ensures.keys
