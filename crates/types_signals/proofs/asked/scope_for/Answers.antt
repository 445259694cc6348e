use Rattle.std.proofs.Common.{map}
use Rattle.parser_grammar.specs.Views.{item_of}
use Rattle.types_names.specs.Views.{widths_of, scope_of, columns_in}
use Rattle.types_signals.proofs.AskedLaws.{over-asked}
use Rattle.types_signals.proofs.asked.scope_for.Goals as goal

pub returns : goal.returns
returns g c =
    over-asked (scope_of c.in_ok-any.any) (scope_of c.over.result) (map item_of c.args.items.now)
    (columns_in c.in_ok-asked.asked) (widths_of c.in_ok-names.names)
    (g.W.PathWidths.widths c.args.widths.now) c.in_ok-any.ensures c.in_ok-asked.ensures c.in_ok-names.ensures
    c.over.ensures
