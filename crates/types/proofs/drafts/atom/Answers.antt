use Rattle.std.proofs.Common.{arith}
use Rattle.parser_grammar.specs.Views.{tree_of}
use Rattle.types_names.specs.Views.{scope_of, columns_in}
use Rattle.types.proofs.ReadingLaws.{new_atom}
use Rattle.types.proofs.drafts.atom.Goals as goal

pub returns-clause-atom : goal.returns-clause-atom
returns-clause-atom c =
    new_atom (scope_of c.args.scope.now) (columns_in c.args.columns.now) c.args.booleans.now.items c.push.new.self.items
    (tree_of c.args.expr.now) c.in_ok-expression.expression c.len-place.result
    (omega (arith, c.len-place.ensures, c.args.booleans.now.ok)) c.in_ok-push.ensures.items
    c.in_ok-expression.ensures
