use Rattle.std.proofs.Common.{map, sym, ◌∙◌}
use Rattle.parser_grammar.specs.Views.{item_of}
use Rattle.types_names.specs.Views.{scope_of}
use Rattle.types.proofs.StageLaws.{first_3, refused_memory}
use Rattle.types.proofs.stages.check_concatenations.Goals as goal

pub returns-in_err-first_fault-clause-err : goal.returns-in_err-first_fault-clause-err
returns-in_err-first_fault-clause-err c =
    refused_memory (scope_of c.args.scope.now) (map item_of c.args.items.now)
    c.from_residual.result c.from_residual.ensures.1

pub returns-in-Some-clause-err : goal.returns-in-Some-clause-err
returns-in-Some-clause-err c =
    first_3 (scope_of c.args.scope.now) (map item_of c.args.items.now) c.in-Some.at
    c.requires.clear (sym c.in_ok-first_fault.ensures ∙ c.in-Some.is)
