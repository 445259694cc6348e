use Rattle.parser_grammar.specs.Views.{counter_of}
use Rattle.types_names.specs.Views.{scope_of, columns_in}
use Rattle.types.proofs.CounterLaws.{ready-counter}
use Rattle.types.proofs.counters.counter_of.Goals as goal

pub condition_of-requires-clause-sound : goal.condition_of-requires-clause-sound
condition_of-requires-clause-sound c =
    (ready-counter (scope_of c.args.scope.now) (columns_in c.args.columns.now) (counter_of c.args.counter.now)
    c.requires.sound c.requires.listed).0.sound

pub condition_of-requires-clause-listed : goal.condition_of-requires-clause-listed
condition_of-requires-clause-listed c =
    (ready-counter (scope_of c.args.scope.now) (columns_in c.args.columns.now) (counter_of c.args.counter.now)
    c.requires.sound c.requires.listed).0.listed
