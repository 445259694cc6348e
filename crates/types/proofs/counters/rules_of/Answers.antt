use Rattle.parser_grammar.specs.Views.{counter_of}
use Rattle.types_names.specs.Views.{scope_of, columns_in}
use Rattle.types.proofs.CounterLaws.{ready-counter}
use Rattle.types.proofs.counters.rules_of.Goals as goal

pub rule_of-requires-clause-sound : goal.rule_of-requires-clause-sound
rule_of-requires-clause-sound c =
    (ready-counter (scope_of c.args.scope.now) (columns_in c.args.columns.now) (counter_of c.args.counter.now)
    c.requires.sound c.requires.listed).1.sound

pub rule_of-requires-clause-listed : goal.rule_of-requires-clause-listed
rule_of-requires-clause-listed c =
    (ready-counter (scope_of c.args.scope.now) (columns_in c.args.columns.now) (counter_of c.args.counter.now)
    c.requires.sound c.requires.listed).1.listed

pub rule_of-requires-2-clause-sound : goal.rule_of-requires-2-clause-sound
rule_of-requires-2-clause-sound c =
    (ready-counter (scope_of c.args.scope.now) (columns_in c.args.columns.now) (counter_of c.args.counter.now)
    c.requires.sound c.requires.listed).2.sound

pub rule_of-requires-2-clause-listed : goal.rule_of-requires-2-clause-listed
rule_of-requires-2-clause-listed c =
    (ready-counter (scope_of c.args.scope.now) (columns_in c.args.columns.now) (counter_of c.args.counter.now)
    c.requires.sound c.requires.listed).2.listed

pub rule_of-requires-3-clause-sound : goal.rule_of-requires-3-clause-sound
rule_of-requires-3-clause-sound c =
    (ready-counter (scope_of c.args.scope.now) (columns_in c.args.columns.now) (counter_of c.args.counter.now)
    c.requires.sound c.requires.listed).3.sound

pub rule_of-requires-3-clause-listed : goal.rule_of-requires-3-clause-listed
rule_of-requires-3-clause-listed c =
    (ready-counter (scope_of c.args.scope.now) (columns_in c.args.columns.now) (counter_of c.args.counter.now)
    c.requires.sound c.requires.listed).3.listed
