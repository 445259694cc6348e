use Rattle.std.proofs.Common.{ℕ, List, map, subst}
use Rattle.parser_grammar.specs.Views.{item_of}
use Rattle.types_names.specs.Views.{scope_of, columns_in}
use Rattle.types_names.proofs.ColumnLaws.{columns-all}
use Rattle.types.specs.Readings.{AllRead}
use Rattle.types.specs.Resolved.{AreResolved}
use Rattle.types.specs.Suites.{AreSignals, AreCounters, AreAssertions}
use Rattle.types.specs.Texts.{declarations_of, assertions_of, counters_of}
use Rattle.types.proofs.BodyLaws.{bodies_in}
use Rattle.types.proofs.SignalLaws.{columns_known}
use Rattle.types.proofs.StageLaws.{clear_sound, refused_memory}
use Rattle.types.proofs.suite.suite_of.Goals as goal

pub counters_of-requires-clause-sound : goal.counters_of-requires-clause-sound
counters_of-requires-clause-sound c =
    clear_sound (scope_of c.args.scope.now) (map item_of c.args.items.now) c.requires.clear

pub counters_of-requires-clause-listed : goal.counters_of-requires-clause-listed
counters_of-requires-clause-listed c =
    rw c.requires.columns (columns-all (scope_of c.args.scope.now) (map item_of c.args.items.now))

pub signals_of-requires : goal.signals_of-requires
signals_of-requires c =
    rw c.requires.columns (columns_known (scope_of c.args.scope.now) (map item_of c.args.items.now))

pub returns-in_err-signals_of-clause-refused : goal.returns-in_err-signals_of-clause-refused
returns-in_err-signals_of-clause-refused c =
    refused_memory (scope_of c.args.scope.now) (map item_of c.args.items.now) c.from_residual-in_err-signals_of.result
    c.from_residual-in_err-signals_of.ensures.1

pub returns-in_err-counters_of-clause-refused : goal.returns-in_err-counters_of-clause-refused
returns-in_err-counters_of-clause-refused c =
    refused_memory (scope_of c.args.scope.now) (map item_of c.args.items.now)
    c.from_residual-in_err-counters_of.result c.from_residual-in_err-counters_of.ensures.1

pub assertions_of-requires : goal.assertions_of-requires
assertions_of-requires c = rw c.as_slice.ensures.value c.in_ok-resolved.ensures.resolved.fit

pub returns-in_err-assertions_of-clause-refused : goal.returns-in_err-assertions_of-clause-refused
returns-in_err-assertions_of-clause-refused c =
    refused_memory (scope_of c.args.scope.now) (map item_of c.args.items.now)
    c.from_residual-in_err-assertions_of.result c.from_residual-in_err-assertions_of.ensures.1

pub returns-clause-suite : goal.returns-clause-suite
returns-clause-suite c =
    let s = scope_of c.args.scope.now in
    let items = map item_of c.args.items.now in
    let e = c.resolved_of.new.booleans.items in
    let h = c.in_ok-resolved.ensures.resolved in
    let all : AreResolved s (columns_in c.args.columns.now) e h.bodies 0 (assertions_of items) c.as_slice.result.now =
    rw c.as_slice.ensures.value h.made in
    let is = c.requires.columns in
    record {
      bodies = h.bodies;
      clock = c.requires.clock;
      signals =
          subst (λ (ps : List (List ℕ)). AreSignals s ps c.in_ok-signals_of.field-0.items) is
          c.in_ok-signals_of.ensures;
      counters =
          subst (λ (ps : List (List ℕ)). AreCounters s ps (counters_of items) c.in_ok-counters_of.field-0.items) is
          c.in_ok-counters_of.ensures;
      read = subst (λ (ps : List (List ℕ)). AllRead s ps e (bodies_in (declarations_of items)) h.bodies) is h.read;
      assertions =
          subst (λ (ps : List (List ℕ)). AreAssertions s ps e h.bodies 0 (assertions_of items)
          c.in_ok-assertions_of.field-0.items) is
          (c.in_ok-assertions_of.ensures s (columns_in c.args.columns.now) e h.bodies (assertions_of items) all);
    }
