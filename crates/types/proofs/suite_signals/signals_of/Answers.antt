use Rattle.std.proofs.Common.{◌∷◌, ◌++◌, List, [], take, sym, ◌∙◌, subst, add-one}
use Rattle.std.proofs.lemmas.Option.{none-some}
use Rattle.assertions.specs.declared.signal.Signal.{Signal}
use Rattle.types_names.specs.Views.{scope_of, columns_in}
use Rattle.types.specs.Signals.{DumpHasPaths}
use Rattle.types.specs.Suites.{AreSignals}
use Rattle.types.proofs.SignalLaws.{take_next, drop_next, signal_more}
use Rattle.types.proofs.suite_signals.signals_of.Goals as goal

pub unreachable-requires : goal.unreachable-requires
unreachable-requires c =
    let s = scope_of c.args.scope.now in
    let known =
    subst (DumpHasPaths s)
    (drop_next (columns_in c.args.columns.now) c.loop-column.column c.path-path.result.now
    (sym c.path-path.ensures)) c.loop-column.invariant.known in
    none-some known.0.0 (c.in_default.ensures ∙ known.0.1)

pub loop-column-preserved : goal.loop-column-preserved
loop-column-preserved c =
    let s = scope_of c.args.scope.now in
    let columns = columns_in c.args.columns.now in
    let i = c.loop-column.column in
    let p = c.path-path.result.now in
    let at = sym c.path-path.ensures in
    record {
      known = rw add-one (subst (DumpHasPaths s) (drop_next columns i p at) c.loop-column.invariant.known).1;
      made = rw (add-one, take_next columns i p at)
          (subst (λ (xs : List Signal). AreSignals s (take i columns ++ p ∷ []) xs) (sym c.in_ok-push.ensures.items)
          (signal_more s (take i columns) c.loop-column.signals.items p _ c.loop-column.invariant.made
          c.in_ok-from_str.ensures.ok (sym c.in-Some.ensures)));
    }
