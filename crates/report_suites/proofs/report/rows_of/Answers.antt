use Rattle.std.proofs.Common.{◌≡◌, ◌∙◌, ℕ, List, None, map, ap}
use Rattle.std.proofs.lemmas.Result.{IfOk-weaker}
use Rattle.vcd_reader.specs.Held.{variables_of}
use Rattle.cycle_window.specs.Bound.{first_refused}
use Rattle.cycle_window.specs.Held.{code_in, places_in}
use Rattle.cycle_window.specs.Signals.{wanted_of}
use Rattle.cycle_window.specs.Ticks.{ticks_of, row_of}
use Rattle.report_suites.specs.Named.{wanted_in_suite}
use Rattle.report_suites.proofs.ReportLaws.{column_places, none_refused, memory_alone}
use Rattle.report_suites.proofs.report.rows_of.Goals as goal

pub returns-in-Ok : goal.returns-in-Ok
returns-in-Ok c = λ k signals holds named.
    let names = c.args.suite.now.names.items in
    let ticks = ticks_of k (code_in c.args.clocks.now) in
    let asked : map wanted_of c.as_slice-2.result.now ≡ map wanted_in_suite names =
    ap (map wanted_of) c.as_slice-2.ensures.value ∙ c.in_ok-signals.ensures
    ∙ ap (map wanted_in_suite) c.as_slice.ensures.value in
    let places : places_in c.in-Ok.columns ≡ signals =
    column_places (variables_of c.args.dump.now) names (map wanted_of c.as_slice-2.result.now)
    (places_in c.in-Ok.columns) signals c.in-Ok.ensures.places asked named in
    IfOk-weaker c.rows_through.result _ _
    (λ rows each. each k holds ∙ ap (λ (ps : List ℕ). map (row_of k ps) ticks) places)
    c.rows_through.ensures

pub want_of_memory-requires : goal.want_of_memory-requires
want_of_memory-requires c =
    let names = c.args.suite.now.names.items in
    let vs = variables_of c.args.dump.now in
    let asked : map wanted_of c.as_slice-2.result.now ≡ map wanted_in_suite names =
    ap (map wanted_of) c.as_slice-2.ensures.value ∙ c.in_ok-signals.ensures
    ∙ ap (map wanted_in_suite) c.as_slice.ensures.value in
    let none : first_refused vs (map wanted_of c.as_slice-2.result.now) ≡ None =
    ap (first_refused vs) asked ∙ none_refused vs names c.requires.named in
    memory_alone vs (map wanted_of c.as_slice-2.result.now) c.in-Err.fault none
    c.in-Err.ensures.fault
