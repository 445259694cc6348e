use Rattle.vcd_reader.specs.Held.{variables_of}
use Rattle.parser_grammar.specs.Views.{items_of}
use Rattle.types_names.specs.Columns.{columns_of}
use Rattle.suite_over_dump.specs.Dumps.{width_named}
use Rattle.suite_over_dump.specs.Suites.{scope_over}
use Rattle.lint_dump_notes.proofs.WatchLaws.{watched_all}
use Rattle.lint_dump_notes.proofs.notes.notes_of_file.Goals as goal

pub notes_of-requires-clause-watched : goal.notes_of-requires-clause-watched
notes_of-requires-clause-watched c =
    let vs = variables_of c.args.dump in
    let items = items_of c.args.file.now in
    watched_all vs items (columns_of (scope_over vs items) items) c.in-Ok.suite.names.items
    c.in-Ok.ensures.says.signals

pub notes_of-requires-clause-fit : goal.notes_of-requires-clause-fit
notes_of-requires-clause-fit c =
    c.suite_law.ensures (width_named (variables_of c.args.dump)) c.args.text.now c.in-Ok.suite (record {
      tokens = c.args.tokens.now;
      items = items_of c.args.file.now;
      cut = c.requires.cut;
      spelled = c.requires.spelled;
      faultless = c.in-Ok.ensures.ok;
      says = c.in-Ok.ensures.says;
    })
