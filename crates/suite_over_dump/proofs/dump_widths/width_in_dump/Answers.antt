use Rattle.std.proofs.Common.{Some, option_map, ap, ◌∙◌}
use Rattle.vcd_reader.specs.Held.{variables_of}
use Rattle.vcd_reader.specs.Variables.{size_of}
use Rattle.suite_over_dump.proofs.PathLaws.{width_of_text}
use Rattle.suite_over_dump.proofs.dump_widths.width_in_dump.Goals as goal

pub returns : goal.returns
returns c =
    let size = size_of (variables_of c.args.dump.now) in
    width_of_text (variables_of c.args.dump.now) c.args.path.now _ c.utf8.path
    (ap Some c.width.ensures.size ∙ ap (option_map size) c.in_ok-variable.ensures.place)
