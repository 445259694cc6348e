use Rattle.std.proofs.Common.{refl, arith}
use Rattle.machine_sample_code.proofs.CopyLaws.{all-copied}
use Rattle.machine_sample_code.proofs.row.fill_row.Goals as goal

pub returns : goal.returns
returns c =
    all-copied c.args.row.now c.args.signals.now c.args.counters.now _ c.copy_values.new.row c.copy_values-2.new.row
    (omega (arith, c.requires)) refl c.copy_values.ensures c.copy_values-2.ensures
