use Rattle.std.proofs.Common.{◌∙◌}
use Rattle.vcd_reader.specs.Index.{codes_in}
use Rattle.vcd_reader.proofs.PackedLaws.{entry-known, known-set}
use Rattle.vcd_reader.proofs.packed.entries_of.Goals as goal

pub loop-i-preserved : goal.loop-i-preserved
loop-i-preserved c =
    known-set (codes_in c.args.variables.now) c.add_page.new.table.items c.entry_place-place.result _
    (entry-known c.args.variables.now c.args.places.now c.loop-i.i c.packed_code-packed.result c.index.result.now
    c.index-variables-i.result c.requires c.loop-i-test.true
    (λ some. c.packed_code-packed.ensures some ∙ c.deref.ensures.value) c.index.ensures)
    (c.add_page.ensures (codes_in c.args.variables.now) c.loop-i.invariant)
