use Rattle.std.proofs.Common.{◌∙◌, refl}
use Rattle.vcd_reader.proofs.ReadingLaws.{read-all}
use Rattle.vcd_reader.proofs.reading.Reading.finish.Goals as goal

pub returns : goal.returns
returns c = λ declared bytes read ended.
    read-all declared bytes _ _ _ _ _ _ _ _ _ _ read ended c.in_ok-push.ensures.items refl
    (c.in_ok-changes.ensures.items ∙ c.deref.ensures.value)
