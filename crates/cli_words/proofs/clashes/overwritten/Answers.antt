use Rattle.std.proofs.Common.{◌∙◌, ap, ap₂, map}
use Rattle.std.proofs.lemmas.Result.{IfOk-weaker}
use Rattle.cli_words.specs.Files.{first_like}
use Rattle.cli_words.proofs.PathLaws.{bytes_of}
use Rattle.cli_words.proofs.clashes.overwritten.Goals as goal

pub returns : goal.returns
returns c =
    let kept = ap (map bytes_of) c.as_slice.ensures.value ∙ c.in_ok-kept.ensures in
    let written = ap (map bytes_of) c.as_slice-2.ensures.value ∙ c.in_ok-written.ensures in
    IfOk-weaker c.first_like.result _ _ (λ found h. h ∙ ap₂ first_like kept written) c.first_like.ensures
