use Rattle.std.proofs.Common.{◌∙◌, Ok, map, sym, ap}
use Rattle.lexer.specs.Cutting.{cut_of}
use Rattle.cli_faults.specs.Faults.{parse_fault}
use Rattle.cli.specs.Reported.{AreTokens}
use Rattle.cli.specs.Outcomes.{WhyNoItems}
use Rattle.cli.proofs.TextLaws.{unparsed}
use Rattle.cli_faults.proofs.FaultLaws.{err_is}
use Rattle.cli.proofs.text.file_of.Goals as goal

pub returns-in_err-parse-clause-err : goal.returns-in_err-parse-clause-err
returns-in_err-parse-clause-err c =
    let text = c.args.text.now in
    let fault = c.in_err-parse.field-0.0 in
    let cut : AreTokens text c.as_slice.result.now =
    c.in_ok-tokens.ensures.tokens
    ∙ ap (λ ts. Ok (map cut_of ts)) (sym c.as_slice.ensures.value) in
    err_is c.from_residual-in_err-parse.result (parse_fault fault) (WhyNoItems text)
    c.from_residual-in_err-parse.ensures.1
    (unparsed text c.as_slice.result.now fault cut c.in_err-parse.ensures.err
    c.in_err-parse.ensures.placed)
