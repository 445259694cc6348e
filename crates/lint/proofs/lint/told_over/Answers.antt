use Rattle.std.proofs.Common.{List, string_bytes, subst}
use Rattle.vcd_reader.specs.Variables.{Declared}
use Rattle.lint.specs.declared.fault.LintFault.TheVariants.{Memory}
use Rattle.lint.specs.Tells.{TellsRefusals, vcd_fault, WhyNoTextOver}
use Rattle.lint.proofs.ReadLaws.{no-text}
use Rattle.lint.proofs.LintedLaws.{err_is}
use Rattle.lint.proofs.lint.told_over.Goals as goal

pub returns-in_err-dump-clause-refused : goal.returns-in_err-dump-clause-refused
returns-in_err-dump-clause-refused c =
    let fault = c.in_err-dump.field-0.0 in
    err_is c.from_residual.result (vcd_fault fault) (WhyNoTextOver c.args.bytes.now)
    c.from_residual.ensures.1 (no-text c.args.bytes.now fault c.in_err-dump.ensures.refused)

pub returns-in_err-declared-clause-refused : goal.returns-in_err-declared-clause-refused
returns-in_err-declared-clause-refused c =
    err_is c.from_residual-in_err-declared.result Memory (WhyNoTextOver c.args.bytes.now)
    c.from_residual-in_err-declared.ensures.1 (λ before after gave same. same)

pub returns-in_err-rest-clause-refused : goal.returns-in_err-rest-clause-refused
returns-in_err-rest-clause-refused c =
    err_is c.from_residual-in_err-rest.result Memory (WhyNoTextOver c.args.bytes.now)
    c.from_residual-in_err-rest.ensures.1 (λ before after gave same. same)

pub returns-clause-told : goal.returns-clause-told
returns-clause-told c =
    let read = c.in_ok-dump.ensures.parses in
    let rest = c.in_ok-rest.rest in
    let noted = c.in_ok-rest.ensures in
    let origin = c.args.origin.now in (
      read.0,
      read.1,
      noted.0,
      subst (λ (vs : List Declared). TellsRefusals vs c.args.text.now origin.parts.now origin.added.now noted.0
          rest.refused (string_bytes rest.told) rest.text) read.2.variables noted.1,
    )
