use Rattle.std.proofs.Common.{ℕ, List, subst}
use Rattle.parser_grammar.specs.Views.{items_of}
use Rattle.report_explained.specs.Explained.{AreExplained}
use Rattle.cli.specs.Explained.{WhyNotExplained}
use Rattle.cli.proofs.ExplainedLaws.{unnamed}
use Rattle.cli_faults.proofs.FaultLaws.{err_is}
use Rattle.cli.proofs.explained.explained_over.Goals as goal

pub returns-in_err-find_wanted-clause-err : goal.returns-in_err-find_wanted-clause-err
returns-in_err-find_wanted-clause-err g c = λ k holds.
    let text = c.args.text.now in
    let w = c.args.wanted.now in
    let fault = c.in_err-find_wanted.field-0.0 in
    err_is c.from_residual-in_err-find_wanted.result fault (WhyNotExplained k text w)
    c.from_residual-in_err-find_wanted.ensures.1
    (unnamed k text w c.in_ok-trace.trace.suite (c.in_ok-trace.ensures.ok k holds).says fault
    c.in_err-find_wanted.ensures.refused)

pub returns-clause-ok : goal.returns-clause-ok
returns-clause-ok g c = λ k holds. record {
  traced = c.in_ok-trace.ensures.ok k holds;
  asked = c.in_ok-find_wanted.ensures.found;
  items = items_of c.in_ok-file.file;
  spelled = c.in_ok-file.ensures.ok;
  explained = subst
      (λ (names : List (List ℕ)). AreExplained c.in_ok-trace.trace.suite names c.in_ok-trace.trace.rows
      c.args.wanted.now c.in_ok-trace.trace.report.lines.items c.in_ok-explanations.explanations.items)
      c.in_ok-heads.ensures.counters c.in_ok-explanations.ensures;
}
