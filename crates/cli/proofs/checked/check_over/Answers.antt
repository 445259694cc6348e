use Rattle.std.proofs.Common.{refl}
use Rattle.report_lines.specs.Shown.{data_of}
use Rattle.cli_faults.specs.Runs.{run_of}
use Rattle.cli_faults.proofs.FaultLaws.{err_is}
use Rattle.cli.specs.Outcomes.{WhyCheckRefused}
use Rattle.cli.proofs.RunLaws.{refused_check}
use Rattle.cli.proofs.WrittenLaws.{answered, cut_check}
use Rattle.cli.proofs.checked.check_over.Goals as goal

pub returns-clause-answered : goal.returns-clause-answered
returns-clause-answered g c = λ before after read.
    let said = read.said in
    let r =
    run_of c.args.text.now before after (g.W.Sink.state c.args.out.now)
    (g.W.Sink.state c.written.new.out) in
    answered r (data_of c.in_ok-report_of_all.report_of_all) said.1.0 said.1.1 (record {
      few = said.1.1.few;
      contents = said.0;
      dump = said.1.2;
      has = c.in_ok-report_of_all.ensures.ok said.0 said.2;
    }) read.reads c.written.result c.written.ensures.written c.written.ensures.counted
    c.written.ensures.flushed c.written.ensures.totals

pub returns-clause-refused : goal.returns-clause-refused
returns-clause-refused g c = λ before after read.
    let said = read.said in
    let r =
    run_of c.args.text.now before after (g.W.Sink.state c.args.out.now)
    (g.W.Sink.state c.written.new.out) in
    cut_check r (data_of c.in_ok-report_of_all.report_of_all) said.1.0 said.1.1 (record {
      few = said.1.1.few;
      contents = said.0;
      dump = said.1.2;
      has = c.in_ok-report_of_all.ensures.ok said.0 said.2;
    }) read.reads c.written.result c.written.ensures.refused

pub returns-in_err-report_of_all-clause-refused : goal.returns-in_err-report_of_all-clause-refused
returns-in_err-report_of_all-clause-refused g c = λ before after read.
    let said = read.said in
    let fault = c.in_err-report_of_all.field-0.0 in
    let r =
    run_of c.args.text.now before after (g.W.Sink.state c.args.out.now)
    (g.W.Sink.state c.args.out.now) in
    err_is c.from_residual.result fault (WhyCheckRefused r) c.from_residual.ensures.1
    (refused_check r said.0 said.1 read.reads (record { held = refl; counted = refl }) fault
    (c.in_err-report_of_all.ensures.err said.0 said.2))
