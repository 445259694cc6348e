use Rattle.std.proofs.Common.{refl}
use Rattle.report_lines.specs.Shown.{data_of}
use Rattle.cli_faults.specs.Runs.{run_of}
use Rattle.cli_faults.proofs.FaultLaws.{err_is}
use Rattle.cli_bytecode.specs.Outcomes.{WhyRunFails}
use Rattle.cli_bytecode.proofs.RunLaws.{refused_run}
use Rattle.cli_bytecode.proofs.WrittenLaws.{answered, cut}
use Rattle.cli_bytecode.proofs.run.run_through.Goals as goal

pub returns-in_err-report-clause-refused : goal.returns-in_err-report-clause-refused
returns-in_err-report-clause-refused g c =
    let read = c.in_ok-dump.ensures.accepted in
    let before = g.S.Source.state c.args.source.now in
    let after = g.S.Source.state c.read_dump_by.new.source in
    let held = g.W.Sink.state c.args.out.now in
    let r = run_of c.args.code.now before after held held in
    let fault = c.in_err-report.field-0.0 in
    err_is c.from_residual-in_err-report.result fault (WhyRunFails r)
    c.from_residual-in_err-report.ensures.1
    (refused_run r read.0 read.1 c.in_ok-dump.ensures.counted
    (record { held = refl; counted = refl }) fault (c.in_err-report.ensures.err read.0 read.2))

pub returns-clause-answered : goal.returns-clause-answered
returns-clause-answered g c =
    let read = c.in_ok-dump.ensures.accepted in
    let r =
    run_of c.args.code.now (g.S.Source.state c.args.source.now)
    (g.S.Source.state c.read_dump_by.new.source) (g.W.Sink.state c.args.out.now)
    (g.W.Sink.state c.written.new.out) in
    answered r (data_of c.in_ok-report.report) read.1.0 read.1.1 (record {
      few = read.1.1.few;
      contents = read.0;
      dump = read.1.2;
      has = c.in_ok-report.ensures.ok read.0 read.2;
    }) c.in_ok-dump.ensures.counted c.written.result c.written.ensures.written
    c.written.ensures.counted c.written.ensures.flushed c.written.ensures.totals

pub returns-clause-refused : goal.returns-clause-refused
returns-clause-refused g c =
    let read = c.in_ok-dump.ensures.accepted in
    let r =
    run_of c.args.code.now (g.S.Source.state c.args.source.now)
    (g.S.Source.state c.read_dump_by.new.source) (g.W.Sink.state c.args.out.now)
    (g.W.Sink.state c.written.new.out) in
    cut r (data_of c.in_ok-report.report) read.1.0 read.1.1 (record {
      few = read.1.1.few;
      contents = read.0;
      dump = read.1.2;
      has = c.in_ok-report.ensures.ok read.0 read.2;
    }) c.in_ok-dump.ensures.counted c.written.result c.written.ensures.refused
