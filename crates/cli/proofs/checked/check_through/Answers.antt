use Rattle.report_lines.specs.Shown.{data_of}
use Rattle.cli_faults.specs.Runs.{run_of}
use Rattle.cli.proofs.WrittenLaws.{answered, cut_check}
use Rattle.cli.proofs.checked.check_through.Goals as goal

pub returns-clause-answered : goal.returns-clause-answered
returns-clause-answered g c =
    let read = c.in_ok-dump.ensures.accepted in
    let r =
    run_of c.args.text.now (g.S.Source.state c.args.source.now)
    (g.S.Source.state c.read_dump.new.source) (g.W.Sink.state c.args.out.now)
    (g.W.Sink.state c.written.new.out) in
    answered r (data_of c.in_ok-report.report) read.1.0 read.1.1 (record {
      few = read.1.1.few;
      contents = read.0;
      dump = read.1.2;
      has = c.in_ok-report.ensures.ok read.0 read.2;
    }) c.in_ok-dump.ensures.counted c.written.result c.written.ensures.written
    c.written.ensures.counted c.written.ensures.flushed c.written.ensures.totals

pub returns-clause-refused : goal.returns-clause-refused
returns-clause-refused g c =
    let read = c.in_ok-dump.ensures.accepted in
    let r =
    run_of c.args.text.now (g.S.Source.state c.args.source.now)
    (g.S.Source.state c.read_dump.new.source) (g.W.Sink.state c.args.out.now)
    (g.W.Sink.state c.written.new.out) in
    cut_check r (data_of c.in_ok-report.report) read.1.0 read.1.1 (record {
      few = read.1.1.few;
      contents = read.0;
      dump = read.1.2;
      has = c.in_ok-report.ensures.ok read.0 read.2;
    }) c.in_ok-dump.ensures.counted c.written.result c.written.ensures.refused
