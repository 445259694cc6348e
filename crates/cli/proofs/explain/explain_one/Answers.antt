use Rattle.std.proofs.Common.{List, ℕ, refl, string_bytes, subst}
use Rattle.std.specs.Io.KnownBytes.{Appends}
use Rattle.cli_faults.specs.Runs.{run_of, WhyNotWritten}
use Rattle.cli_faults.proofs.FaultLaws.{err_is}
use Rattle.cli.specs.Explained.{WhyExplainRefused}
use Rattle.cli.proofs.ExplainedLaws.{refused_explain, cut_explain}
use Rattle.cli.proofs.explain.explain_one.Goals as goal

pub returns-in_err-told-clause-refused : goal.returns-in_err-told-clause-refused
returns-in_err-told-clause-refused g c =
    let read = c.in_ok-dump.ensures.accepted in
    let out = g.W.Sink.state c.args.out.now in
    let r =
    run_of c.args.text.now (g.S.Source.state c.args.source.now) (g.S.Source.state c.read_dump_by.new.source) out out in
    let fault = c.in_err-told.field-0.0 in
    err_is c.from_residual-in_err-told.result fault (WhyExplainRefused r c.args.wanted.now)
    c.from_residual-in_err-told.ensures.1
    (refused_explain r c.args.wanted.now read.0 read.1 c.in_ok-dump.ensures.counted
    (record { held = refl; counted = refl }) fault (c.in_err-told.ensures.err read.0 read.2))

pub returns-in_err-write_text-clause-refused : goal.returns-in_err-write_text-clause-refused
returns-in_err-write_text-clause-refused g c =
    let read = c.in_ok-dump.ensures.accepted in
    let before = g.W.Sink.state c.args.out.now in
    let after = g.W.Sink.state c.write_text.new.out in
    let r =
    run_of c.args.text.now (g.S.Source.state c.args.source.now) (g.S.Source.state c.read_dump_by.new.source) before
    after in
    let told = c.in_ok-told.told in
    let fault = c.in_err-write_text.field-0.0 in
    err_is c.from_residual-in_err-write_text.result fault (WhyExplainRefused r c.args.wanted.now)
    c.from_residual-in_err-write_text.ensures.1
    (cut_explain r c.args.wanted.now read.0 read.1 c.in_ok-dump.ensures.counted (string_bytes told.text) told.count
    (c.in_ok-told.ensures.ok read.0 read.2) fault
    (subst (λ (t : List ℕ). WhyNotWritten before after t fault) c.as_str.ensures.value
    c.in_err-write_text.ensures.refused))

pub returns-clause-answered : goal.returns-clause-answered
returns-clause-answered g c =
    let read = c.in_ok-dump.ensures.accepted in
    let before = g.W.Sink.state c.args.out.now in
    let after = g.W.Sink.state c.write_text.new.out in
    record {
      contents = read.0;
      gave = read.1;
      out = string_bytes c.in_ok-told.told.text;
      tells = c.in_ok-told.ensures.ok read.0 read.2;
      written = subst (λ (t : List ℕ). Appends before.contents after.contents t) c.as_str.ensures.value
          c.in_ok-write_text.ensures.written;
      reads = c.in_ok-dump.ensures.counted;
      writes = c.in_ok-write_text.ensures.counted;
      flushed = c.in_ok-write_text.ensures.flushed;
    }
