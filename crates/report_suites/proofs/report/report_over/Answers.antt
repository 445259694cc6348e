use Rattle.std.proofs.Common.{◌∙◌, ℕ, List, length, map, ap, subst}
use Rattle.expressions.specs.declared.counter.Counter.{Counter}
use Rattle.expressions.specs.Rows.{HasCounts}
use Rattle.report_lines.specs.Lines.{line, report_of}
use Rattle.report_suites.specs.Judged.{AreLinesOver}
use Rattle.report_suites.proofs.report.report_over.Goals as goal

pub lines_of-requires : goal.lines_of-requires
lines_of-requires c =
    subst (λ (all : List Counter). HasCounts all c.in_ok-rows.rows) c.as_slice.ensures.value
    c.in_ok-rows.ensures.counters

pub returns : goal.returns
returns c =
    let suite = c.args.suite.now in
    let rows = c.in_ok-rows.rows in
    let lines = map line c.in_ok-lines.lines.items in
    record {
      lines = lines;
      judged =
          subst (λ (signals : List (List ℕ)).
          AreLinesOver suite signals suite.assertions.items lines)
          c.in_ok-rows.ensures.signals c.in_ok-lines.ensures;
      is = c.new.ensures
          ∙ ap (λ (k : ℕ). report_of k lines)
          (c.len.ensures.len ∙ ap length c.in_ok-rows.ensures.signals);
    }
