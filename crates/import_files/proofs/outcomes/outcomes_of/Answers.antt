use Rattle.std.proofs.Common.{◌∙◌, arith}
use Rattle.std.proofs.lemmas.List.Elements.{All-push, All-same}
use Rattle.import_files.specs.Imported.{OutcomeSays}
use Rattle.import_files.proofs.OutcomeLaws.{words_more}
use Rattle.import_files.proofs.outcomes.outcomes_of.Goals as goal

pub loop-place-preserved : goal.loop-place-preserved
loop-place-preserved c = record {
  words =
      words_more c.args.file.now.words.items c.loop-place.place c.index-word.result.now c.loop-place.outcomes.items
      c.push.new.self.items c.in_ok-outcome.outcome (omega (arith, c.loop-place-test.true, c.len-place-end.ensures))
      c.loop-place.invariant.words c.in_ok-push.ensures.items c.in_ok-outcome.ensures.word c.index-word.ensures;
  said =
      All-same (OutcomeSays c.args.reading.now) _ _ c.in_ok-push.ensures.items
      (All-push (OutcomeSays c.args.reading.now) c.loop-place.outcomes.items
      c.in_ok-outcome.outcome c.loop-place.invariant.said
      (rw c.loop-place.invariant.reading at c.in_ok-outcome.ensures.said));
  reading = c.outcome_of.ensures.kept ∙ c.loop-place.invariant.reading;
}
