use Rattle.std.proofs.Common.{◌≡◌, ◌<◌, ℕ, Some, length, refl, sym, subst}
use Rattle.std.specs.Prelude.{slice_get}
use Rattle.std.proofs.lemmas.Option.{slice_get_read}
use Rattle.report_explained.proofs.ZipLaws.{zip_more}
use Rattle.report_explained.specs.declared.explanation.Explanation.{Explanation}
use Rattle.report_explained.specs.Told.{HasLine, IsToldOf, StandsAt}
use Rattle.report_explained.proofs.AllLaws.{all_at}
use Rattle.report_explained.proofs.failed_attempt.told_of.Goals as goal

pub loop-place-preserved : goal.loop-place-preserved
loop-place-preserved c =
    let lines = c.args.lines.now in
    let all = c.args.explanations.now in
    let i = c.loop-place.place in
    let e = c.index-explanations-place.result in
    let line = c.index-lines-explanation.result in
    let made = c.told_by.result in
    let within : e.place < length lines =
    subst (HasLine lines) (sym c.index-explanations-place.is)
    (all_at (HasLine lines) all i e c.requires.lines c.loop-place-test.true) in
    let here : slice_get lines e.place ≡ Some line =
    slice_get_read lines (length lines) e.place line refl within c.index-lines-explanation.is in
    record {
      told = zip_more (IsToldOf lines) all i e made c.loop-place.told.items c.push.new.self.items c.loop-place-test.true
          c.in_ok-push.ensures.items
          (subst (λ (x : Explanation). IsToldOf lines x made) c.index-explanations-place.is (record {
            line = line;
            is_there = here;
            told_by = c.told_by.ensures.told;
          })) c.loop-place.invariant.told;
      stand = zip_more StandsAt c.args.standings.now i _ made c.loop-place.told.items c.push.new.self.items
          (subst (λ (n : ℕ). i < n) (sym c.requires.standings) c.loop-place-test.true) c.in_ok-push.ensures.items
          c.told_by.ensures.stands c.loop-place.invariant.stand;
    }
