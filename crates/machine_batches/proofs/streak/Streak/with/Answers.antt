use Rattle.std.proofs.Common.{◌≡◌, ◌+◌, ℕ, map, ap, ◌∙◌, arith}
use Rattle.std.specs.List.{range_with_len}
use Rattle.machine_batches.specs.Ages.{verdict_moved, nth}
use Rattle.machine_batches.proofs.StreakLaws as laws
use Rattle.machine_batches.proofs.streak.Streak.with.Goals as goal

pub returns : goal.returns
returns c =
    let first = c.args.self.now.first in
    let count = c.args.self.now.count in
    let more = c.args.more in
    let one = more.first in
    let all : c.in_ok-count.count ≡ count + more.count = grind arith in
    let start : one.start ≡ first.start + count = grind arith in
    let same : c.in_ok-clocks_between.field-0 ≡ count = omega (arith, c.if-branch-self-2.false) in
    let verdict : one.verdict ≡ verdict_moved count first.verdict = grind arith in
    ap (λ (n : ℕ). map (nth first) (range_with_len 0 n)) all
    ∙ laws.grown first one count more.count start verdict
