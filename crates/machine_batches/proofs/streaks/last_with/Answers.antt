use Rattle.std.proofs.Common.{◌≡◌, ◌+◌, length, arith}
use Rattle.machine_batches.proofs.StreakLaws as laws
use Rattle.machine_batches.proofs.streaks.last_with.Goals as goal

pub returns-clause-longer : goal.returns-clause-longer
returns-clause-longer c =
    let xs = c.args.streaks.now in
    let last : c.in_ok-last.last + 1 ≡ length xs = grind arith in
    laws.last-grown xs c.in_ok-last.last c.index-streaks-last.result c.args.more c.with.result last
    c.index-streaks-last.is c.with.ensures
