use Rattle.std.proofs.Common.{◌≤◌, arith, rules}
use Rattle.import_checks.specs.Sequences.{after_ticks, after_none, after_none_now}
use Rattle.import_checks.proofs.lengths.start_after.Goals as goal

pub returns-then-has_one_length : goal.returns-then-has_one_length
returns-then-has_one_length c = after_ticks (c.has_one_length.ensures (search rules))

pub returns-then-written-eq0 : goal.returns-then-written-eq0
returns-then-written-eq0 c = rw c.if-least-eq1.true (after_none_now (c.is_empty.ensures (search rules)))

pub returns : goal.returns
returns c =
    let some : 1 ≤ c.args.least = omega arith in
    after_none (c.is_empty.ensures (search rules)) some
