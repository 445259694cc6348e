use Rattle.std.proofs.Common.{inl, inr}
use Rattle.machine.specs.Records.{attempt_of}
use Rattle.machine.proofs.MarkLaws.{fails-as, waits-as, vacuous-as, holds-as}
use Rattle.machine.proofs.attempt.AttemptRecord.verdict.Goals as goal

pub returns-then-recent-fates-ne0 : goal.returns-then-recent-fates-ne0
returns-then-recent-fates-ne0 c =
    fails-as c.args.now (attempt_of c.args.self) c.recent-recent.result c.recent-recent.ensures c.args.fates
    c.if-recent-fates-ne0.true

pub returns-then-recent-fates-ne0-2 : goal.returns-then-recent-fates-ne0-2
returns-then-recent-fates-ne0-2 c =
    waits-as c.args.now (attempt_of c.args.self) c.recent-recent.result c.recent-recent.ensures c.args.fates
    c.if-recent-fates-ne0.false (inl c.if-recent-fates-ne0-2.true)

pub returns-then-self-ne0 : goal.returns-then-self-ne0
returns-then-self-ne0 c =
    waits-as c.args.now (attempt_of c.args.self) c.recent-recent.result c.recent-recent.ensures c.args.fates
    c.if-recent-fates-ne0.false (inr c.if-self-ne0.true)

pub returns-then-self-eq0 : goal.returns-then-self-eq0
returns-then-self-eq0 c =
    vacuous-as c.args.now (attempt_of c.args.self) c.recent-recent.result c.recent-recent.ensures c.args.fates
    c.if-recent-fates-ne0.false c.if-recent-fates-ne0-2.false c.if-self-ne0.false c.if-self-eq0.true

pub returns : goal.returns
returns c =
    holds-as c.args.now (attempt_of c.args.self) c.recent-recent.result c.recent-recent.ensures c.args.fates
    c.if-recent-fates-ne0.false c.if-recent-fates-ne0-2.false c.if-self-ne0.false c.if-self-eq0.false
