use Rattle.import_checks.specs.Booleans.{by_and, by_intersect, by_or, by_implies, by_iff}
use Rattle.import_checks.proofs.joint.joint_of.Goals as goal

pub returns-in-Or : goal.returns-in-Or
returns-in-Or c = rw c.in-Or.is (by_or c.in-Or.first c.in-Or.second)

pub returns-in-Implies : goal.returns-in-Implies
returns-in-Implies c = rw c.in-Implies.is (by_implies c.in-Implies.first c.in-Implies.second)

pub returns-in-Iff : goal.returns-in-Iff
returns-in-Iff c = rw c.in-Iff.is (by_iff c.in-Iff.first c.in-Iff.second)

pub returns-in-And : goal.returns-in-And
returns-in-And c = rw c.in-And.is (by_and c.in-And.first c.in-And.second)

pub returns-in-Intersect : goal.returns-in-Intersect
returns-in-Intersect c = rw c.in-Intersect.is (by_intersect c.in-Intersect.first c.in-Intersect.second)
