use Rattle.std.proofs.Common.{◌≡◌, max, drop}
use Rattle.report_explained.specs.Reach.{reach_of_places}
use Rattle.report_explained.proofs.reach.reach.Given as goal

-- the most of those so far and of those that are left
abbrev pub invariant-loop-place : goal.invariant-loop-place
invariant-loop-place l =
    let booleans = l.read.suite.now.booleans.items in
    let places = l.read.assertion.now.booleans.items in
    max l.reach (reach_of_places booleans (drop l.place-index places)) ≡ max 1 (reach_of_places booleans places)
