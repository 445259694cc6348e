-- What a clause says of a pass by itself.
use Rattle.std.specs.Prelude.{◌≡◌, ℕ, ◌-◌, true, false, Option}
use Rattle.crossbeam_queue.specs.Passes.{Pass, view}
use Rattle.workers_bench.specs.declared.numbered.Numbered.{Numbered}
use Rattle.workers_bench.specs.declared.passes.Round.{Round}
use Rattle.workers_bench.specs.declared.passes.Hand.{Hand}
use Rattle.workers_bench.specs.Hands.{total, fresh, whole}

-- the one pass that puts, of a round with so many workers, before it did anything
abbrev pub PutsNone : Option Round → ℕ → Pass Numbered Hand → Type 0
PutsNone round workers pass = view pass ≡ fresh (whole - workers) true round

-- a pass that takes, before it did anything
abbrev pub TakesNone : Option Round → Pass Numbered Hand → Type 0
TakesNone round pass = view pass ≡ fresh 1 false round

abbrev pub pass_parts : Pass Numbered Hand → ℕ
pass_parts pass = (view pass).parts

-- what the pass took, each weighed by h
abbrev pub taken_of : (ℕ → ℕ) → Pass Numbered Hand → ℕ
taken_of h pass = total h (view pass).taken
