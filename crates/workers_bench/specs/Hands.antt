-- What the passes of a bench know, and the rule over the bench and all passes.
use Rattle.std.specs.Prelude.{◌≡◌, ℕ, ◌+◌, ◌<◌, ◌≤◌, Bool, true, false, List, [], ◌∷◌, ◌++◌, map}
use Rattle.std.specs.Prelude.{length, All, Option, Some, None}
use mathlib.Core.Option.{some}
use lib.ListN.{get_elem?}
use Rattle.workers_bench.specs.declared.numbered.Numbered.{Numbered}
use Rattle.workers_bench.specs.declared.passes.Round.{Round}
use Rattle.workers_bench.specs.declared.passes.Hand.{Hand}
use Rattle.workers_bench.specs.Monitors.{IsMonitorAt}

-- how many parts the right to know the whole is cut into
abbrev pub whole : ℕ
whole = 65

-- f of each, added up
abbrev pub total : {X : Type 0} → (X → ℕ) → List X → ℕ
total f [] = 0
total f (x ∷ xs) = f x + total f xs

-- strictly rising numbers, from low on
abbrev pub NumbersRiseFrom : ℕ → List ℕ → Type 0
NumbersRiseFrom low [] = Unit {0}
NumbersRiseFrom low (x ∷ xs) = (low ≤ x) × NumbersRiseFrom (x + 1) xs

-- one past the last of rising numbers
abbrev pub end_after : ℕ → List ℕ → ℕ
end_after low [] = low
end_after low (x ∷ xs) = end_after (x + 1) xs

abbrev pub NumbersRise : List ℕ → Type 0
NumbersRise xs = NumbersRiseFrom 0 xs

abbrev pub monitor_number : Numbered → ℕ
monitor_number m = m.number

abbrev pub numbers : List Numbered → List ℕ
numbers ms = map monitor_number ms

abbrev pub hand : ℕ → Bool → Option Round → List ℕ → List ℕ → Hand
hand parts puts round put taken =
    record { parts = parts; puts = puts; round = round; put = put; taken = taken }

abbrev pub with_put : Hand → ℕ → Hand
with_put v source = hand v.parts v.puts v.round (v.put ++ source ∷ []) v.taken

abbrev pub with_taken : Hand → ℕ → Hand
with_taken v source = hand v.parts v.puts v.round v.put (v.taken ++ source ∷ [])

abbrev pub hands_joined : Hand → Hand → Hand
hands_joined v w = hand (v.parts + w.parts) v.puts v.round v.put (v.taken ++ w.taken)

abbrev pub no_round : Option Round
no_round = None

-- the monitor is that of its number, at the round's first clock
abbrev pub IsOfRound : Option Round → Numbered → Type 0
IsOfRound None x = ⊥
IsOfRound (Some r) x = IsMonitorAt r.job r.at x

-- a pass that has put and taken nothing
abbrev pub fresh : ℕ → Bool → Option Round → Hand
fresh parts puts round = hand parts puts round [] []

-- a pass with no part
abbrev pub idle : Hand
idle = fresh 0 false no_round

-- the pass number `pass` knows v. `gone` was taken so far, and `all` was put
pub record Fits (round : Option Round) (gone all : List ℕ) (putter pass : ℕ) (v : Hand) :
    Type 0 where
  pub idle : v.parts ≡ 0 → v.taken ≡ []
  pub same_round : 0 < v.parts → v.round ≡ round
  pub rises : v.puts ≡ false → NumbersRise v.taken × (end_after 0 v.taken ≤ end_after 0 gone)
  pub may_put : v.puts ≡ true → (pass ≡ putter) × (v.put ≡ all)

abbrev pub AllFit : (ℕ → Hand → Type 0) → List Hand → Type 0
AllFit F views = (pass : ℕ) (v : Hand) → get_elem? views pass ≡ some v → F pass v

-- Over all passes, what was put is what was taken and what the bench holds, however the numbers are
-- weighed. What was put rises, what the bench holds is its end, each held monitor is the job's, and
-- what each taking pass took rises.
pub record Kept (items : List Numbered) (views : List Hand) : Type 0 where
  pub round : Option Round
  pub gone : List ℕ
  pub putter : ℕ
  pub rises : NumbersRise (gone ++ numbers items)
  pub of_job : All (IsOfRound round) items
  pub parts : total (λ (v : Hand). v.parts) views ≡ whole
  pub taken : (h : ℕ → ℕ) → total (λ (v : Hand). total h v.taken) views ≡ total h gone
  pub fits : AllFit (Fits round gone (gone ++ numbers items) putter) views

-- what was put is what was taken, which weighs what v took, and then what the bench holds
abbrev pub LeavesTaken : Hand → List Numbered → Type 0
LeavesTaken v items =
    (gone : List ℕ) × (v.put ≡ gone ++ numbers items)
    × ((h : ℕ → ℕ) → total h v.taken ≡ total h gone)

-- a take of the monitor x, which is the job's. What a taking pass took rises
abbrev pub TakesOne : Hand → Numbered → Hand → Type 0
TakesOne v x w =
    (w ≡ with_taken v x.number) × IsOfRound v.round x × (v.puts ≡ false → NumbersRise w.taken)
