-- The two views of what an attempt awaits: a set of all ticks at which it accepted, which is never
-- cleared, and a list of those of them whose obligation is still open.
use Rattle.std.specs.Prelude.{ℕ, Bool, true, false, List, [], ◌∷◌, map, filter}
use Rattle.machine_checked.specs.Clocks.{Attempt, Obligation, Fate, awaits}

-- of these ticks, those at which it accepted
abbrev pub accepted_of : Attempt → List ℕ → List ℕ
accepted_of a ticks = filter (awaits a) ticks

-- the ticks of the live obligations that it awaits
abbrev pub awaited_ticks : Attempt → List Obligation → List ℕ
awaited_ticks a os = accepted_of a (map (λ o. o.tick) os)

-- the ticks of the obligations that were visited
abbrev pub fate_ticks : List Fate → List ℕ
fate_ticks fates = map (λ f. f.tick) fates

abbrev pub is_some : List ℕ → Bool
is_some [] = false
is_some (t ∷ ts) = true
