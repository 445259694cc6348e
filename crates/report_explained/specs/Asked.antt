-- At which clocks a sheet shows a boolean: those at which a side of the assertion may ask it. Own;
-- sequences are those of IEEE 1800-2017, 16.9.
use Rattle.std.specs.Prelude.{◌≡◌, ℕ, ◌+◌, ◌-◌, ◌*◌, ◌^◌, ◌==◌, min, max, Bool, false, ◌&&◌, ◌||◌}
use Rattle.std.specs.Prelude.{List, [], ◌∷◌, ◌++◌, Option, Some, None, nat_le}
use Rattle.std.specs.List.{list_any}
use Rattle.assertions.specs.declared.assertion.Assertion.{Assertion}
use Rattle.assertions.specs.declared.sequence.Boolean.{Boolean}
use Rattle.assertions.specs.declared.sequence.Boolean.TheVariants.{One, Listed}
use Rattle.assertions.specs.Shapes.{written_form}
use Rattle.assertions.specs.Written.{Written, boolean, delay, lead, repeat, or, and, intersect}
use Rattle.assertions.specs.Written.{throughout}
use Rattle.report_explained.specs.declared.asked.Asked.{Asked}
use Rattle.report_explained.specs.declared.asked.Attempt.{Attempt}
use Rattle.report_explained.specs.declared.interval.Interval.{Interval}
use Rattle.report_explained.specs.declared.interval.Place.{Place}

abbrev pub from_to : ℕ → ℕ → Interval
from_to least most = record { least = least; most = most }

-- a number of ticks, up to the largest that is told apart; no match of a side takes over 127
abbrev pub capped : ℕ → ℕ
capped n = min n (2 ^ 64 - 1)

-- later by a number of ticks from the least to the most
abbrev pub later : Interval → ℕ → ℕ → Interval
later i least most = from_to (capped (i.least + least)) (capped (i.most + most))

-- r ##[least:most] s: how many ticks after r, of so many ticks, s begins
abbrev pub delayed : Interval → ℕ → ℕ → Interval
delayed i least most = from_to (capped (i.least + least) - 1) (capped (i.most + most) - 1)

abbrev pub repeated : Interval → ℕ → ℕ → Interval
repeated i least most = from_to (capped (i.least * least)) (capped (i.most * most))

-- how many ticks a match takes, by its form: no fewer and no more
abbrev pub length_of : Written Boolean → Interval
length_of (boolean b) = from_to 1 1
length_of (delay r least most s) =
    later (delayed (length_of r) least most) (length_of s).least (length_of s).most
length_of (lead least most s) = later (length_of s) least most
length_of (repeat r least most) = repeated (length_of r) least most
length_of (or r s) =
    from_to (min (length_of r).least (length_of s).least)
    (max (length_of r).most (length_of s).most)
length_of (and r s) =
    from_to (max (length_of r).least (length_of s).least)
    (max (length_of r).most (length_of s).most)
length_of (intersect r s) =
    from_to (max (length_of r).least (length_of s).least)
    (min (length_of r).most (length_of s).most)
length_of (throughout b r) = length_of r

abbrev pub place_at : Boolean → Interval → Place
place_at b within = record { boolean = b; within = within }

-- between which ticks each boolean of a sequence may be asked, where the sequence begins between
-- these: the first of its forms at its begin, what is delayed after what comes before, a turn of a
-- repetition after those before it, and the boolean of `throughout` at each tick
abbrev pub places_in : Interval → Written Boolean → List Place
places_in i (boolean b) = place_at b i ∷ []
places_in i (delay r least most s) =
    places_in i r
    ++ places_in (later i (delayed (length_of r) least most).least
    (delayed (length_of r) least most).most) s
places_in i (lead least most s) = places_in (later i least most) s
places_in i (repeat r least most) =
    places_in (later i 0 (repeated (length_of r) 1 (most - 1)).most) r
places_in i (or r s) = places_in i r ++ places_in i s
places_in i (and r s) = places_in i r ++ places_in i s
places_in i (intersect r s) = places_in i r ++ places_in i s
places_in i (throughout b r) =
    place_at b (later i 0 ((length_of r).most - 1)) ∷ places_in i r

-- a place is of the boolean of the assertion's list, and has the clock
abbrev pub is_of : ℕ → Boolean → Bool
is_of listed One = false
is_of listed (Listed place) = place == listed

abbrev pub is_within : ℕ → Interval → Bool
is_within clock i = nat_le i.least clock && nat_le clock i.most

abbrev pub has_clock : ℕ → ℕ → Place → Bool
has_clock listed clock p = is_of listed p.boolean && is_within clock p.within

-- the disabling boolean is asked at each clock of the attempt
abbrev pub disabling_places : Attempt → Option Boolean → List Place
disabling_places t None = []
disabling_places t (Some b) = place_at b (from_to t.start (t.end - 1)) ∷ []

-- those of an antecedent that begins with the attempt, and of a consequent that begins at the end
-- of the antecedent whose obligation broke
abbrev pub antecedent_places : Assertion → Attempt → List Place
antecedent_places a t =
    places_in (from_to t.start t.start) (written_form a.antecedent)
    ++ disabling_places t a.disabling

abbrev pub consequent_places : Assertion → Attempt → List Place
consequent_places a t = places_in (from_to t.broken t.broken) (written_form a.consequent)

-- The attempt may ask the boolean of that place of the assertion's list at the clock.
abbrev pub is_asked : Assertion → Attempt → ℕ → ℕ → Bool
is_asked a t listed clock =
    list_any (has_clock listed clock) (antecedent_places a t)
    || list_any (has_clock listed clock) (consequent_places a t)

-- in memory: the places of both sides
abbrev pub asks : Asked → ℕ → ℕ → Bool
asks k listed clock =
    list_any (has_clock listed clock) k.antecedent.items
    || list_any (has_clock listed clock) k.consequent.items

pub record AreAsked (a : Assertion) (t : Attempt) (k : Asked) : Type 0 where
  pub antecedent : k.antecedent.items ≡ antecedent_places a t
  pub consequent : k.consequent.items ≡ consequent_places a t
