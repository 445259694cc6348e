-- What a clause says of the workers' shares of a tally. Four numbers are a list: those that hold,
-- are vacuous, fail and are disabled.
use Rattle.std.specs.Prelude.{◌≡◌, ℕ, ◌+◌, ◌^◌, ◌-◌, ◌<◌, ◌≤◌, min, List, [], ◌∷◌, slice_index}
use Rattle.std.specs.List.{sum_by}
use Rattle.verdicts.specs.declared.tally.Share.{Share}

abbrev pub plus : List ℕ → List ℕ → List ℕ
plus xs ys =
    (slice_index xs 0 + slice_index ys 0)
    ∷ (slice_index xs 1 + slice_index ys 1)
    ∷ (slice_index xs 2 + slice_index ys 2)
    ∷ (slice_index xs 3 + slice_index ys 3)
    ∷ []

abbrev pub EachWithin : List ℕ → List ℕ → Type 0
EachWithin xs ys =
    (slice_index xs 0 ≤ slice_index ys 0) × (slice_index xs 1 ≤ slice_index ys 1)
    × (slice_index xs 2 ≤ slice_index ys 2) × (slice_index xs 3 ≤ slice_index ys 3)

abbrev pub EachAtMost : List ℕ → ℕ → Type 0
EachAtMost xs most =
    (slice_index xs 0 ≤ most) × (slice_index xs 1 ≤ most) × (slice_index xs 2 ≤ most)
    × (slice_index xs 3 ≤ most)

-- held at the largest number
abbrev pub capped : ℕ → ℕ
capped n = min n (2 ^ 64 - 1)

module _ {L : Type 0} where
  -- the parts of the whole tally that the share stands for
  abbrev pub parts : Share L → ℕ
  parts share = share.holds.parts

  -- what its worker added
  abbrev pub amounts : Share L → List ℕ
  amounts share =
      share.holds.amount ∷ share.vacuous.amount ∷ share.fails.amount ∷ share.disabled.amount ∷ []

  -- a worker's share before it added anything
  abbrev pub IsFresh : Share L → Type 0
  IsFresh share = (parts share ≡ 1) × (amounts share ≡ 0 ∷ 0 ∷ 0 ∷ 0 ∷ [])

  -- what all these workers added
  abbrev pub sums : List (Share L) → List ℕ
  sums shares =
      sum_by (λ (s : Share L). s.holds.amount) shares
      ∷ sum_by (λ (s : Share L). s.vacuous.amount) shares
      ∷ sum_by (λ (s : Share L). s.fails.amount) shares
      ∷ sum_by (λ (s : Share L). s.disabled.amount) shares
      ∷ []

abbrev pub each_capped : List ℕ → List ℕ
each_capped xs =
    capped (slice_index xs 0) ∷ capped (slice_index xs 1) ∷ capped (slice_index xs 2)
    ∷ capped (slice_index xs 3) ∷ []
