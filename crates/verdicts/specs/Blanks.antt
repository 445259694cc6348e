-- What a clause says of four ledgers that no type stands for yet.
use Rattle.std.specs.Prelude.{◌≡◌, ℕ}
use Rattle.verdicts.specs.declared.tally.Blanks.{Blanks}

-- each is cut into so many parts
abbrev pub HaveParts : ℕ → Blanks → Type 0
HaveParts n blanks =
    (blanks.holds.parts ≡ n) × (blanks.vacuous.parts ≡ n) × (blanks.fails.parts ≡ n)
    × (blanks.disabled.parts ≡ n)

-- they have these names
abbrev pub HaveNames : ℕ → ℕ → ℕ → ℕ → Blanks → Type 0
HaveNames holds vacuous fails disabled blanks =
    (blanks.holds.name ≡ holds) × (blanks.vacuous.name ≡ vacuous) × (blanks.fails.name ≡ fails)
    × (blanks.disabled.name ≡ disabled)
