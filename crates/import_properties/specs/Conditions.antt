-- Booleans of properties, and the letters of a word that is cut (IEEE 1800-2017, 16.7 and F.5).
use Rattle.std.specs.Prelude.{ℕ, Bool, true, false, not, ◌&&◌, nat_lt}
use Rattle.import_properties.specs.declared.condition.Condition.{Condition}
use Rattle.import_properties.specs.declared.condition.Condition.TheVariants.{One, Zero}
use Rattle.import_properties.specs.declared.condition.Condition.TheVariants.{Leaf, Negated}

-- the boolean that is true where this one is false
abbrev pub negation : Condition → Condition
negation One = Zero
negation Zero = One
negation (Leaf place) = Negated place
negation (Negated place) = Leaf place

-- whether a boolean is true at a tick, where leaves says which leaf is true at which
abbrev pub value_of : (ℕ → ℕ → Bool) → Condition → ℕ → Bool
value_of leaves One k = true
value_of leaves Zero k = false
value_of leaves (Leaf place) k = leaves place k
value_of leaves (Negated place) k = not (leaves place k)

-- The letter at a tick: with the ticks below n seen, a boolean is true at k where it was seen to
-- be, and at no tick from n on (the letter that satisfies nothing, F.5). The letter that satisfies
-- everything there is `sat`.
abbrev pub unsat : {B : Type 0} → (B → ℕ → Bool) → ℕ → B → ℕ → Bool
unsat value n b k = nat_lt k n && value b k
