-- Laws that show that the definitions mean what they should.
use Rattle.std.specs.Prelude.{ℕ, ◌<◌, ◌≤◌, Bool, ◌↔◌}
use Rattle.import_properties.specs.declared.condition.Condition.{Condition}
use Rattle.import_properties.specs.Properties.{Form, negated, sequence, implied}
use Rattle.import_properties.specs.Outcomes.{ComesTo, ComesToSame, Outcome, failed, good}
use Rattle.import_properties.specs.Outcomes.{IsDecidedSo}
use Rattle.import_properties.specs.Conditions.{value_of}
use Rattle.assertions.specs.Segments.{Seq, AdmitsEmpty}

-- not not p comes to what p does.
abbrev pub NegatesTwice : Type 0
NegatesTwice = (p : Form Condition) → ComesToSame (negated (negated p)) p

-- What has been decided stays decided, however many more ticks are seen.
abbrev pub StaysDecided : Type 0
StaysDecided =
    (value : Condition → ℕ → Bool) (p : Form Condition) (o : Outcome) (m n c : ℕ)
    → m ≤ n → ComesTo value m p o c → ComesTo value n p o c

-- What has failed is good after no number of ticks.
abbrev pub FailsForGood : Type 0
FailsForGood =
    (value : Condition → ℕ → Bool) (p : Form Condition) (m n c : ℕ)
    → ComesTo value m p failed c → ComesTo value n p good c → ⊥

-- r |-> s comes to what the profile's decisions on an attempt of it say, where s admits no empty
-- match and the attempt has begun.
abbrev pub AgreesWithProfile : Type 0
AgreesWithProfile =
    (leaves : ℕ → ℕ → Bool) (r s : Seq Condition) (n : ℕ) (o : Outcome) (c : ℕ)
    → (AdmitsEmpty s → ⊥) → c < n
    → ComesTo (value_of leaves) n (implied r (sequence s)) o c
    ↔ IsDecidedSo (value_of leaves) r s n o c
