-- A property, or its negation, and how senses are joined.
use Rattle.import_properties.specs.declared.condition.Condition.{Condition}
use Rattle.std.specs.Prelude.{ℕ, ◌-◌, ◌≤◌}
use Rattle.import_properties.specs.declared.condition.Condition.TheVariants.{One}
use Rattle.import_properties.specs.Properties.{Form, negated, both, either, implied, each_later}
use Rattle.import_properties.specs.Properties.{some_later, until}
use Rattle.assertions.specs.Written.{Written, kernel}
use Rattle.import_rewriting.specs.Sides.{Says}
use Rattle.import_rewriting.specs.declared.sense.Sense.{Sense}
use Rattle.import_rewriting.specs.declared.sense.Sense.TheVariants.{Kept, Negated}

abbrev pub in_sense : Sense → Form Condition → Form Condition
in_sense Kept p = p
in_sense Negated p = negated p

abbrev pub opposite : Sense → Sense
opposite Kept = Negated
opposite Negated = Kept

-- Of sequences that say p and q in a sense, the third says p and q in it; or p or q.
abbrev pub JoinsBoth : Sense → Written Condition → Written Condition → Written Condition → Type 0
JoinsBoth sense u v w =
    (bound : ℕ) (p q : Form Condition)
    → Says bound (in_sense sense p) u → Says bound (in_sense sense q) v
    → Says bound (in_sense sense (both p q)) w

abbrev pub JoinsEither : Sense → Written Condition → Written Condition → Written Condition → Type 0
JoinsEither sense u v w =
    (bound : ℕ) (p q : Form Condition)
    → Says bound (in_sense sense p) u → Says bound (in_sense sense q) v
    → Says bound (in_sense sense (either p q)) w

-- Of a sequence that says p in a sense, another says r |-> p in it.
abbrev pub JoinsImplied :
    Sense → Written Condition → Written Condition → Written Condition → Type 0
JoinsImplied sense r u w =
    (bound : ℕ) (p : Form Condition)
    → Says bound (in_sense sense p) u → Says bound (in_sense sense (implied (kernel One r) p)) w

-- Of a sequence that says p in a sense, another says in it that p is at each tick of a range; or
-- at some tick of it.
abbrev pub JoinsEach : Sense → ℕ → ℕ → Written Condition → Written Condition → Type 0
JoinsEach sense least most u w =
    (bound : ℕ) (p : Form Condition)
    → Says bound (in_sense sense p) u
    → Says bound (in_sense sense (each_later least (most - least) p)) w

abbrev pub JoinsSome : Sense → ℕ → ℕ → Written Condition → Written Condition → Type 0
JoinsSome sense least most u w =
    (bound : ℕ) (p : Form Condition)
    → Says bound (in_sense sense p) u
    → Says bound (in_sense sense (some_later least (most - least) p)) w

-- Of sequences that say p and q, the third says p until q in a sense, so long as no more than so
-- many ticks are seen; or p until_with q.
abbrev pub SaysUntil :
    ℕ → Sense → Written Condition → Written Condition → Written Condition → Type 0
SaysUntil bound sense u v w =
    (ticks : ℕ) (p q : Form Condition) → ticks ≤ bound → Says ticks p u → Says ticks q v
    → Says ticks (in_sense sense (until p q)) w

abbrev pub SaysUntilWith :
    ℕ → Sense → Written Condition → Written Condition → Written Condition → Type 0
SaysUntilWith bound sense u v w =
    (ticks : ℕ) (p q : Form Condition) → ticks ≤ bound → Says ticks p u → Says ticks q v
    → Says ticks (in_sense sense (until p (both p q))) w
