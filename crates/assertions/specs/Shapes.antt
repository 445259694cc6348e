-- What the trees of a suite stand for.
use Rattle.std.specs.Prelude.{◌⊎◌, ℕ, ◌<◌, Bool, true, false, List, Option, Some, None, slice_get}
use Rattle.assertions.specs.declared.sequence.Boolean.{Boolean}
use Rattle.assertions.specs.declared.sequence.Boolean.TheVariants.{One, Listed}
use Rattle.assertions.specs.declared.sequence.Sequence.{Sequence}
use Rattle.assertions.specs.declared.sequence.Sequence.TheVariants as form
use Rattle.assertions.specs.Segments.{Seq}
use Rattle.assertions.specs.Written.{Written, boolean, delay, lead, repeat, or, and, intersect}
use Rattle.assertions.specs.Written.{throughout, kernel, weight, IsOrdered}
use Rattle.expressions.specs.declared.expr.Expr.{Expr}
use Rattle.expressions.specs.Terms.{Samples, is_true}
use Rattle.expressions.specs.Expressions.{term_of}

-- the sequence that a tree says, as it is written
abbrev pub written_form : Sequence → Written Boolean
written_form (form.Boolean b) = boolean b
written_form (form.Delay' p r least most q s) = delay (written_form r) least most (written_form s)
written_form (form.Lead' least most p s) = lead least most (written_form s)
written_form (form.Repeat' p r least most) = repeat (written_form r) least most
written_form (form.Or' p r q s) = or (written_form r) (written_form s)
written_form (form.And' p r q s) = and (written_form r) (written_form s)
written_form (form.Intersect' p r q s) = intersect (written_form r) (written_form s)
written_form (form.Throughout' b p r) = throughout b (written_form r)

-- the kernel that it stands for
abbrev pub shape : Sequence → Seq Boolean
shape s = kernel One (written_form s)

-- It can be no side of an assertion: it weighs over 127, or the first of a range is over the
-- second.
abbrev pub IsUnfit : {B : Type 0} → Written B → Type 0
IsUnfit r = (127 < weight r) ⊎ (IsOrdered r → ⊥)

-- whether an expression is true at a tick; one that isn't there is false
abbrev pub is_true_at : Samples → Option Expr → ℕ → Bool
is_true_at t None k = false
is_true_at t (Some e) k = is_true t (term_of e) k

-- the expression at a place of a suite's, if there is such a place
abbrev pub expression_at : List Expr → Option ℕ → Option Expr
expression_at booleans None = None
expression_at booleans (Some place) = slice_get booleans place

-- Whether a boolean is true at a tick, by a suite's expressions and the places that an assertion's
-- list has of them.
abbrev pub value_in : List Expr → List ℕ → Samples → Boolean → ℕ → Bool
value_in booleans places t One k = true
value_in booleans places t (Listed i) k =
    is_true_at t (expression_at booleans (slice_get places i)) k

-- at which ticks the disabling boolean is true, if there is one
abbrev pub off_in : List Expr → List ℕ → Samples → Option Boolean → ℕ → Bool
off_in booleans places t None k = false
off_in booleans places t (Some b) k = value_in booleans places t b k
