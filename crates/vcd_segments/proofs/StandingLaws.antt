-- What stands behind steps.
use Rattle.std.proofs.Common.{◌≡◌, ℕ, eqb, cond, List, [], ◌∷◌, ◌++◌, Option, Some, None}
use Rattle.std.proofs.Common.{refl, sym, ap, ◌∙◌}
use Rattle.vcd_reader.specs.Values.{ValueChange, Moment, or_else, last_digits}
use Rattle.vcd_segments.specs.Rows.{Standing, none_stands, behind_step, behind}
use Rattle.vcd_segments.specs.Segments.{changes_in}

pub or_else-assoc : {A : Type 0} (a b c : Option A)
    → or_else a (or_else b c) ≡ or_else (or_else a b) c
or_else-assoc None b c = refl
or_else-assoc (Some n) b c = refl

pub or_else-none : {A : Type 0} (a : Option A) → or_else a None ≡ a
or_else-none None = refl
or_else-none (Some n) = refl

-- the last digits of changes one after the other
pub last_digits-append : (code : ℕ) (xs ys : List ValueChange)
    → last_digits code (xs ++ ys) ≡ or_else (last_digits code ys) (last_digits code xs)
unfolding last_digits
last_digits-append code [] ys = sym (or_else-none (last_digits code ys))
last_digits-append code (x ∷ xs) ys =
    rw (last_digits-append code xs ys)
    (sym (or_else-assoc (last_digits code ys) (last_digits code xs) _))

-- behind steps stand the last digits of their changes, or else what stood before them
pub behind-is : (before : Standing) (ms : List Moment) (code : ℕ)
    → behind before ms code ≡ or_else (last_digits code (changes_in ms)) (before code)
unfolding behind last_digits
behind-is before [] code = refl
behind-is before (m ∷ ms) code =
    behind-is (behind_step before m) ms code
    ∙ or_else-assoc (last_digits code (changes_in ms)) (last_digits code m.changes) (before code)
    ∙ ap (λ (o : Option (List ℕ)). or_else o (before code))
    (sym (last_digits-append code m.changes (changes_in ms)))

pub behind-none : (ms : List Moment) (code : ℕ)
    → behind none_stands ms code ≡ last_digits code (changes_in ms)
behind-none ms code =
    behind-is none_stands ms code ∙ or_else-none (last_digits code (changes_in ms))
