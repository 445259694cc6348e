-- What may be left out, in the text and in what is made of it.
use Rattle.std.specs.Prelude.{Option, Some, None}

-- Both are left out, or both are there and the relation holds of them.
abbrev pub OptionZip : {A B : Type 0} → (A → B → Type 0) → Option A → Option B → Type 0
OptionZip R None None = Unit {0}
OptionZip R None (Some y) = ⊥
OptionZip R (Some x) None = ⊥
OptionZip R (Some x) (Some y) = R x y
