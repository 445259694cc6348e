-- Variables of a dump, in order.
use Rattle.std.specs.Prelude.{ℕ, ◌<◌, List, length, get_or, map}
use Rattle.vcd_reader.specs.declared.dump.Dump.{Dump}
use Rattle.vcd_reader.specs.declared.variable.VarId.{VarId}
use Rattle.vcd_reader.specs.Variables.{code_number}
use Rattle.vcd_reader.specs.Held.{variables_of, IsOf}

-- where they stand among the dump's
abbrev pub places : List VarId → List ℕ
places vs = map (λ v. v.place) vs

-- each is one of the dump's that can be bound
abbrev pub AreOf : Dump → List VarId → Type 0
AreOf d vs = (i : ℕ) (v : VarId) → i < length vs → IsOf d (get_or vs i v)

-- the number of each one's code is below this one
abbrev pub AreCodesBelow : Dump → List VarId → ℕ → Type 0
AreCodesBelow d vs n =
    (i : ℕ) (v : VarId) → i < length vs
    → code_number (variables_of d) (get_or vs i v).place < n
