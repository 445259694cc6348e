-- What a `Dump` holds in memory.
use Rattle.std.specs.Prelude.{◌≡◌, ℕ, List, map, Option, Ok, true}
use Rattle.vcd_reader.specs.declared.dump.Dump.{Dump}
use Rattle.vcd_reader.specs.declared.step.Step.{Step}
use Rattle.vcd_reader.specs.declared.step.Change.{Change}
use Rattle.vcd_reader.specs.declared.variable.VarId.{VarId}
use Rattle.vcd_reader.specs.declared.variable.Name.{Name}
use Rattle.vcd_reader.specs.Stored.{declaration_of, stored_value, stored_step, kept_step}
use Rattle.vcd_reader.specs.Variables.{Declared, Named, code_number, is_bindable}
use Rattle.vcd_reader.specs.Dump.{Contents, dump_of, GaveDump}

unfoldable pub variables_of : Dump → List Declared
variables_of d = map (declaration_of d.scopes.items) d.variables.items

unfoldable pub steps_in : Dump → List Step
steps_in d = d.steps.items

unfoldable pub high_of : Dump → List ℕ
high_of d = d.high.items

-- The dump has these contents: the same variables, and the same steps and changes, each with the
-- number of its digits.
pub record HoldsContents (d : Dump) (c : Contents) : Type 0 where
  pub variables : variables_of d ≡ c.variables
  pub steps : map (stored_step (high_of d)) (steps_in d) ≡ map kept_step c.steps

-- a dump as the source gave it
abbrev pub ReadsAs : Option (List ℕ) → Option (List ℕ) → Dump → Type 0
ReadsAs old new d = (c : Contents) × GaveDump old new c × HoldsContents d c

-- the variable is one of the dump's that can be bound
abbrev pub IsOf : Dump → VarId → Type 0
IsOf d v = is_bindable (variables_of d) v.place ≡ true

-- the number that the dump stores for a change
unfoldable pub value_of_change : Dump → Change → ℕ
value_of_change d c = stored_value (high_of d) c

-- the change is of the variable's code
abbrev pub IsChangeOf : Dump → Change → VarId → Type 0
IsChangeOf d c v = c.code ≡ code_number (variables_of d) v.place

abbrev pub named_of : Name → Named
named_of n = record { path = n.path.items; width = n.width }

-- a dump that says what the bytes say
abbrev pub Parses : List ℕ → Dump → Type 0
Parses bytes d = (c : Contents) × (dump_of bytes ≡ Ok c) × HoldsContents d c
