-- How variables and changes stand in memory.
use Rattle.std.specs.Prelude.{◌≡◌, ℕ, ◌+◌, ◌-◌, ◌*◌, ◌^◌, ◌==◌, List, map, if◌then◌else◌}
use Rattle.std.specs.Prelude.{slice_index}
use Rattle.vcd_reader.specs.declared.scope.Scope.{Scope}
use Rattle.vcd_reader.specs.declared.variable.Variable.{Variable}
use Rattle.vcd_reader.specs.declared.step.Step.{Step}
use Rattle.vcd_reader.specs.declared.step.Change.{Change}
use Rattle.vcd_reader.specs.Numbers.{bits_value}
use Rattle.vcd_reader.specs.Values.{ValueChange, Moment}
use Rattle.vcd_reader.specs.Variables.{Declared, path_of}
use Rattle.vcd_reader.specs.Scopes.{open_scopes}
use Rattle.vcd_reader.specs.Dump.{Contents}

-- a variable inside these scopes
abbrev pub declaration_in : List (List ℕ) → Variable → Declared
declaration_in scopes v = record {
  path = path_of scopes v.name.items;
  code = v.code.items;
  size = v.size;
  bindable = v.bindable;
}

abbrev pub declaration_of : List Scope → Variable → Declared
declaration_of ss v = declaration_in (open_scopes ss v.scope) v

-- a change with the number that its last 128 digits stand for, the most that a variable can hold
pub record StoredChange : Type 0 where
  pub code : ℕ
  pub value : ℕ

pub record StoredStep : Type 0 where
  pub time : ℕ
  pub changes : List StoredChange

-- the number that is stored for a change: from 2^64 on its high part stands in a list beside
unfoldable pub stored_value : List ℕ → Change → ℕ
stored_value high c = if c.high == 0 then c.low else c.low + 2 ^ 64 * slice_index high (c.high - 1)

unfoldable pub stored_change : List ℕ → Change → StoredChange
stored_change high c = record { code = c.code; value = stored_value high c }

unfoldable pub stored_step : List ℕ → Step → StoredStep
stored_step high s = record { time = s.time; changes = map (stored_change high) s.changes.items }

unfoldable pub kept_change : ValueChange → StoredChange
kept_change c = record { code = c.code; value = bits_value c.digits }

unfoldable pub kept_step : Moment → StoredStep
kept_step m = record { time = m.time; changes = map kept_change m.changes }

-- These contents stand so in memory: the same variables, and the same steps and changes, each with
-- the number of its digits.
pub record StandsFor (ss : List Scope) (vs : List Variable) (steps : List Step) (high : List ℕ)
    (c : Contents) : Type 0 where
  pub same_variables : map (declaration_of ss) vs ≡ c.variables
  pub same_steps : map (stored_step high) steps ≡ map kept_step c.steps

-- it says something: some contents stand so
abbrev pub SaysSomething : List Scope → List Variable → List Step → List ℕ → Type 0
SaysSomething ss vs steps high = (c : Contents) × StandsFor ss vs steps high c
