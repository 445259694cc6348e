-- What a job holds.
use Rattle.std.specs.Prelude.{◌≡◌, ℕ, List, None, map}
use Rattle.std.specs.List.{filter_map}
use Rattle.bytecode_programs.specs.Values.{ProgramData}
use Rattle.vcd_reader.specs.declared.dump.Dump.{Dump}
use Rattle.vcd_reader.specs.Variables.{Declared, variable_named}
use Rattle.vcd_reader.specs.Dump.{Contents}
use Rattle.vcd_reader.specs.Held.{variables_of}
use Rattle.cycle_window.specs.Bound.{IsClock, first_refused}
use Rattle.cycle_window.specs.Ticks.{ticks_of, row_of}
use Rattle.cycle_window.specs.Held.{code_in}
use Rattle.workers_core.specs.declared.job.Job.{Job}
use Rattle.workers_core.specs.Wanted.{wanted_in, IsGoodCount}

-- The job has these programs, in this order, this dump, and the clock that the path names; each
-- signal of each program names a variable of its width.
pub record IsJobOf (ps : List ProgramData) (d : Dump) (path : List ℕ) (j : Job) : Type 0 where
  pub programs : j.programs.items ≡ ps
  pub dump : j.dump ≡ d
  pub clock : IsClock (variables_of d) path (code_in j.clocks)
  pub count : IsGoodCount ps
  pub fits : first_refused (variables_of d) (wanted_in ps) ≡ None

-- the variables that a program's signals name
abbrev pub sampled : List Declared → ProgramData → List ℕ
sampled vs p = filter_map (λ s. variable_named vs s.path) p.signals

-- the trace's rows of a program: the values of its signals at each tick of the job's clock
abbrev pub rows_over : Job → Contents → ProgramData → List (List ℕ)
rows_over j c p = map (row_of c (sampled c.variables p)) (ticks_of c (code_in j.clocks))
