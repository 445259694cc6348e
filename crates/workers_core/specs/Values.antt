-- What a core is to its users.
use Rattle.std.specs.Prelude.{◌≡◌, ℕ, ◌≤◌, ◌<◌, ◌⊎◌, List, length, map}
use Rattle.bytecode_programs.specs.Values.{ProgramData}
use Rattle.vcd_reader.specs.Variables.{Declared}
use Rattle.vcd_reader.specs.Stored.{StoredStep, stored_step, kept_step}
use Rattle.vcd_reader.specs.Dump.{Contents}
use Rattle.vcd_reader.specs.Held.{variables_of, steps_in, high_of}
use Rattle.cycle_window.specs.Bound.{IsBadSize}
use Rattle.cycle_window.specs.Ticks.{ticks_of, row_of}
use Rattle.cycle_window.specs.Held.{ticks_in, code_in, size_in}
use Rattle.workers_core.specs.declared.job.Job.{Job}
use Rattle.workers_core.specs.declared.core_parts.CoreParts.{CoreParts}
use Rattle.workers_core.specs.declared.run_fault.RunFault.{RunFault}
use Rattle.workers_core.specs.declared.run_fault.RunFault.TheVariants as faults
use Rattle.workers_core.specs.States.{CoreState, Setting}
use Rattle.workers_core.specs.Parts.{core_state}
use Rattle.workers_core.specs.Jobs.{sampled}
use Rattle.workers_core.specs.Cores.{opening_state}

-- A job: its programs, what its dump holds, and the ticks and the code of its clock.
pub record JobValue : Type 0 where
  pub programs : List ProgramData
  pub variables : List Declared
  pub steps : List StoredStep
  pub ticks : List ℕ
  pub code : ℕ

abbrev pub job_value : Job → JobValue
job_value j = record {
  programs = j.programs.items;
  variables = variables_of j.dump;
  steps = map (stored_step (high_of j.dump)) (steps_in j.dump);
  ticks = ticks_in j.clocks;
  code = code_in j.clocks;
}

-- the job's dump has these contents
pub record Says (j : JobValue) (c : Contents) : Type 0 where
  pub variables : j.variables ≡ c.variables
  pub steps : j.steps ≡ map kept_step c.steps

-- the trace's rows of a program: the values of its signals at each tick of the job's clock
abbrev pub rows_over : JobValue → Contents → ProgramData → List (List ℕ)
rows_over j c p = map (row_of c (sampled c.variables p)) (ticks_of c j.code)

-- a job, the most clocks of a window, and the state
pub record CoreValue : Type 0 where
  pub job : JobValue
  pub size : ℕ
  pub state : CoreState

abbrev pub core_value_of : Job → CoreParts → CoreValue
core_value_of j f = record { job = job_value j; size = size_in f.window; state = core_state f }

-- before the first step
abbrev pub opening_core : JobValue → ℕ → ℕ → CoreValue
opening_core j workers size = record {
  job = j;
  size = size;
  state = opening_state j.programs workers;
}

-- what doesn't change: the trace of the dump's contents, at the job's clock
abbrev pub setting_of : CoreValue → Contents → Setting
setting_of v c = record {
  clocks = length v.job.ticks;
  size = v.size;
  rows = rows_over v.job c;
}

-- a team has 1 to 64 workers
abbrev pub IsBadTeam : ℕ → Type 0
IsBadTeam n = (n ≡ 0) ⊎ (64 < n)

-- Why there is no core: first the window's size, then the number of workers. Memory may lack.
abbrev pub WhyNoCore : ℕ → ℕ → RunFault → Type 0
WhyNoCore workers size faults.BadSize = IsBadSize size
WhyNoCore workers size faults.BadWorkers = (1 ≤ size) × (size ≤ 65536) × IsBadTeam workers
WhyNoCore workers size faults.Memory =
    (1 ≤ size) × (size ≤ 65536) × (1 ≤ workers) × (workers ≤ 64)
