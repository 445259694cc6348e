-- The signals of a job's programs in a dump, and why there is no job.
use Rattle.std.specs.Prelude.{◌≡◌, ℕ, ◌≤◌, ◌<◌, ◌⊎◌, List, length, map, Some}
use Rattle.std.specs.Prelude.{string_bytes}
use Rattle.std.specs.List.{flat_map}
use Rattle.bytecode_programs.specs.Values.{ProgramData}
use Rattle.vcd_reader.specs.Variables.{Declared, variable_named}
use Rattle.cycle_window.specs.declared.fault.WindowFault.TheVariants as windows
use Rattle.cycle_window.specs.Bound.{Wanted, Missing, OtherWidth, At}
use Rattle.cycle_window.specs.Bound.{misfit, first_refused, HasClock}
use Rattle.machine_batches.specs.Reported.{wanted_slot}
use Rattle.workers_core.specs.declared.job_fault.JobFault.{JobFault}
use Rattle.workers_core.specs.declared.job_fault.JobFault.TheVariants as faults

-- the signals of programs, by program and signal
abbrev pub wanted_in : List ProgramData → List Wanted
wanted_in ps = flat_map (λ p. map wanted_slot p.signals) ps

-- a job has 1 to 4,096 programs
abbrev pub IsBadCount : List ProgramData → Type 0
IsBadCount ps = (length ps ≡ 0) ⊎ (4096 < length ps)

pub record IsGoodCount (ps : List ProgramData) : Type 0 where
  pub some : 1 ≤ length ps
  pub most : length ps ≤ 4096

-- Why programs can't run over a dump: first their number, then the signals by program and signal.
-- Memory may lack anywhere.
abbrev pub WhyUnfit : List Declared → List ProgramData → JobFault → Type 0
WhyUnfit vs ps faults.BadJob = IsBadCount ps
WhyUnfit vs ps (faults.Window (windows.NoSignal p)) =
    IsGoodCount ps × (first_refused vs (wanted_in ps) ≡ Some (At (string_bytes p) Missing))
WhyUnfit vs ps (faults.Window (windows.SignalWidth p)) =
    IsGoodCount ps × (first_refused vs (wanted_in ps) ≡ Some (At (string_bytes p) OtherWidth))
WhyUnfit vs ps faults.Memory = Unit {0}
WhyUnfit vs ps e = ⊥

-- Why there is no job: first the clock, then the number of programs, then the signals by program
-- and signal. Memory may lack anywhere.
abbrev pub WhyNoJob : List Declared → List ℕ → List ProgramData → JobFault → Type 0
WhyNoJob vs path ps (faults.Window windows.NoClock) =
    misfit vs (variable_named vs path) 1 ≡ Some Missing
WhyNoJob vs path ps (faults.Window windows.ClockWidth) =
    misfit vs (variable_named vs path) 1 ≡ Some OtherWidth
WhyNoJob vs path ps faults.BadJob = HasClock vs path × IsBadCount ps
WhyNoJob vs path ps (faults.Window (windows.NoSignal p)) =
    HasClock vs path × IsGoodCount ps
    × (first_refused vs (wanted_in ps) ≡ Some (At (string_bytes p) Missing))
WhyNoJob vs path ps (faults.Window (windows.SignalWidth p)) =
    HasClock vs path × IsGoodCount ps
    × (first_refused vs (wanted_in ps) ≡ Some (At (string_bytes p) OtherWidth))
WhyNoJob vs path ps (faults.Window windows.BadSize) = ⊥
WhyNoJob vs path ps (faults.Window windows.Memory) = ⊥
WhyNoJob vs path ps faults.Memory = Unit {0}
