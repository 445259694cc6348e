-- The signals of programs, and why there is no job.
use Rattle.std.proofs.Common.{
  ◌≡◌,
  ℕ,
  ◌+◌,
  ◌<◌,
  List,
  [],
  ◌∷◌,
  ◌++◌,
  length,
  get_or,
  take,
  map,
  ap,
  ◌∙◌,
}
use Rattle.std.proofs.lemmas.List.{take_more, append-nil}
use Rattle.std.proofs.lemmas.Grind.{flat_map-append}
use Rattle.bytecode_programs.specs.Values.{ProgramData}
use Rattle.vcd_reader.specs.Variables.{Declared}
use Rattle.cycle_window.specs.declared.fault.WindowFault.{WindowFault}
use Rattle.cycle_window.specs.declared.fault.WindowFault.TheVariants as windows
use Rattle.cycle_window.specs.Bound.{Wanted, IsClockFault}
use Rattle.machine_batches.specs.Reported.{wanted_slot}
use Rattle.workers_core.specs.Faults.{window_fault}
use Rattle.workers_core.specs.Wanted.{wanted_in, WhyNoJob}

abbrev signals_wanted : ProgramData → List Wanted
signals_wanted p = map wanted_slot p.signals

-- the signals of one program more
pub wanted-more : (ps : List ProgramData) (i : ℕ) (d : ProgramData) → i < length ps
    → wanted_in (take (i + 1) ps) ≡ wanted_in (take i ps) ++ map wanted_slot (get_or ps i d).signals
wanted-more ps i d lt =
    ap wanted_in (take_more ps i d lt)
    ∙ flat_map-append signals_wanted (take i ps) (get_or ps i d ∷ [])
    ∙ ap (λ (xs : List Wanted). wanted_in (take i ps) ++ xs)
    (append-nil (signals_wanted (get_or ps i d)))

-- why there is no job, at the clock
pub clock-why : (vs : List Declared) (path : List ℕ) (ps : List ProgramData) (e : WindowFault)
    → IsClockFault vs path e → WhyNoJob vs path ps (window_fault e)
clock-why vs path ps windows.NoClock h = h
clock-why vs path ps windows.ClockWidth h = h
clock-why vs path ps windows.BadSize h = absurd h
clock-why vs path ps (windows.NoSignal p) h = absurd h
clock-why vs path ps (windows.SignalWidth p) h = absurd h
clock-why vs path ps windows.Memory h = tt
