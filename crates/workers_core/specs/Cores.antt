-- What is true of a core at all times, and how it begins.
use Rattle.std.specs.Prelude.{◌≡◌, ℕ, List, [], Some, None, length, map, replicate}
use Rattle.std.specs.List.{range_with_len}
use Rattle.bytecode_programs.specs.Values.{ProgramData}
use Rattle.vcd_reader.specs.Held.{variables_of}
use Rattle.cycle_window.specs.declared.window.Window.{Window}
use Rattle.cycle_window.specs.Bound.{places_of, first_refused}
use Rattle.cycle_window.specs.Held.{columns_in, places_in, size_in, first_in, end_in, IsWindowOf}
use Rattle.workers_core.specs.declared.job.Job.{Job}
use Rattle.workers_core.specs.declared.core_parts.CoreParts.{CoreParts}
use Rattle.workers_core.specs.States.{CoreState, EachStandsOnce}
use Rattle.workers_core.specs.Opening.{monitor_part, parts_from, opened_monitor}
use Rattle.workers_core.specs.Parts.{core_state, AreSoundParts}
use Rattle.workers_core.specs.Wanted.{wanted_in}

-- Before the first step: an empty window at clock 0, all monitors waiting in source order, and
-- nothing else.
abbrev pub opening_state : List ProgramData → ℕ → CoreState
opening_state ps workers = record {
  first = 0;
  end = 0;
  monitors = map opened_monitor ps;
  waiting = range_with_len 0 (length ps);
  workers = replicate workers (record { hand = None; done = [] });
  board = [];
}

-- an empty window before the first clock, over the rows of all programs' signals
pub record IsFirstWindow (j : Job) (n : ℕ) (w : Window) : Type 0 where
  pub of : IsWindowOf w j.dump j.clocks
  pub places : map Some (places_in (columns_in w))
      ≡ places_of (variables_of j.dump) (wanted_in j.programs.items)
  pub fits : first_refused (variables_of j.dump) (wanted_in j.programs.items) ≡ None
  pub size : size_in w ≡ n
  pub first : first_in w ≡ 0
  pub end : end_in w ≡ 0

-- It is sound, each monitor stands once in its lists, its window is over the rows of the job's
-- signals, and monitor i has program i with its part of a row.
pub record IsCore (j : Job) (f : CoreParts) : Type 0 where
  pub sound : AreSoundParts f
  pub once : EachStandsOnce (core_state f)
  pub window : IsWindowOf f.window j.dump j.clocks
  pub places : map Some (places_in (columns_in f.window))
      ≡ places_of (variables_of j.dump) (wanted_in j.programs.items)
  pub parts : map monitor_part f.monitors.items ≡ parts_from 0 j.programs.items

-- the parts of a core before its first step, of so many workers and by windows of so many clocks
pub record IsOpened (j : Job) (n most : ℕ) (f : CoreParts) : Type 0 where
  pub core : IsCore j f
  pub state : core_state f ≡ opening_state j.programs.items n
  pub size : size_in f.window ≡ most
