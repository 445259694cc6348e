-- A core before its first step.
use Rattle.std.proofs.Common.{◌≡◌, ℕ, Some, refl, sym, ap, subst}
use Rattle.std.specs.Prelude.{slice_get}
use Rattle.std.specs.List.{range_with_len}
use Rattle.std.proofs.lemmas.List.{length-map}
use Rattle.bytecode_programs.specs.Values.{ProgramData}
use Rattle.verifier.specs.Programs.{IsAccepted}
use Rattle.vcd_reader.specs.Dump.{Contents}
use Rattle.cycle_window.specs.Ticks.{ticks_of}
use Rattle.workers_core.proofs.RoundLaws.{many-rows}
use Rattle.workers_core.specs.States.{MonitorState}
use Rattle.workers_core.specs.Opening.{opened_monitor}
use Rattle.workers_core.specs.Values.{JobValue, opening_core, setting_of}
use Rattle.laws_headline.specs.Rounds.{IsWaiting, IsAtRest}
use Rattle.laws_headline.proofs.ListLaws.{mapped}

module _ (j : JobValue) (c : Contents) (crew size : ℕ) (ticks : j.ticks ≡ ticks_of c j.code)
    (accepted : (i : ℕ) (p : ProgramData) → slice_get j.programs i ≡ Some p → IsAccepted p) where
  one-waits : (p : ProgramData) → IsAccepted p
      → IsWaiting (setting_of (opening_core j crew size) c) 0 (opened_monitor p)
  one-waits p good =
      record {
        accepted = good;
        rows = many-rows j c p ticks;
        now = refl;
        since = refl;
        told = refl;
        state = refl;
      }

  waits : (i : ℕ) (m : MonitorState)
      → slice_get (opening_core j crew size).state.monitors i ≡ Some m
      → IsWaiting (setting_of (opening_core j crew size) c) 0 m
  waits i m is =
      let r = mapped opened_monitor j.programs i m is in
      subst (λ (x : MonitorState). IsWaiting (setting_of (opening_core j crew size) c) 0 x) r.same
      (one-waits r.of (accepted i r.of r.is))

  pub rests-at-first : IsAtRest (setting_of (opening_core j crew size) c) crew
      (opening_core j crew size).state
  rests-at-first =
      record {
        waiting = ap (range_with_len 0) (sym (length-map j.programs opened_monitor));
        workers = refl;
        monitors = waits;
      }
