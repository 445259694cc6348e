-- What steps keep of a core.
use Rattle.std.proofs.Common.{
  ◌≡◌,
  ℕ,
  length,
  List,
  ◌∷◌,
  [],
  map,
  Some,
  refl,
  sym,
  ap,
  ◌∙◌,
  subst,
  arith,
}
use Rattle.std.specs.Prelude.{slice_get}
use Rattle.std.specs.List.{filter_map}
use Rattle.bytecode_programs.specs.Values.{SlotData}
use Rattle.vcd_reader.specs.Variables.{Declared, variable_named}
use Rattle.vcd_reader.specs.Dump.{Contents}
use Rattle.vcd_reader.specs.Held.{HoldsContents, variables_of}
use Rattle.vcd_reader.proofs.HeldLaws.{says-something as dump-says}
use Rattle.std.proofs.Math.Logic.{∥∥₁_map}
use Rattle.cycle_window.specs.declared.columns.Columns.{Columns}
use Rattle.cycle_window.specs.declared.window.Window.{Window}
use Rattle.cycle_window.specs.Bound.{places_of}
use Rattle.cycle_window.specs.Ticks.{ticks_of, row_of}
use Rattle.cycle_window.specs.Held.{columns_in, places_in, code_in, ticks_in, size_in, IsOver, IsWindowOf}
use Rattle.machine_batches.specs.Reported.{wanted_slot}
use Rattle.workers_core.specs.declared.job.Job.{Job}
use Rattle.workers_core.specs.declared.core_parts.CoreParts.{CoreParts}
use Rattle.workers_core.specs.Standing.{variables_in}
use Rattle.workers_core.specs.Parts.{core_state, AreSoundParts, KeepsParts, SeeAs}
use Rattle.workers_core.specs.Opening.{MonitorPart, monitor_part}
use Rattle.workers_core.specs.Jobs.{sampled}
use Rattle.workers_core.specs.Wanted.{wanted_in}
use Rattle.workers_core.specs.Cores.{IsCore}
use Rattle.workers_core.specs.declared.step.Step.{Step}
use Rattle.workers_core.specs.declared.step.Step.TheVariants as steps
use Rattle.workers_core.specs.declared.step.Reply.{Reply}
use Rattle.workers_core.specs.States.{CoreState, Setting, EachStandsOnce, Replies, next, next_slide, next_advance}
use Rattle.workers_core.specs.Values.{CoreValue, Says, job_value, core_value_of, setting_of}
use Rattle.workers_core.proofs.CorePartLaws.{get-mapped}
use Rattle.workers_core.proofs.PartLaws.{IsPlaced, each-placed}

pub kept-places : (j : Job) (old new : CoreParts) → KeepsParts old new
    → map Some (places_in (columns_in old.window)) ≡ places_of (variables_of j.dump) (wanted_in j.programs.items)
    → map Some (places_in (columns_in new.window)) ≡ places_of (variables_of j.dump) (wanted_in j.programs.items)
kept-places j old new kept places = ap (λ (cs : Columns). map Some (places_in cs)) kept.columns ∙ places

pub kept-core : (j : Job) (old new : CoreParts) → IsCore j old → AreSoundParts new → KeepsParts old new
    → new.window ≡ old.window → EachStandsOnce (core_state new) → IsCore j new
kept-core j old new h sound kept same once = record {
  sound = sound;
  once = once;
  window = subst (λ (w : Window). IsWindowOf w j.dump j.clocks) (sym same) h.window;
  places = kept-places j old new kept h.places;
  parts = kept.parts ∙ h.parts;
}

-- the variables that signals name
named-are : (vs : List Declared) (ss : List SlotData) (xs : List ℕ)
    → map Some xs ≡ places_of vs (map wanted_slot ss)
    → filter_map (λ (s : SlotData). variable_named vs s.path) ss ≡ xs
named-are vs [] [] are = refl
named-are vs [] (x ∷ xs) are = absurd cc
named-are vs (s ∷ ss) [] are = absurd cc
named-are vs (s ∷ ss) (x ∷ xs) are =
    let one : Some x ≡ variable_named vs s.path = cc in
    let rest : map Some xs ≡ places_of vs (map wanted_slot ss) = cc in
    rw (sym one) (ap (λ (ys : List ℕ). x ∷ ys) (named-are vs ss xs rest))

-- a monitor sees the trace's rows of its program
pub sees : (j : Job) (f : CoreParts) (c : Contents) → IsCore j f → Says (job_value j) c
    → SeeAs (setting_of (core_value_of j f) c) f.window c f.monitors.items
sees j f c h says i m is =
    let vs = variables_of j.dump in
    let places = places_in (columns_in f.window) in
    let part : IsPlaced vs places (monitor_part m) =
    each-placed vs places j.programs.items 0 (omega arith) h.places i (monitor_part m)
    (sym (ap (λ (qs : List MonitorPart). slice_get qs i) h.parts)
    ∙ get-mapped monitor_part f.monitors.items i m is) in
    let named : sampled c.variables m.machine.program ≡ variables_in f.window m =
    ap (λ (ds : List Declared). sampled ds m.machine.program) (sym says.variables)
    ∙ named-are vs m.machine.program.signals (variables_in f.window m) part.are in
    ap (λ (ps : List ℕ). map (row_of c ps) (ticks_of c (code_in j.clocks))) named
    ∙ ap (λ (n : ℕ). map (row_of c (variables_in f.window m)) (ticks_of c n)) h.window.same_clock

pub holds : (j : Job) (c : Contents) → Says (job_value j) c → HoldsContents j.dump c
holds j c h = record { variables = h.variables; steps = h.steps }

-- a job's dump has some contents
pub says-something : (j : Job) → ∥ ((c : Contents) × Says (job_value j) c) ∥₁
says-something j =
    ∥∥₁_map (dump-says j.dump) (λ s. (s.0, record { variables = s.1.variables; steps = s.1.steps }))

-- what a step answers, of the value that the parts stand for
abbrev AnswersTo : CoreValue → Step → CoreState → Reply → Type 0
AnswersTo v step new reply =
    (c : Contents) → Says v.job c → Replies v.state (next (setting_of v c) v.state step) new reply

to-value : (v : CoreValue) (j : Job) (old : CoreParts) (step s : Step) (new : CoreState) (reply : Reply)
    → core_value_of j old ≡ v → step ≡ s → AnswersTo (core_value_of j old) s new reply
    → AnswersTo v step new reply
to-value v j old step s new reply is at h =
    subst (λ (x : CoreValue). AnswersTo x step new reply) is
    (subst (λ (t : Step). AnswersTo (core_value_of j old) t new reply) (sym at) h)

pub slide-reply :
    (v : CoreValue) (j : Job) (old : CoreParts) (step : Step) (new : CoreState) (reply : Reply) →
    core_value_of j old ≡ v → step ≡ steps.Slide →
    ((g : Setting) → g.clocks ≡ length (ticks_in j.clocks) → g.size ≡ size_in old.window →
    Replies (core_state old) (next_slide g (core_state old)) new reply) →
    AnswersTo v step new reply
slide-reply v j old step new reply is at h =
    to-value v j old step steps.Slide new reply is at
    (λ c says. h (setting_of (core_value_of j old) c) refl refl)

pub advance-reply :
    (v : CoreValue) (j : Job) (old : CoreParts) (step : Step) (w k : ℕ) (new : CoreState)
    (reply : Reply) → IsCore j old → core_value_of j old ≡ v → step ≡ steps.Advance w k →
    ((g : Setting) (c : Contents) → IsOver old.window c → SeeAs g old.window c old.monitors.items →
    Replies (core_state old) (next_advance g (core_state old) w k) new reply) →
    AnswersTo v step new reply
advance-reply v j old step w k new reply core is at h =
    to-value v j old step (steps.Advance w k) new reply is at
    (λ c says. h (setting_of (core_value_of j old) c) c (core.window.over c (holds j c says))
    (sees j old c core says))
