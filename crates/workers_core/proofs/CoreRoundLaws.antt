-- A core of one worker, step by step, whatever the dump's contents are.
use Rattle.std.proofs.Common.{
  ◌≡◌,
  ℕ,
  zero,
  suc,
  ◌+◌,
  ◌<◌,
  ◌≤◌,
  List,
  [],
  ◌∷◌,
  length,
  map,
  Option,
  Some,
  true,
  refl,
  sym,
  ap,
  subst,
  arith,
}
use Rattle.std.specs.Prelude.{slice_get, is_some}
use Rattle.std.proofs.Math.Logic.{∥∥₁_elim}
use Rattle.std.proofs.Math.Bridge.{le_prop}
use Rattle.std.proofs.lemmas.List.{length-map}
use Rattle.bytecode_programs.specs.Values.{ProgramData}
use Rattle.vcd_reader.specs.Dump.{Contents}
use Rattle.workers_core.specs.declared.step.Step.{Step}
use Rattle.workers_core.specs.declared.step.Step.TheVariants as steps
use Rattle.workers_core.specs.declared.step.Reply.{Reply}
use Rattle.workers_core.specs.declared.step.Reply.TheVariants as replies
use Rattle.workers_core.specs.Opening.{opened_monitor}
use Rattle.workers_core.specs.States.{CoreState, MonitorState, Replies, next}
use Rattle.workers_core.specs.Values.{JobValue, CoreValue, Says, setting_of, opening_core}
use Rattle.workers_core.specs.Following.{FollowsMachine}
use Rattle.workers_core.specs.Rounds.{
  StandsAtClock,
  IsResting,
  IsAmid,
  HasTrace,
  Rests,
  HasDone,
  IsSameWindow,
  Allows,
  StepLeadsTo,
}
use Rattle.workers_core.proofs.RoundLaws.{
  Comes,
  allowed,
  reached,
  IsClaimed,
  IsThrough,
  slides,
  gathers,
  claims,
  advances,
  publishes,
}

-- what holds of some contents' sake
abbrev pub ForContents : JobValue → (Contents → Type 0) → Type 0
ForContents j P = (c : Contents) → Says j c → P c

pub less-traced : (j : JobValue) (a b : ℕ) → HasTrace j → ForContents j (λ c. a ≤ b) → a ≤ b
less-traced j a b trace h = ∥∥₁_elim trace.says le_prop (λ s. h s.0 s.1)

pub same-traced : (j : JobValue) (a b : ℕ) → HasTrace j → ForContents j (λ c. a ≡ b) → a ≡ b
same-traced j a b trace h =
    let low : a ≤ b = less-traced j a b trace (λ c says. let e : a ≡ b = h c says in omega arith) in
    let high : b ≤ a =
    less-traced j b a trace (λ c says. let e : a ≡ b = h c says in omega arith) in
    omega arith

-- an allowed step is not refused
refuses-none : (old new : CoreState) (after : Option CoreState) (reply : Reply)
    → is_some after ≡ true → Replies old after new reply → reply ≡ replies.Refused → 1 ≤ 0
refuses-none old new after replies.Done some h is = absurd cc
refuses-none old new after replies.Refused some h is = absurd (cc (some, ap is_some h.0))
refuses-none old new after replies.Memory some h is = absurd cc

pub not-refused : (v : CoreValue) (step : Step) (new : CoreState) (reply : Reply) → HasTrace v.job →
    Allows v step →
    ForContents v.job (λ c. Replies v.state (next (setting_of v c) v.state step) new reply) →
    reply ≡ replies.Refused → ⊥
not-refused v step new reply trace may h is =
    let no : 1 ≤ 0 =
    less-traced v.job 1 0 trace
    (λ c says. refuses-none v.state new (next (setting_of v c) v.state step) reply
    (may c says) (h c says) is) in
    omega (arith, no)

pub led-to : (v : CoreValue) (step : Step) (new : CoreState) (reply : Reply) →
    ForContents v.job (λ c. Replies v.state (next (setting_of v c) v.state step) new reply) →
    reply ≡ replies.Done → StepLeadsTo v step new
led-to v step new reply h is = λ c says.
    subst (Replies v.state (next (setting_of v c) v.state step) new) is (h c says)

-- a step that is allowed, after which something is known
abbrev pub Steps : CoreValue → Step → (JobValue → CoreState → Type 0) → Type 0
Steps v step P = ForContents v.job (λ c. Comes (next (setting_of v c) v.state step) (P v.job))

pub allows : (P : JobValue → CoreState → Type 0) (v : CoreValue) (step : Step) → Steps v step P
    → Allows v step
allows P v step h = λ c says. allowed (next (setting_of v c) v.state step) (h c says)

pub behind : (P : JobValue → CoreState → Type 0) (v new : CoreValue) (step : Step) → Steps v step P
    → StepLeadsTo v step new.state → new.job ≡ v.job → ForContents new.job (λ c. P new.job new.state)
behind P v new step h led same = λ c says.
    let says_old : Says v.job c = subst (λ (j : JobValue). Says j c) same says in
    subst (λ (j : JobValue). P j new.state) (sym same)
    (reached (next (setting_of v c) v.state step) new.state (h c says_old) (led c says_old))

-- the five steps of a round
abbrev pub Opened : CoreState → JobValue → CoreState → Type 0
Opened old j t = IsAmid (length j.programs) (length j.ticks) 0 t × (old.end < t.end)

pub sliding : (v : CoreValue) → Rests v → v.state.end < length v.job.ticks → 1 ≤ v.size
    → Steps v steps.Slide (Opened v.state)
sliding v rests more some = λ c says.
    slides (setting_of v c) (length v.job.programs) v.state (rests c says) more some

abbrev pub Claimed : ℕ → CoreState → JobValue → CoreState → Type 0
Claimed n old j t = IsClaimed (length j.programs) (length j.ticks) n t × IsSameWindow old t

pub claiming : (v : CoreValue) (n : ℕ) → n < length v.job.programs → HasDone n v
    → Steps v (steps.Claim 0) (Claimed n v.state)
claiming v n less h = λ c says.
    claims (setting_of v c) (length v.job.programs) v.state n less (h c says)

abbrev pub Through : ℕ → CoreState → JobValue → CoreState → Type 0
Through n old j t = IsThrough (length j.programs) (length j.ticks) n t × IsSameWindow old t

pub advancing : (v : CoreValue) (n k : ℕ) → HasTrace v.job → ForContents v.job (FollowsMachine v) →
    ForContents v.job (λ c. IsClaimed (length v.job.programs) (length v.job.ticks) n v.state) →
    ForContents v.job (λ c. v.state.first + k ≡ v.state.end) →
    Steps v (steps.Advance 0 k) (Through n v.state)
advancing v n k trace follows h all = λ c says.
    advances v c (length v.job.programs) n k (trace.ticks c says) (follows c says) (h c says)
    (all c says)

abbrev pub Published : ℕ → CoreState → JobValue → CoreState → Type 0
Published n old j t = IsAmid (length j.programs) (length j.ticks) (n + 1) t × IsSameWindow old t

pub publishing : (v : CoreValue) (n : ℕ)
    → ForContents v.job (λ c. IsThrough (length v.job.programs) (length v.job.ticks) n v.state)
    → Steps v (steps.Publish 0) (Published n v.state)
publishing v n h = λ c says. publishes (setting_of v c) (length v.job.programs) v.state n (h c says)

abbrev pub Gathered : CoreState → JobValue → CoreState → Type 0
Gathered old j t = IsResting (length j.programs) (length j.ticks) t × IsSameWindow old t

pub gathering : (v : CoreValue) → HasDone (length v.job.programs) v
    → Steps v steps.Gather (Gathered v.state)
gathering v h = λ c says. gathers (setting_of v c) (length v.job.programs) v.state (h c says)

-- a core before its first step rests
at-first : (ps : List ProgramData) (i : ℕ) (m : MonitorState)
    → slice_get (map opened_monitor ps) i ≡ Some m → StandsAtClock 0 m
at-first [] i m is = absurd cc
at-first (p ∷ ps) zero m is =
    let same : opened_monitor p ≡ m = cc in
    subst (StandsAtClock 0) same (record { at = refl; told = refl })
at-first (p ∷ ps) (suc i) m is = at-first ps i m is

pub opening-rests : (j : JobValue) (size : ℕ) → Rests (opening_core j 1 size)
opening-rests j size = λ c says. record {
  many = length-map j.programs opened_monitor;
  inside = omega arith;
  waiting = refl;
  workers = refl;
  monitors = at-first j.programs;
}

-- after a slide the window's clocks are further ones
pub opened-window : (v new : CoreValue) → HasTrace v.job → Rests v →
    v.state.end < length v.job.ticks → 1 ≤ v.size → StepLeadsTo v steps.Slide new.state →
    new.job ≡ v.job →
    (new.state.first ≤ new.state.end) × (v.state.end < new.state.end)
opened-window v new trace rests more some led same =
    let trace_new : HasTrace new.job = subst HasTrace (sym same) trace in
    let open_now =
    behind (Opened v.state) v new steps.Slide (sliding v rests more some) led same in (
      less-traced new.job new.state.first new.state.end trace_new
          (λ c says. omega (arith, (open_now c says).0.some)),
      less-traced new.job (suc v.state.end) new.state.end trace_new
          (λ c says. omega (arith, (open_now c says).1)),
    )

pub begun : (v new : CoreValue) → Rests v → v.state.end < length v.job.ticks → 1 ≤ v.size
    → StepLeadsTo v steps.Slide new.state → new.job ≡ v.job → HasDone 0 new
begun v new rests more some led same = λ c says.
    (behind (Opened v.state) v new steps.Slide (sliding v rests more some) led same c says).0
