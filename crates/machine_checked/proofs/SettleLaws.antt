-- Settling attempts, and disabling them, by their open awaited ticks.
use Rattle.std.proofs.Common.{◌≡◌, ℕ, zero, suc, Bool, true, false, not, ◌||◌, if◌then◌else◌, List, [], ◌∷◌, map}
use Rattle.std.proofs.Common.{refl, sym, ap, ◌∙◌, subst}
use Rattle.std.specs.Prelude.{◌==◌, filter}
use Rattle.std.specs.List.{AllByRecursion}
use Rattle.signals.specs.declared.verdict.Decided.{Decided}
use Rattle.signals.specs.declared.verdict.Verdict.TheVariants.{Holds, Vacuous, Fails, Disabled}
use Rattle.machine_checked.specs.Outcomes.{Ran, done, trapped, and_then}
use Rattle.machine_checked.specs.Clocks.{Attempt, Fate, Settlement, settle, settle_all, disable_all, ends, stays}
use Rattle.machine_checked.specs.Clocks.{staying, some_broken, some_open}
use Rattle.machine_checked.specs.Awaited.{accepted_of, fate_ticks, is_some}
use Rattle.machine_checked.proofs.Awaited.{keeps}
use Rattle.machine_checked.specs.OpenTicks.{OpenAttempt, OpenSettlement, is_open_broken, is_awaited, ends_now}
use Rattle.machine_checked.specs.OpenTicks.{stays_open}
use Rattle.machine_checked.specs.OpenTicks.{settle_open, settle_each, disable_each}
use Rattle.machine_checked.proofs.MemberLaws.{open_at, AreTicksIn, failed-at, filtered-at, staying-in}
use Rattle.machine_checked.proofs.RanLaws.{ran_map, IfDone}

abbrev pub stay_ticks : List Fate → List ℕ
stay_ticks fates = map (λ o. o.tick) (staying fates)

abbrev pub open_settlement : List Fate → Settlement → OpenSettlement
open_settlement fates r = record { live = map (open_at (stay_ticks fates)) r.live; decided = r.decided }

module _ (now : ℕ) (fates : List Fate) (ticks : List ℕ) (all : AreTicksIn ticks (fate_ticks fates)) where
  -- what a settlement comes to, by whether the attempt failed and what it awaits
  abbrev shape : Attempt → OpenSettlement → Bool → List ℕ → OpenSettlement
  shape a r failed awaited =
      if failed
      then ends_now a.start (Fails now) r
      else (
      if is_some awaited || not (a.positions == 0)
      then stays_open
      (record { start = a.start; positions = a.positions; awaited = awaited; accepted = not (a.awaited == 0) }) r
      else ends_now a.start (if not (a.awaited == 0) then Holds now else Vacuous now) r
      )

  push : (a : Attempt) (r : Settlement) (failed waits never : Bool) →
      open_settlement fates
      (if failed then ends a (Fails now) r
      else (if waits then stays a r else ends a (if never then Vacuous now else Holds now) r))
      ≡ (if failed
      then ends_now a.start (Fails now) (open_settlement fates r)
      else (
      if waits
      then stays_open (open_at (stay_ticks fates) a) (open_settlement fates r)
      else ends_now a.start (if not never then Holds now else Vacuous now) (open_settlement fates r)
      ))
  push a r true waits never = refl
  push a r false true never = refl
  push a r false false true = refl
  push a r false false false = refl

  pub settle-same : (a : Attempt) (r : Settlement) →
      open_settlement fates (settle now fates a r) ≡ settle_open now fates (open_at ticks a) (open_settlement fates r)
  settle-same a r =
      let rest = open_settlement fates r in
      push a r (some_broken a fates) (some_open a fates || not (a.positions == 0)) (a.awaited == 0)
      ∙ ap (λ b. if some_broken a fates
      then ends_now a.start (Fails now) rest
      else (
      if b || not (a.positions == 0)
      then stays_open (open_at (stay_ticks fates) a) rest
      else ends_now a.start (if not (a.awaited == 0) then Holds now else Vacuous now) rest
      )) (keeps.waits a fates)
      ∙ sym (ap (λ b. shape a rest b (accepted_of a (stay_ticks fates))) (failed-at ticks a fates all))
      ∙ sym (ap (shape a rest (is_open_broken (open_at ticks a) fates))
      (filtered-at ticks a (stay_ticks fates) (staying-in ticks fates all)))

  next : (a : Attempt) (r : Ran Settlement) (s : Ran OpenSettlement) → ran_map (open_settlement fates) r ≡ s →
      ran_map (open_settlement fates) (and_then r (λ x left. done (settle now fates a x) left))
      ≡ and_then s (λ x left. done (settle_open now fates (open_at ticks a) x) left)
  next a (done x left) s e =
      subst (λ (y : Ran OpenSettlement).
      done (open_settlement fates (settle now fates a x)) left
      ≡ and_then y (λ x left. done (settle_open now fates (open_at ticks a) x) left)) e
      (ap (λ y. done y left) (settle-same a x))
  next a (trapped t) s e =
      subst (λ (y : Ran OpenSettlement).
      trapped t ≡ and_then y (λ x left. done (settle_open now fates (open_at ticks a) x) left)) e refl

  pub settled-same : (live : List Attempt) (left : ℕ) →
      ran_map (open_settlement fates) (settle_all now fates live left)
      ≡ settle_each now fates (map (open_at ticks) live) left
  settled-same [] left = refl
  settled-same (a ∷ others) zero = refl
  settled-same (a ∷ others) (suc left) =
      next a (settle_all now fates others left) (settle_each now fates (map (open_at ticks) others) left)
      (settled-same others left)

-- what stays live is some of what was
kept_by : (P : Attempt → Type 0) (now : ℕ) (a : Attempt) (r : Settlement) (failed waits : Bool) (never : Bool) →
    P a → AllByRecursion P r.live →
    AllByRecursion P (if failed then ends a (Fails now) r
    else (if waits then stays a r else ends a (if never then Vacuous now else Holds now) r)).live
kept_by P now a r true waits never h k = k
kept_by P now a r false true never h k = (h, k)
kept_by P now a r false false never h k = k

next_live : (P : Attempt → Type 0) (now : ℕ) (fates : List Fate) (a : Attempt) (r : Ran Settlement) → P a →
    IfDone (λ x. AllByRecursion P x.live) r →
    IfDone (λ x. AllByRecursion P x.live) (and_then r (λ x left. done (settle now fates a x) left))
next_live P now fates a (done x left) h k =
    kept_by P now a x (some_broken a fates) (some_open a fates || not (a.positions == 0)) (a.awaited == 0) h k
next_live P now fates a (trapped t) h k = tt

pub settled-live : (P : Attempt → Type 0) (now : ℕ) (fates : List Fate) (live : List Attempt) (left : ℕ) →
    AllByRecursion P live → IfDone (λ x. AllByRecursion P x.live) (settle_all now fates live left)
settled-live P now fates [] left h = tt
settled-live P now fates (a ∷ others) zero h = tt
settled-live P now fates (a ∷ others) (suc left) h =
    next_live P now fates a (settle_all now fates others left) h.0 (settled-live P now fates others left h.1)

-- a disabled clock
next_disabled : (now start : ℕ) (r s : Ran (List Decided)) → r ≡ s →
    and_then r (λ ds left. done (record { start = start; verdict = Disabled now } ∷ ds) left)
    ≡ and_then s (λ ds left. done (record { start = start; verdict = Disabled now } ∷ ds) left)
next_disabled now start r s e =
    ap (λ x. and_then x (λ ds left. done (record { start = start; verdict = Disabled now } ∷ ds) left)) e

pub disabled-same : (now : ℕ) (ticks : List ℕ) (live : List Attempt) (left : ℕ) →
    disable_all now live left ≡ disable_each now (map (open_at ticks) live) left
disabled-same now ticks [] left = refl
disabled-same now ticks (a ∷ others) zero = refl
disabled-same now ticks (a ∷ others) (suc left) =
    next_disabled now a.start (disable_all now others left) (disable_each now (map (open_at ticks) others) left)
    (disabled-same now ticks others left)
