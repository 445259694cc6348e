-- A clock of the checked machine that meets no trap is a clock of its monitor.
use Rattle.std.proofs.Common.{◌≡◌, ◌∙◌, inl, inr, ℕ, ◌+◌, ◌^◌, Bool, true, false, ◌||◌, List, [], ◌∷◌, ◌++◌, length}
use Rattle.std.proofs.Common.{Option, Some, None, refl, ap, subst}
use Rattle.std.specs.Prelude.{nat_lt, unwrap_or}
use Rattle.std.proofs.lemmas.Bool.{cases_Bool}
use Rattle.signals.specs.declared.verdict.Verdict.TheVariants.{Disabled}
use Rattle.machine_checked.specs.Blocks.{Visit}
use Rattle.machine_checked.specs.Outcomes.{Ran}
use Rattle.bytecode_programs.specs.Values.{SectionData, ProgramData}
use Rattle.machine_checked.specs.Blocks.{visit}
use Rattle.machine_checked.proofs.Typing.{IsSection}
use Rattle.machine_checked.specs.Clocks.{Attempt, Obligation, Standing, Visits, visit_attempts, visited, Fate}
use Rattle.machine_checked.specs.Clocks.{visit_obligations, staying, Settlement, settle, settle_all, disable_all}
use Rattle.machine_checked.specs.Clocks.{disabling, opened, open_if, end_clock, clock_on, clock_after}
use Rattle.machine_sections.specs.Monitors.{Monitor, program_monitor, all_visited, some_accepts, with_opened, fates_in}
use Rattle.machine_sections.specs.Monitors.{all_settled}
use Rattle.machine_sections.specs.Monitors.{all_disabled, settled_with, clock_opened, fresh_attempt, monitor_clock}
use Rattle.machine_sections.specs.Effects.{visit_of}
use Rattle.machine_sections.proofs.Blocks.{Gives, Gives-and_then, Gives-costs_one, visit-gives}

module _ (p : ProgramData) (atoms : ℕ → List Bool) (now : ℕ) (fine_a : IsSection (length (atoms now)) p.antecedent)
    (fine_c : IsSection (length (atoms now)) p.consequent) where
  abbrev m : Monitor
  m = program_monitor p atoms

  abbrev visits_of : List Attempt → Visits
  visits_of live =
      record { attempts = all_visited m.antecedent now live; accepted = some_accepts m.antecedent now live }

  visit_attempts-gives : (live : List Attempt) (left : ℕ)
      → Gives (λ x. x ≡ visits_of live) (visit_attempts p.antecedent (atoms now) now live left)
  visit_attempts-gives [] left = refl
  visit_attempts-gives (a ∷ others) left =
      Gives-costs_one (λ x. x ≡ visits_of (a ∷ others)) left _ (λ left.
      Gives-and_then (λ x. x ≡ visit_of p.antecedent (atoms now) a.positions) (λ x. x ≡ visits_of (a ∷ others))
      (visit p.antecedent (atoms now) a.positions left) _
      (visit-gives p.antecedent (atoms now) fine_a a.positions left)
      (λ v left e.
      Gives-and_then (λ x. x ≡ visits_of others) (λ x. x ≡ visits_of (a ∷ others))
      (visit_attempts p.antecedent (atoms now) now others left) _
      (visit_attempts-gives others left)
      (λ vs left es.
      ap (λ (v : Visit). record { attempts = visited now a v ∷ vs.attempts; accepted = v.accepted || vs.accepted }) e
      ∙ ap (λ (vs : Visits). record {
        attempts = visited now a (visit_of p.antecedent (atoms now) a.positions) ∷ vs.attempts;
        accepted = (visit_of p.antecedent (atoms now) a.positions).accepted || vs.accepted;
      }) es)))

  visit_obligations-gives : (os : List Obligation) (left : ℕ)
      → Gives (λ x. x ≡ fates_in m.consequent now os) (visit_obligations p.consequent (atoms now) os left)
  visit_obligations-gives [] left = refl
  visit_obligations-gives (o ∷ os) left =
      Gives-costs_one (λ x. x ≡ fates_in m.consequent now (o ∷ os)) left _ (λ left.
      Gives-and_then (λ x. x ≡ visit_of p.consequent (atoms now) o.positions)
      (λ x. x ≡ fates_in m.consequent now (o ∷ os)) (visit p.consequent (atoms now) o.positions left) _
      (visit-gives p.consequent (atoms now) fine_c o.positions left)
      (λ v left e.
      Gives-and_then (λ x. x ≡ fates_in m.consequent now os) (λ x. x ≡ fates_in m.consequent now (o ∷ os))
      (visit_obligations p.consequent (atoms now) os left) _
      (visit_obligations-gives os left)
      (λ fs left es.
      ap (λ (v : Visit). record { tick = o.tick; positions = v.entered; kept = v.accepted } ∷ fs) e
      ∙ ap (λ fs. record {
        tick = o.tick;
        positions = (visit_of p.consequent (atoms now) o.positions).entered;
        kept = (visit_of p.consequent (atoms now) o.positions).accepted;
      } ∷ fs) es)))

  settle_all-gives : (fates : List Fate) (live : List Attempt) (left : ℕ)
      → Gives (λ x. x ≡ all_settled now fates live) (settle_all now fates live left)
  settle_all-gives fates [] left = refl
  settle_all-gives fates (a ∷ others) left =
      Gives-costs_one (λ x. x ≡ all_settled now fates (a ∷ others)) left _ (λ left.
      Gives-and_then (λ x. x ≡ all_settled now fates others) (λ x. x ≡ all_settled now fates (a ∷ others))
      (settle_all now fates others left) _
      (settle_all-gives fates others left)
      (λ r left e. ap (settle now fates a) e))

  disable_all-gives : (live : List Attempt) (left : ℕ)
      → Gives (λ x. x ≡ all_disabled now live) (disable_all now live left)
  disable_all-gives [] left = refl
  disable_all-gives (a ∷ others) left =
      Gives-costs_one (λ x. x ≡ all_disabled now (a ∷ others)) left _ (λ left.
      Gives-and_then (λ x. x ≡ all_disabled now others) (λ x. x ≡ all_disabled now (a ∷ others))
      (disable_all now others left) _
      (disable_all-gives others left)
      (λ ds left e. ap (λ ds. record { start = a.start; verdict = Disabled now } ∷ ds) e))

  opened-gives : {A B : Type 0} (Q : B → Type 0) (size : ℕ) (s : SectionData) (live : List A) (one : A)
      (go : List A → Ran B) → Gives Q (go (live ++ one ∷ [])) → Gives Q (opened size s live one go)
  opened-gives Q size s live one go h =
      elim (cases_Bool (nat_lt (length live) size)) [
        | inr full ↦ rw full tt
        | inl room ↦ elim (cases_Bool (nat_lt s.start (2 ^ length s.blocks))) [
          | inl there ↦ rw (room, there) h
          | inr beyond ↦ rw (room, beyond) tt
        ]
      ]

  end_clock-gives : (live : List Attempt) (left : ℕ) (os : List Obligation)
      → Gives (λ o. o ≡ settled_with now live (fates_in m.consequent now os))
      (end_clock p now (atoms now) live left os)
  end_clock-gives live left os =
      Gives-and_then (λ x. x ≡ fates_in m.consequent now os)
      (λ o. o ≡ settled_with now live (fates_in m.consequent now os))
      (visit_obligations p.consequent (atoms now) os left) _
      (visit_obligations-gives os left)
      (λ fates left e.
      Gives-and_then (λ x. x ≡ all_settled now fates live)
      (λ o. o ≡ settled_with now live (fates_in m.consequent now os)) (settle_all now fates live left) _
      (settle_all-gives fates live left)
      (λ r left es.
      ap (λ (r : Settlement). record
      { state = record { now = now + 1; attempts = r.live; obligations = staying fates }; decided = r.decided })
      es
      ∙ ap (settled_with now live) e))

  open_if-gives : (any : Bool) (live : List Attempt) (left : ℕ) (os : List Obligation)
      → Gives (λ o. o ≡ settled_with now live (fates_in m.consequent now (with_opened any m.consequent now os)))
      (open_if any p now os (end_clock p now (atoms now) live left))
  open_if-gives false live left os = end_clock-gives live left os
  open_if-gives true live left os =
      opened-gives (λ o. o ≡ settled_with now live (fates_in m.consequent now (with_opened true m.consequent now os)))
      p.header.limits.obligations p.consequent os (record { tick = now; positions = p.consequent.start })
      (end_clock p now (atoms now) live left)
      (end_clock-gives live left (os ++ record { tick = now; positions = p.consequent.start } ∷ []))

  clock_on-gives : (live : List Attempt) (os : List Obligation) (left : ℕ) (d : Option Bool)
      → Gives (λ o. o ≡ clock_opened m now live os (unwrap_or d false)) (clock_on p now (atoms now) live os left d)
  clock_on-gives live os left None = tt
  clock_on-gives live os left (Some true) =
      Gives-and_then (λ x. x ≡ all_disabled now live) (λ o. o ≡ clock_opened m now live os true)
      (disable_all now live left) _
      (disable_all-gives live left)
      (λ ds left e.
      ap (λ ds. record { state = record { now = now + 1; attempts = []; obligations = [] }; decided = ds }) e)
  clock_on-gives live os left (Some false) =
      Gives-and_then (λ x. x ≡ visits_of live) (λ o. o ≡ clock_opened m now live os false)
      (visit_attempts p.antecedent (atoms now) now live left) _
      (visit_attempts-gives live left)
      (λ vs left e.
      subst (λ (x : Visits). Gives
      (λ o. o ≡ settled_with now x.attempts (fates_in m.consequent now (with_opened x.accepted m.consequent now os)))
      (open_if vs.accepted p now os (end_clock p now (atoms now) vs.attempts left))) e
      (open_if-gives vs.accepted vs.attempts left os))

-- a clock that meets no trap is one of the monitor
pub clock-gives : (p : ProgramData) (atoms : ℕ → List Bool) (s : Standing) (left : ℕ)
    → IsSection (length (atoms s.now)) p.antecedent → IsSection (length (atoms s.now)) p.consequent
    → Gives (λ o. o ≡ monitor_clock (program_monitor p atoms) s) (clock_after p s (atoms s.now) left)
unfolding clock_after monitor_clock
clock-gives p atoms s left fine_a fine_c =
    opened-gives p atoms s.now fine_a fine_c
    (λ o. o ≡ clock_opened (program_monitor p atoms) s.now
    (s.attempts ++ fresh_attempt (program_monitor p atoms) s.now ∷ [])
    s.obligations (unwrap_or (disabling p.header.disable (atoms s.now)) false)) p.header.limits.attempts
    p.antecedent s.attempts (record { start = s.now; positions = p.antecedent.start; awaited = 0 })
    (λ live. clock_on p s.now (atoms s.now) live s.obligations left (disabling p.header.disable (atoms s.now)))
    (clock_on-gives p atoms s.now fine_a fine_c (s.attempts ++ fresh_attempt (program_monitor p atoms) s.now ∷ [])
    s.obligations left (disabling p.header.disable (atoms s.now)))
