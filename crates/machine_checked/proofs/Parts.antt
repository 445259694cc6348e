-- What the parts of a clock leave.
use Rattle.std.proofs.Common.{◌≡◌, inl, inr, ℕ, suc, ◌+◌, ◌-◌, ◌*◌, ◌^◌, ◌<◌, ◌≤◌, Bool, true}
use Rattle.std.proofs.Common.{false, not, ◌&&◌, ◌||◌, if◌then◌else◌, List, [], ◌∷◌, ◌++◌, length}
use Rattle.std.proofs.Common.{refl, ap, arith}
use Rattle.std.specs.Prelude.{◌==◌, bit_or}
use Rattle.std.proofs.lemmas.Bool.{cases_Bool, eqb-false, lt-ltb, or_parts, or_cases, and_parts}
use Rattle.std.proofs.lemmas.Bool.{not-true}
use Rattle.machine_checked.specs.Outcomes.{Ran, Meets}
use Rattle.bytecode_programs.specs.Values.{SectionData, ProgramData}
use Rattle.machine_checked.specs.Blocks.{visit}
use Rattle.machine_checked.proofs.Typing.{IsSection}
use Rattle.verifier.specs.Limits.{start_life, path_sum}
use Rattle.machine_checked.specs.Clocks.{Attempt, Obligation, Visits, visit_attempts, Fate}
use Rattle.machine_checked.specs.Clocks.{visit_obligations, is_ended, staying, awaits, some_broken}
use Rattle.machine_checked.specs.Clocks.{some_open, Settlement, settle, settle_all, disable_all}
use Rattle.machine_checked.specs.Clocks.{opened}
use Rattle.machine_checked.specs.Bounds.{EachIn, IsAlive, RisesBetween, IsAwaiting, IsAttempt}
use Rattle.machine_checked.specs.Bounds.{IsObligation, began, since, IsRunning, IsOwed}
use Rattle.machine_checked.proofs.Outcomes.{Meets-and_then, Meets-costs_one}
use Rattle.machine_checked.proofs.Blocks.{EachIn-or}
use Rattle.machine_checked.proofs.Visits.{Visited, visit-meets}
use Rattle.machine_checked.proofs.Rises.{Rises-within, Rises-low}

abbrev pub since_fate : Fate → ℕ
since_fate f = f.tick

module _ (p : ProgramData) (now : ℕ) where
  awaits-more : (start set : ℕ) (b : Bool) → start ≤ now → (b ≡ true → now < start + start_life p.antecedent)
      → EachIn (λ k. k < start_life p.antecedent) set
      → EachIn (λ k. k < start_life p.antecedent) (if b then bit_or set (2 ^ (now - start)) else set)
  awaits-more start set true le before each =
      EachIn-or (λ k. k < start_life p.antecedent) set (now - start) each (omega (arith, before refl))
  awaits-more start set false le before each = each

  -- the visits of attempts
  abbrev pub Seen : ℕ → List Attempt → ℕ → Visits → ℕ → Type 0
  Seen low live left vs rest =
      RisesBetween began (IsRunning p (now + 1)) low (now + 1) vs.attempts
      × (left ≤ rest + length live * (1 + path_sum 0 p.antecedent.blocks))
      × (length vs.attempts ≡ length live)

  pub visit_attempts-meets : (atoms : List Bool) → IsSection (length atoms) p.antecedent
      → (low : ℕ) (live : List Attempt) (left : ℕ) → RisesBetween began (IsRunning p now) low (now + 1) live
      → length live * (1 + path_sum 0 p.antecedent.blocks) ≤ left
      → Meets (Seen low live left) (visit_attempts p.antecedent atoms now live left)
  visit_attempts-meets atoms section low [] left rises fits = (rises, omega arith, refl)
  visit_attempts-meets atoms section low (a ∷ others) left rises fits =
      let s : ℕ = path_sum 0 p.antecedent.blocks in
      let product : length (a ∷ others) * (1 + s) ≡ 1 + s + length others * (1 + s) = omega arith in
      Meets-costs_one (Seen low (a ∷ others) left) left _ (omega (arith, product)) (λ after e.
      Meets-and_then (Visited p.antecedent a.start now after) (Seen low (a ∷ others) left)
      (visit p.antecedent atoms a.positions after) _
      (visit-meets p.antecedent atoms section a.start now a.positions after rises.1.positions (omega (arith, product)))
      (λ v rest done.
      Meets-and_then (Seen (a.start + 1) others rest) (Seen low (a ∷ others) left)
      (visit_attempts p.antecedent atoms now others rest) _
      (visit_attempts-meets atoms section (a.start + 1) others rest rises.2 (omega (arith, product, done.1)))
      (λ vs last seen. (
        (
          rises.0,
          record {
            positions = done.0.entered;
            awaited =
                awaits-more a.start a.awaited v.accepted
                (omega (arith, Rises-within began (IsRunning p now) (a.start + 1) (now + 1) others rises.2))
                done.0.accepted rises.1.awaited;
          },
          seen.0,
        ),
        omega (arith, product, done.1, seen.1),
        ap suc seen.2,
      ))))

-- An obligation after its visit.
pub record IsFated (p : ProgramData) (now : ℕ) (f : Fate) : Type 0 where
  pub positions : EachIn (IsAlive p.consequent f.tick (now + 1)) f.positions

module _ (p : ProgramData) (now : ℕ) where
  -- the visits of obligations
  abbrev pub Tells : ℕ → List Obligation → ℕ → List Fate → ℕ → Type 0
  Tells low os left fs rest =
      RisesBetween since_fate (IsFated p now) low (now + 1) fs
      × (left ≤ rest + length os * (1 + path_sum 0 p.consequent.blocks))

  pub visit_obligations-meets : (atoms : List Bool) → IsSection (length atoms) p.consequent
      → (low : ℕ) (os : List Obligation) (left : ℕ) → RisesBetween since (IsOwed p now) low (now + 1) os
      → length os * (1 + path_sum 0 p.consequent.blocks) ≤ left
      → Meets (Tells low os left) (visit_obligations p.consequent atoms os left)
  visit_obligations-meets atoms section low [] left rises fits = (rises, omega arith)
  visit_obligations-meets atoms section low (o ∷ others) left rises fits =
      let s : ℕ = path_sum 0 p.consequent.blocks in
      let product : length (o ∷ others) * (1 + s) ≡ 1 + s + length others * (1 + s) = omega arith in
      Meets-costs_one (Tells low (o ∷ others) left) left _ (omega (arith, product)) (λ after e.
      Meets-and_then (Visited p.consequent o.tick now after) (Tells low (o ∷ others) left)
      (visit p.consequent atoms o.positions after) _
      (visit-meets p.consequent atoms section o.tick now o.positions after rises.1.positions (omega (arith, product)))
      (λ v rest done.
      Meets-and_then (Tells (o.tick + 1) others rest) (Tells low (o ∷ others) left)
      (visit_obligations p.consequent atoms others rest) _
      (visit_obligations-meets atoms section (o.tick + 1) others rest rises.2 (omega (arith, product, done.1)))
      (λ fs last told. (
        (rises.0, record { positions = done.0.entered }, told.0),
        omega (arith, product, done.1, told.1),
      ))))

  pub staying-rises : (low high : ℕ) (fs : List Fate) → RisesBetween since_fate (IsFated p now) low high fs
      → RisesBetween since (IsObligation p (now + 1)) low high (staying fs)
  staying-rises low high [] rises = rises
  staying-rises low high (f ∷ fs) rises =
      let rest = staying-rises (f.tick + 1) high fs rises.2 in
      elim (cases_Bool (is_ended f)) [
        | inl on ↦
            rw on (Rises-low since (IsObligation p (now + 1)) low (f.tick + 1) high (staying fs)
            (omega (arith, rises.0)) rest)
        | inr off ↦
            rw off (
              rises.0,
              record {
                positions = rises.1.positions;
                some = eqb-false f.positions 0 (or_parts f.kept (f.positions == 0) off).1;
              },
              rest,
            )
      ]

-- what is open stays, and is awaited
some_open-stays : (a : Attempt) (fs : List Fate) → some_open a fs ≡ true → IsAwaiting a (staying fs)
some_open-stays a [] h = cc
some_open-stays a (f ∷ fs) h =
    elim (or_cases (not (is_ended f) && awaits a f.tick) (some_open a fs) h) [
      | inl here ↦
          let both = and_parts (not (is_ended f)) (awaits a f.tick) here in
          let going : is_ended f ≡ false = not-true (is_ended f) both.0 in
          rw going (inl both.1)
      | inr later ↦
          let rest = some_open-stays a fs later in
          elim (cases_Bool (is_ended f)) [ inl on ↦ rw on rest | inr off ↦ rw off (inr rest) ]
    ]

module _ (p : ProgramData) (now : ℕ) (fates : List Fate) where
  -- the attempts that stay are as between clocks
  abbrev pub Live : ℕ → Settlement → Type 0
  Live low r = RisesBetween began (IsAttempt p (now + 1) (staying fates)) low (now + 1) r.live

  settle-live : (low : ℕ) (a : Attempt) (r : Settlement) → low ≤ a.start → IsRunning p (now + 1) a
      → Live (a.start + 1) r → Live low (settle now fates a r)
  settle-live low a r le runs live =
      let less =
      Rises-low began (IsAttempt p (now + 1) (staying fates)) low (a.start + 1) (now + 1) r.live (omega arith)
      live in
      elim (cases_Bool (some_broken a fates)) [
        | inl on ↦ rw on less
        | inr off ↦
            rw off
            (elim (cases_Bool (some_open a fates || not (a.positions == 0))) [
              | inl stay ↦
                  rw stay (
                    le,
                    record {
                      positions = runs.positions;
                      awaited = runs.awaited;
                      some = elim (or_cases (some_open a fates) (not (a.positions == 0)) stay) [
                        | inl waits ↦ inr (some_open-stays a fates waits)
                        | inr has ↦ inl (eqb-false a.positions 0 (not-true (a.positions == 0) has))
                      ];
                    },
                    live,
                  )
              | inr over ↦ rw over less
            ])
      ]

  abbrev pub Settles : ℕ → List Attempt → ℕ → Settlement → ℕ → Type 0
  Settles low live left r rest = Live low r × (left ≤ rest + length live)

  pub settle_all-meets : (low : ℕ) (live : List Attempt) (left : ℕ)
      → RisesBetween began (IsRunning p (now + 1)) low (now + 1) live → length live ≤ left
      → Meets (Settles low live left) (settle_all now fates live left)
  settle_all-meets low [] left rises fits = (rises, omega arith)
  settle_all-meets low (a ∷ others) left rises fits =
      Meets-costs_one (Settles low (a ∷ others) left) left _ (omega arith) (λ after e.
      Meets-and_then (Settles (a.start + 1) others after) (Settles low (a ∷ others) left)
      (settle_all now fates others after) _
      (settle_all-meets (a.start + 1) others after rises.2 (omega arith))
      (λ r rest settled. (settle-live low a r rises.0 rises.1 settled.0, omega (arith, settled.1))))

pub disable_all-meets : (now : ℕ) (live : List Attempt) (left : ℕ) → length live ≤ left
    → Meets (λ ds rest. left ≤ rest + length live) (disable_all now live left)
disable_all-meets now [] left fits = omega arith
disable_all-meets now (a ∷ others) left fits =
    Meets-costs_one (λ ds rest. left ≤ rest + length (a ∷ others)) left _ (omega arith) (λ after e.
    Meets-and_then (λ ds rest. after ≤ rest + length others) (λ ds rest. left ≤ rest + length (a ∷ others))
    (disable_all now others after) _
    (disable_all-meets now others after (omega arith))
    (λ ds rest h. omega (arith, h)))

pub opened-meets : {A B : Type 0} (Q : B → ℕ → Type 0) (size : ℕ) (s : SectionData) (live : List A) (one : A)
    (go : List A → Ran B) → length live < size → s.start < 2 ^ length s.blocks → Meets Q (go (live ++ one ∷ []))
    → Meets Q (opened size s live one go)
opened-meets Q size s live one go room there h =
    rw (lt-ltb (length live) size room, lt-ltb s.start (2 ^ length s.blocks) there) h
