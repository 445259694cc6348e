-- A clock by the set of all ticks at which attempts accepted, and by their open awaited ticks.
use Rattle.std.proofs.Common.{◌≡◌, ℕ, zero, suc, ◌+◌, ◌-◌, ◌<◌, ◌≤◌, ◌^◌, Bool, true, false, not, ◌&&◌}
use Rattle.std.proofs.Common.{if◌then◌else◌, List, [], ◌∷◌, ◌++◌, map, length, Option, Some, None}
use Rattle.std.proofs.Common.{refl, sym, ap, ◌∙◌, subst, arith}
use Rattle.std.specs.Prelude.{◌==◌, nat_le, nat_lt, cond, take}
use Rattle.std.specs.Int.{bit_at}
use Rattle.std.specs.List.{AllByRecursion}
use Rattle.std.proofs.lemmas.Nat.Bits.{bit_at-zero}
use Rattle.std.proofs.lemmas.Bool.{cases_Bool}
use Rattle.bytecode_programs.specs.Values.{SectionData, ProgramData}
use Rattle.bytecode_programs.specs.Instructions.{frame_of}
use Rattle.machine_checked.specs.Outcomes.{Ran, done, trapped, bad_operand, pool_full, and_then}
use Rattle.machine_checked.specs.Samples.{Made, nothing_made, run_sample}
use Rattle.machine_checked.specs.Clocks.{Attempt, Obligation, Standing, Settled, Visits, Fate, Settlement, awaits}
use Rattle.machine_checked.specs.Clocks.{visit_attempts, visit_obligations, settle_all, disable_all, staying}
use Rattle.machine_checked.specs.Clocks.{disabling, opened, open_if, end_clock, clock_on, clock_after}
use Rattle.machine_checked.specs.Machine.{State, Outcome, opening, with_row, sample_of, stored, with_standing}
use Rattle.machine_checked.specs.Machine.{clock, clocks}
use Rattle.machine_checked.specs.Awaited.{accepted_of, fate_ticks}
use Rattle.signals.specs.declared.verdict.Decided.{Decided}
use Rattle.machine_checked.specs.OpenTicks.{OpenAttempt, OpenStanding, OpenSettled, OpenSettlement, OpenVisits}
use Rattle.machine_checked.specs.OpenTicks.{OpenState, OpenOutcome, visit_each, settle_each, end_open}
use Rattle.machine_checked.specs.OpenTicks.{disable_each, opened_if}
use Rattle.machine_checked.specs.OpenTicks.{clock_with, open_clock_after, open_clock, open_attempt, open_standing}
use Rattle.machine_checked.specs.OpenTicks.{open_state, open_outcome, ClocksAgree}
use Rattle.machine_checked.proofs.RanLaws.{ran_map, IfDone, done_then, done_any}
use Rattle.machine_checked.proofs.MemberLaws.{open_at, AreTicksIn, in-itself, all-in-longer}
use Rattle.machine_checked.proofs.SettleLaws.{stay_ticks, open_settlement, settled-same, settled-live, disabled-same}
use Rattle.machine_checked.proofs.VisitLaws.{IsYoung, IsPast, AreYoung, open_visits, visits-same, visits-young}
use Rattle.machine_checked.proofs.VisitLaws.{fates-ticks}
use Rattle.machine_checked.proofs.VisitLaws.{staying-past}

-- what is so between clocks
pub record AllYoung (s : Standing) : Type 0 where
  pub attempts : AllByRecursion (IsYoung s.now) s.attempts
  pub obligations : AllByRecursion (IsPast s.now) s.obligations

abbrev open_settled : Settled → OpenSettled
open_settled r = record { state = open_standing r.state; decided = r.decided }

abbrev ticks_in : List Obligation → List ℕ
ticks_in os = map (λ o. o.tick) os

-- An attempt that begins.
abbrev beginning : ProgramData → ℕ → Attempt
beginning p now = record { start = now; positions = p.antecedent.start; awaited = 0 }

none-awaited : (p : ProgramData) (now t : ℕ) → awaits (beginning p now) t ≡ false
none-awaited p now t =
    ap (λ n. nat_le now t && (n == 1)) (bit_at-zero (t - now)) ∙ and_false (nat_le now t)
  where
    and_false : (b : Bool) → (b && false) ≡ false
    and_false true = refl
    and_false false = refl

none-accepted : (p : ProgramData) (now : ℕ) (ticks : List ℕ) → accepted_of (beginning p now) ticks ≡ []
none-accepted p now [] = refl
none-accepted p now (t ∷ ts) =
    ap (λ b. cond b (t ∷ accepted_of (beginning p now) ts) (accepted_of (beginning p now) ts)) (none-awaited p now t)
    ∙ none-accepted p now ts

begins-young : (p : ProgramData) (now : ℕ) → IsYoung now (beginning p now)
begins-young p now = record {
  started = omega arith;
  accepted = λ k on. absurd (omega (arith, on, bit_at-zero k));
}

-- a longer list, turned
map-last : (f : Attempt → OpenAttempt) (live : List Attempt) (one : Attempt) →
    map f (live ++ one ∷ []) ≡ map f live ++ f one ∷ []
map-last f [] one = refl
map-last f (a ∷ others) one = ap (λ l. f a ∷ l) (map-last f others one)

map-long : (f : Attempt → OpenAttempt) (live : List Attempt) → length (map f live) ≡ length live
map-long f [] = refl
map-long f (a ∷ others) = ap suc (map-long f others)

all-last : {A : Type 0} (P : A → Type 0) (xs : List A) (x : A) → AllByRecursion P xs → P x →
    AllByRecursion P (xs ++ x ∷ [])
all-last P [] x h k = (k, tt)
all-last P (y ∷ ys) x h k = (h.0, all-last P ys x h.1 k)

-- places in a pool
turned : {A B : Type 0} (F : A → B) (room there : Bool) (x : Ran A) →
    ran_map F (if room then (if there then x else trapped bad_operand) else trapped pool_full)
    ≡ (if room then (if there then ran_map F x else trapped bad_operand) else trapped pool_full)
turned F true true x = refl
turned F true false x = refl
turned F false there x = refl

room-same : (p : ProgramData) (live : List Attempt) (f : Attempt → OpenAttempt) (one : Attempt) (two : OpenAttempt)
    (go : List Attempt → Ran Settled) (on : List OpenAttempt → Ran OpenSettled) → f one ≡ two →
    ran_map open_settled (go (live ++ one ∷ [])) ≡ on (map f (live ++ one ∷ [])) →
    ran_map open_settled (opened p.header.limits.attempts p.antecedent live one go)
    ≡ opened p.header.limits.attempts p.antecedent (map f live) two on
room-same p live f one two go on same after =
    let room : ℕ → Bool = λ n. nat_lt n p.header.limits.attempts in
    let there = nat_lt p.antecedent.start (2 ^ length p.antecedent.blocks) in
    let shape : ℕ → Ran OpenSettled → Ran OpenSettled =
    λ n x. if room n then (if there then x else trapped bad_operand) else trapped pool_full in
    turned open_settled (room (length live)) there (go (live ++ one ∷ []))
    ∙ ap (shape (length live)) after
    ∙ ap (λ l. shape (length live) (on l)) (map-last f live one ∙ ap (λ x. map f live ++ x ∷ []) same)
    ∙ ap (λ n. shape n (on (map f live ++ two ∷ []))) (sym (map-long f live))

duty-same : (accepted : Bool) (p : ProgramData) (now : ℕ) (os : List Obligation)
    (go : List Obligation → Ran Settled) (on : List Obligation → Ran OpenSettled) →
    ran_map open_settled (go os) ≡ on os →
    ran_map open_settled (go (os ++ record { tick = now; positions = p.consequent.start } ∷ []))
    ≡ on (os ++ record { tick = now; positions = p.consequent.start } ∷ []) →
    ran_map open_settled (open_if accepted p now os go) ≡ opened_if accepted p now os on
duty-same false p now os go on h k = h
duty-same true p now os go on h k =
    let room = nat_lt (length os) p.header.limits.obligations in
    let there = nat_lt p.consequent.start (2 ^ length p.consequent.blocks) in
    turned open_settled room there (go (os ++ record { tick = now; positions = p.consequent.start } ∷ []))
    ∙ ap (λ (x : Ran OpenSettled).
    if room then (if there then x else trapped bad_operand) else trapped pool_full) k

-- the end of a clock
abbrev left_live : ℕ → List Fate → Settlement → Settled
left_live now fates r =
    record {
      state = record { now = now + 1; attempts = r.live; obligations = staying fates };
      decided = r.decided;
    }

abbrev left_open : ℕ → List Fate → OpenSettlement → OpenSettled
left_open now fates r =
    record {
      state = record { now = now + 1; attempts = r.live; obligations = staying fates };
      decided = r.decided;
    }

settled-end : (now : ℕ) (fates : List Fate) (r : Ran Settlement) (q : Ran OpenSettlement) →
    ran_map (open_settlement fates) r ≡ q →
    ran_map open_settled (and_then r (λ x left. done (left_live now fates x) left))
    ≡ and_then q (λ x left. done (left_open now fates x) left)
settled-end now fates (done x left) q e =
    subst (λ (y : Ran OpenSettlement).
    done (open_settled (left_live now fates x)) left ≡ and_then y (λ x left. done (left_open now fates x) left)) e refl
settled-end now fates (trapped t) q e =
    subst (λ (y : Ran OpenSettlement).
    trapped t ≡ and_then y (λ x left. done (left_open now fates x) left)) e refl

module _ (p : ProgramData) (now : ℕ) (atoms : List Bool) (ticks : List ℕ) where
  fated : (live : List Attempt) (os : List Obligation) (r : Ran (List Fate)) →
      IfDone (λ (fates : List Fate). fate_ticks fates ≡ ticks_in os) r → AreTicksIn ticks (ticks_in os) →
      ran_map open_settled
      (and_then r (λ fates left.
      and_then (settle_all now fates live left) (λ x left. done (left_live now fates x) left)))
      ≡ and_then r (λ fates left.
      and_then (settle_each now fates (map (open_at ticks) live) left)
      (λ x left. done (left_open now fates x) left))
  fated live os (trapped t) h all = refl
  fated live os (done fates left) h all =
      settled-end now fates (settle_all now fates live left) (settle_each now fates (map (open_at ticks) live) left)
      (settled-same now fates ticks (subst (AreTicksIn ticks) (sym h) all) live left)

  end-same : (live : List Attempt) (left : ℕ) (os : List Obligation) → AreTicksIn ticks (ticks_in os) →
      ran_map open_settled (end_clock p now atoms live left os)
      ≡ end_open p now atoms (map (open_at ticks) live) left os
  end-same live left os all =
      fated live os (visit_obligations p.consequent atoms os left) (fates-ticks p.consequent atoms os left) all

-- the ticks of obligations, and of one more
ticks-last : (os : List Obligation) (o : Obligation) → ticks_in (os ++ o ∷ []) ≡ ticks_in os ++ o.tick ∷ []
ticks-last [] o = refl
ticks-last (x ∷ xs) o = ap (λ l. x.tick ∷ l) (ticks-last xs o)

past-ticks : (now : ℕ) (os : List Obligation) → AllByRecursion (IsPast now) os →
    AllByRecursion (λ t. t < now) (ticks_in os)
past-ticks now [] h = tt
past-ticks now (o ∷ os) h = (h.0, past-ticks now os h.1)

-- the visits, and what comes after them
visited-end : (p : ProgramData) (now : ℕ) (atoms : List Bool) (os : List Obligation) (r : Ran Visits)
    (q : Ran OpenVisits) → ran_map (open_visits (ticks_in os ++ now ∷ [])) r ≡ q →
    ran_map open_settled
    (and_then r (λ vs left. open_if vs.accepted p now os (end_clock p now atoms vs.attempts left)))
    ≡ and_then q (λ vs left. opened_if vs.accepted p now os (end_open p now atoms vs.attempts left))
visited-end p now atoms os (trapped t) q e =
    subst (λ (y : Ran OpenVisits).
    trapped t ≡ and_then y (λ vs left. opened_if vs.accepted p now os (end_open p now atoms vs.attempts left))) e refl
visited-end p now atoms os (done vs left) q e =
    let ticks = ticks_in os ++ now ∷ [] in
    let duty : Obligation = record { tick = now; positions = p.consequent.start } in
    let all : AreTicksIn ticks (ticks_in os) =
    all-in-longer (ticks_in os) now (ticks_in os) (in-itself (ticks_in os)) in
    let more : AreTicksIn ticks (ticks_in (os ++ duty ∷ [])) =
    subst (AreTicksIn ticks) (sym (ticks-last os duty)) (in-itself ticks) in
    subst (λ (y : Ran OpenVisits).
    ran_map open_settled (open_if vs.accepted p now os (end_clock p now atoms vs.attempts left))
    ≡ and_then y (λ vs left. opened_if vs.accepted p now os (end_open p now atoms vs.attempts left))) e
    (duty-same vs.accepted p now os (end_clock p now atoms vs.attempts left)
    (end_open p now atoms (map (open_at ticks) vs.attempts) left)
    (end-same p now atoms ticks vs.attempts left os all)
    (end-same p now atoms ticks vs.attempts left (os ++ duty ∷ []) more))

abbrev none_live : ℕ → List Decided → Settled
none_live now ds =
    record { state = record { now = now + 1; attempts = []; obligations = [] }; decided = ds }

abbrev none_open : ℕ → List Decided → OpenSettled
none_open now ds =
    record { state = record { now = now + 1; attempts = []; obligations = [] }; decided = ds }

disabled-end : (now : ℕ) (r q : Ran (List Decided)) → r ≡ q →
    ran_map open_settled (and_then r (λ ds left. done (none_live now ds) left))
    ≡ and_then q (λ ds left. done (none_open now ds) left)
disabled-end now (done ds left) q e =
    subst (λ (y : Ran (List Decided)).
    done (none_open now ds) left ≡ and_then y (λ ds left. done (none_open now ds) left)) e refl
disabled-end now (trapped t) q e =
    subst (λ (y : Ran (List Decided)).
    trapped t ≡ and_then y (λ ds left. done (none_open now ds) left)) e refl

on-same : (p : ProgramData) (now : ℕ) (atoms : List Bool) (live : List Attempt) (os : List Obligation) (left : ℕ)
    (off : Option Bool) → AllByRecursion (IsYoung now) live → AllByRecursion (IsPast now) os →
    ran_map open_settled (clock_on p now atoms live os left off)
    ≡ clock_with p now atoms (map (open_attempt os) live) os left off
on-same p now atoms live os left None h k = refl
on-same p now atoms live os left (Some true) h k =
    disabled-end now (disable_all now live left) (disable_each now (map (open_attempt os) live) left)
    (disabled-same now (ticks_in os) live left)
on-same p now atoms live os left (Some false) h k =
    visited-end p now atoms os (visit_attempts p.antecedent atoms now live left)
    (visit_each p.antecedent atoms now (map (open_attempt os) live) left)
    (visits-same p.antecedent atoms now (ticks_in os) (past-ticks now os k) live left h)

pub after-same : (p : ProgramData) (s : Standing) (atoms : List Bool) (left : ℕ) → AllYoung s →
    ran_map open_settled (clock_after p s atoms left) ≡ open_clock_after p (open_standing s) atoms left
unfolding clock_after
after-same p s atoms left h =
    let off = disabling p.header.disable atoms in
    let one = beginning p s.now in
    let begins : open_attempt s.obligations one
    ≡ record { start = s.now; positions = p.antecedent.start; awaited = []; accepted = false } =
    ap (λ l. record { start = s.now; positions = p.antecedent.start; awaited = l; accepted = false })
    (none-accepted p s.now (ticks_in s.obligations)) in
    room-same p s.attempts (open_attempt s.obligations) one
    (record { start = s.now; positions = p.antecedent.start; awaited = []; accepted = false })
    (λ live. clock_on p s.now atoms live s.obligations left off)
    (λ live. clock_with p s.now atoms live s.obligations left off) begins
    (on-same p s.now atoms (s.attempts ++ one ∷ []) s.obligations left off
    (all-last (IsYoung s.now) s.attempts one h.attempts (begins-young p s.now)) h.obligations)

-- what is so after a clock
abbrev LeavesYoung : Settled → Type 0
LeavesYoung r = AllYoung r.state

room-young : {A : Type 0} (size : ℕ) (section : SectionData) (live : List A) (one : A) (go : List A → Ran Settled) →
    IfDone LeavesYoung (go (live ++ one ∷ [])) → IfDone LeavesYoung (opened size section live one go)
room-young size section live one go h =
    branch (nat_lt (length live) size) (nat_lt section.start (2 ^ length section.blocks)) h
  where
    branch : (room there : Bool) → IfDone LeavesYoung (go (live ++ one ∷ [])) →
        IfDone LeavesYoung
        (if room then (if there then go (live ++ one ∷ []) else trapped bad_operand) else trapped pool_full)
    branch true true h = h
    branch true false h = tt
    branch false there h = tt

later-past : (now : ℕ) (os : List Obligation) → AllByRecursion (IsPast now) os →
    AllByRecursion (λ t. t < now + 1) (ticks_in os)
later-past now [] h = tt
later-past now (o ∷ os) h = (omega (arith, h.0), later-past now os h.1)

end-young : (p : ProgramData) (now : ℕ) (atoms : List Bool) (live : List Attempt) (left : ℕ) (os : List Obligation) →
    AllByRecursion (IsYoung (now + 1)) live → AllByRecursion (λ t. t < now + 1) (ticks_in os) →
    IfDone LeavesYoung (end_clock p now atoms live left os)
end-young p now atoms live left os h k =
    done_then (λ (fates : List Fate). fate_ticks fates ≡ ticks_in os) LeavesYoung
    (visit_obligations p.consequent atoms os left)
    (λ fates left. and_then (settle_all now fates live left) (λ x left. done (left_live now fates x) left))
    (fates-ticks p.consequent atoms os left)
    (λ fates left same.
    done_then (λ (x : Settlement). AllByRecursion (IsYoung (now + 1)) x.live) LeavesYoung
    (settle_all now fates live left) (λ x left. done (left_live now fates x) left)
    (settled-live (IsYoung (now + 1)) now fates live left h)
    (λ x left young. record {
      attempts = young;
      obligations =
          staying-past (now + 1) fates (subst (AllByRecursion (λ t. t < now + 1)) (sym same) k);
    }))

duty-young : (accepted : Bool) (p : ProgramData) (now : ℕ) (os : List Obligation) (go : List Obligation → Ran Settled) →
    ((os : List Obligation) → AllByRecursion (λ t. t < now + 1) (ticks_in os) → IfDone LeavesYoung (go os)) →
    AllByRecursion (IsPast now) os → IfDone LeavesYoung (open_if accepted p now os go)
duty-young false p now os go h k = h os (later-past now os k)
duty-young true p now os go h k =
    let duty : Obligation = record { tick = now; positions = p.consequent.start } in
    room-young p.header.limits.obligations p.consequent os duty go
    (h (os ++ duty ∷ [])
    (subst (AllByRecursion (λ t. t < now + 1)) (sym (ticks-last os duty))
    (all-last (λ t. t < now + 1) (ticks_in os) now (later-past now os k) (omega arith))))

on-young : (p : ProgramData) (now : ℕ) (atoms : List Bool) (live : List Attempt) (os : List Obligation) (left : ℕ)
    (off : Option Bool) → AllByRecursion (IsYoung now) live → AllByRecursion (IsPast now) os →
    IfDone LeavesYoung (clock_on p now atoms live os left off)
on-young p now atoms live os left None h k = tt
on-young p now atoms live os left (Some true) h k =
    done_any LeavesYoung (disable_all now live left)
    (λ ds left. done
    (record { state = record { now = now + 1; attempts = []; obligations = [] }; decided = ds }) left)
    (λ ds left. record { attempts = tt; obligations = tt })
on-young p now atoms live os left (Some false) h k =
    done_then (AreYoung (now + 1)) LeavesYoung (visit_attempts p.antecedent atoms now live left)
    (λ vs left. open_if vs.accepted p now os (end_clock p now atoms vs.attempts left))
    (visits-young p.antecedent atoms now live left h)
    (λ vs left young.
    duty-young vs.accepted p now os (end_clock p now atoms vs.attempts left)
    (λ os all. end-young p now atoms vs.attempts left os young all) k)

after-young : (p : ProgramData) (s : Standing) (atoms : List Bool) (left : ℕ) → AllYoung s →
    IfDone LeavesYoung (clock_after p s atoms left)
unfolding clock_after
after-young p s atoms left h =
    let one = beginning p s.now in
    room-young p.header.limits.attempts p.antecedent s.attempts one
    (λ live. clock_on p s.now atoms live s.obligations left (disabling p.header.disable atoms))
    (on-young p s.now atoms (s.attempts ++ one ∷ []) s.obligations left (disabling p.header.disable atoms)
    (all-last (IsYoung s.now) s.attempts one h.attempts (begins-young p s.now)) h.obligations)

abbrev StaysYoung : Outcome → Type 0
StaysYoung o = AllYoung o.state.standing

clock-young : (p : ProgramData) (s : State) (signals : List ℕ) → AllYoung s.standing →
    IfDone StaysYoung (clock p s signals)
clock-young p s signals h =
    let rows = with_row p signals s in
    done_any StaysYoung
    (run_sample (frame_of p) p.header.limits (sample_of rows) p.sample p.header.limits.budget 0 []
    (nothing_made (frame_of p)))
    (λ made left.
    and_then (clock_after p s.standing made.atoms left)
    (λ r left. done (with_standing rows (stored made.stores s.counters) r) left))
    (λ made left.
    done_then LeavesYoung StaysYoung (clock_after p s.standing made.atoms left)
    (λ r left. done (with_standing rows (stored made.stores s.counters) r) left)
    (after-young p s.standing made.atoms left h) (λ r left young. young))

clocks-young : (p : ProgramData) (rows : List (List ℕ)) (s : State) → AllYoung s.standing →
    IfDone (λ (s : State). AllYoung s.standing) (clocks p s rows)
clocks-young p [] s h = h
clocks-young p (signals ∷ later) s h =
    done_then StaysYoung (λ (s : State). AllYoung s.standing) (clock p s signals) (λ o left. clocks p o.state later)
    (clock-young p s signals h) (λ o left young. clocks-young p later o.state young)

-- the whole clock
abbrev whole : State → List (List ℕ) → Made → OpenSettled → OpenOutcome
whole s rows made r =
    record {
      state = record { standing = r.state; rows = rows; counters = stored made.stores s.counters };
      decided = r.decided;
    }

with-same : (p : ProgramData) (s : State) (rows : List (List ℕ)) (made : Made) (r : Ran Settled) (q : Ran OpenSettled) →
    ran_map open_settled r ≡ q →
    open_outcome (and_then r (λ r left. done (with_standing rows (stored made.stores s.counters) r) left))
    ≡ and_then q (λ r left. done (whole s rows made r) left)
with-same p s rows made (done x left) q e =
    subst (λ (y : Ran OpenSettled).
    open_outcome (done (with_standing rows (stored made.stores s.counters) x) left)
    ≡ and_then y (λ r left. done (whole s rows made r) left)) e refl
with-same p s rows made (trapped t) q e =
    subst (λ (y : Ran OpenSettled).
    trapped t ≡ and_then y (λ r left. done (whole s rows made r) left)) e refl

made-same : (p : ProgramData) (s : State) (rows : List (List ℕ)) (sampled : Ran Made) → AllYoung s.standing →
    open_outcome (and_then sampled (λ made left.
    and_then (clock_after p s.standing made.atoms left)
    (λ r left. done (with_standing rows (stored made.stores s.counters) r) left)))
    ≡ and_then sampled (λ made left.
    and_then (open_clock_after p (open_standing s.standing) made.atoms left)
    (λ r left. done (whole s rows made r) left))
made-same p s rows (trapped t) h = refl
made-same p s rows (done made left) h =
    with-same p s rows made (clock_after p s.standing made.atoms left)
    (open_clock_after p (open_standing s.standing) made.atoms left) (after-same p s.standing made.atoms left h)

pub clocks-agree : ClocksAgree
clocks-agree p rows s left signals came =
    let young : IfDone (λ (s : State). AllYoung s.standing) (clocks p (opening p) rows) =
    clocks-young p rows (opening p) (record { attempts = tt; obligations = tt }) in
    let here : AllYoung s.standing =
    subst (λ (r : Ran State). IfDone (λ (s : State). AllYoung s.standing) r) came young in
    made-same p s (with_row p signals s)
    (run_sample (frame_of p) p.header.limits (sample_of (with_row p signals s)) p.sample p.header.limits.budget 0 []
    (nothing_made (frame_of p))) here
