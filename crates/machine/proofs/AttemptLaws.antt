-- The visits of attempts, one more in front of those that are left.
use Rattle.std.proofs.Common.{◌≡◌, ℕ, suc, ◌+◌, ◌-◌, ◌*◌, ◌<◌, ◌≤◌, Bool, true, false, ◌||◌, List, []}
use Rattle.std.proofs.Common.{◌∷◌, ◌++◌, length, Option, Some, None, refl, sym, ap, ◌∙◌, subst, arith}
use Rattle.std.proofs.Common.{append_assoc, append-nil}
use Rattle.std.proofs.lemmas.List.{map-append}
use Rattle.std.specs.Prelude.{nat_eq}
use Rattle.std.specs.Map.{lookup, set_value}
use Rattle.bytecode_programs.specs.Values.{ProgramData}
use Rattle.verifier.specs.Limits.{path_sum}
use Rattle.machine_checked.specs.Outcomes.{Ran, done, trapped, and_then}
use Rattle.machine_checked.specs.Blocks.{Visit, visit}
use Rattle.machine_checked.specs.Clocks.{Attempt, Visits, visited, visit_attempts}
use Rattle.machine_checked.specs.Bounds.{RisesBetween, began, IsRunning}
use Rattle.machine_checked.proofs.Outcomes.{Meets-at}
use Rattle.machine_checked.proofs.Rises.{Rises-within}
use Rattle.machine_checked.proofs.Typing.{IsSection}
use Rattle.machine_checked.proofs.Visits.{Visited, visit-meets}
use Rattle.verifier.proofs.LifeLaws.{start_life-most}
use Rattle.attempt_pool.specs.Pooled.{Pooled, pooled, slot_after}
use Rattle.attempt_pool.specs.Walk.{WalkIsAt, left_at}
use Rattle.machine.specs.declared.attempt.AttemptRecord.{AttemptRecord}
use Rattle.machine.specs.Records.{attempt_of}
use Rattle.machine.specs.Live.{attempts_in}
use Rattle.machine.proofs.PoolSteps as steps

-- what was visited, in front of what the visits of the others come to
abbrev pub joined : List Attempt → Bool → Visits → ℕ → Ran Visits
joined seen accepted vs m = done (record { attempts = seen ++ vs.attempts; accepted = accepted || vs.accepted }) m

joined-none : (r : Ran Visits) → r ≡ and_then r (joined [] false)
joined-none (done vs m) = refl
joined-none (trapped t) = refl

or-assoc : (a b c : Bool) → ((a || b) || c) ≡ (a || (b || c))
or-assoc true b c = refl
or-assoc false b c = refl

or-false : (a : Bool) → (a || false) ≡ a
or-false true = refl
or-false false = refl

joined-more : (seen : List Attempt) (accepted : Bool) (a : Attempt) (b : Bool) (r : Ran Visits)
    → and_then (and_then r (λ vs m. done (record { attempts = a ∷ vs.attempts; accepted = b || vs.accepted }) m))
    (joined seen accepted) ≡ and_then r (joined (seen ++ a ∷ []) (accepted || b))
joined-more seen accepted a b (done vs m) =
    ap (λ (l : List Attempt). done (record { attempts = l; accepted = accepted || (b || vs.accepted) }) m)
    (sym (append_assoc seen (a ∷ []) vs.attempts))
    ∙ ap (λ (x : Bool). done (record { attempts = (seen ++ a ∷ []) ++ vs.attempts; accepted = x }) m)
    (sym (or-assoc accepted b vs.accepted))
joined-more seen accepted a b (trapped t) = refl

-- a walk that visits: what lies after it, and what the visits of what is left come to
pub record Visiting (p : ProgramData) (atoms : List Bool) (now : ℕ) (pool : Pooled AttemptRecord) (at : Option ℕ)
    (left : ℕ) (accepted : Bool) (old : Pooled AttemptRecord) (first : ℕ) : Type 0 where
  pub before : List (ℕ × AttemptRecord)
  pub rest : List (ℕ × AttemptRecord)
  pub stands : WalkIsAt pool.live at before rest
  pub low : ℕ
  pub rises : RisesBetween began (IsRunning p now) low (now + 1) (attempts_in rest)
  pub fits : length rest * (1 + path_sum 0 p.antecedent.blocks) ≤ left
  pub whole : visit_attempts p.antecedent atoms now (attempts_in old.live) first
      ≡ and_then (visit_attempts p.antecedent atoms now (attempts_in rest) left)
      (joined (attempts_in before) accepted)
  pub cap : pool.cap ≡ old.cap

pub visiting-first : (p : ProgramData) (atoms : List Bool) (now : ℕ) (pool : Pooled AttemptRecord) (at : Option ℕ)
    (left : ℕ) → WalkIsAt pool.live at [] pool.live
    → RisesBetween began (IsRunning p now) 0 (now + 1) (attempts_in pool.live)
    → length pool.live * (1 + path_sum 0 p.antecedent.blocks) ≤ left
    → Visiting p atoms now pool at left false pool left
visiting-first p atoms now pool at left stands rises fits = record {
  before = [];
  rest = pool.live;
  stands = stands;
  low = 0;
  rises = rises;
  fits = fits;
  whole = joined-none (visit_attempts p.antecedent atoms now (attempts_in pool.live) left);
  cap = refl;
}

pub visiting-last : (p : ProgramData) (atoms : List Bool) (now : ℕ) (pool : Pooled AttemptRecord) (at : Option ℕ)
    (left : ℕ) (accepted : Bool) (old : Pooled AttemptRecord) (first : ℕ)
    → Visiting p atoms now pool at left accepted old first → at ≡ None
    → visit_attempts p.antecedent atoms now (attempts_in old.live) first
    ≡ done (record { attempts = attempts_in pool.live; accepted = accepted }) left
visiting-last p atoms now pool at left accepted old first i e =
    let end = steps.over pool at i.before i.rest i.stands e in
    i.whole
    ∙ ap (λ (l : List (ℕ × AttemptRecord)). and_then (visit_attempts p.antecedent atoms now (attempts_in l) left)
    (joined (attempts_in i.before) accepted)) end.0
    ∙ ap (λ (l : List Attempt). done (record { attempts = l; accepted = accepted || false }) left)
    (append-nil (attempts_in i.before))
    ∙ ap (λ (b : Bool). done (record { attempts = attempts_in i.before; accepted = b }) left) (or-false accepted)
    ∙ ap (λ (l : List (ℕ × AttemptRecord)). done (record { attempts = attempts_in l; accepted = accepted }) left)
    (sym end.1)

-- at a slot whose record was read
module _ (p : ProgramData) (atoms : List Bool) (now : ℕ) (pool : Pooled AttemptRecord) (at : Option ℕ) (left : ℕ)
    (accepted : Bool) (old : Pooled AttemptRecord) (first : ℕ)
    (i : Visiting p atoms now pool at left accepted old first) (s : ℕ) (is : at ≡ Some s) (x : AttemptRecord)
    (got : lookup (nat_eq s) pool.live ≡ Some x) where
  abbrev pub tail : List (ℕ × AttemptRecord)
  tail = steps.tail pool at s i.before i.rest i.stands is

  split : i.rest ≡ (s, x) ∷ tail
  split = steps.split pool at s i.before i.rest i.stands is x got

  pub rises-here : RisesBetween began (IsRunning p now) i.low (now + 1) (attempt_of x ∷ attempts_in tail)
  rises-here =
      subst (λ (l : List (ℕ × AttemptRecord)). RisesBetween began (IsRunning p now) i.low (now + 1)
      (attempts_in l)) split
      i.rises

  pub running : IsRunning p now (attempt_of x)
  running = rises-here.1

  pub started : x.start ≤ now
  started = omega (arith, Rises-within began (IsRunning p now) (x.start + 1) (now + 1) (attempts_in tail) rises-here.2)

  pub affords : 1 + path_sum 0 p.antecedent.blocks + length tail * (1 + path_sum 0 p.antecedent.blocks) ≤ left
  affords =
      let long : length i.rest ≡ suc (length tail) = ap length split in
      let product : length i.rest * (1 + path_sum 0 p.antecedent.blocks) ≡ 1 + path_sum 0 p.antecedent.blocks
      + length tail * (1 + path_sum 0 p.antecedent.blocks) = ap (λ n. n * (1 + path_sum 0 p.antecedent.blocks))
      long ∙ omega arith in
      omega (arith, product, i.fits)

  -- after its visit
  module _ (section : IsSection (length atoms) p.antecedent) (v : Visit) (less : ℕ)
      (visits : visit p.antecedent atoms x.positions (left - 1) ≡ done v less) where
    seen : Visited p.antecedent x.start now (left - 1) v less
    seen =
        Meets-at (Visited p.antecedent x.start now (left - 1)) (visit p.antecedent atoms x.positions (left - 1)) v
        less visits
        (visit-meets p.antecedent atoms section x.start now x.positions (left - 1) running.positions
        (omega (arith, affords)))

    pub young : length p.antecedent.blocks ≤ 127 → v.accepted ≡ true → now < x.start + 128
    young few on = omega (arith, seen.0.accepted on, start_life-most p.antecedent few)

    pub next : (next : Option ℕ) → next ≡ slot_after s pool.live → (after : Pooled AttemptRecord) (y : AttemptRecord)
        → attempt_of y ≡ visited now (attempt_of x) v → after ≡ pooled pool.cap (set_value (nat_eq s) pool.live y)
        → (b : Bool) → b ≡ (accepted || v.accepted) → Visiting p atoms now after next less b old first
        × (left_at next after.live < left_at at pool.live)
    next at' is-next after y same e b is-b =
        let moved = steps.reset pool at s i.before i.rest i.stands is x got at' is-next after y e in
        let one : left ≡ suc (left - 1) = omega (arith, affords) in
        let others = visit_attempts p.antecedent atoms now (attempts_in tail) less in (
          record {
            before = i.before ++ (s, y) ∷ [];
            rest = tail;
            stands = moved.0;
            low = x.start + 1;
            rises = rises-here.2;
            fits = omega (arith, affords, seen.1);
            whole =
                i.whole
                ∙ ap (λ (l : List (ℕ × AttemptRecord)). and_then
                (visit_attempts p.antecedent atoms now (attempts_in l) left)
                (joined (attempts_in i.before) accepted)) split
                ∙ ap (λ (n : ℕ). and_then (visit_attempts p.antecedent atoms now (attempt_of x ∷ attempts_in tail) n)
                (joined (attempts_in i.before) accepted)) one
                ∙ ap (λ (r : Ran Visit). and_then
                (and_then r
                (λ v left. and_then (visit_attempts p.antecedent atoms now (attempts_in tail) left)
                (λ vs left.
                done (record
                { attempts = visited now (attempt_of x) v ∷ vs.attempts; accepted = v.accepted || vs.accepted })
                left))) (joined (attempts_in i.before) accepted)) visits
                ∙ joined-more (attempts_in i.before) accepted (visited now (attempt_of x) v) v.accepted others
                ∙ ap (λ (a : Attempt). and_then others
                (joined (attempts_in i.before ++ a ∷ []) (accepted || v.accepted))) (sym same)
                ∙ ap (λ (l : List Attempt). and_then others (joined l (accepted || v.accepted)))
                (sym (map-append (λ e. attempt_of e.1) i.before ((s, y) ∷ [])))
                ∙ ap (λ (c : Bool). and_then others (joined (attempts_in (i.before ++ (s, y) ∷ [])) c)) (sym is-b);
            cap = ap (λ (q : Pooled AttemptRecord). q.cap) e ∙ i.cap;
          },
          moved.1,
        )
