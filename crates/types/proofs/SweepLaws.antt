-- A sweep over places that marks those that lead on.
use Rattle.std.proofs.Common.{◌≡◌, ◌⊎◌, inl, inr, ℕ, suc, ◌+◌, ◌<◌, ◌≤◌, ◌==◌, List, [], ◌∷◌, ◌++◌, Bool, true, false}
use Rattle.std.proofs.Common.{length, set, length-append, append-nil, ◌≢◌, refl, sym, ap, subst, ◌∙◌, arith}
use Rattle.std.proofs.lemmas.List.{length-set, get_or-set_same, get_or-set_other}
use Rattle.std.proofs.lemmas.Bool.{or_cases, or_parts, eqb-true, cases_eq, false≢true}
use Rattle.types.specs.Drafts.{Draft, IsNumberIn, uses_at}
use Rattle.types.specs.Marks.{some_use, mark_at, leads_to_goal}
use Rattle.types.specs.Sweeps.{Reaches, AreSound, Covers, AreQuiet}
use Rattle.types.proofs.InLaws.{in_front, in_back, in_either, in_last}

-- what has come of a sweep: the marks, the places left, and those that stay
pub record State {B : Type 0} (bodies : List (Draft B)) (goal : ℕ) (before : List Bool) (places : List ℕ)
    (marks : List Bool) (left still : List ℕ) : Type 0 where
  pub long : length marks ≡ length before
  pub sound : AreSound bodies goal before → AreSound bodies goal marks
  pub covers : (p : ℕ) → p < length before → Covers before places p → Covers marks (left ++ still) p
  pub fewer : length left + length still ≤ length places
  pub same : length left + length still ≡ length places → marks ≡ before
  pub quiet : length left + length still ≡ length places → AreQuiet bodies goal marks still

-- one use that passes
abbrev pub passing : (ℕ → Bool) → List ℕ → Type 0
passing test us = (q : ℕ) × IsNumberIn q us × (test q ≡ true)

passing_of : (test : ℕ → Bool) (u : ℕ) (us : List ℕ) → (test u ≡ true) ⊎ (some_use test us ≡ true)
    → (some_use test us ≡ true → passing test us) → passing test (u ∷ us)
passing_of test u us (inl t) rest = (u, inl refl, t)
passing_of test u us (inr r) rest = (let f = rest r in (f.0, inr f.1, f.2))

pub some_use_passes : (test : ℕ → Bool) (us : List ℕ) → some_use test us ≡ true → passing test us
some_use_passes test [] h = elim (false≢true h) [ ]
some_use_passes test (u ∷ us) h =
    passing_of test u us (or_cases (test u) (some_use test us) h) (some_use_passes test us)

pub no_use_passes : (test : ℕ → Bool) (us : List ℕ) (q : ℕ) → some_use test us ≡ false → IsNumberIn q us → test q
    ≡ false
no_use_passes test [] q h i = elim i [ ]
no_use_passes test (u ∷ us) q h (inl e) =
    subst (λ (x : ℕ). test x ≡ false) (sym e) ((or_parts (test u) (some_use test us) h).0)
no_use_passes test (u ∷ us) q h (inr i) = no_use_passes test us q ((or_parts (test u) (some_use test us) h).1) i

-- a use that leads on reaches the goal
reaches_goal : {B : Type 0} (bodies : List (Draft B)) (goal : ℕ) (marks : List Bool) (p q : ℕ) →
    AreSound bodies goal marks → IsNumberIn q (uses_at bodies p) → ((q == goal) ≡ true) ⊎ (mark_at marks q ≡ true)
    → Reaches bodies p goal
reaches_goal bodies goal marks p q sound i (inl e) =
    (0, subst (λ (x : ℕ). IsNumberIn x (uses_at bodies p)) (eqb-true q goal e) i)
reaches_goal bodies goal marks p q sound i (inr m) = (let r = sound q m in (suc r.0, (q, i, r.1)))

leads_reaches : {B : Type 0} (bodies : List (Draft B)) (goal : ℕ) (marks : List Bool) (p : ℕ) →
    AreSound bodies goal marks → some_use (leads_to_goal marks goal) (uses_at bodies p) ≡ true → Reaches bodies p goal
leads_reaches bodies goal marks p sound h =
    let f = some_use_passes (leads_to_goal marks goal) (uses_at bodies p) h in
    reaches_goal bodies goal marks p f.0 sound f.1 (or_cases (f.0 == goal) (mark_at marks f.0) f.2)

-- a mark more
marked_same : (marks : List Bool) (q : ℕ) → q < length marks → mark_at (set marks q true) q ≡ true
marked_same marks q h = get_or-set_same marks q true false h

marked_kept : (marks : List Bool) (p q : ℕ) → q < length marks → mark_at marks p ≡ true → mark_at (set marks q true) p
    ≡ true
marked_kept marks p q h m = by_place (cases_eq p q)
  where
    by_place : (p ≡ q) ⊎ (p ≢ q) → mark_at (set marks q true) p ≡ true
    by_place (inl e) = subst (λ (x : ℕ). mark_at (set marks q true) x ≡ true) (sym e) (marked_same marks q h)
    by_place (inr n) = get_or-set_other marks q p true false n ∙ m

marked_before : (marks : List Bool) (p q : ℕ) → p ≢ q → mark_at (set marks q true) p ≡ true → mark_at marks p ≡ true
marked_before marks p q n m = sym (get_or-set_other marks q p true false n) ∙ m

sound_more : {B : Type 0} (bodies : List (Draft B)) (goal : ℕ) (marks : List Bool) (q : ℕ) → AreSound bodies goal marks
    → Reaches bodies q goal → AreSound bodies goal (set marks q true)
sound_more {B} bodies goal marks q sound r p m = by_place (cases_eq p q)
  where
    by_place : (p ≡ q) ⊎ (p ≢ q) → Reaches bodies p goal
    by_place (inl e) = subst (λ (x : ℕ). Reaches bodies x goal) (sym e) r
    by_place (inr n) = sound p (marked_before marks p q n m)

-- the steps of a sweep
pub start : {B : Type 0} (bodies : List (Draft B)) (goal : ℕ) (before : List Bool) (places : List ℕ)
    → State bodies goal before places before places []
start bodies goal before places =
    record {
      long = refl;
      sound = λ s. s;
      covers = λ p h c. subst (λ (xs : List ℕ). Covers before xs p) (sym (append-nil places)) c;
      fewer = omega arith;
      same = λ e. refl;
      quiet = λ e p i. elim i [ ];
    }

covered_after : (marks more : List Bool) (rest still : List ℕ) (p q : ℕ)
    → (mark_at marks p ≡ true → mark_at more p ≡ true) → (p ≡ q → Covers more (rest ++ still) p) →
    Covers marks ((rest ++ q ∷ []) ++ still) p → Covers more (rest ++ still) p
covered_after marks more rest still p q keeps last (inl m) = inl (keeps m)
covered_after marks more rest still p q keeps last (inr i) = by_part (in_either p (rest ++ q ∷ []) still i)
  where
    by_last : IsNumberIn p rest ⊎ (p ≡ q) → Covers more (rest ++ still) p
    by_last (inl r) = inr (in_front p rest still r)
    by_last (inr e) = last e

    by_part : IsNumberIn p (rest ++ q ∷ []) ⊎ IsNumberIn p still → Covers more (rest ++ still) p
    by_part (inl f) = by_last (in_last p q rest f)
    by_part (inr s) = inr (in_back p rest still s)

pub mark : {B : Type 0} (bodies : List (Draft B)) (goal : ℕ) (before : List Bool) (places : List ℕ) (marks : List Bool)
    (left rest still : List ℕ) (q : ℕ) →
    left ≡ rest ++ q ∷ [] → q < length marks → some_use (leads_to_goal marks goal) (uses_at bodies q) ≡ true →
    State bodies goal before places marks left still → State bodies goal before places (set marks q true) rest still
mark {B} bodies goal before places marks left rest still q e h leads_on s =
    record {
      long = length-set marks q true ∙ s.long;
      sound = λ b. sound_more bodies goal marks q (s.sound b) (leads_reaches bodies goal marks q (s.sound b) leads_on);
      covers =
          λ p h2 c. covered_after marks (set marks q true) rest still p q (marked_kept marks p q h)
          (λ same. inl (subst (λ (x : ℕ). mark_at (set marks q true) x ≡ true) (sym same) (marked_same marks q h)))
          (subst (λ (xs : List ℕ). Covers marks (xs ++ still) p) e (s.covers p h2 c));
      fewer = omega (arith, s.fewer, shorter);
      same = λ same. elim (too_few same) [ ];
      quiet = λ same. elim (too_few same) [ ];
    }
  where
    shorter : length left ≡ length rest + 1
    shorter = ap length e ∙ length-append rest (q ∷ [])

    too_few : length rest + length still ≡ length places → ⊥
    too_few same = omega (arith, s.fewer, same, shorter)

pub keep : {B : Type 0} (bodies : List (Draft B)) (goal : ℕ) (before : List Bool) (places : List ℕ) (marks : List Bool)
    (left rest still : List ℕ) (q : ℕ) →
    left ≡ rest ++ q ∷ [] → some_use (leads_to_goal marks goal) (uses_at bodies q) ≡ false →
    State bodies goal before places marks left still → State bodies goal before places marks rest (still ++ q ∷ [])
keep {B} bodies goal before places marks left rest still q e quiet s =
    record {
      long = s.long;
      sound = s.sound;
      covers = λ p h c. kept p (s.covers p h c);
      fewer = omega (arith, s.fewer, shorter, longer);
      same = λ same. s.same (omega (arith, same, shorter, longer));
      quiet = λ same p i. still_quiet p (s.quiet (omega (arith, same, shorter, longer))) (in_last p q still i);
    }
  where
    shorter : length left ≡ length rest + 1
    shorter = ap length e ∙ length-append rest (q ∷ [])

    longer : length (still ++ q ∷ []) ≡ length still + 1
    longer = length-append still (q ∷ [])

    by_last : (p : ℕ) → IsNumberIn p rest ⊎ (p ≡ q) → IsNumberIn p (rest ++ (still ++ q ∷ []))
    by_last p (inl r) = in_front p rest (still ++ q ∷ []) r
    by_last p (inr same) = in_back p rest (still ++ q ∷ []) (in_back p still (q ∷ []) (inl same))

    by_part : (p : ℕ) → IsNumberIn p (rest ++ q ∷ []) ⊎ IsNumberIn p still → IsNumberIn p (rest ++ (still ++ q ∷ []))
    by_part p (inl f) = by_last p (in_last p q rest f)
    by_part p (inr i) = in_back p rest (still ++ q ∷ []) (in_front p still (q ∷ []) i)

    kept : (p : ℕ) → Covers marks (left ++ still) p → Covers marks (rest ++ (still ++ q ∷ [])) p
    kept p (inl m) = inl m
    kept p (inr i) =
        inr (by_part p (in_either p (rest ++ q ∷ []) still (subst (λ (xs : List ℕ). IsNumberIn p (xs ++ still)) e i)))

    still_quiet : (p : ℕ) → AreQuiet bodies goal marks still → IsNumberIn p still ⊎ (p ≡ q)
        → some_use (leads_to_goal marks goal) (uses_at bodies p) ≡ false
    still_quiet p all (inl i) = all p i
    still_quiet p all (inr same) =
        subst (λ (x : ℕ). some_use (leads_to_goal marks goal) (uses_at bodies x) ≡ false) (sym same) quiet

pub skip : {B : Type 0} (bodies : List (Draft B)) (goal : ℕ) (before : List Bool) (places : List ℕ) (marks : List Bool)
    (left rest still : List ℕ) (q : ℕ) →
    left ≡ rest ++ q ∷ [] → length marks ≤ q →
    State bodies goal before places marks left still → State bodies goal before places marks rest still
skip {B} bodies goal before places marks left rest still q e past s =
    record {
      long = s.long;
      sound = s.sound;
      covers =
          λ p h c. covered_after marks marks rest still p q (λ m. m) (λ same. elim (outside p h same) [ ])
          (subst (λ (xs : List ℕ). Covers marks (xs ++ still) p) e (s.covers p h c));
      fewer = omega (arith, s.fewer, shorter);
      same = λ same. elim (too_few same) [ ];
      quiet = λ same. elim (too_few same) [ ];
    }
  where
    shorter : length left ≡ length rest + 1
    shorter = ap length e ∙ length-append rest (q ∷ [])

    too_few : length rest + length still ≡ length places → ⊥
    too_few same = omega (arith, s.fewer, same, shorter)

    outside : (p : ℕ) → p < length before → p ≡ q → ⊥
    outside p h same = omega (arith, h, past, s.long, same)
