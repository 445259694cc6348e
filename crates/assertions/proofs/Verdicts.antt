-- The verdict that is computed is the one that is stated.
use Rattle.std.proofs.Common.{◌≡◌, inl, inr, ℕ, ◌+◌, ◌-◌, Bool, Option, Some, None, refl, ap, ◌∙◌, subst, arith}
use Rattle.std.proofs.lemmas.Bool.{both_ways, false_from_ne_true}
use Rattle.assertions.specs.declared.decision.Decision.{Decision}
use Rattle.assertions.specs.declared.decision.Decision.TheVariants.{Held, Vacuously, Failed}
use Rattle.signals.specs.declared.verdict.Verdict.{Verdict}
use Rattle.signals.specs.declared.verdict.Verdict.TheVariants as verdicts
use Rattle.assertions.specs.Quantifiers.{first_in, first_true}
use Rattle.assertions.specs.Segments.{Seq}
use Rattle.assertions.specs.Attempts.{Antecedent}
use Rattle.assertions.specs.Attempts.{decision, decided_at, disabled_or, verdict_by, verdict, IsFirstDecided}
use Rattle.assertions.specs.Attempts.{IsUndecided, IsFirstOff, IsNeverOff, IsVerdict}
use Rattle.assertions.proofs.Quantifiers.{first_in-found, first_in-none, first_true-found, first_true-none, first_in-at}
use Rattle.assertions.proofs.Quantifiers.{first_in-never, first_true-at, first_true-none_at, none_from}
use Rattle.assertions.proofs.Attempts.{decision-IsDecided, IsDecided-decision}

module _ (B : Type 0) (value : B → ℕ → Bool) (off : ℕ → Bool) (r : Antecedent B) (s : Seq B)
    (end c : ℕ) where
  first_decided : (n : ℕ) (d : Decision) → first_in (c + 1) (end + 1) (λ n. decision value r s n c) ≡ Some (n, d)
      → IsFirstDecided value r s end c n d
  first_decided n d h =
      let f = first_in-found (c + 1) (end + 1) (λ n. decision value r s n c) n d h in
      record {
        above = omega (arith, f.from);
        within = omega (arith, f.below);
        decided = decision-IsDecided B value r s n c d f.found;
        least = λ m other above below is.
            let some = IsDecided-decision B value r s m c other is in
            let none = f.least m (omega arith) below in
            cc (some, none);
      }

  undecided : first_in (c + 1) (end + 1) (λ n. decision value r s n c) ≡ None → IsUndecided value r s end c
  undecided h m other above within is =
      let some = IsDecided-decision B value r s m c other is in
      let none = first_in-none (c + 1) (end + 1) (λ n. decision value r s n c) h m (omega arith) (omega arith) in
      cc (some, none)

  first_off : (last t : ℕ) → first_true c last off ≡ Some t → IsFirstOff off c last t
  first_off last t h =
      let f = first_true-found c last off t h in
      record {
        from = f.from;
        below = f.below;
        passes = f.found;
        least = λ k from below is. both_ways _ (f.least k from below) is;
      }

  never_off : (last : ℕ) → first_true c last off ≡ None → IsNeverOff off c last
  never_off last h k from below is = both_ways _ (first_true-none c last off h k from below) is

  IsVerdict-decided : (n : ℕ) (d : Decision) (o : Option ℕ) → IsFirstDecided value r s end c n d → first_true c n off
      ≡ o → IsVerdict value off r s end c (disabled_or o (decided_at d (n - 1)))
  IsVerdict-decided n d (Some t) is h = inl (n, d, is, first_off n t h)
  IsVerdict-decided n Held None is h =
      let e : n ≡ n - 1 + 1 = omega (arith, is.above) in
      (subst (λ k. IsFirstDecided value r s end c k Held) e is, subst (λ k. IsNeverOff off c k) e (never_off n h))
  IsVerdict-decided n Vacuously None is h =
      let e : n ≡ n - 1 + 1 = omega (arith, is.above) in
      (subst (λ k. IsFirstDecided value r s end c k Vacuously) e is, subst (λ k. IsNeverOff off c k) e (never_off n h))
  IsVerdict-decided n Failed None is h =
      let e : n ≡ n - 1 + 1 = omega (arith, is.above) in
      (subst (λ k. IsFirstDecided value r s end c k Failed) e is, subst (λ k. IsNeverOff off c k) e (never_off n h))

  IsVerdict-undecided : (o : Option ℕ) → IsUndecided value r s end c → first_true c end off ≡ o
      → IsVerdict value off r s end c (disabled_or o verdicts.Open)
  IsVerdict-undecided (Some t) is h = inr (is, first_off end t h)
  IsVerdict-undecided None is h = (is, never_off end h)

  IsVerdict-by : (o : Option (ℕ × Decision)) → first_in (c + 1) (end + 1) (λ n. decision value r s n c) ≡ o
      → IsVerdict value off r s end c (verdict_by off c end o)
  IsVerdict-by None h = IsVerdict-undecided (first_true c end off) (undecided h) refl
  IsVerdict-by (Some (n, d)) h = IsVerdict-decided n d (first_true c n off) (first_decided n d h) refl

  pub IsVerdict-verdict : IsVerdict value off r s end c (verdict value off r s end c)
  IsVerdict-verdict = IsVerdict-by (first_in (c + 1) (end + 1) (λ n. decision value r s n c)) refl

  pub IsVerdict-at : (v : Verdict) → v ≡ verdict value off r s end c → IsVerdict value off r s end c v
  IsVerdict-at v e = rw e IsVerdict-verdict

  decided_first : (n : ℕ) (d : Decision) → IsFirstDecided value r s end c n d
      → first_in (c + 1) (end + 1) (λ n. decision value r s n c) ≡ Some (n, d)
  decided_first n d is =
      first_in-at (c + 1) (end + 1) (λ n. decision value r s n c) n d (omega (arith, is.above))
      (omega (arith, is.within)) (IsDecided-decision B value r s n c d is.decided)
      (λ m from below. none_from (decision value r s m c)
      (λ other e. is.least m other (omega arith) below (decision-IsDecided B value r s m c other e)))

  undecided_none : IsUndecided value r s end c → first_in (c + 1) (end + 1) (λ n. decision value r s n c) ≡ None
  undecided_none is =
      first_in-never (c + 1) (end + 1) (λ n. decision value r s n c)
      (λ m from below. none_from (decision value r s m c)
      (λ other e. is m other (omega arith) (omega arith) (decision-IsDecided B value r s m c other e)))

  off_first : (last t : ℕ) → IsFirstOff off c last t → first_true c last off ≡ Some t
  off_first last t is =
      first_true-at c last off t is.from is.below is.passes
      (λ m from below. false_from_ne_true _ (is.least m from below))

  off_never : (last : ℕ) → IsNeverOff off c last → first_true c last off ≡ None
  off_never last is = first_true-none_at c last off (λ m from below. false_from_ne_true _ (is m from below))

  on_time : (t : ℕ) (d : Decision) → IsFirstDecided value r s end c (t + 1) d → IsNeverOff off c (t + 1)
      → verdict value off r s end c ≡ decided_at d t
  on_time t d is never =
      let e : t + 1 - 1 ≡ t = omega arith in
      ap (verdict_by off c end) (decided_first (t + 1) d is)
      ∙ ap (λ o. disabled_or o (decided_at d (t + 1 - 1))) (off_never (t + 1) never) ∙ ap (decided_at d) e

  -- there is one verdict
  pub IsVerdict-only : (v : Verdict) → IsVerdict value off r s end c v → verdict value off r s end c ≡ v
  IsVerdict-only (verdicts.Holds t) is = on_time t Held is.0 is.1
  IsVerdict-only (verdicts.Vacuous t) is = on_time t Vacuously is.0 is.1
  IsVerdict-only (verdicts.Fails t) is = on_time t Failed is.0 is.1
  IsVerdict-only (verdicts.Disabled t) (inl is) =
      ap (verdict_by off c end) (decided_first is.0 is.1 is.2)
      ∙ ap (λ o. disabled_or o (decided_at is.1 (is.0 - 1))) (off_first is.0 t is.3)
  IsVerdict-only (verdicts.Disabled t) (inr is) =
      ap (verdict_by off c end) (undecided_none is.0) ∙ ap (λ o. disabled_or o verdicts.Open) (off_first end t is.1)
  IsVerdict-only verdicts.Open is =
      ap (verdict_by off c end) (undecided_none is.0) ∙ ap (λ o. disabled_or o verdicts.Open) (off_never end is.1)
