-- Attempts of sequences that match alike have the same verdicts.
use Rattle.std.proofs.Common.{◌≡◌, inl, inr, ℕ, ◌+◌, Bool, true, false, subst}
use Rattle.std.specs.Prelude.{◌↔◌}
use Rattle.std.proofs.Math.Path.{fun_ext}
use Rattle.signals.specs.declared.verdict.Verdict.{Verdict}
use Rattle.signals.specs.declared.verdict.Verdict.TheVariants as outcome
use Rattle.assertions.specs.declared.decision.Decision.{Decision}
use Rattle.assertions.specs.declared.decision.Decision.TheVariants.{Held, Vacuously, Failed}
use Rattle.assertions.specs.Segments.{Seq, sat}
use Rattle.assertions.specs.Attempts.{Antecedent, MatchesBy, IsDecided, IsFirstDecided, IsUndecided, IsVerdict}
use Rattle.types.specs.Entries.{Alike}

-- the other way round, and on
pub alike_turned : {B C : Type 0} (h : B → ℕ → Bool) (g : C → ℕ → Bool) (r : Seq B) (s : Seq C) → Alike h g r s
    → Alike g h s r
alike_turned h g r s a i j = ((a i j).1, (a i j).0)

pub alike_on : {B C D : Type 0} (h : B → ℕ → Bool) (g : C → ℕ → Bool) (f : D → ℕ → Bool) (r : Seq B) (s : Seq C)
    (t : Seq D) → Alike h g r s → Alike g f s t → Alike h f r t
alike_on h g f r s t a b i j = (λ m. (b i j).0 ((a i j).0 m), λ m. (a i j).1 ((b i j).1 m))

-- Two sequences match alike, however much was seen.
abbrev pub SeenAlike : {B C : Type 0} → (B → ℕ → Bool) → (C → ℕ → Bool) → Seq B → Seq C → Type 0
SeenAlike value other r s = (n : ℕ) → Alike (sat value n) (sat other n) r s

pub seen_turned : {B C : Type 0} (value : B → ℕ → Bool) (other : C → ℕ → Bool) (r : Seq B) (s : Seq C)
    → SeenAlike value other r s → SeenAlike other value s r
seen_turned value other r s a n = alike_turned (sat value n) (sat other n) r s (a n)

-- A sequence as an antecedent, of which each match counts or the first one.
abbrev pub led : {B : Type 0} → Bool → Seq B → Antecedent B
led f r = record { first = f; sequence = r }

-- Then the first ones match alike, too.
alike_by : {B C : Type 0} (h : B → ℕ → Bool) (g : C → ℕ → Bool) (f : Bool) (r : Seq B) (s : Seq C) → Alike h g r s
    → (i j : ℕ) → MatchesBy h f r i j ↔ MatchesBy g f s i j
alike_by h g false r s a i j = a i j
alike_by h g true r s a i j = (
  λ m. ((a i j).0 m.0, λ k below x. m.1 k below ((a i k).1 x)),
  λ m. ((a i j).1 m.0, λ k below x. m.1 k below ((a i k).0 x)),
)

-- An attempt that is decided is decided alike.
alike_decided : {B C : Type 0} (value : B → ℕ → Bool) (other : C → ℕ → Bool) (f : Bool) (r s : Seq B) (r2 s2 : Seq C)
    → SeenAlike value other r r2 → SeenAlike value other s s2 →
    (n c : ℕ) (d : Decision) → IsDecided value (led f r) s n c d → IsDecided other (led f r2) s2 n c d
alike_decided value other f r s r2 s2 a b n c Failed h =
    let by = alike_by (sat value n) (sat other n) f r r2 (a n) in
    (h.0, (h.1.0, h.1.1, (by c (h.0 + 1)).0 h.1.2), λ j m. h.2 j ((b n h.0 j).1 m))
alike_decided value other f r s r2 s2 a b n c Held h =
    let by = alike_by (sat value n) (sat other n) f r r2 (a n) in (
      (h.0.0, (h.0.1.0, h.0.1.1, (by c (h.0.0 + 1)).0 h.0.1.2)),
      λ e is. let kept = h.1 e (is.0, is.1, (by c (e + 1)).1 is.2) in (kept.0, kept.1, (b n e kept.0).0 kept.2),
      λ j later m. h.2 j later ((by c j).1 m),
    )
alike_decided value other f r s r2 s2 a b n c Vacuously h =
    let by = alike_by (sat value n) (sat other n) f r r2 (a n) in
    (λ e is. h.0 e (is.0, is.1, (by c (e + 1)).1 is.2), λ j later m. h.1 j later ((by c j).1 m))

module _ {B C : Type 0} (value : B → ℕ → Bool) (other : C → ℕ → Bool) (f : Bool) (r s : Seq B) (r2 s2 : Seq C)
    (a : SeenAlike value other r r2) (b : SeenAlike value other s s2) where
  back : (n c : ℕ) (d : Decision) → IsDecided other (led f r2) s2 n c d → IsDecided value (led f r) s n c d
  back = alike_decided other value f r2 s2 r s (seen_turned value other r r2 a) (seen_turned value other s s2 b)

  alike_first : (end c n : ℕ) (d : Decision) → IsFirstDecided value (led f r) s end c n d
      → IsFirstDecided other (led f r2) s2 end c n d
  alike_first end c n d h = record {
    above = h.above;
    within = h.within;
    decided = alike_decided value other f r s r2 s2 a b n c d h.decided;
    least = λ m way low high is. h.least m way low high (back m c way is);
  }

  alike_undecided : (end c : ℕ) → IsUndecided value (led f r) s end c → IsUndecided other (led f r2) s2 end c
  alike_undecided end c h m way low high is = h m way low high (back m c way is)

  alike_verdict : (off : ℕ → Bool) (end c : ℕ) (v : Verdict) → IsVerdict value off (led f r) s end c v
      → IsVerdict other off (led f r2) s2 end c v
  alike_verdict off end c (outcome.Holds t) h = (alike_first end c (t + 1) Held h.0, h.1)
  alike_verdict off end c (outcome.Vacuous t) h = (alike_first end c (t + 1) Vacuously h.0, h.1)
  alike_verdict off end c (outcome.Fails t) h = (alike_first end c (t + 1) Failed h.0, h.1)
  alike_verdict off end c (outcome.Disabled t) h = elim h [
    | inl p ↦ inl (p.0, p.1, alike_first end c p.0 p.1 p.2, p.3)
    | inr p ↦ inr (alike_undecided end c p.0, p.1)
  ]
  alike_verdict off end c outcome.Open h = (alike_undecided end c h.0, h.1)

  -- It has the verdict, if it is disabled at the same ticks.
  pub same_verdict : (off still : ℕ → Bool) → ((k : ℕ) → off k ≡ still k) → (end c : ℕ) (v : Verdict)
      → IsVerdict value off (led f r) s end c v → IsVerdict other still (led f r2) s2 end c v
  same_verdict off still same end c v h =
      subst (λ (at : ℕ → Bool). IsVerdict other at (led f r2) s2 end c v) (fun_ext same) (alike_verdict off end c v h)
