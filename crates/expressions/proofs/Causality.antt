-- Values and counters rest on nothing that comes later.
use Rattle.std.proofs.Common.{◌≡◌, inl, inr, ℕ, zero, suc, ◌+◌, ◌-◌, ◌/◌, ◌%◌, ◌^◌, ◌<◌, ◌≤◌, max, min, false, List}
use Rattle.std.proofs.Common.{Option, Some, None, refl, ap, arith, add-one}
use Rattle.std.specs.Prelude.{nat_le, slice_get, unwrap_or, if◌then◌else◌}
use Rattle.std.proofs.lemmas.Bool.{cases_Bool, leb-true, leb-false, lt-leb}
use Rattle.std.proofs.lemmas.Nat.{pow_pos}
use Rattle.expressions.specs.declared.name.Origin.{Origin}
use Rattle.expressions.specs.declared.name.Origin.TheVariants.{Signal, Counter as Counting}
use Rattle.expressions.specs.declared.name.Name.{Name}
use Rattle.expressions.specs.declared.expr.Expr.{Expr}
use Rattle.expressions.specs.declared.rule.Rule.{Rule}
use Rattle.expressions.specs.declared.counter.Counter.{Counter}
use Rattle.expressions.specs.Terms.{Term, Samples, constant, named, slice, group, concat, inverse, reduce, combine}
use Rattle.expressions.specs.Terms.{shift, compare, connect, choose, past, change, width_of, sample_at, name_at}
use Rattle.expressions.specs.Terms.{value_of, is_true}
use Rattle.expressions.specs.Operators.{complement, reduction_value}
use Rattle.expressions.specs.Expressions.{term_of}
use Rattle.expressions.specs.Counters.{holds, rule_value, next_count, next_of, counts_to, counter_at, counter_samples}
use Rattle.expressions.specs.Laws.{AgreeTo, ValuesAreCausal, CountsByRule}
use Rattle.expressions.proofs.Fits.{cut_fits}

pub sooner : (t u : Samples) (k j : ℕ) → j ≤ k → AgreeTo k t u → AgreeTo j t u
sooner t u k j le h = record {
  signals = λ place i below. h.signals place i (omega arith);
  counters = λ place i below. h.counters place i (omega arith);
}

same_held : (t u : Samples) (origin : Origin) (place k : ℕ) → AgreeTo k t u → sample_at t origin place k
    ≡ sample_at u origin place k
same_held t u Signal place k h = h.signals place k (omega arith)
same_held t u Counting place k h = h.counters place k (omega arith)

same_name : (t u : Samples) (name : Name) (k : ℕ) → AgreeTo k t u → name_at t name k ≡ name_at u name k
same_name t u name k h = ap (λ n. n % 2 ^ name.width) (same_held t u name.origin name.place k h)

pub same_value : ValuesAreCausal
same_value t u (constant bits) k w h = refl
same_value t u (named name) k w h = same_name t u name k h
same_value t u (slice part) k w h =
    ap (λ n. n / 2 ^ part.low % 2 ^ (part.high - part.low + 1)) (same_name t u part.name k h)
same_value t u (group e) k w h = same_value t u e k (width_of e) h
same_value t u (concat a b) k w h = rw (same_value t u a k (width_of a) h, same_value t u b k (width_of b) h) refl
same_value t u (inverse e) k w h = ap (complement w) (same_value t u e k w h)
same_value t u (reduce op e) k w h = ap (reduction_value op (width_of e)) (same_value t u e k (width_of e) h)
same_value t u (combine op a b) k w h = rw (same_value t u a k w h, same_value t u b k w h) refl
same_value t u (shift op a b) k w h = rw (same_value t u a k w h, same_value t u b k (width_of b) h) refl
same_value t u (compare op a b) k w h =
    rw (same_value t u a k (max (width_of a) (width_of b)) h, same_value t u b k (max (width_of a) (width_of b)) h)
    refl
same_value t u (connect op a b) k w h = rw (same_value t u a k (width_of a) h, same_value t u b k (width_of b) h) refl
same_value t u (choose c a b) k w h =
    rw (same_value t u c k (width_of c) h, same_value t u a k w h, same_value t u b k w h) refl
same_value t u (past e ticks) k w h =
    let e1 = same_value t u e (k - ticks) (width_of e) (sooner t u k (k - ticks) (omega arith) h) in
    ap (λ n. if nat_le ticks k then n else 0) e1
same_value t u (change op e) k w h =
    let now = same_value t u e k (width_of e) h in
    let before = same_value t u e (k - 1) (width_of e) (sooner t u k (k - 1) (omega arith) h) in
    rw (now, before) refl

same_true : (t u : Samples) (e : Term) (k : ℕ) → AgreeTo k t u → is_true t e k ≡ is_true u e k
same_true t u e k h = rw (same_value t u e k (width_of e) h) refl

same_holds : (t u : Samples) (o : Option Expr) (k : ℕ) → AgreeTo k t u → holds t o k ≡ holds u o k
same_holds t u None k h = refl
same_holds t u (Some e) k h = same_true t u (term_of e) k h

same_ruled : (t u : Samples) (w : ℕ) (o : Option Rule) (k : ℕ) → AgreeTo k t u → rule_value t w o k ≡ rule_value u w o k
same_ruled t u w None k h = refl
same_ruled t u w (Some r) k h =
    rw (
      same_value t u (term_of r.when) k (width_of (term_of r.when)) h,
      same_value t u (term_of r.by) k (max w (width_of (term_of r.by))) h,
    ) refl

pub same_next : (t u : Samples) (o : Option Counter) (now k : ℕ) → AgreeTo k t u → next_of t o now k ≡ next_of u o now k
same_next t u None now k h = refl
same_next t u (Some c) now k h =
    rw (
      same_holds t u c.clear k h,
      same_ruled t u c.width c.load k h,
      same_ruled t u c.width c.add k h,
      same_ruled t u c.width c.sub k h,
    ) refl

-- what was counted up to a tick stays
counts_stay : (s : ℕ → ℕ → ℕ) (cs : List Counter) (k i j : ℕ) → j ≤ k → counts_to s cs k i j ≡ counter_at s cs i j
counts_stay s cs zero i j le = let e : j ≡ 0 = omega arith in rw e refl
counts_stay s cs (suc k) i j le =
    elim (cases_Bool (nat_le j k)) [
      | inl within ↦ rw within (counts_stay s cs k i j (leb-true j k within))
      | inr beyond ↦ let e : j ≡ suc k = omega (arith, leb-false j k beyond) in rw e refl
    ]

counted_agrees : (s : ℕ → ℕ → ℕ) (cs : List Counter) (k : ℕ)
    → AgreeTo k (record { signal_at = s; counter_at = counts_to s cs k }) (counter_samples s cs)
counted_agrees s cs k = record {
  signals = λ place j le. refl;
  counters = λ place j le. counts_stay s cs k place j le;
}

counts_next : (s : ℕ → ℕ → ℕ) (cs : List Counter) (i k : ℕ) → counter_at s cs i (suc k)
    ≡ next_of (counter_samples s cs) (slice_get cs i) (counter_at s cs i k) k
counts_next s cs i k =
    let later : nat_le (suc k) k ≡ false = lt-leb (suc k) k (omega arith) in
    rw later (same_next (record { signal_at = s; counter_at = counts_to s cs k }) (counter_samples s cs)
    (slice_get cs i) (counts_to s cs k i k) k (counted_agrees s cs k))

-- what is loaded fits, and what is held at the largest value fits
loaded_fits : (t : Samples) (w : ℕ) (o : Option Rule) (k d : ℕ) → d < 2 ^ w → unwrap_or (rule_value t w o k) d < 2 ^ w
loaded_fits t w None k d h = h
loaded_fits t w (Some r) k d h =
    elim (cases_Bool (is_true t (term_of r.when) k)) [
      | inl so ↦ rw so (cut_fits (value_of t (term_of r.by) k (max w (width_of (term_of r.by)))) w)
      | inr other ↦ rw other h
    ]

next_fits : (t : Samples) (c : Counter) (now k : ℕ) → next_count t c now k < 2 ^ c.width
next_fits t c now k =
    let sum = (now + unwrap_or (rule_value t c.width c.add k) 0) - unwrap_or (rule_value t c.width c.sub k) 0 in
    let sample_at : min sum (2 ^ c.width - 1) < 2 ^ c.width = omega (arith, pow_pos c.width) in
    elim (cases_Bool (holds t c.clear k)) [
      | inl so ↦ rw so (pow_pos c.width)
      | inr other ↦ rw other (loaded_fits t c.width c.load k (min sum (2 ^ c.width - 1)) sample_at)
    ]

counter_fits : (s : ℕ → ℕ → ℕ) (cs : List Counter) (i k : ℕ) (c : Counter) → slice_get cs i ≡ Some c
    → counter_at s cs i k < 2 ^ c.width
counter_fits s cs i zero c is = pow_pos c.width
counter_fits s cs i (suc k) c is =
    rw (counts_next s cs i k, is) (next_fits (counter_samples s cs) c (counter_at s cs i k) k)

pub counts_by_rule : (s : ℕ → ℕ → ℕ) (cs : List Counter) → CountsByRule s cs
counts_by_rule s cs = record {
  first = λ i. refl;
  next = λ i k. rw add-one (counts_next s cs i k);
  fits = counter_fits s cs;
}
