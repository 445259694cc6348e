-- Over rows that tell the names, what the code of an expression leaves is its value.
use Rattle.std.proofs.Common.{◌≡◌, ◌∙◌, inl, inr, ℕ, ◌+◌, ◌-◌, ◌^◌, ◌<◌, ◌≤◌, max}
use Rattle.std.proofs.Common.{Bool, true, false, ◌&&◌, refl, sym, ap, subst, arith}
use Rattle.std.specs.Prelude.{nat_le, nat_lt, ◌==◌, if◌then◌else◌, not, ◌||◌, bit_and, bit_or}
use Rattle.std.proofs.lemmas.Bool.{le-leb, lt-leb, eqb-true, lt-ltb, le-ltb, cases_lt}
use Rattle.std.proofs.Math.Nat.{zero-div, zero-mod}
use Rattle.signals.specs.Tests.{one_if}
use Rattle.expressions.specs.declared.operator.Comparison.{Comparison}
use Rattle.expressions.specs.declared.operator.Comparison.TheVariants.{Equal, Differs, Less}
use Rattle.expressions.specs.declared.operator.Comparison.TheVariants.{AtMost, Greater, AtLeast}
use Rattle.expressions.specs.declared.operator.Connective.{Connective}
use Rattle.expressions.specs.declared.operator.Connective.TheVariants.{Both, Either}
use Rattle.expressions.specs.Operators.{complement, comparison_value, connective_value}
use Rattle.expressions.specs.Terms.{Term, constant, named, slice, group, concat, inverse, reduce}
use Rattle.expressions.specs.Terms.{combine, shift, compare, connect, choose, past, change}
use Rattle.expressions.specs.Terms.{Samples, width_of, value_of}
use Rattle.expressions.proofs.Fits.{value_fits}
use Rattle.compiler.specs.Codes.{Slots, reads_slot}
use Rattle.compiler.specs.Laws.{TellsTicks, TellsNames}
use Rattle.compiler.proofs.Instructions.{raw_bit, raw_guarded}
use Rattle.compiler.proofs.OperatorLaws.{bit-cases, raw_compared, raw_connected}
use Rattle.compiler.proofs.ExpressionLaws.{raw}

and-one : (a b : Bool) → bit_and (one_if a) (one_if b) ≡ one_if (a && b)
and-one true true = refl
and-one true false = refl
and-one false true = refl
and-one false false = refl

or-one : (a b : Bool) → bit_or (one_if a) (one_if b) ≡ one_if (a || b)
or-one true true = refl
or-one true false = refl
or-one false true = refl
or-one false false = refl

not-less : (a b : ℕ) → not (nat_lt b a) ≡ nat_le a b
not-less a b = elim (cases_lt b a) [
  | inl lt ↦ rw (lt-ltb b a lt) (sym (lt-leb a b lt))
  | inr le ↦ rw (le-ltb b a le) (sym (le-leb a b le))
]

bit-case :
    (b : Bool) (w v : ℕ) → (w == 1) ≡ b → v < 2 ^ w →
    (if b then v else one_if (not (v == 0))) ≡ one_if (not (v == 0))
bit-case false w v e fits = refl
bit-case true w v e fits =
    let small : v < 2 ^ 1 = subst (λ n. v < 2 ^ n) (eqb-true w 1 e) fits in
    bit-cases (λ n. n ≡ one_if (not (n == 0))) refl refl v small

-- one bit is not 0 where the value is not
pub raw_bit-value : (w v : ℕ) → v < 2 ^ w → raw_bit w v ≡ one_if (not (v == 0))
raw_bit-value w v fits = bit-case (w == 1) w v refl fits

one-test : (b : Bool) (x y : ℕ) → (if one_if (not b) == 1 then x else y) ≡ (if b then y else x)
one-test true x y = refl
one-test false x y = refl

chosen :
    (w v x y : ℕ) → v < 2 ^ w →
    (if raw_bit w v == 1 then x else y) ≡ (if v == 0 then y else x)
chosen w v x y fits = rw (raw_bit-value w v fits) (one-test (v == 0) x y)

-- of two complements the lesser is that of the greater
turned-less :
    (w a b : ℕ) → a < 2 ^ w → b < 2 ^ w →
    nat_lt (complement w a) (complement w b) ≡ nat_lt b a
turned-less w a b g h = elim (cases_lt b a) [
  | inl lt ↦
      rw (lt-ltb b a lt) (lt-ltb (complement w a) (complement w b) (omega (arith, g, h, lt)))
  | inr le ↦
      rw (le-ltb b a le) (le-ltb (complement w a) (complement w b) (omega (arith, g, h, le)))
]

compared-value :
    (op : Comparison) (w a b : ℕ) → a < 2 ^ w → b < 2 ^ w →
    raw_compared op w a b ≡ comparison_value op a b
compared-value Equal w a b g h = refl
compared-value Differs w a b g h = refl
compared-value Less w a b g h = refl
compared-value AtLeast w a b g h = ap one_if (not-less b a)
compared-value Greater w a b g h = ap one_if (turned-less w a b g h)
compared-value AtMost w a b g h = ap one_if (ap not (turned-less w a b g h) ∙ not-less a b)

connected-value :
    (op : Connective) (a b : ℕ) →
    raw_connected op (one_if (not (a == 0))) (one_if (not (b == 0))) ≡ connective_value op a b
connected-value Both a b = and-one (not (a == 0)) (not (b == 0))
connected-value Either a b = or-one (not (a == 0)) (not (b == 0))

module _ (t : Samples) (at : Slots) (s : ℕ → ℕ → ℕ) (k : ℕ) (ticks : TellsTicks s k) where
  abbrev Told : Term → Type 0
  Told = TellsNames t at s k

  -- before the first tick a name reads 0, and the constant slot tells
  guarded-before :
      (e : Term) (j : ℕ) → Told e → k < j →
      raw_guarded (reads_slot e) (s j 0) (raw s at e (width_of e) j) ≡ 0
  guarded-before (named name) j h lt = h.before j lt
  guarded-before (slice part) j h lt =
      rw (h.before j lt)
      (rw (zero-div (2 ^ part.low)) (zero-mod (2 ^ (part.high - part.low + 1))))
  guarded-before e j h lt = rw (ticks.before j lt) refl

  guarded-seen : (b : Bool) (j v : ℕ) → j ≤ k → raw_guarded b (s j 0) v ≡ v
  guarded-seen true j v le = refl
  guarded-seen false j v le = rw (ticks.seen j le) refl

  -- the value at a tick, at the own width
  abbrev own : Term → ℕ → ℕ
  own e j = value_of t e j (width_of e)

  -- the value so many ticks before
  guarded-value :
      (e : Term) (n m : ℕ) → Told e → n ≤ k →
      (n + m ≤ k → raw s at e (width_of e) (n + m) ≡ own e (k - (n + m))) →
      raw_guarded (reads_slot e) (s (n + m) 0) (raw s at e (width_of e) (n + m))
      ≡ (if nat_le m (k - n) then own e (k - n - m) else 0)
  guarded-value e n m h le same = elim (cases_lt k (n + m)) [
    | inl before ↦
        guarded-before e (n + m) h before
        ∙ rw (lt-leb m (k - n) (omega (arith, before, le))) refl
    | inr seen ↦
        let back : k - (n + m) ≡ k - n - m = omega arith in
        rw (le-leb m (k - n) (omega (arith, seen, le)))
        (guarded-seen (reads_slot e) (n + m) (raw s at e (width_of e) (n + m)) seen
        ∙ same seen ∙ ap (own e) back)
  ]

  abbrev fits : (e : Term) (j : ℕ) → own e j < 2 ^ width_of e
  fits e j = value_fits t e j (width_of e) (omega arith)

  pub raw-value :
      (e : Term) (w n : ℕ) → Told e → width_of e ≤ w → n ≤ k →
      raw s at e w n ≡ value_of t e (k - n) w
  raw-value (constant bits) w n h le seen = refl
  raw-value (named name) w n h le seen = h.seen n seen
  raw-value (slice part) w n h le seen = rw (h.seen n seen) refl
  raw-value (group e) w n h le seen = raw-value e (width_of e) n h.1 (omega arith) seen
  raw-value (concat a b) w n h le seen =
      rw (
        raw-value a (width_of a) n h.1 (omega arith) seen,
        raw-value b (width_of b) n h.2 (omega arith) seen,
      ) refl
  raw-value (inverse e) w n h le seen = rw (raw-value e w n h.1 le seen) refl
  raw-value (reduce op e) w n h le seen =
      rw (raw-value e (width_of e) n h.1 (omega arith) seen) refl
  raw-value (combine op a b) w n h le seen =
      rw (
        raw-value a w n h.1 (omega (arith, le)) seen,
        raw-value b w n h.2 (omega (arith, le))
            seen,
      )
      refl
  raw-value (shift op a b) w n h le seen =
      rw (raw-value a w n h.1 le seen, raw-value b (width_of b) n h.2 (omega arith) seen) refl
  raw-value (compare op a b) w n h le seen =
      let m : ℕ = max (width_of a) (width_of b) in
      rw (raw-value a m n h.1 (omega arith) seen, raw-value b m n h.2 (omega arith) seen)
      (compared-value op m (value_of t a (k - n) m) (value_of t b (k - n) m)
      (value_fits t a (k - n) m (omega arith)) (value_fits t b (k - n) m (omega arith)))
  raw-value (connect op a b) w n h le seen =
      rw (
        raw-value a (width_of a) n h.1 (omega arith) seen,
        raw-value b (width_of b) n h.2 (omega arith) seen,
      )
      (rw (
        raw_bit-value (width_of a) (own a (k - n)) (fits a (k - n)),
        raw_bit-value (width_of b) (own b (k - n)) (fits b (k - n)),
      )
      (connected-value op (own a (k - n)) (own b (k - n))))
  raw-value (choose c a b) w n h le seen =
      rw (
        raw-value c (width_of c) n h.1 (omega arith) seen,
        raw-value a w n h.2 (omega (arith, le)) seen,
        raw-value b w n h.3 (omega (arith, le)) seen,
      )
      (chosen (width_of c) (own c (k - n)) (value_of t a (k - n) w) (value_of t b (k - n) w)
      (fits c (k - n)))
  raw-value (past e m) w n h le seen =
      guarded-value e n m h.1 seen (λ more. raw-value e (width_of e) (n + m) h.1 (omega arith) more)
  raw-value (change op e) w n h le seen =
      rw (
        raw-value e (width_of e) n h.1 (omega arith) seen,
        guarded-value e n 1 h.1 seen
            (λ more. raw-value e (width_of e) (n + 1) h.1 (omega arith) more),
      ) refl
