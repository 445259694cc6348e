-- What is made of parts that say the same says the same.
use Rattle.std.proofs.Common.{◌≡◌, inl, inr, ℕ, ◌+◌, ◌-◌, ◌*◌, ◌≤◌, true, false, refl, arith}
use Rattle.std.proofs.Common.{sym, ap}
use Rattle.std.proofs.Math.Nat.{mul-le-mul_left, mul-le-mul}
use Rattle.assertions.specs.declared.sequence.Boolean.{Boolean}
use Rattle.assertions.specs.declared.sequence.Boolean.TheVariants.{One}
use Rattle.assertions.specs.Written.{Written, boolean, delay, lead, repeat, or, and, intersect, throughout, kernel}
use Rattle.assertions.specs.Written.{weight}
use Rattle.assertions.specs.Written.{after, later, IsOrdered}
use Rattle.assertions.specs.Emptiness.{admits_empty}
use Rattle.types.specs.Entries.{SaysSame}
use Rattle.types.specs.Trimmed.{weightless_form}
use Rattle.types.proofs.TrimLaws.{replaced}
use Rattle.types.proofs.UsedLaws.{used_on}
use Rattle.types.proofs.AlikeLaws.{alike_same, alike_one_of, alike_after, alike_later, alike_times}
use Rattle.types.proofs.AlikeLaws.{alike_either, alike_both, alike_meet, alike_during}
use Rattle.types.proofs.ConstantLaws.{alike_empty, alike_never}

pub says_boolean : (b : Boolean) → SaysSame (boolean b) (boolean b)
says_boolean b = record {
  ordered = tt;
  light = omega arith;
  known = inl refl;
  alike = λ holds. alike_same holds (kernel One (boolean b));
  trimmed = refl;
}

pub says_delay : (v w a b : Written Boolean) (least most : ℕ) → least ≤ most → SaysSame v a → SaysSame w b
    → SaysSame (delay v least most w) (delay a least most b)
says_delay v w a b least most le x y =
    record {
      ordered = (le, x.ordered, y.ordered);
      light = omega (arith, x.light, y.light);
      known = (
        used_on v (delay v least most w) a (λ c u. inl u) x.known,
        used_on w (delay v least most w) b (λ c u. inr u) y.known,
      );
      alike =
          λ holds. alike_one_of holds holds least (most - least) (after One (kernel One v) (kernel One w))
          (after One (kernel One a) (kernel One b))
          (alike_after holds holds One One (kernel One v) (kernel One w) (kernel One a) (kernel One b) (λ k. refl)
          (x.alike holds) (y.alike holds));
      trimmed = inr (a, b, x.trimmed, y.trimmed, refl);
    }

pub says_lead : (w b : Written Boolean) (least most : ℕ) → least ≤ most → SaysSame w b
    → SaysSame (lead least most w) (lead least most b)
says_lead w b least most le y =
    record {
      ordered = (le, y.ordered);
      light = omega (arith, y.light);
      known = used_on w (lead least most w) b (λ c u. u) y.known;
      alike =
          λ holds. alike_one_of holds holds least (most - least) (later One (kernel One w)) (later One (kernel One b))
          (alike_later holds holds One One (kernel One w) (kernel One b) (λ k. refl) (y.alike holds));
      trimmed = inr (b, y.trimmed, refl);
    }

pub says_repeat : (w b : Written Boolean) (least most : ℕ) → least ≤ most → SaysSame w b
    → SaysSame (repeat w least most) (repeat b least most)
says_repeat w b least most le y =
    record {
      ordered = (le, y.ordered);
      light = mul-le-mul_left most y.light;
      known = used_on w (repeat w least most) b (λ c u. u) y.known;
      alike = λ holds. alike_times holds holds (kernel One w) (kernel One b) least most (y.alike holds);
      trimmed = inr (b, y.trimmed, refl);
    }

pub says_or : (v w a b : Written Boolean) → SaysSame v a → SaysSame w b → SaysSame (or v w) (or a b)
says_or v w a b x y =
    record {
      ordered = (x.ordered, y.ordered);
      light = omega (arith, x.light, y.light);
      known = (used_on v (or v w) a (λ c u. inl u) x.known, used_on w (or v w) b (λ c u. inr u) y.known);
      alike =
          λ holds. alike_either holds holds (kernel One v) (kernel One w) (kernel One a) (kernel One b)
          (x.alike holds) (y.alike holds);
      trimmed = inr (a, b, x.trimmed, y.trimmed, refl);
    }

lighter_product : (a b c d : ℕ) → a ≤ c → b ≤ d → (a + 1) * (b + 1) ≤ (c + 1) * (d + 1)
lighter_product a b c d h k =
    mul-le-mul (let x : a + 1 ≤ c + 1 = omega (arith, h) in x) (let y : b + 1 ≤ d + 1 = omega (arith, k) in y)

pub says_and : (v w a b : Written Boolean) → SaysSame v a → SaysSame w b → SaysSame (and v w) (and a b)
says_and v w a b x y =
    record {
      ordered = (x.ordered, y.ordered);
      light = lighter_product (weight a) (weight b) (weight v) (weight w) x.light y.light;
      known = (used_on v (and v w) a (λ c u. inl u) x.known, used_on w (and v w) b (λ c u. inr u) y.known);
      alike =
          λ holds. alike_both holds holds (kernel One v) (kernel One w) (kernel One a) (kernel One b) (x.alike holds)
          (y.alike holds);
      trimmed = inr (a, b, x.trimmed, y.trimmed, refl);
    }

pub says_intersect : (v w a b : Written Boolean) → SaysSame v a → SaysSame w b → SaysSame (intersect v w)
    (intersect a b)
says_intersect v w a b x y =
    record {
      ordered = (x.ordered, y.ordered);
      light = mul-le-mul x.light y.light;
      known = (used_on v (intersect v w) a (λ c u. inl u) x.known, used_on w (intersect v w) b (λ c u. inr u) y.known);
      alike =
          λ holds. alike_meet holds holds (kernel One v) (kernel One w) (kernel One a) (kernel One b) (x.alike holds)
          (y.alike holds);
      trimmed = inr (a, b, x.trimmed, y.trimmed, refl);
    }

pub says_throughout : (b : Boolean) (v a : Written Boolean) → SaysSame v a → SaysSame (throughout b v) (throughout b a)
says_throughout b v a x =
    record {
      ordered = x.ordered;
      light = x.light;
      known = (inl (inl refl), used_on v (throughout b v) a (λ c u. inr u) x.known);
      alike = λ holds. alike_during holds holds b b (kernel One v) (kernel One a) (λ k. refl) (x.alike holds);
      trimmed = inr (a, x.trimmed, refl);
    }

pub says_empty : (w : Written Boolean) → IsOrdered w → weight w ≡ 0 → admits_empty w ≡ true
    → SaysSame w (repeat (boolean One) 0 0)
says_empty w o z e = record {
  ordered = (omega arith, tt);
  light = omega arith;
  known = inr refl;
  alike = λ holds. alike_empty holds w o z e;
  trimmed = replaced One w (weightless_form One true) z (sym (ap (weightless_form One) e));
}

pub says_never : (w : Written Boolean) → IsOrdered w → weight w ≡ 0 → admits_empty w ≡ false
    → SaysSame w (delay (repeat (boolean One) 0 0) 0 0 (repeat (boolean One) 0 0))
says_never w o z e = record {
  ordered = (omega arith, (omega arith, tt), (omega arith, tt));
  light = omega arith;
  known = (inr refl, inr refl);
  alike = λ holds. alike_never holds w o z e;
  trimmed = replaced One w (weightless_form One false) z (sym (ap (weightless_form One) e));
}
