-- What is joined of sequences that say what properties do.
use Rattle.std.proofs.Common.{◌≡◌, inl, inr, ℕ, suc, ◌+◌, ◌-◌, ◌<◌, ◌≤◌, false, nat_le, refl, sym, subst, arith}
use Rattle.std.proofs.lemmas.Bool.{cases_eq, both_ways, or_from, and_left, and_right}
use Rattle.std.proofs.lemmas.Bool.{false_from_ne_true, leb-true}
use Rattle.assertions.specs.Segments.{Seq, Matches}
use Rattle.assertions.specs.Segments as kernel
use Rattle.assertions.specs.Written.{Written, boolean, delay, lead, repeat, or, and, weight, IsOrdered}
use Rattle.assertions.specs.Written as written
use Rattle.assertions.specs.Emptiness.{admits_empty}
use Rattle.assertions.proofs.Segments.{Matches-forward}
use Rattle.assertions.proofs.EmptinessLaws.{Matches-empty}
use Rattle.import_properties.specs.declared.condition.Condition.{Condition}
use Rattle.import_properties.specs.declared.condition.Condition.TheVariants.{One, Zero}
use Rattle.import_properties.specs.Conditions.{negation}
use Rattle.import_properties.specs.Properties.{Form, sequence, negated, both, either, implied}
use Rattle.import_properties.specs.Properties.{followed, later, each_later, some_later}
use Rattle.import_properties.specs.Outcomes.{ComesToSame, ComesToSameWithin}
use Rattle.import_properties.proofs.FormLaws.{TakesTicks, within, same-refl, same-then, same-both, same-either}
use Rattle.import_properties.proofs.FormLaws.{same-negated, same-implied, same-later, same-each_later, same-swap}
use Rattle.import_properties.proofs.FormLaws.{sequence-both, sequence-either, sequence-later, implied-one}
use Rattle.import_properties.proofs.FormLaws.{followed-sequence}
use Rattle.import_properties.proofs.RowLaws.{some_later-sequence, same-some_later, each_later-one, implied-one-zero}
use Rattle.import_properties.proofs.RowLaws.{sequence-guard, both-swap}
use Rattle.import_rewriting.specs.Sides.{IsConsequent, Says}

-- what admits no empty match takes a tick
pub never_empty : (w : Written Condition) → IsOrdered w → admits_empty w ≡ false → TakesTicks (written.kernel One w)
unfolding TakesTicks
never_empty w ordered some holds i j match = elim (cases_eq i j) [
  | inl e ↦
      let here : Matches holds (written.kernel One w) i i =
      subst (λ m. Matches holds (written.kernel One w) i m) (sym e) match in
      absurd (both_ways (admits_empty w) some (Matches-empty Condition holds One w i ordered here))
  | inr ne ↦ omega (arith, ne, Matches-forward Condition holds (written.kernel One w) i j match)
]

pub takes-tick : (w : Written Condition) → IsConsequent w → TakesTicks (written.kernel One w)
takes-tick w fit = never_empty w fit.ordered fit.some

-- what says one property says each that comes to the same
pub says_same : (bound : ℕ) (p q : Form Condition) (w : Written Condition) → ComesToSame p q → Says bound p w
    → Says bound q w
says_same bound p q w h sw = record {
  fit = sw.fit;
  same =
      same-then bound q p (sequence (written.kernel One w)) (within bound q p (same-swap p q h)) sw.same;
}

pub says_as : (bound : ℕ) (p : Form Condition) (v w : Written Condition) → v ≡ w → Says bound p v → Says bound p w
says_as bound p v w e sv = subst (λ u. Says bound p u) e sv

pub says_or : (bound : ℕ) (p q : Form Condition) (v w : Written Condition) → weight (or v w) ≤ 127 → Says bound p v
    → Says bound q w → Says bound (either p q) (or v w)
says_or bound p q v w light sv sw = record {
  fit = record {
    ordered = (sv.fit.ordered, sw.fit.ordered);
    light = light;
    some = or_from (admits_empty v) (admits_empty w) sv.fit.some sw.fit.some;
  };
  same =
      same-then bound (either p q) (either (sequence (written.kernel One v)) (sequence (written.kernel One w)))
      (sequence (kernel.either (written.kernel One v) (written.kernel One w)))
      (same-either bound p q (sequence (written.kernel One v)) (sequence (written.kernel One w)) sv.same sw.same)
      (within bound (either (sequence (written.kernel One v)) (sequence (written.kernel One w)))
      (sequence (kernel.either (written.kernel One v) (written.kernel One w)))
      (sequence-either (written.kernel One v) (written.kernel One w)));
}

pub says_and : (bound : ℕ) (p q : Form Condition) (v w : Written Condition) → weight (and v w) ≤ 127 → Says bound p v
    → Says bound q w → Says bound (both p q) (and v w)
says_and bound p q v w light sv sw = record {
  fit = record {
    ordered = (sv.fit.ordered, sw.fit.ordered);
    light = light;
    some = and_left (admits_empty v) (admits_empty w) sv.fit.some;
  };
  same =
      same-then bound (both p q) (both (sequence (written.kernel One v)) (sequence (written.kernel One w)))
      (sequence (kernel.both (written.kernel One v) (written.kernel One w)))
      (same-both bound p q (sequence (written.kernel One v)) (sequence (written.kernel One w)) sv.same sw.same)
      (within bound (both (sequence (written.kernel One v)) (sequence (written.kernel One w)))
      (sequence (kernel.both (written.kernel One v) (written.kernel One w)))
      (sequence-both (written.kernel One v) (written.kernel One w) (takes-tick v sv.fit) (takes-tick w sw.fit)));
}

-- a range of one number
same-count : (k : ℕ) → k - k ≡ 0
same-count k = omega arith

pub says_later : (bound k : ℕ) (p : Form Condition) (w : Written Condition) → weight (lead k k w) ≤ 127
    → Says bound p w → Says bound (later k p) (lead k k w)
says_later bound k p w light sw = record {
  fit = record {
    ordered = (omega arith, sw.fit.ordered);
    light = light;
    some = and_right _ (admits_empty w) sw.fit.some;
  };
  same =
      same-then bound (later k p) (later k (sequence (written.kernel One w)))
      (sequence (written.kernel One (lead k k w)))
      (same-later bound k p (sequence (written.kernel One w)) sw.same)
      (subst (λ more. ComesToSameWithin bound (later k (sequence (written.kernel One w)))
      (sequence (written.one_of k more (written.later One (written.kernel One w))))) (sym (same-count k))
      (within bound (later k (sequence (written.kernel One w)))
      (sequence (written.later One (written.kernel One w) k))
      (sequence-later k (written.kernel One w) (takes-tick w sw.fit))));
}

pub says_some_later : (bound least most : ℕ) (p : Form Condition) (w : Written Condition) → least ≤ most
    → weight (lead least most w) ≤ 127 → Says bound p w → Says bound (some_later least (most - least) p)
    (lead least most w)
says_some_later bound least most p w ordered light sw = record {
  fit = record {
    ordered = (ordered, sw.fit.ordered);
    light = light;
    some = and_right _ (admits_empty w) sw.fit.some;
  };
  same =
      same-then bound (some_later least (most - least) p)
      (some_later least (most - least) (sequence (written.kernel One w)))
      (sequence (written.kernel One (lead least most w)))
      (same-some_later bound least (most - least) p (sequence (written.kernel One w)) sw.same)
      (within bound (some_later least (most - least) (sequence (written.kernel One w)))
      (sequence (written.kernel One (lead least most w)))
      (some_later-sequence least (most - least) (written.kernel One w) (takes-tick w sw.fit)));
}

pub says_one : (bound : ℕ) (b : Condition) → Says bound (sequence (kernel.one b)) (boolean b)
says_one bound b = record {
  fit = record { ordered = tt; light = omega arith; some = refl };
  same = same-refl bound (sequence (kernel.one b));
}

pub says_unless : (bound : ℕ) (b : Condition) (p : Form Condition) (w : Written Condition)
    → weight (or (boolean (negation b)) w) ≤ 127 → Says bound p w
    → Says bound (implied (kernel.one b) p) (or (boolean (negation b)) w)
says_unless bound b p w light sw =
    let arms =
    says_or bound (sequence (kernel.one (negation b))) p (boolean (negation b)) w light (says_one bound (negation b))
    sw in
    record {
      fit = arms.fit;
      same =
          same-then bound (implied (kernel.one b) p) (either (sequence (kernel.one (negation b))) p)
          (sequence (written.kernel One (or (boolean (negation b)) w)))
          (within bound (implied (kernel.one b) p) (either (sequence (kernel.one (negation b))) p) (implied-one b p))
          arms.same;
    }

pub says_followed : (bound : ℕ) (p : Form Condition) (r w : Written Condition) → IsOrdered r
    → weight (delay r 0 0 w) ≤ 127 → Says bound p w
    → Says bound (followed (written.kernel One r) p) (delay r 0 0 w)
says_followed bound p r w ordered light sw = record {
  fit = record {
    ordered = (omega arith, ordered, sw.fit.ordered);
    light = light;
    some = refl;
  };
  same =
      same-then bound (followed (written.kernel One r) p)
      (followed (written.kernel One r) (sequence (written.kernel One w)))
      (sequence (kernel.fuse (written.kernel One r) (written.kernel One w)))
      (same-negated bound (implied (written.kernel One r) (negated p))
      (implied (written.kernel One r) (negated (sequence (written.kernel One w))))
      (same-implied bound (written.kernel One r) (negated p) (negated (sequence (written.kernel One w)))
      (same-negated bound p (sequence (written.kernel One w)) sw.same)))
      (within bound (followed (written.kernel One r) (sequence (written.kernel One w)))
      (sequence (kernel.fuse (written.kernel One r) (written.kernel One w)))
      (followed-sequence (written.kernel One r) (written.kernel One w) (takes-tick w sw.fit)));
}

pub says_unless_as : (bound : ℕ) (b : Condition) (p : Form Condition) (v w : Written Condition)
    → v ≡ boolean (negation b) → weight (or v w) ≤ 127 → Says bound p w → Says bound (implied (kernel.one b) p) (or v w)
says_unless_as bound b p v w e light sw =
    let P : Written Condition → Type 0 = λ u. weight (or u w) ≤ 127 → Says bound (implied (kernel.one b) p) (or u w) in
    subst P (sym e) (λ light. says_unless bound b p w light sw) light

-- where the rest is 0, the boolean must be false
pub says_missed : (bound : ℕ) (b : Condition) (p : Form Condition) (v : Written Condition)
    → v ≡ boolean (negation b) → Says bound p (boolean Zero) → Says bound (implied (kernel.one b) p) v
says_missed bound b p v e sw =
    let arms : ComesToSameWithin bound (implied (kernel.one b) p) (sequence (kernel.one (negation b))) =
    same-then bound (implied (kernel.one b) p) (implied (kernel.one b) (sequence (kernel.one Zero)))
    (sequence (kernel.one (negation b)))
    (same-implied bound (kernel.one b) p (sequence (kernel.one Zero)) sw.same)
    (within bound (implied (kernel.one b) (sequence (kernel.one Zero))) (sequence (kernel.one (negation b)))
    (implied-one-zero b)) in
    says_as bound (implied (kernel.one b) p) (boolean (negation b)) v (sym e)
    (record { fit = (says_one bound (negation b)).fit; same = arms })

-- a boolean at each tick of a range
pub says_times : (bound k : ℕ) (b : Condition) (v : Written Condition) → v ≡ boolean b → 1 ≤ k
    → weight (repeat v k k) ≤ 127
    → Says bound (sequence (kernel.times (kernel.one b) k k)) (repeat v k k)
says_times bound k b v e some light =
    let P : Written Condition → Type 0 = λ u. weight (repeat u k k) ≤ 127
    → Says bound (sequence (kernel.times (kernel.one b) k k)) (repeat u k k) in
    subst P (sym e) (λ light. record {
      fit = record {
        ordered = (omega arith, tt);
        light = light;
        some = or_from (nat_le k 0) false (false_from_ne_true (nat_le k 0) (λ t. omega (arith, some, leb-true k 0 t)))
            refl;
      };
      same = same-refl bound (sequence (kernel.times (kernel.one b) k k));
    }) light

pub says_held : (bound first more : ℕ) (b : Condition) (p : Form Condition) (w : Written Condition)
    → Says bound (later first (sequence (kernel.times (kernel.one b) (more + 1) (more + 1)))) w
    → Says bound p (boolean b) → Says bound (each_later first more p) w
says_held bound first more b p w sw sb = record {
  fit = sw.fit;
  same =
      same-then bound (each_later first more p) (each_later first more (sequence (kernel.one b)))
      (sequence (written.kernel One w))
      (same-each_later bound first more p (sequence (kernel.one b)) sb.same)
      (same-then bound (each_later first more (sequence (kernel.one b)))
      (later first (sequence (kernel.times (kernel.one b) (more + 1) (more + 1)))) (sequence (written.kernel One w))
      (within bound (each_later first more (sequence (kernel.one b)))
      (later first (sequence (kernel.times (kernel.one b) (more + 1) (more + 1)))) (each_later-one first more b))
      sw.same);
}

-- a range of one number, and one more number before a range
pub says_each_once : (bound least most : ℕ) (p : Form Condition) (w : Written Condition) → least ≡ most
    → Says bound (later least p) w → Says bound (each_later least (most - least) p) w
says_each_once bound least most p w e sw =
    let none : 0 ≡ most - least = omega arith in
    subst (λ more. Says bound (each_later least more p) w) none sw

pub says_each_more : (bound least most : ℕ) (p : Form Condition) (w : Written Condition) → least < most
    → Says bound (both (later least p) (each_later (least + 1) (most - (least + 1)) p)) w
    → Says bound (each_later least (most - least) p) w
says_each_more bound least most p w lt sw =
    let more : suc (most - (least + 1)) ≡ most - least = omega arith in
    subst (λ more. Says bound (each_later least more p) w) more sw

-- a boolean and a sequence
pub says_guard : (bound : ℕ) (b : Condition) (p q : Form Condition) (v w : Written Condition) → v ≡ boolean b
    → weight (delay v 0 0 w) ≤ 127 → Says bound p (boolean b) → Says bound q w → Says bound (both p q) (delay v 0 0 w)
says_guard bound b p q v w e light sb sw =
    let P : Written Condition → Type 0 = λ u. weight (delay u 0 0 w) ≤ 127 → Says bound (both p q) (delay u 0 0 w) in
    subst P (sym e) (λ light. record {
      fit = record { ordered = (omega arith, tt, sw.fit.ordered); light = light; some = refl };
      same =
          same-then bound (both p q) (both (sequence (kernel.one b)) (sequence (written.kernel One w)))
          (sequence (kernel.fuse (kernel.one b) (written.kernel One w)))
          (same-both bound p q (sequence (kernel.one b)) (sequence (written.kernel One w)) sb.same sw.same)
          (within bound (both (sequence (kernel.one b)) (sequence (written.kernel One w)))
          (sequence (kernel.fuse (kernel.one b) (written.kernel One w)))
          (sequence-guard b (written.kernel One w) (takes-tick w sw.fit)));
    }) light

pub says_swap : (bound : ℕ) (p q : Form Condition) (w : Written Condition) → Says bound (both p q) w
    → Says bound (both q p) w
says_swap bound p q w sw = says_same bound (both p q) (both q p) w (both-swap p q) sw
