-- Properties in a sense, by their form.
use Rattle.std.proofs.Common.{◌≡◌, ℕ, ◌≤◌, true, false, ◌&&◌, ◌||◌, nat_le, refl, sym, subst, arith}
use Rattle.std.proofs.lemmas.Bool.{and_right}
use Rattle.assertions.specs.Segments as kernel
use Rattle.assertions.specs.Written.{Written, boolean, delay, repeat, weight}
use Rattle.assertions.specs.Written as written
use Rattle.assertions.specs.Emptiness.{admits_empty}
use Rattle.import_properties.specs.declared.condition.Condition.{Condition}
use Rattle.import_properties.specs.declared.condition.Condition.TheVariants.{One, Zero}
use Rattle.import_properties.specs.Conditions.{negation}
use Rattle.import_properties.specs.Properties.{Form, sequence, negated, either, both, implied, until, followed, chosen}
use Rattle.import_properties.specs.Properties.{later}
use Rattle.import_properties.specs.Outcomes.{ComesToSame, ComesToSameWithin}
use Rattle.import_properties.proofs.FormLaws.{same-swap, same-then, same-refl}
use Rattle.import_properties.proofs.FormLaws.{same-negated, within, same-both}
use Rattle.import_properties.proofs.UntilLaws.{negated-until, negated-until_with}
use Rattle.import_properties.proofs.RowLaws.{negated-negated, negated-later, negated-chosen, chosen-arms, same-chosen}
use Rattle.import_properties.proofs.RowLaws.{same-until, until-sequence, negated-sequence}
use Rattle.import_properties.proofs.UntilLaws.{negated-until, negated-until_with}
use Rattle.import_rewriting.specs.declared.sense.Sense.{Sense}
use Rattle.import_rewriting.specs.declared.sense.Sense.TheVariants.{Kept, Negated}
use Rattle.import_rewriting.specs.Sides.{Says, can_match}
use Rattle.import_rewriting.specs.Senses.{in_sense, opposite, JoinsImplied}
use Rattle.import_rewriting.proofs.SaysLaws.{says_same, says_as, takes-tick}
use Rattle.import_rewriting.proofs.MatchLaws.{goes_on}
use Rattle.import_rewriting.proofs.EndsLaws.{Ends, Later}
use Rattle.import_rewriting.proofs.JoinLaws.{Either}

itself : (p : Form Condition) → ComesToSame p p
itself p leaves n o c = (λ h. h, λ h. h)

-- what is negated, in the other sense
pub sense-opposite : (s : Sense) (p : Form Condition) → ComesToSame (in_sense (opposite s) p) (in_sense s (negated p))
sense-opposite Kept p = itself (negated p)
sense-opposite Negated p = same-swap (negated (negated p)) p (negated-negated p)

pub sense-twice : (s : Sense) (p : Form Condition) → ComesToSame (in_sense s p) (in_sense (opposite s) (negated p))
sense-twice Kept p = same-swap (negated (negated p)) p (negated-negated p)
sense-twice Negated p = itself (negated p)

pub says_opposite : (bound : ℕ) (s t : Sense) (p : Form Condition) (w : Written Condition) → t ≡ opposite s
    → Says bound (in_sense t p) w → Says bound (in_sense s (negated p)) w
says_opposite bound s t p w e says =
    says_same bound (in_sense (opposite s) p) (in_sense s (negated p)) w (sense-opposite s p)
    (subst (λ t. Says bound (in_sense t p) w) e says)

-- r #-# p by r |-> not p in the other sense
pub says_followed_by : (bound : ℕ) (s t : Sense) (p : Form Condition) (r u w : Written Condition) → t ≡ opposite s
    → JoinsImplied t r u w → Says bound (in_sense s p) u
    → Says bound (in_sense s (followed (written.kernel One r) p)) w
says_followed_by bound s t p r u w e joined says =
    says_opposite bound s t (implied (written.kernel One r) (negated p)) w e
    (joined bound (negated p)
    (subst (λ t. Says bound (in_sense t (negated p)) u) (sym e)
    (says_same bound (in_sense s p) (in_sense (opposite s) (negated p)) u (sense-twice s p) says)))

pub says_later_in : (bound count : ℕ) (s : Sense) (p : Form Condition) (u w : Written Condition) → Later count u w
    → Says bound (in_sense s p) u → Says bound (in_sense s (later count p)) w
says_later_in bound count Kept p u w after says = after bound p says
says_later_in bound count Negated p u w after says =
    says_same bound (later count (negated p)) (negated (later count p)) w
    (same-swap (negated (later count p)) (later count (negated p)) (negated-later count p))
    (after bound (negated p) says)

-- not s
pub says_never : (bound : ℕ) (a v w : Written Condition) → v ≡ boolean Zero → Ends a v w
    → Says bound (negated (sequence (written.kernel One a))) w
says_never bound a v w e ends =
    says_same bound (implied (written.kernel One a) (sequence (kernel.one Zero)))
    (negated (sequence (written.kernel One a))) w (negated-sequence (written.kernel One a))
    (ends bound (sequence (kernel.one Zero))
    (says_as bound (sequence (kernel.one Zero)) (boolean Zero) v (sym e)
    (record {
      fit = record { ordered = tt; light = omega arith; some = refl };
      same = same-refl bound (sequence (kernel.one Zero));
    })))

-- the two arms of if (b) p else q
pub Guarded : Condition → Written Condition → Written Condition → Type 0
Guarded b v w =
    (bound : ℕ) (p q : Form Condition) → Says bound p (boolean b) → Says bound q v → Says bound (both p q) w

guard_itself : (bound : ℕ) (b : Condition) → Says bound (sequence (kernel.one b)) (boolean b)
guard_itself bound b = record {
  fit = record { ordered = tt; light = omega arith; some = refl };
  same = same-refl bound (sequence (kernel.one b));
}

module _ (b d : Condition) (u v x y w : Written Condition) (e : d ≡ negation b)
    (first : (bound : ℕ) (p q : Form Condition) → Says bound p (boolean b) → Says bound q u → Says bound (both p q) x)
    (second : (bound : ℕ) (p q : Form Condition) → Says bound p (boolean d) → Says bound q v → Says bound (both p q) y)
    (joined : Either x y w) (can_u : can_match u ≡ true) (can_v : can_match v ≡ true) (bound : ℕ)
    (p q : Form Condition) where
  arms : (p q : Form Condition) → Says bound p u → Says bound q v
      → Says bound (either (both (sequence (kernel.one b)) p) (both (sequence (kernel.one (negation b))) q)) w
  arms p q su sv =
      joined bound (both (sequence (kernel.one b)) p) (both (sequence (kernel.one (negation b))) q)
      (first bound (sequence (kernel.one b)) p (guard_itself bound b) su)
      (second bound (sequence (kernel.one (negation b))) q
      (subst (λ d. Says bound (sequence (kernel.one (negation b))) (boolean d)) (sym e)
      (guard_itself bound (negation b)))
      sv)

  pub chosen_kept : Says bound p u → Says bound q v → Says bound (chosen b p q) w
  chosen_kept su sv =
      let s = written.kernel One u in
      let t = written.kernel One v in
      let sequences : Says bound (chosen b (sequence s) (sequence t)) w =
      says_same bound
      (either (both (sequence (kernel.one b)) (sequence s)) (both (sequence (kernel.one (negation b))) (sequence t)))
      (chosen b (sequence s) (sequence t)) w
      (same-swap (chosen b (sequence s) (sequence t))
      (either (both (sequence (kernel.one b)) (sequence s)) (both (sequence (kernel.one (negation b))) (sequence t)))
      (chosen-arms b s t (takes-tick u su.fit) (takes-tick v sv.fit) (goes_on u su.fit.ordered can_u)
      (goes_on v sv.fit.ordered can_v)))
      (arms (sequence s) (sequence t) (record { fit = su.fit; same = same-refl bound (sequence s) })
      (record { fit = sv.fit; same = same-refl bound (sequence t) })) in
      record {
        fit = sequences.fit;
        same =
            same-then bound (chosen b p q) (chosen b (sequence s) (sequence t)) (sequence (written.kernel One w))
            (same-chosen bound b p q (sequence s) (sequence t) su.same sv.same) sequences.same;
      }

  pub chosen_negated : Says bound (negated p) u → Says bound (negated q) v → Says bound (negated (chosen b p q)) w
  chosen_negated su sv =
      says_same bound
      (either (both (sequence (kernel.one b)) (negated p)) (both (sequence (kernel.one (negation b))) (negated q)))
      (negated (chosen b p q)) w
      (same-swap (negated (chosen b p q))
      (either (both (sequence (kernel.one b)) (negated p)) (both (sequence (kernel.one (negation b))) (negated q)))
      (negated-chosen b p q))
      (arms (negated p) (negated q) su sv)

  pub chosen_in : (s : Sense) → Says bound (in_sense s p) u → Says bound (in_sense s q) v
      → Says bound (in_sense s (chosen b p q)) w
  chosen_in Kept su sv = chosen_kept su sv
  chosen_in Negated su sv = chosen_negated su sv

-- p until q for a boolean p
fewer : (less more : ℕ) (p q : Form Condition) → less ≤ more → ComesToSameWithin more p q
    → ComesToSameWithin less p q
fewer less more p q le h leaves n o c at = h leaves n o c (omega (arith, le, at))

pub says_waiting : (ticks bound : ℕ) (b : Condition) (p q : Form Condition) (v h w : Written Condition)
    → h ≡ repeat v 0 bound → v ≡ boolean b → weight (delay h 1 1 w) ≤ 127 → can_match w ≡ true → ticks ≤ bound
    → Says ticks p (boolean b) → Says ticks q w → Says ticks (until p q) (delay h 1 1 w)
says_waiting ticks bound b p q v h w eh ev light can le sp sq =
    let s = written.kernel One w in
    let held : Written Condition = repeat (boolean b) 0 bound in
    let P : Written Condition → Type 0 = λ h. weight (delay h 1 1 w) ≤ 127 → Says ticks (until p q) (delay h 1 1 w) in
    let known : P held = λ light. record {
      fit = record {
        ordered = (omega arith, (omega arith, tt), sq.fit.ordered);
        light = light;
        some =
            and_right (nat_le 1 1 && nat_le 1 1) ((nat_le 0 0 || false) && admits_empty w)
            (and_right (nat_le 0 0 || false) (admits_empty w) sq.fit.some);
      };
      same =
          same-then ticks (until p q) (until (sequence (kernel.one b)) (sequence s))
          (sequence (kernel.chop (kernel.times (kernel.one b) 0 bound) s))
          (same-until ticks p q (sequence (kernel.one b)) (sequence s) sp.same sq.same)
          (fewer ticks bound (until (sequence (kernel.one b)) (sequence s))
          (sequence (kernel.chop (kernel.times (kernel.one b) 0 bound) s)) le
          (until-sequence bound b s (takes-tick w sq.fit) (goes_on w sq.fit.ordered can)));
    } in
    let Q : Written Condition → Type 0 = λ u. P (repeat u 0 bound) in
    subst P (sym eh) (subst Q (sym ev) known) light

-- not (p until q), for booleans p and q
pub says_until_negated : (ticks : ℕ) (b d : Condition) (p q : Form Condition) (w : Written Condition)
    → Says ticks p (boolean b) → Says ticks q (boolean d)
    → Says ticks (until (sequence (kernel.one (negation d)))
    (both (sequence (kernel.one (negation b))) (sequence (kernel.one (negation d))))) w
    → Says ticks (negated (until p q)) w
says_until_negated ticks b d p q w sp sq says =
    let one = sequence (kernel.one b) in
    let two = sequence (kernel.one d) in
    let other =
    until (sequence (kernel.one (negation d)))
    (both (sequence (kernel.one (negation b))) (sequence (kernel.one (negation d)))) in
    record {
      fit = says.fit;
      same =
          same-then ticks (negated (until p q)) (negated (until one two)) (sequence (written.kernel One w))
          (same-negated ticks (until p q) (until one two) (same-until ticks p q one two sp.same sq.same))
          (same-then ticks (negated (until one two)) other (sequence (written.kernel One w))
          (within ticks (negated (until one two)) other (negated-until b d)) says.same);
    }

pub says_until_with_negated : (ticks : ℕ) (b d : Condition) (p q : Form Condition) (w : Written Condition)
    → Says ticks p (boolean b) → Says ticks q (boolean d)
    → Says ticks (until (sequence (kernel.one (negation d))) (sequence (kernel.one (negation b)))) w
    → Says ticks (negated (until p (both p q))) w
says_until_with_negated ticks b d p q w sp sq says =
    let one = sequence (kernel.one b) in
    let two = sequence (kernel.one d) in
    let other = until (sequence (kernel.one (negation d))) (sequence (kernel.one (negation b))) in
    record {
      fit = says.fit;
      same =
          same-then ticks (negated (until p (both p q))) (negated (until one (both one two)))
          (sequence (written.kernel One w))
          (same-negated ticks (until p (both p q)) (until one (both one two))
          (same-until ticks p (both p q) one (both one two) sp.same (same-both ticks p q one two sp.same sq.same)))
          (same-then ticks (negated (until one (both one two))) other (sequence (written.kernel One w))
          (within ticks (negated (until one (both one two))) other (negated-until_with b d)) says.same);
    }

-- a boolean that is the negation of another
pub says_at : (ticks : ℕ) (b : Condition) (v : Written Condition) → v ≡ boolean b
    → Says ticks (sequence (kernel.one b)) v
says_at ticks b v e = says_as ticks (sequence (kernel.one b)) (boolean b) v (sym e) (guard_itself ticks b)
