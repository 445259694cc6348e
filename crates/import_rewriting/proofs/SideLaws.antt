-- Antecedents taken out of properties.
use Rattle.std.proofs.Common.{◌≡◌, ℕ, ◌-◌, ◌≤◌, false, refl, sym, subst, arith}
use Rattle.assertions.specs.Segments as kernel
use Rattle.assertions.specs.Written.{Written, boolean, delay, lead, weight, IsOrdered}
use Rattle.assertions.specs.Written as written
use Rattle.assertions.specs.Emptiness.{admits_empty}
use Rattle.import_properties.specs.declared.condition.Condition.{Condition}
use Rattle.import_properties.specs.declared.condition.Condition.TheVariants.{One, Zero}
use Rattle.import_properties.specs.declared.property.Property.{Property}
use Rattle.import_properties.specs.Properties.{Form, form_of, sequence, implied, each_later, later, negated}
use Rattle.import_properties.specs.Outcomes.{ComesToSame, ComesToSameWithin}
use Rattle.import_properties.proofs.FormLaws.{within, same-swap, same-then, same-implied, same-each_later}
use Rattle.import_properties.proofs.FormLaws.{same-negated}
use Rattle.import_properties.proofs.RowLaws.{negated-negated, negated-sequence}
use Rattle.import_properties.proofs.FormLaws.{implied-fuse, implied-delay, implied-lead}
use Rattle.import_properties.proofs.ProfileLaws.{implied-seen, each_later-seen, one-implied, implied-always}
use Rattle.import_properties.proofs.ProfileLaws.{profile-implied}
use Rattle.import_rewriting.specs.Sides.{IsAntecedent, Says}
use Rattle.import_rewriting.specs.Rewriting.{EndsLater, SaysAfter, AreSides, AreSidesLater, IsRewriting, SaysIn}
use Rattle.import_rewriting.specs.Rewriting.{IsWithin, IsOpen}
use Rattle.import_rewriting.specs.declared.sense.Sense.TheVariants.{Kept, Negated}
use Rattle.import_rewriting.proofs.SaysLaws.{never_empty, takes-tick}

-- what comes to the same within each bound
everywhere : (p q : Form Condition) → ((bound : ℕ) → ComesToSameWithin bound p q) → ComesToSame p q
everywhere p q h leaves n o c = h n leaves n o c (omega arith)

follow : (p q r : Form Condition) → ComesToSame p q → ComesToSame q r → ComesToSame p r
follow p q r g h =
    everywhere p r (λ bound. same-then bound p q r (within bound p q g) (within bound q r h))

-- nothing before
pub starts_at_once : (least most : ℕ) (t : Written Condition) → least ≤ most → most ≡ 0
    → EndsLater (boolean One) least most t t
starts_at_once least most t le e p =
    let first : 0 ≡ least = omega arith in
    let more : 0 ≡ most - least = omega arith in
    let body = implied (written.kernel One t) p in
    subst (λ k. ComesToSame (implied (kernel.one One) (each_later k (most - least) body)) body) first
    (subst (λ k. ComesToSame (implied (kernel.one One) (each_later 0 k body)) body) more
    (one-implied body (implied-seen (written.kernel One t) p)))

pub starts_later : (least most : ℕ) (t : Written Condition) → IsOrdered t → admits_empty t ≡ false
    → EndsLater (boolean One) least most t (lead least most t)
starts_later least most t ordered some p =
    let body = implied (written.kernel One t) p in
    let range = each_later least (most - least) body in
    let whole = implied (written.kernel One (lead least most t)) p in
    follow (implied (kernel.one One) range) range whole
    (one-implied range (each_later-seen least (most - least) body (implied-seen (written.kernel One t) p)))
    (same-swap whole range
    (implied-lead (written.kernel One t) least (most - least) p (never_empty t ordered some)))

-- an antecedent that may be empty, from a tick of its own
pub starts_moved : (least most : ℕ) (t v : Written Condition) → IsOrdered t → v ≡ boolean One
    → EndsLater (boolean One) least most t (lead least most (delay v 0 0 t))
starts_moved least most t v ordered e =
    let moved : Written Condition = delay (boolean One) 0 0 t in
    let P : Written Condition → Type 0 = λ u. EndsLater (boolean One) least most t (lead least most (delay u 0 0 t)) in
    subst P (sym e) (λ p.
    let body = implied (written.kernel One t) p in
    let other = implied (written.kernel One moved) p in
    let one : ComesToSame body other =
    same-swap other body
    (follow other (implied (kernel.one One) body) body (implied-fuse (kernel.one One) (written.kernel One t) p)
    (one-implied body (implied-seen (written.kernel One t) p))) in
    let range = each_later least (most - least) body in
    let ranges : ComesToSame range (each_later least (most - least) other) =
    everywhere range (each_later least (most - least) other)
    (λ bound. same-each_later bound least (most - least) body other (within bound body other one)) in
    let whole = implied (written.kernel One (lead least most moved)) p in
    follow (implied (kernel.one One) range) range whole
    (one-implied range (each_later-seen least (most - least) body (implied-seen (written.kernel One t) p)))
    (follow range (each_later least (most - least) other) whole ranges
    (same-swap whole (each_later least (most - least) other)
    (implied-lead (written.kernel One moved) least (most - least) p
    (never_empty moved (omega arith, tt, ordered) refl)))))

-- after a first antecedent
pub ends_at_once : (r : Written Condition) (least most : ℕ) (t : Written Condition) → least ≤ most → most ≡ 0
    → EndsLater r least most t (delay r 0 0 t)
ends_at_once r least most t le e p =
    let first : 0 ≡ least = omega arith in
    let more : 0 ≡ most - least = omega arith in
    let body = implied (written.kernel One t) p in
    let whole = implied (kernel.fuse (written.kernel One r) (written.kernel One t)) p in
    subst (λ k. ComesToSame (implied (written.kernel One r) (each_later k (most - least) body)) whole) first
    (subst (λ k. ComesToSame (implied (written.kernel One r) (each_later 0 k body)) whole) more
    (same-swap whole (implied (written.kernel One r) body)
    (implied-fuse (written.kernel One r) (written.kernel One t) p)))

pub ends_delayed : (r : Written Condition) (least most : ℕ) (t : Written Condition) → IsOrdered r → IsOrdered t
    → admits_empty r ≡ false → admits_empty t ≡ false → EndsLater r least most t (delay r least most t)
ends_delayed r least most t ordered_r ordered_t some_r some_t p =
    let range = each_later least (most - least) (implied (written.kernel One t) p) in
    same-swap (implied (written.kernel One (delay r least most t)) p) (implied (written.kernel One r) range)
    (implied-delay (written.kernel One r) (written.kernel One t) least (most - least) p
    (never_empty r ordered_r some_r) (never_empty t ordered_t some_t))

-- both sides
pub sides_alone : (bound : ℕ) (r : Written Condition) (property : Property) (w : Written Condition) → IsAntecedent r
    → SaysIn Kept bound property w → AreSides bound r property r w
sides_alone bound r property w fit_r says = record {
  antecedent = fit_r;
  consequent = (says 0 (λ _. omega arith)).fit;
  same = λ ticks inside.
      same-implied ticks (written.kernel One r) (form_of property) (sequence (written.kernel One w))
      (says ticks inside).same;
}

-- what says something can be an antecedent
pub antecedent_from : (bound : ℕ) (property : Property) (v w : Written Condition) → SaysIn Negated bound property v
    → w ≡ v → IsAntecedent w
antecedent_from bound property v w says e =
    let fit = (says 0 (λ _. omega arith)).fit in
    subst (λ u. IsAntecedent u) (sym e) (record { ordered = fit.ordered; light = fit.light })

-- p after r, where its negation never comes to a match
pub sides_never : (bound : ℕ) (r x : Written Condition) (property : Property) (v w : Written Condition)
    → SaysIn Negated bound property v → EndsLater r 0 0 v x → IsAntecedent x → w ≡ boolean Zero
    → AreSides bound r property x w
sides_never bound r x property v w says ends fit e =
    let P : Written Condition → Type 0 = λ w. AreSides bound r property x w in
    subst P (sym e) (record {
      antecedent = fit;
      consequent = record { ordered = tt; light = omega arith; some = refl };
      same = λ ticks inside. never ticks (form_of property) (says ticks inside);
    })
  where
    never : (ticks : ℕ) (p : Form Condition) → Says ticks (negated p) v
        → ComesToSameWithin ticks (implied (written.kernel One r) p)
        (implied (written.kernel One x) (sequence (kernel.one Zero)))
    never ticks p says_not =
        let k = written.kernel One v in
        let zero = sequence (kernel.one Zero) in
        same-then ticks (implied (written.kernel One r) p) (implied (written.kernel One r) (implied k zero))
        (implied (written.kernel One x) zero)
        (same-implied ticks (written.kernel One r) p (implied k zero)
        (same-then ticks p (negated (negated p)) (implied k zero)
        (within ticks p (negated (negated p)) (same-swap (negated (negated p)) p (negated-negated p)))
        (same-then ticks (negated (negated p)) (negated (sequence k)) (implied k zero)
        (same-negated ticks (negated p) (sequence k) says_not.same)
        (within ticks (negated (sequence k)) (implied k zero)
        (same-swap (implied k zero) (negated (sequence k)) (negated-sequence k))))))
        (within ticks (implied (written.kernel One r) (implied k zero)) (implied (written.kernel One x) zero)
        (ends zero))

pub sides_joined : (bound : ℕ) (r : Written Condition) (least most : ℕ) (t x : Written Condition) (property : Property)
    (a s : Written Condition) → EndsLater r least most t x → AreSides bound x property a s
    → AreSidesLater bound r least most t property a s
sides_joined bound r least most t x property a s ends sides = record {
  antecedent = sides.antecedent;
  consequent = sides.consequent;
  same = λ ticks inside.
      let p = form_of property in
      let range = each_later least (most - least) (implied (written.kernel One t) p) in
      same-then ticks (implied (written.kernel One r) range) (implied (written.kernel One x) p)
      (implied (written.kernel One a) (sequence (written.kernel One s)))
      (within ticks (implied (written.kernel One r) range) (implied (written.kernel One x) p) (ends p))
      (sides.same ticks inside);
}

-- the property at each tick of a range is body after an end of t there
pub sides_each_of : (bound least most : ℕ) (r t : Written Condition) (body p : Property) (a s : Written Condition)
    → form_of p ≡ implied (written.kernel One t) (form_of body) → (IsOpen body → IsOpen p)
    → ((ticks : ℕ) → IsWithin bound body ticks
    → SaysAfter ticks r (each_later least (most - least) (implied (written.kernel One t) (form_of body))) a s)
    → (ticks : ℕ) → IsWithin bound p ticks → SaysAfter ticks r (each_later least (most - least) (form_of p)) a s
sides_each_of bound least most r t body p a s e wider says ticks inside =
    subst (λ q. SaysAfter ticks r (each_later least (most - least) q) a s) (sym e)
    (says ticks (λ o. inside (wider o)))

-- and so many ticks later
pub sides_next_of : (bound count : ℕ) (r t : Written Condition) (body p : Property) (a s : Written Condition)
    → form_of p ≡ implied (written.kernel One t) (form_of body) → (IsOpen body → IsOpen p)
    → ((ticks : ℕ) → IsWithin bound body ticks
    → SaysAfter ticks r (each_later count (count - count) (implied (written.kernel One t) (form_of body))) a s)
    → (ticks : ℕ) → IsWithin bound p ticks → SaysAfter ticks r (later count (form_of p)) a s
sides_next_of bound count r t body p a s e wider says ticks inside =
    let none : count - count ≡ 0 = omega arith in
    subst (λ more. SaysAfter ticks r (each_later count more (form_of p)) a s) none
    (sides_each_of bound count count r t body p a s e wider says ticks inside)

pub is_rewriting : (bound : ℕ) (property : Property) (v a s : Written Condition) → v ≡ boolean One
    → AreSides bound v property a s → IsRewriting bound property a s
is_rewriting bound property v a s e sides =
    let from : AreSides bound (boolean One) property a s =
    subst (λ u. AreSides bound u property a s) e sides in
    record {
      antecedent = from.antecedent;
      consequent = from.consequent;
      exact = λ ticks inside leaves n o c begun le.
          let p = form_of property in
          let first = implied-always p leaves n o c begun in
          let same = from.same ticks inside leaves n o c le in
          let last =
          profile-implied (written.kernel One a) (written.kernel One s) (takes-tick s from.consequent) leaves n o c
          begun in
          (λ x. last.0 (same.0 (first.0 x)), λ x. first.1 (same.1 (last.1 x)));
    }
