-- After each end of a sequence, by its form.
use Rattle.std.proofs.Common.{◌≡◌, ℕ, suc, ◌-◌, ◌<◌, ◌≤◌, false, sym, subst, arith}
use Rattle.assertions.specs.Segments as kernel
use Rattle.assertions.specs.Written.{Written, boolean, delay, lead, repeat, or, IsOrdered}
use Rattle.assertions.specs.Written as written
use Rattle.assertions.specs.Emptiness.{admits_empty}
use Rattle.import_properties.specs.declared.condition.Condition.{Condition}
use Rattle.import_properties.specs.declared.condition.Condition.TheVariants.{One}
use Rattle.import_properties.specs.Properties.{Form, sequence, both, implied, next, later, each_later}
use Rattle.import_properties.proofs.FormLaws.{implied-either, implied-delay, implied-lead, same-swap, same-refl}
use Rattle.import_properties.proofs.RowLaws.{implied-times-last, implied-times-more, implied-times-later}
use Rattle.import_rewriting.specs.Sides.{IsConsequent, Says}
use Rattle.import_rewriting.specs.Ends.{SaysAfterEachEnd}
use Rattle.import_rewriting.proofs.SaysLaws.{says_same, never_empty}

-- u says: after each end of a, what s says
abbrev pub Ends : Written Condition → Written Condition → Written Condition → Type 0
Ends a s u = (bound : ℕ) (p : Form Condition) → Says bound p s → Says bound (implied (written.kernel One a) p) u

abbrev pub Each : ℕ → ℕ → Written Condition → Written Condition → Type 0
Each least most v u =
    (bound : ℕ) (p : Form Condition) → Says bound p v → Says bound (each_later least (most - least) p) u

abbrev pub Later : ℕ → Written Condition → Written Condition → Type 0
Later count v u = (bound : ℕ) (p : Form Condition) → Says bound p v → Says bound (later count p) u

abbrev pub Both : Written Condition → Written Condition → Written Condition → Type 0
Both v w u = (bound : ℕ) (p q : Form Condition) → Says bound p v → Says bound q w → Says bound (both p q) u

-- the same of count repetitions of a
abbrev pub EndsTimes : Written Condition → ℕ → ℕ → Written Condition → Written Condition → Type 0
EndsTimes a least most s u =
    (bound : ℕ) (p : Form Condition) → Says bound p s
    → Says bound (implied (kernel.times (written.kernel One a) least most) p) u

pub ends_or : (r t s u v w : Written Condition) → Ends r s u → Ends t s v → Both u v w → Ends (or r t) s w
ends_or r t s u v w first second joined bound p says =
    says_same bound (both (implied (written.kernel One r) p) (implied (written.kernel One t) p))
    (implied (kernel.either (written.kernel One r) (written.kernel One t)) p) w
    (same-swap (implied (kernel.either (written.kernel One r) (written.kernel One t)) p)
    (both (implied (written.kernel One r) p) (implied (written.kernel One t) p))
    (implied-either (written.kernel One r) (written.kernel One t) p))
    (joined bound (implied (written.kernel One r) p) (implied (written.kernel One t) p) (first bound p says)
    (second bound p says))

pub ends_lead : (least most : ℕ) (t s u w : Written Condition) → IsOrdered t → admits_empty t ≡ false → Ends t s u
    → Each least most u w → Ends (lead least most t) s w
ends_lead least most t s u w ordered some rest all bound p says =
    says_same bound (each_later least (most - least) (implied (written.kernel One t) p))
    (implied (written.kernel One (lead least most t)) p) w
    (same-swap (implied (written.kernel One (lead least most t)) p)
    (each_later least (most - least) (implied (written.kernel One t) p))
    (implied-lead (written.kernel One t) least (most - least) p (never_empty t ordered some)))
    (all bound (implied (written.kernel One t) p) (rest bound p says))

pub ends_delay : (r : Written Condition) (least most : ℕ) (t s u v w : Written Condition) → IsOrdered r → IsOrdered t
    → admits_empty r ≡ false → admits_empty t ≡ false → Ends t s u → Each least most u v → Ends r v w
    → Ends (delay r least most t) s w
ends_delay r least most t s u v w ordered_r ordered_t some_r some_t rest all first bound p says =
    says_same bound
    (implied (written.kernel One r) (each_later least (most - least) (implied (written.kernel One t) p)))
    (implied (written.kernel One (delay r least most t)) p) w
    (same-swap (implied (written.kernel One (delay r least most t)) p)
    (implied (written.kernel One r) (each_later least (most - least) (implied (written.kernel One t) p)))
    (implied-delay (written.kernel One r) (written.kernel One t) least (most - least) p
    (never_empty r ordered_r some_r) (never_empty t ordered_t some_t)))
    (first bound (each_later least (most - least) (implied (written.kernel One t) p))
    (all bound (implied (written.kernel One t) p) (rest bound p says)))

pub ends_last : (r s w : Written Condition) (least most : ℕ) → IsOrdered r → admits_empty r ≡ false → least ≤ most
    → most ≡ 1 → Ends r s w → EndsTimes r least most s w
ends_last r s w least most ordered some range e first =
    let P : ℕ → Type 0 = λ most. least ≤ most → EndsTimes r least most s w in
    subst P (sym e) (λ low bound p says.
    says_same bound (implied (written.kernel One r) p)
    (implied (kernel.times (written.kernel One r) least 1) p) w
    (same-swap (implied (kernel.times (written.kernel One r) least 1) p) (implied (written.kernel One r) p)
    (implied-times-last (written.kernel One r) least p (never_empty r ordered some) low)) (first bound p says)) range

pub ends_later : (r s u v w : Written Condition) (least less most : ℕ) → IsOrdered r → admits_empty r ≡ false
    → 1 ≤ most → 1 < least → less ≡ least - 1 → EndsTimes r less (most - 1) s u → Later 1 u v → Ends r v w
    → EndsTimes r least most s w
ends_later r s u v w least less most ordered some ends low e rest following first =
    let more : suc (most - 1) ≡ most = omega arith in
    let P : ℕ → Type 0 = λ most. EndsTimes r least most s w in
    subst P more (λ bound p says.
    let tail = implied (kernel.times (written.kernel One r) (least - 1) (most - 1)) p in
    says_same bound (implied (written.kernel One r) (next tail))
    (implied (kernel.times (written.kernel One r) least (suc (most - 1))) p) w
    (same-swap (implied (kernel.times (written.kernel One r) least (suc (most - 1))) p)
    (implied (written.kernel One r) (next tail))
    (implied-times-later (written.kernel One r) least (most - 1) p (never_empty r ordered some) (omega (arith, low))))
    (first bound (next tail)
    (following bound tail
    (subst (λ k. Says bound (implied (kernel.times (written.kernel One r) k (most - 1)) p) u) e (rest bound p says)))))

pub ends_more : (r s u v x w : Written Condition) (least less most : ℕ) → IsOrdered r → admits_empty r ≡ false
    → 1 ≤ most → least ≤ 1 → less ≡ least - 1 → EndsTimes r less (most - 1) s u → Later 1 u v → Both s v x
    → Ends r x w → EndsTimes r least most s w
ends_more r s u v x w least less most ordered some ends low e rest following joined first =
    let more : suc (most - 1) ≡ most = omega arith in
    let P : ℕ → Type 0 = λ most. EndsTimes r least most s w in
    subst P more (λ bound p says.
    let tail = implied (kernel.times (written.kernel One r) (least - 1) (most - 1)) p in
    says_same bound (implied (written.kernel One r) (both p (next tail)))
    (implied (kernel.times (written.kernel One r) least (suc (most - 1))) p) w
    (same-swap (implied (kernel.times (written.kernel One r) least (suc (most - 1))) p)
    (implied (written.kernel One r) (both p (next tail)))
    (implied-times-more (written.kernel One r) least (most - 1) p (never_empty r ordered some) low))
    (first bound (both p (next tail))
    (joined bound p (next tail) says
    (following bound tail
    (subst (λ k. Says bound (implied (kernel.times (written.kernel One r) k (most - 1)) p) u) e (rest bound p says))))))

pub says_ends : (a s u : Written Condition) → IsConsequent s → Ends a s u → SaysAfterEachEnd a s u
says_ends a s u fit ends =
    let itself : (bound : ℕ) → Says bound (sequence (written.kernel One s)) s =
    λ bound. record { fit = fit; same = same-refl bound (sequence (written.kernel One s)) } in
    record {
      fit = (ends 0 (sequence (written.kernel One s)) (itself 0)).fit;
      same = λ leaves n o c. (ends n (sequence (written.kernel One s)) (itself n)).same leaves n o c (omega arith);
    }
