-- Two properties that are asked at the same ticks.
use Rattle.std.proofs.Common.{inl, inr, ℕ, zero, suc, ◌+◌}
use Rattle.assertions.specs.Segments.{Seq}
use Rattle.import_properties.specs.declared.condition.Condition.{Condition}
use Rattle.import_properties.specs.Properties.{Form, both, implied, later, each_later}
use Rattle.import_properties.specs.Outcomes.{ComesToSame, failed, good}

pub implied-both : (r : Seq Condition) (p q : Form Condition)
    → ComesToSame (implied r (both p q)) (both (implied r p) (implied r q))
implied-both r p q leaves n failed c = (
  λ x. elim x.3 [ inl a ↦ inl (x.0, x.1, x.2, a) | inr a ↦ inr (x.0, x.1, x.2, a) ],
  λ x. elim x [ inl a ↦ (a.0, a.1, a.2, inl a.3) | inr a ↦ (a.0, a.1, a.2, inr a.3) ],
)
implied-both r p q leaves n good c = (
  λ x. (λ e from match. (x e from match).0, λ e from match. (x e from match).1),
  λ x e from match. (x.0 e from match, x.1 e from match),
)

pub later-both : (k : ℕ) (p q : Form Condition) → ComesToSame (later k (both p q)) (both (later k p) (later k q))
later-both zero p q leaves n o c = (λ h. h, λ h. h)
later-both (suc k) p q leaves n failed c = later-both k p q leaves n failed (c + 1)
later-both (suc k) p q leaves n good c = later-both k p q leaves n good (c + 1)

pub each_later-both : (first more : ℕ) (p q : Form Condition)
    → ComesToSame (each_later first more (both p q)) (both (each_later first more p) (each_later first more q))
each_later-both first zero p q leaves n o c = later-both first p q leaves n o c
each_later-both first (suc more) p q leaves n failed c =
    let here = later-both first p q leaves n failed c in
    let rest = each_later-both (first + 1) more p q leaves n failed c in (
      λ x. elim x [
        | inl a ↦ elim (here.0 a) [ inl b ↦ inl (inl b) | inr b ↦ inr (inl b) ]
        | inr a ↦ elim (rest.0 a) [ inl b ↦ inl (inr b) | inr b ↦ inr (inr b) ]
      ],
      λ x. elim x [
        | inl a ↦ elim a [ inl b ↦ inl (here.1 (inl b)) | inr b ↦ inr (rest.1 (inl b)) ]
        | inr a ↦ elim a [ inl b ↦ inl (here.1 (inr b)) | inr b ↦ inr (rest.1 (inr b)) ]
      ],
    )
each_later-both first (suc more) p q leaves n good c =
    let here = later-both first p q leaves n good c in
    let rest = each_later-both (first + 1) more p q leaves n good c in (
      λ x. (((here.0 x.0).0, (rest.0 x.1).0), ((here.0 x.0).1, (rest.0 x.1).1)),
      λ x. (here.1 (x.0.0, x.1.0), rest.1 (x.0.1, x.1.1)),
    )
