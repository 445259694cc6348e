-- What is trimmed has no more of anything.
use Rattle.std.proofs.Common.{◌≡◌, ◌⊎◌, inl, inr, ℕ, zero, suc, ◌+◌, ◌*◌, ◌≤◌, ◌<◌, Bool, true, false, ◌&&◌, ◌||◌}
use Rattle.std.proofs.Common.{List, [], ◌∷◌, ◌++◌, length, refl, sym, ap, ◌∙◌, subst, arith}
use Rattle.std.specs.Prelude.{nat_le, sum_by}
use Rattle.std.specs.List.{AllByRecursion, flat_map}
use Rattle.std.proofs.lemmas.Grind.{flat_map-append}
use Rattle.std.proofs.lemmas.List.{length-append}
use Rattle.std.proofs.lemmas.List.Sums.{sum_by-append}
use Rattle.std.proofs.Math.Nat.{mul-le-mul_left, le-mul_of_pos_right}
use Rattle.assertions.specs.declared.sequence.Boolean.{Boolean}
use Rattle.assertions.specs.declared.sequence.Boolean.TheVariants.{One}
use Rattle.assertions.specs.Written.{Written, boolean, delay, lead, repeat, or, and, intersect, throughout, weight}
use Rattle.assertions.specs.Written.{IsOrdered}
use Rattle.assertions.specs.Emptiness.{admits_empty}
use Rattle.types.specs.Trimmed.{weightless_form, IsReplaced, IsTrimmed}
use Rattle.types.specs.Leaves.{leaves, place_listed, sequence_places}
use Rattle.positions.specs.Laws.{IsPlain, booleans}

zero_factor : (a b : ℕ) → a * b ≡ 0 → (a ≡ 0) ⊎ (b ≡ 0)
zero_factor zero b h = inl refl
zero_factor (suc a) zero h = inr refl
zero_factor (suc a) (suc b) h =
    absurd (omega (arith, h, le-mul_of_pos_right (suc a) (let k : zero < suc b = omega arith in k)))

or_true : (a : Bool) → a || true ≡ true
or_true true = refl
or_true false = refl

or_false_left : (a b : Bool) → a || b ≡ false → a ≡ false
or_false_left true b h = h
or_false_left false b h = refl

or_false_right : (a b : Bool) → a || b ≡ false → b ≡ false
or_false_right true b h = absurd cc
or_false_right false b h = h

lead_false : (least : ℕ) (b : Bool) → least ≡ 0 → nat_le least 0 && b ≡ false → b ≡ false
lead_false least b is h = sym (ap (λ (k : ℕ). nat_le k 0 && b) is) ∙ h

none_below : (least : ℕ) → least ≡ 0 → nat_le least 0 ≡ true
none_below least is = ap (λ (k : ℕ). nat_le k 0) is

-- What is plain and weighs nothing matches the empty segment.
weightless_admits : (w : Written Boolean) → IsOrdered w → IsPlain w → weight w ≡ 0 → admits_empty w ≡ true
weightless_admits (boolean b) o p z = absurd (omega (arith, z))
weightless_admits (delay r least most s) o p z = absurd (omega (arith, o.0, p.0, z))
weightless_admits (lead least most s) o p z =
    rw (none_below least (omega (arith, o.0, z)), weightless_admits s o.1 p (omega (arith, z))) refl
weightless_admits (repeat r least most) o p z =
    elim (zero_factor most (weight r) z) [
      | inl none ↦ rw (none_below least (omega (arith, o.0, none))) refl
      | inr none ↦ rw (weightless_admits r o.1 p none) (or_true (nat_le least 0))
    ]
weightless_admits (or r s) o p z = rw (weightless_admits r o.0 p.0 (omega (arith, z))) refl
weightless_admits (and r s) o p z = elim p [ ]
weightless_admits (intersect r s) o p z = elim p [ ]
weightless_admits (throughout b r) o p z = weightless_admits r o p z

replaced_plain : (w u : Written Boolean) → IsReplaced One w u → IsOrdered w → IsPlain w → IsPlain u
replaced_plain w u h o p =
    subst IsPlain (sym (h.is ∙ ap (weightless_form One) (weightless_admits w o p h.weightless))) tt

pub plain_kept : (w u : Written Boolean) → IsTrimmed One w u → IsOrdered w → IsPlain w → IsPlain u
plain_kept (boolean b) u h o p = subst IsPlain (sym h) tt
plain_kept (delay r least most s) u (inl h) o p = replaced_plain (delay r least most s) u h o p
plain_kept (delay r least most s) u (inr h) o p =
    subst IsPlain (sym h.4) (p.0, plain_kept r h.0 h.2 o.1 p.1, plain_kept s h.1 h.3 o.2 p.2)
plain_kept (lead least most s) u (inl h) o p = replaced_plain (lead least most s) u h o p
plain_kept (lead least most s) u (inr h) o p = subst IsPlain (sym h.2) (plain_kept s h.0 h.1 o.1 p)
plain_kept (repeat r least most) u (inl h) o p = replaced_plain (repeat r least most) u h o p
plain_kept (repeat r least most) u (inr h) o p = subst IsPlain (sym h.2) (plain_kept r h.0 h.1 o.1 p)
plain_kept (or r s) u (inl h) o p = replaced_plain (or r s) u h o p
plain_kept (or r s) u (inr h) o p =
    subst IsPlain (sym h.4) (plain_kept r h.0 h.2 o.0 p.0, plain_kept s h.1 h.3 o.1 p.1)
plain_kept (and r s) u h o p = elim p [ ]
plain_kept (intersect r s) u h o p = elim p [ ]
plain_kept (throughout b r) u (inl h) o p = replaced_plain (throughout b r) u h o p
plain_kept (throughout b r) u (inr h) o p = subst IsPlain (sym h.2) (plain_kept r h.0 h.1 o p)

-- the weight, of what is plain
nothing_weighs : (b : Bool) → weight (weightless_form One b) ≡ 0
nothing_weighs true = refl
nothing_weighs false = refl

replaced_light : (w u : Written Boolean) → IsReplaced One w u → weight u ≤ weight w
replaced_light w u h = omega (arith, ap weight h.is ∙ nothing_weighs (admits_empty w))

pub light_kept : (w u : Written Boolean) → IsTrimmed One w u → IsPlain w → weight u ≤ weight w
light_kept (boolean b) u h p = omega (arith, ap weight h)
light_kept (delay r least most s) u (inl h) p = replaced_light (delay r least most s) u h
light_kept (delay r least most s) u (inr h) p =
    omega (arith, ap weight h.4, light_kept r h.0 h.2 p.1, light_kept s h.1 h.3 p.2)
light_kept (lead least most s) u (inl h) p = replaced_light (lead least most s) u h
light_kept (lead least most s) u (inr h) p = omega (arith, ap weight h.2, light_kept s h.0 h.1 p)
light_kept (repeat r least most) u (inl h) p = replaced_light (repeat r least most) u h
light_kept (repeat r least most) u (inr h) p =
    subst (λ (x : Written Boolean). weight x ≤ most * weight r) (sym h.2)
    (mul-le-mul_left most (light_kept r h.0 h.1 p))
light_kept (or r s) u (inl h) p = replaced_light (or r s) u h
light_kept (or r s) u (inr h) p =
    omega (arith, ap weight h.4, light_kept r h.0 h.2 p.0, light_kept s h.1 h.3 p.1)
light_kept (and r s) u h p = elim p [ ]
light_kept (intersect r s) u h p = elim p [ ]
light_kept (throughout b r) u (inl h) p = replaced_light (throughout b r) u h
light_kept (throughout b r) u (inr h) p = omega (arith, ap weight h.2, light_kept r h.0 h.1 p)

-- the number of booleans
some_boolean : (w : Written Boolean) → 1 ≤ booleans w
some_boolean (boolean b) = omega arith
some_boolean (delay r least most s) = omega (arith, some_boolean r)
some_boolean (lead least most s) = some_boolean s
some_boolean (repeat r least most) = some_boolean r
some_boolean (or r s) = omega (arith, some_boolean r)
some_boolean (and r s) = omega (arith, some_boolean r)
some_boolean (intersect r s) = omega (arith, some_boolean r)
some_boolean (throughout b r) = omega arith

-- There are two where it matches nothing.
two_booleans : (w : Written Boolean) → IsOrdered w → weight w ≡ 0 → admits_empty w ≡ false → 2 ≤ booleans w
two_booleans (boolean b) o z e = absurd (omega (arith, z))
two_booleans (delay r least most s) o z e = omega (arith, some_boolean r, some_boolean s)
two_booleans (lead least most s) o z e =
    two_booleans s o.1 (omega (arith, z)) (lead_false least (admits_empty s) (omega (arith, o.0, z)) e)
two_booleans (repeat r least most) o z e =
    elim (zero_factor most (weight r) z) [
      | inl none ↦
          let zeroth : least ≡ 0 = omega (arith, o.0, none) in
          let no : false ≡ true =
          sym (or_false_left (nat_le least 0) (admits_empty r) e) ∙ none_below least zeroth in
          absurd cc
      | inr none ↦ two_booleans r o.1 none (or_false_right (nat_le least 0) (admits_empty r) e)
    ]
two_booleans (or r s) o z e = omega (arith, some_boolean r, some_boolean s)
two_booleans (and r s) o z e = omega (arith, some_boolean r, some_boolean s)
two_booleans (intersect r s) o z e = omega (arith, some_boolean r, some_boolean s)
two_booleans (throughout b r) o z e = omega (arith, some_boolean r)

replaced_by : (w : Written Boolean) → IsOrdered w → weight w ≡ 0 → (b : Bool) → admits_empty w ≡ b →
    booleans (weightless_form One b) ≤ booleans w
replaced_by w o z true e = some_boolean w
replaced_by w o z false e = two_booleans w o z e

replaced_few : (w u : Written Boolean) → IsReplaced One w u → IsOrdered w → booleans u ≤ booleans w
replaced_few w u h o =
    subst (λ (x : Written Boolean). booleans x ≤ booleans w) (sym h.is)
    (replaced_by w o h.weightless (admits_empty w) refl)

pub few_kept : (w u : Written Boolean) → IsTrimmed One w u → IsOrdered w → booleans u ≤ booleans w
few_kept (boolean b) u h o = omega (arith, ap booleans h)
few_kept (delay r least most s) u (inl h) o = replaced_few (delay r least most s) u h o
few_kept (delay r least most s) u (inr h) o =
    omega (arith, ap booleans h.4, few_kept r h.0 h.2 o.1, few_kept s h.1 h.3 o.2)
few_kept (lead least most s) u (inl h) o = replaced_few (lead least most s) u h o
few_kept (lead least most s) u (inr h) o = omega (arith, ap booleans h.2, few_kept s h.0 h.1 o.1)
few_kept (repeat r least most) u (inl h) o = replaced_few (repeat r least most) u h o
few_kept (repeat r least most) u (inr h) o = omega (arith, ap booleans h.2, few_kept r h.0 h.1 o.1)
few_kept (or r s) u (inl h) o = replaced_few (or r s) u h o
few_kept (or r s) u (inr h) o =
    omega (arith, ap booleans h.4, few_kept r h.0 h.2 o.0, few_kept s h.1 h.3 o.1)
few_kept (and r s) u (inl h) o = replaced_few (and r s) u h o
few_kept (and r s) u (inr h) o =
    omega (arith, ap booleans h.4, few_kept r h.0 h.2 o.0, few_kept s h.1 h.3 o.1)
few_kept (intersect r s) u (inl h) o = replaced_few (intersect r s) u h o
few_kept (intersect r s) u (inr h) o =
    omega (arith, ap booleans h.4, few_kept r h.0 h.2 o.0, few_kept s h.1 h.3 o.1)
few_kept (throughout b r) u (inl h) o = replaced_few (throughout b r) u h o
few_kept (throughout b r) u (inr h) o = omega (arith, ap booleans h.2, few_kept r h.0 h.1 o)

-- The first list has no more than the second, in number and in sum, and what holds of each of the
-- second holds of each of the first.
pub record Fewer (g : ℕ → ℕ) (P : ℕ → Type 0) (xs ys : List ℕ) : Type 0 where
  pub few : length xs ≤ length ys
  pub short : sum_by g xs ≤ sum_by g ys
  pub all : AllByRecursion P ys → AllByRecursion P xs

module _ (g : ℕ → ℕ) (P : ℕ → Type 0) where
  pub fewer_same : (xs : List ℕ) → Fewer g P xs xs
  fewer_same xs = record { few = omega arith; short = omega arith; all = λ h. h }

  fewer_none : (ys : List ℕ) → Fewer g P [] ys
  fewer_none ys = record { few = omega arith; short = omega arith; all = λ h. tt }

  all_first : (xs ys : List ℕ) → AllByRecursion P (xs ++ ys) → AllByRecursion P xs
  all_first [] ys h = tt
  all_first (x ∷ xs) ys h = (h.0, all_first xs ys h.1)

  all_second : (xs ys : List ℕ) → AllByRecursion P (xs ++ ys) → AllByRecursion P ys
  all_second [] ys h = h
  all_second (x ∷ xs) ys h = all_second xs ys h.1

  all_two : (xs ys : List ℕ) → AllByRecursion P xs → AllByRecursion P ys → AllByRecursion P (xs ++ ys)
  all_two [] ys h k = k
  all_two (x ∷ xs) ys h k = (h.0, all_two xs ys h.1 k)

  pub fewer_two : (xs ys us vs : List ℕ) → Fewer g P xs us → Fewer g P ys vs → Fewer g P (xs ++ ys) (us ++ vs)
  fewer_two xs ys us vs h k =
      record {
        few = omega (arith, length-append xs ys, length-append us vs, h.few, k.few);
        short = omega (arith, sum_by-append g xs ys, sum_by-append g us vs, h.short, k.short);
        all = λ a. all_two xs ys (h.all (all_first us vs a)) (k.all (all_second us vs a));
      }

  places_two : (xs ys us vs : List Boolean) → Fewer g P (flat_map place_listed xs) (flat_map place_listed us) →
      Fewer g P (flat_map place_listed ys) (flat_map place_listed vs) →
      Fewer g P (flat_map place_listed (xs ++ ys)) (flat_map place_listed (us ++ vs))
  places_two xs ys us vs h k =
      subst (λ (ps : List ℕ). Fewer g P ps (flat_map place_listed (us ++ vs)))
      (sym (flat_map-append place_listed xs ys))
      (subst (λ (ps : List ℕ). Fewer g P (flat_map place_listed xs ++ flat_map place_listed ys) ps)
      (sym (flat_map-append place_listed us vs))
      (fewer_two (flat_map place_listed xs) (flat_map place_listed ys) (flat_map place_listed us)
      (flat_map place_listed vs) h k))

  nothing_placed : (b : Bool) → sequence_places (weightless_form One b) ≡ []
  nothing_placed true = refl
  nothing_placed false = refl

  replaced_fewer : (w u : Written Boolean) → IsReplaced One w u → Fewer g P (sequence_places u) (sequence_places w)
  replaced_fewer w u h =
      subst (λ (ps : List ℕ). Fewer g P ps (sequence_places w))
      (sym (ap sequence_places h.is ∙ nothing_placed (admits_empty w))) (fewer_none (sequence_places w))

  on_two : (u a : Written Boolean) (ys : List ℕ) → u ≡ a → Fewer g P (sequence_places a) ys
      → Fewer g P (sequence_places u) ys
  on_two u a ys is h = subst (λ (x : Written Boolean). Fewer g P (sequence_places x) ys) (sym is) h

  pub places_kept : (w u : Written Boolean) → IsTrimmed One w u → Fewer g P (sequence_places u) (sequence_places w)
  places_kept (boolean b) u h = on_two u (boolean b) _ h (fewer_same (sequence_places (boolean b)))
  places_kept (delay r least most s) u (inl h) = replaced_fewer (delay r least most s) u h
  places_kept (delay r least most s) u (inr h) =
      on_two u (delay h.0 least most h.1) _ h.4
      (places_two (leaves h.0) (leaves h.1) (leaves r) (leaves s) (places_kept r h.0 h.2) (places_kept s h.1 h.3))
  places_kept (lead least most s) u (inl h) = replaced_fewer (lead least most s) u h
  places_kept (lead least most s) u (inr h) = on_two u (lead least most h.0) _ h.2 (places_kept s h.0 h.1)
  places_kept (repeat r least most) u (inl h) = replaced_fewer (repeat r least most) u h
  places_kept (repeat r least most) u (inr h) = on_two u (repeat h.0 least most) _ h.2 (places_kept r h.0 h.1)
  places_kept (or r s) u (inl h) = replaced_fewer (or r s) u h
  places_kept (or r s) u (inr h) =
      on_two u (or h.0 h.1) _ h.4
      (places_two (leaves h.0) (leaves h.1) (leaves r) (leaves s) (places_kept r h.0 h.2) (places_kept s h.1 h.3))
  places_kept (and r s) u (inl h) = replaced_fewer (and r s) u h
  places_kept (and r s) u (inr h) =
      on_two u (and h.0 h.1) _ h.4
      (places_two (leaves h.0) (leaves h.1) (leaves r) (leaves s) (places_kept r h.0 h.2) (places_kept s h.1 h.3))
  places_kept (intersect r s) u (inl h) = replaced_fewer (intersect r s) u h
  places_kept (intersect r s) u (inr h) =
      on_two u (intersect h.0 h.1) _ h.4
      (places_two (leaves h.0) (leaves h.1) (leaves r) (leaves s) (places_kept r h.0 h.2) (places_kept s h.1 h.3))
  places_kept (throughout b r) u (inl h) = replaced_fewer (throughout b r) u h
  places_kept (throughout b r) u (inr h) =
      on_two u (throughout b h.0) _ h.2
      (places_two (b ∷ []) (leaves h.0) (b ∷ []) (leaves r) (fewer_same (sequence_places (boolean b)))
      (places_kept r h.0 h.1))
