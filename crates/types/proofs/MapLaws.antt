-- Other booleans in the same places change neither names, nor weights, nor what forms tell.
use Rattle.std.proofs.Common.{◌≡◌, ℕ, zero, suc, ◌+◌, List, map, max, Option, Some, None, slice_get, refl, sym, ap, ◌∙◌}
use Rattle.std.proofs.Common.{subst, arith}
use Rattle.std.specs.Prelude.{option_map, option_and_then}
use Rattle.std.proofs.lemmas.Option.{slice_get-map}
use Rattle.assertions.specs.Written as written
use Rattle.assertions.specs.Written.{Written, kernel, weight, IsOrdered}
use Rattle.assertions.specs.Emptiness.{admits_empty, bare, lasts, takes_ticks}
use Rattle.assertions.specs.Quantifiers.{some_in}
use Rattle.assertions.specs.Segments.{always, is_match}
use Rattle.types.specs.Drafts.{Draft, boolean, name, delay, lead, repeat, or, and, intersect, throughout}
use Rattle.types.specs.Drafts.{IsNumberIn}
use Rattle.types.specs.Drafts.{uses, uses_of, uses_at, both_there, spelling_of, named_within, IsWrittenOut}
use Rattle.types.specs.Drafts.{reaches_by}
use Rattle.types.specs.Drafts.{IsCyclic}
use Rattle.types.specs.Outlines.{map_draft, map_written}
use Rattle.types.proofs.SpellLaws.{spelled_deeper}

module _ {B C : Type 0} (f : B → C) where
  pub uses_map : (d : Draft B) → uses (map_draft f d) ≡ uses d
  uses_map (boolean b) = refl
  uses_map (name p) = refl
  uses_map (delay r least extra s) = rw (uses_map r, uses_map s) refl
  uses_map (lead least extra s) = uses_map s
  uses_map (repeat r least extra) = uses_map r
  uses_map (or r s) = rw (uses_map r, uses_map s) refl
  uses_map (and r s) = rw (uses_map r, uses_map s) refl
  uses_map (intersect r s) = rw (uses_map r, uses_map s) refl
  uses_map (throughout b r) = uses_map r

  uses_of_map : (o : Option (Draft B)) → uses_of (option_map (map_draft f) o) ≡ uses_of o
  uses_of_map None = refl
  uses_of_map (Some d) = uses_map d

  pub uses_at_map : (bodies : List (Draft B)) (p : ℕ) → uses_at (map (map_draft f) bodies) p ≡ uses_at bodies p
  uses_at_map bodies p = ap uses_of (slice_get-map (map_draft f) bodies p) ∙ uses_of_map (slice_get bodies p)

  pub reaches_map : (bodies : List (Draft B)) (more p q : ℕ) → reaches_by bodies more p q
      → reaches_by (map (map_draft f) bodies) more p q
  reaches_map bodies zero p q r = subst (λ (us : List ℕ). IsNumberIn q us) (sym (uses_at_map bodies p)) r
  reaches_map bodies (suc more) p q r = (
    r.0,
    subst (λ (us : List ℕ). IsNumberIn r.0 us)
        (sym (uses_at_map bodies p)) r.1,
    reaches_map bodies more r.0 q r.2,
  )

  pub map_reaches : (bodies : List (Draft B)) (more p q : ℕ) → reaches_by (map (map_draft f) bodies) more p q
      → reaches_by bodies more p q
  map_reaches bodies zero p q r = subst (λ (us : List ℕ). IsNumberIn q us) (uses_at_map bodies p) r
  map_reaches bodies (suc more) p q r =
      (r.0, subst (λ (us : List ℕ). IsNumberIn r.0 us) (uses_at_map bodies p) r.1, map_reaches bodies more r.0 q r.2)

  pub cyclic_map : (bodies : List (Draft B)) (p : ℕ) → IsCyclic bodies p → IsCyclic (map (map_draft f) bodies) p
  cyclic_map bodies p c = (c.0, reaches_map bodies c.0 p p c.1)

  pub map_cyclic : (bodies : List (Draft B)) (p : ℕ) → IsCyclic (map (map_draft f) bodies) p → IsCyclic bodies p
  map_cyclic bodies p c = (c.0, map_reaches bodies c.0 p p c.1)

  pub weight_map : (w : Written B) → weight (map_written f w) ≡ weight w
  weight_map (written.boolean b) = refl
  weight_map (written.delay r least most s) = rw (weight_map r, weight_map s) refl
  weight_map (written.lead least most s) = rw (weight_map s) refl
  weight_map (written.repeat r least most) = rw (weight_map r) refl
  weight_map (written.or r s) = rw (weight_map r, weight_map s) refl
  weight_map (written.and r s) = rw (weight_map r, weight_map s) refl
  weight_map (written.intersect r s) = rw (weight_map r, weight_map s) refl
  weight_map (written.throughout b r) = weight_map r

  pub empty_map : (w : Written B) → admits_empty (map_written f w) ≡ admits_empty w
  empty_map (written.boolean b) = refl
  empty_map (written.delay r least most s) = rw (empty_map r, empty_map s) refl
  empty_map (written.lead least most s) = rw (empty_map s) refl
  empty_map (written.repeat r least most) = rw (empty_map r) refl
  empty_map (written.or r s) = rw (empty_map r, empty_map s) refl
  empty_map (written.and r s) = rw (empty_map r, empty_map s) refl
  empty_map (written.intersect r s) = rw (empty_map r, empty_map s) refl
  empty_map (written.throughout b r) = empty_map r

  bare_map : (w : Written B) → bare (map_written f w) ≡ bare w
  bare_map (written.boolean b) = refl
  bare_map (written.delay r least most s) = rw (bare_map r, bare_map s) refl
  bare_map (written.lead least most s) = rw (bare_map s) refl
  bare_map (written.repeat r least most) = rw (bare_map r) refl
  bare_map (written.or r s) = rw (bare_map r, bare_map s) refl
  bare_map (written.and r s) = rw (bare_map r, bare_map s) refl
  bare_map (written.intersect r s) = rw (bare_map r, bare_map s) refl
  bare_map (written.throughout b r) = rw (bare_map r) refl

  pub ticks_map : (w : Written B) → takes_ticks (map_written f w) ≡ takes_ticks w
  unfolding takes_ticks lasts
  ticks_map w =
      ap (λ n. some_in 1 (n + 1) (λ k. is_match always (kernel tt (bare (map_written f w))) 0 k)) (weight_map w)
      ∙ ap (λ v. some_in 1 (weight w + 1) (λ k. is_match always (kernel tt v) 0 k)) (bare_map w)

  pub ordered_map : (w : Written B) → IsOrdered w → IsOrdered (map_written f w)
  ordered_map (written.boolean b) o = o
  ordered_map (written.delay r least most s) o = (o.0, ordered_map r o.1, ordered_map s o.2)
  ordered_map (written.lead least most s) o = (o.0, ordered_map s o.1)
  ordered_map (written.repeat r least most) o = (o.0, ordered_map r o.1)
  ordered_map (written.or r s) o = (ordered_map r o.0, ordered_map s o.1)
  ordered_map (written.and r s) o = (ordered_map r o.0, ordered_map s o.1)
  ordered_map (written.intersect r s) o = (ordered_map r o.0, ordered_map s o.1)
  ordered_map (written.throughout b r) o = ordered_map r o

  both_map : (g : Written B → Written B → Written B) (h : Written C → Written C → Written C)
      → ((v w : Written B) → map_written f (g v w) ≡ h (map_written f v) (map_written f w)) →
      (a b : Option (Written B)) → option_map (map_written f) (both_there g a b)
      ≡ both_there h (option_map (map_written f) a) (option_map (map_written f) b)
  both_map g h same None b = refl
  both_map g h same (Some v) None = refl
  both_map g h same (Some v) (Some w) = ap Some (same v w)

  one_map : (g : Written B → Written B) (h : Written C → Written C)
      → ((v : Written B) → map_written f (g v) ≡ h (map_written f v)) →
      (a : Option (Written B)) → option_map (map_written f) (option_map g a)
      ≡ option_map h (option_map (map_written f) a)
  one_map g h same None = refl
  one_map g h same (Some v) = ap Some (same v)

  pub spelled_map : (m : ℕ → Option (Written B)) (n : ℕ → Option (Written C))
      → ((p : ℕ) → n p ≡ option_map (map_written f) (m p)) →
      (d : Draft B) → spelling_of n (map_draft f d) ≡ option_map (map_written f) (spelling_of m d)
  spelled_map m n same (boolean b) = refl
  spelled_map m n same (name p) = same p
  spelled_map m n same (delay r least extra s) =
      rw (spelled_map m n same r, spelled_map m n same s)
      (sym (both_map (λ v w. written.delay v least (least + extra) w)
      (λ v w. written.delay v least (least + extra) w) (λ v w. refl) (spelling_of m r) (spelling_of m s)))
  spelled_map m n same (lead least extra s) =
      rw (spelled_map m n same s)
      (sym (one_map (written.lead least (least + extra)) (written.lead least (least + extra)) (λ v. refl)
      (spelling_of m s)))
  spelled_map m n same (repeat r least extra) =
      rw (spelled_map m n same r)
      (sym (one_map (λ v. written.repeat v least (least + extra)) (λ v. written.repeat v least (least + extra))
      (λ v. refl) (spelling_of m r)))
  spelled_map m n same (or r s) =
      rw (spelled_map m n same r, spelled_map m n same s)
      (sym (both_map written.or written.or (λ v w. refl) (spelling_of m r) (spelling_of m s)))
  spelled_map m n same (and r s) =
      rw (spelled_map m n same r, spelled_map m n same s)
      (sym (both_map written.and written.and (λ v w. refl) (spelling_of m r) (spelling_of m s)))
  spelled_map m n same (intersect r s) =
      rw (spelled_map m n same r, spelled_map m n same s)
      (sym (both_map written.intersect written.intersect (λ v w. refl) (spelling_of m r) (spelling_of m s)))
  spelled_map m n same (throughout b r) =
      rw (spelled_map m n same r)
      (sym (one_map (written.throughout b) (written.throughout (f b)) (λ v. refl) (spelling_of m r)))

  bind_map : (m : ℕ → Option (Written B)) (n : ℕ → Option (Written C))
      → ((p : ℕ) → n p ≡ option_map (map_written f) (m p)) → (o : Option (Draft B)) →
      option_and_then (spelling_of n) (option_map (map_draft f) o)
      ≡ option_map (map_written f) (option_and_then (spelling_of m) o)
  bind_map m n same None = refl
  bind_map m n same (Some d) = spelled_map m n same d

  pub named_map : (bodies : List (Draft B)) (depth p : ℕ) → named_within (map (map_draft f) bodies) depth p
      ≡ option_map (map_written f) (named_within bodies depth p)
  named_map bodies zero p = refl
  named_map bodies (suc depth) p =
      ap (option_and_then (spelling_of (named_within (map (map_draft f) bodies) depth)))
      (slice_get-map (map_draft f) bodies p)
      ∙ bind_map (named_within bodies depth) (named_within (map (map_draft f) bodies) depth) (named_map bodies depth)
      (slice_get bodies p)

  pub spells_map : (bodies : List (Draft B)) (d : Draft B) (w : Written B) → IsWrittenOut bodies d w
      → IsWrittenOut (map (map_draft f) bodies) (map_draft f d) (map_written f w)
  spells_map bodies d w s = (
    s.0,
    spelled_map (named_within bodies s.0) (named_within (map (map_draft f) bodies) s.0) (named_map bodies
        s.0) d ∙ ap (option_map (map_written f)) s.1,
  )

some_same : {A : Type 0} (a b : A) (o : Option A) → o ≡ Some a → o ≡ Some b → a ≡ b
some_same a b o x y = let e : Some a ≡ Some b = sym x ∙ y in cc

-- A sequence spells one thing.
pub spells_one : {B : Type 0} (bodies : List (Draft B)) (d : Draft B) (v w : Written B) → IsWrittenOut bodies d v
    → IsWrittenOut bodies d w → v ≡ w
spells_one bodies d v w a b =
    some_same v w (spelling_of (named_within bodies (max a.0 b.0)) d)
    (spelled_deeper bodies d v a.0 (max a.0 b.0) (omega arith) a.1)
    (spelled_deeper bodies d w b.0 (max a.0 b.0) (omega arith) b.1)
