-- What the edges of a sequence's positions want are the sequence's booleans.
use Rattle.std.proofs.Common.{◌≡◌, inl, inr, ℕ, zero, suc, ◌+◌, ◌-◌, ◌*◌, ◌/◌, ◌%◌, Bool, true, false, ◌&&◌, List, []}
use Rattle.std.proofs.Common.{◌∷◌}
use Rattle.std.proofs.Common.{◌++◌, refl}
use Rattle.std.specs.Prelude.{map, nat_lt, if◌then◌else◌}
use Rattle.std.specs.List.{flat_map}
use Rattle.assertions.specs.Written.{Written, boolean, delay, lead, repeat, or, and, intersect, throughout}
use Rattle.assertions.specs.Emptiness.{admits_empty}
use Rattle.positions.specs.Plans.{Plan, tick, skip, any, all, pair, under, loop, link, moving, apart, weighs}
use Rattle.positions.specs.Plans.{plan}
use Rattle.positions.specs.Tables.{Edge, Table, EachOf, shift, shifted_edge, picked_if, numbers_from}
use Rattle.positions.specs.Tables.{tick_table}
use Rattle.positions.specs.Tables.{skip_table}
use Rattle.positions.specs.Tables.{any_table, wanting, under_table, onward, leading, joined_edges, fusing}
use Rattle.positions.specs.Tables.{crossing}
use Rattle.positions.specs.Tables.{link_table, copies, looping, loop_table, paired_edges, all_table, coupled}
use Rattle.positions.specs.Tables.{pair_table}
use Rattle.positions.specs.Tables.{plan_table}
use Rattle.positions.specs.Living.{is_position_kept, place, sifted_edge, sifted}
use Rattle.positions.specs.Laws.{Occurs}

module _ (B : Type 0) (Q : B → Type 0) where
  -- what an edge wants, and what the edges of rows do
  abbrev Wants : Edge B → Type 0
  Wants e = EachOf Q e.wanted

  abbrev Row : List (Edge B) → Type 0
  Row es = EachOf Wants es

  abbrev pub Rows : Table B → Type 0
  Rows t = (p : ℕ) → Row (t.row p)

  either-way : (c : Bool) (xs ys : List (Edge B)) → Row xs → Row ys → Row (if c then xs else ys)
  either-way true xs ys g h = g
  either-way false xs ys g h = h

  each-append : {A : Type 0} (P : A → Type 0) (xs ys : List A) → EachOf P xs → EachOf P ys → EachOf P (xs ++ ys)
  each-append P [] ys g h = h
  each-append P (x ∷ xs) ys g h = (g.0, each-append P xs ys g.1 h)

  each-map : (f : Edge B → Edge B) → ((e : Edge B) → Wants e → Wants (f e)) → (es : List (Edge B)) → Row es
      → Row (map f es)
  each-map f keeps [] h = tt
  each-map f keeps (e ∷ es) h = (keeps e h.0, each-map f keeps es h.1)

  each-flat : (f : Edge B → List (Edge B)) → ((e : Edge B) → Wants e → Row (f e)) → (es : List (Edge B)) → Row es
      → Row (flat_map f es)
  each-flat f keeps [] h = tt
  each-flat f keeps (e ∷ es) h = each-append Wants (f e) (flat_map f es) (keeps e h.0) (each-flat f keeps es h.1)

  each-place : (f : ℕ → List (Edge B)) → ((q : ℕ) → Row (f q)) → (qs : List ℕ) → Row (flat_map f qs)
  each-place f keeps [] = tt
  each-place f keeps (q ∷ qs) = each-append Wants (f q) (flat_map f qs) (keeps q) (each-place f keeps qs)

  each-picked : (b : Bool) (es : List (Edge B)) → Row es → Row (picked_if b es)
  each-picked true es h = h
  each-picked false es h = tt

  shifted-wants : (n : ℕ) (es : List (Edge B)) → Row es → Row (map (shifted_edge n) es)
  shifted-wants n es h = each-map (shifted_edge n) (λ e k. k) es h

  any-wants : (t u : Table B) → Rows t → Rows u → Rows (any_table t u)
  any-wants t u g h p =
      either-way (nat_lt p t.size) (t.row p) (map (shifted_edge t.size) (u.row (p - t.size))) (g p)
      (shifted-wants t.size (u.row (p - t.size)) (h (p - t.size)))

  under-wants : (b : B) (t : Table B) → Q b → Rows t → Rows (under_table b t)
  under-wants b t q g p = each-map (wanting b) (λ e k. (q, k)) (t.row p) (g p)

  joined-wants : (n : ℕ) (e : Edge B) → Wants e → (es : List (Edge B)) → Row es → Row (map (joined_edges n e) es)
  joined-wants n e w es h = each-map (joined_edges n e) (λ f k. each-append Q e.wanted f.wanted w k) es h

  link-wants : (fuses follows : Bool) (t g u : Table B) → Rows t → Rows g → Rows u
      → Rows (link_table fuses follows t g u)
  link-wants fuses follows t g u ht hg hu p =
      either-way (nat_lt p t.size)
      (flat_map (λ e. leading follows t g u e ∷ fusing fuses t g u e) (t.row p))
      (if nat_lt p (t.size + g.size) then map (crossing t g u) (g.row (p - t.size)) else map
      (shifted_edge (t.size + g.size))
      (u.row (p - (t.size + g.size))))
      (each-flat (λ e. leading follows t g u e ∷ fusing fuses t g u e)
      (λ e w. (
        w,
        each-picked (e.accepts && fuses) (map (joined_edges (t.size + g.size) e) (flat_map u.row u.starts))
            (joined-wants (t.size + g.size) e w (flat_map u.row u.starts) (each-place u.row hu u.starts)),
      ))
      (t.row p) (ht p))
      (either-way (nat_lt p (t.size + g.size)) (map (crossing t g u) (g.row (p - t.size)))
      (map (shifted_edge (t.size + g.size)) (u.row (p - (t.size + g.size))))
      (each-map (crossing t g u) (λ e k. k) (g.row (p - t.size)) (hg (p - t.size)))
      (shifted-wants (t.size + g.size) (u.row (p - (t.size + g.size))) (hu (p - (t.size + g.size)))))

  loop-wants : (t : Table B) (least most : ℕ) → Rows t → Rows (loop_table t least most)
  loop-wants t least most g p =
      each-map (looping t least most (p / t.size)) (λ e k. k) (t.row (p % t.size)) (g (p % t.size))

  all-wants : (t u : Table B) → Rows t → Rows u → Rows (all_table t u)
  all-wants t u g h p =
      either-way (nat_lt p (t.size * u.size))
      (flat_map (λ e. map (paired_edges t u e) (u.row (p % u.size))) (t.row (p / u.size)))
      (if nat_lt p (t.size * u.size + t.size) then map (shifted_edge (t.size * u.size))
      (t.row (p - t.size * u.size)) else
      map (shifted_edge (t.size * u.size + t.size)) (u.row (p - (t.size * u.size + t.size))))
      (each-flat (λ e. map (paired_edges t u e) (u.row (p % u.size)))
      (λ e w. each-map (paired_edges t u e) (λ f k. each-append Q e.wanted f.wanted w k) (u.row (p % u.size))
      (h (p % u.size)))
      (t.row (p / u.size)) (g (p / u.size)))
      (either-way (nat_lt p (t.size * u.size + t.size))
      (map (shifted_edge (t.size * u.size)) (t.row (p - t.size * u.size)))
      (map (shifted_edge (t.size * u.size + t.size)) (u.row (p - (t.size * u.size + t.size))))
      (shifted-wants (t.size * u.size) (t.row (p - t.size * u.size)) (g (p - t.size * u.size)))
      (shifted-wants (t.size * u.size + t.size) (u.row (p - (t.size * u.size + t.size)))
      (h (p - (t.size * u.size + t.size)))))

  pair-wants : (t u : Table B) → Rows t → Rows u → Rows (pair_table t u)
  pair-wants t u g h p =
      each-flat (λ e. map (coupled u.size e) (u.row (p % u.size)))
      (λ e w. each-map (coupled u.size e) (λ f k. each-append Q e.wanted f.wanted w k) (u.row (p % u.size))
      (h (p % u.size)))
      (t.row (p / u.size)) (g (p / u.size))

  pub sifted-wants : (t : Table B) → Rows t → Rows (sifted t)
  sifted-wants t g q =
      each-map (sifted_edge (is_position_kept t)) (λ e k. k) (t.row (place (is_position_kept t) t.size q))
      (g (place (is_position_kept t) t.size q))

  -- each boolean of a plan
  abbrev Of : Plan B → Type 0
  Of (tick b) = Q b
  Of skip = Unit {0}
  Of (any r s) = Of r × Of s
  Of (all r s) = Of r × Of s
  Of (pair r s) = Of r × Of s
  Of (under b r) = Q b × Of r
  Of (loop r least most) = Of r
  Of (link fuses follows r g s) = Of r × Of g × Of s

  pub plan-wants : (r : Plan B) → Of r → Rows (plan_table r)
  plan-wants (tick b) h = λ p. ((h, tt), tt)
  plan-wants skip h = λ p. tt
  plan-wants (any r s) h = any-wants (plan_table r) (plan_table s) (plan-wants r h.0) (plan-wants s h.1)
  plan-wants (all r s) h = all-wants (plan_table r) (plan_table s) (plan-wants r h.0) (plan-wants s h.1)
  plan-wants (pair r s) h = pair-wants (plan_table r) (plan_table s) (plan-wants r h.0) (plan-wants s h.1)
  plan-wants (under b r) h = under-wants b (plan_table r) h.0 (plan-wants r h.1)
  plan-wants (loop r least most) h = loop-wants (plan_table r) least most (plan-wants r h)
  plan-wants (link fuses follows r g s) h =
      link-wants fuses follows (plan_table r) (plan_table g) (plan_table s) (plan-wants r h.0) (plan-wants g h.1)
      (plan-wants s h.2)

  moving-of : (moves empty : Bool) (r : Plan B) → Of r → Of (moving moves empty r)
  moving-of true empty r h = h
  moving-of false true r h = tt
  moving-of false false r h = (tt, tt, tt)

  apart-of : (true_one : B) (r s : Plan B) (least most : ℕ) → Q true_one → Of r → Of s
      → Of (apart true_one r s least most)
  apart-of true_one r s zero zero q g h = (g, tt, h)
  apart-of true_one r s zero (suc most) q g h = (g, q, h)
  apart-of true_one r s (suc least) most q g h = (g, q, h)

  -- A boolean that a delay needs may not occur: then nothing is made from the delay.
  pub sequence-of : (true_one : B) (w : Written B) → ((b : B) → Occurs true_one b w → Q b) → Of (plan true_one w)
  sequence-of true_one (boolean b) h = h b refl
  sequence-of true_one (delay r least most s) h =
      moving-of (weighs (delay r least most s)) (admits_empty (delay r least most s))
      (apart true_one (plan true_one r) (plan true_one s) least most)
      (apart-of true_one (plan true_one r) (plan true_one s) least most
      (h true_one (inl refl))
      (sequence-of true_one r (λ b o. h b (inr (inl o)))) (sequence-of true_one s (λ b o. h b (inr (inr o)))))
  sequence-of true_one (lead least most s) h =
      moving-of (weighs (lead least most s)) (admits_empty (lead least most s))
      (link false true (loop (tick true_one) least most) skip (plan true_one s))
      (h true_one (inl refl), tt, sequence-of true_one s (λ b o. h b (inr o)))
  sequence-of true_one (repeat r least most) h =
      moving-of (weighs (repeat r least most)) (admits_empty (repeat r least most))
      (loop (plan true_one r) least most)
      (sequence-of true_one r h)
  sequence-of true_one (or r s) h =
      moving-of (weighs (or r s)) (admits_empty (or r s)) (any (plan true_one r) (plan true_one s))
      (sequence-of true_one r (λ b o. h b (inl o)), sequence-of true_one s (λ b o. h b (inr o)))
  sequence-of true_one (and r s) h =
      moving-of (weighs (and r s)) (admits_empty (and r s)) (all (plan true_one r) (plan true_one s))
      (sequence-of true_one r (λ b o. h b (inl o)), sequence-of true_one s (λ b o. h b (inr o)))
  sequence-of true_one (intersect r s) h =
      moving-of (weighs (intersect r s)) (admits_empty (intersect r s)) (pair (plan true_one r) (plan true_one s))
      (sequence-of true_one r (λ b o. h b (inl o)), sequence-of true_one s (λ b o. h b (inr o)))
  sequence-of true_one (throughout b r) h =
      moving-of (weighs (throughout b r)) (admits_empty (throughout b r)) (under b (plan true_one r))
      (h b (inl refl), sequence-of true_one r (λ c o. h c (inr o)))
