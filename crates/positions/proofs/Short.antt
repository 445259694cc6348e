-- The section of a plain sequence is short.
use Rattle.std.proofs.Common.{◌≡◌, ◌∙◌, inl, inr, ℕ, zero, suc, ◌+◌, ◌-◌, ◌*◌, ◌/◌, ◌%◌, ◌<◌, ◌≤◌, min, max, Bool, true}
use Rattle.std.proofs.Common.{false, ◌&&◌, if◌then◌else◌, List, [], ◌∷◌, ◌++◌, length, Option, Some, None, refl, sym}
use Rattle.std.proofs.Common.{ap}
use Rattle.std.proofs.Common.{subst, arith, length-append}
use Rattle.std.specs.Prelude.{map, IsTrue}
use Rattle.std.proofs.Math.Nat.{mul-le-mul_right, mul-le-mul_left}
use Rattle.std.proofs.lemmas.Nat.{div-add-mod'}
use Rattle.std.proofs.lemmas.Bool.{lt-ltb, le-ltb, ltb-true, cases_lt, cases_eq, cases_Bool}
use Rattle.verifier.specs.Sections.{instructions_in}
use Rattle.assertions.specs.declared.sequence.Boolean.{Boolean}
use Rattle.assertions.specs.Written.{Written, boolean, delay, lead, repeat, or, and, intersect, throughout}
use Rattle.assertions.specs.Written.{weight, IsOrdered}
use Rattle.positions.specs.Plans.{Plan, tick, skip, any, under, loop, link, moving, weighs, plan}
use Rattle.assertions.specs.Emptiness.{admits_empty}
use Rattle.std.specs.List.{flat_map}
use Rattle.positions.specs.Tables.{Edge, Table, shift, shifted_edge, picked_if, numbers_from, tick_table}
use Rattle.positions.specs.Tables.{skip_table}
use Rattle.positions.specs.Tables.{any_table}
use Rattle.positions.specs.Tables.{wanting, under_table, onward, leading, joined_edges, fusing, crossing}
use Rattle.positions.specs.Tables.{link_table}
use Rattle.positions.specs.Tables.{copies}
use Rattle.positions.specs.Tables.{looping, loop_table, plan_table, IsRising}
use Rattle.positions.specs.Sections.{edge_size, position_block, edge_code, position_blocks, rows_from}
use Rattle.positions.specs.Sections.{with_atom, atoms_of}
use Rattle.positions.specs.Sections.{numbered_edge}
use Rattle.positions.specs.Sections.{coded}
use Rattle.positions.specs.Laws.{IsPlain, booleans, section_for, SectionIsShort}
use Rattle.positions.proofs.Shapes.{edge-length}
use Rattle.positions.proofs.Theorem.{size-weight}
use Rattle.positions.specs.Living.{is_position_kept, kept_below, sift, sifted_edge, sifted}
use Rattle.positions.proofs.Rising.{rising}
use Rattle.positions.proofs.Spelling.{spelling}
use Rattle.positions.proofs.Sifting.{if-true, if-false, rank-up, rank-next, rank-few, from, from-kept}
use Rattle.assertions.specs.declared.sequence.Boolean.TheVariants.{One}
use Rattle.positions.specs.Rows.{rows_size}
use Rattle.positions.specs.Sequences.{atom_of, listed_for, at_least_own, largest_place}
use Rattle.positions.proofs.BlockLaws as blocks

-- In rising order from low on, all below high.
abbrev pub Climbs : ℕ → ℕ → List ℕ → Type 0
Climbs low high [] = low ≤ high
Climbs low high (q ∷ qs) = (low ≤ q) × Climbs (q + 1) high qs

Climbs-within : (low high : ℕ) (qs : List ℕ) → Climbs low high qs → low + length qs ≤ high
Climbs-within low high [] h = omega arith
Climbs-within low high (q ∷ qs) h = omega (arith, h.0, Climbs-within (q + 1) high qs h.1)

Climbs-low : (lower low high : ℕ) (qs : List ℕ) → lower ≤ low → Climbs low high qs → Climbs lower high qs
Climbs-low lower low high [] le h = omega arith
Climbs-low lower low high (q ∷ qs) le h = (omega (arith, h.0), h.1)

Climbs-high : (low high higher : ℕ) (qs : List ℕ) → high ≤ higher → Climbs low high qs → Climbs low higher qs
Climbs-high low high higher [] le h = omega arith
Climbs-high low high higher (q ∷ qs) le h = (h.0, Climbs-high (q + 1) high higher qs le h.1)

Climbs-append : (low mid high : ℕ) (xs ys : List ℕ) → Climbs low mid xs → Climbs mid high ys
    → Climbs low high (xs ++ ys)
Climbs-append low mid high [] ys a b = Climbs-low low mid high ys a b
Climbs-append low mid high (x ∷ xs) ys a b = (a.0, Climbs-append (x + 1) mid high xs ys a.1 b)

Climbs-shift : (n low high : ℕ) (qs : List ℕ) → Climbs low high qs → Climbs (n + low) (n + high) (shift n qs)
Climbs-shift n low high [] h = omega arith
Climbs-shift n low high (q ∷ qs) h =
    let e : n + (q + 1) ≡ n + q + 1 = omega arith in
    (omega (arith, h.0), subst (λ k. Climbs k (n + high) (shift n qs)) e (Climbs-shift n (q + 1) high qs h.1))

Climbs-picked : (low high : ℕ) (b : Bool) (qs : List ℕ) → low ≤ high → Climbs low high qs
    → Climbs low high (picked_if b qs)
Climbs-picked low high true qs le h = h
Climbs-picked low high false qs le h = le

-- One edge at each position, which wants at most so many booleans and enters each later position at most once.
pub record IsSingle {B : Type 0} (most low high : ℕ) (es : List (Edge B)) : Type 0 where
  pub edge : Edge B
  pub alone : es ≡ edge ∷ []
  pub wanted : length edge.wanted ≤ most
  pub enters : Climbs low high edge.enters

pub record AreSingle {B : Type 0} (most : ℕ) (t : Table B) : Type 0 where
  pub starts : Climbs 0 t.size t.starts
  pub row : (p : ℕ) → p < t.size → IsSingle most (p + 1) t.size (t.row p)

module _ (B : Type 0) where
  tick-single : (b : B) (most : ℕ) → 1 ≤ most → AreSingle most (tick_table b)
  tick-single b most le = record {
    starts = (omega arith, omega arith);
    row = λ p below. record {
      edge = record { wanted = b ∷ []; enters = []; accepts = true };
      alone = refl;
      wanted = omega arith;
      enters = omega arith;
    };
  }

  skip-single : (most : ℕ) → AreSingle {B = B} most skip_table
  skip-single most = record { starts = omega arith; row = λ p below. absurd (omega arith) }

  more-single : (most more : ℕ) (t : Table B) → most ≤ more → AreSingle most t → AreSingle more t
  more-single most more t le h = record {
    starts = h.starts;
    row = λ p below.
        (let s = h.row p below in
        record { edge = s.edge; alone = s.alone; wanted = omega (arith, s.wanted); enters = s.enters });
  }

  shifted-single : (most n low high : ℕ) (es : List (Edge B)) → IsSingle most low high es
      → IsSingle most (n + low) (n + high) (map (shifted_edge n) es)
  shifted-single most n low high es s = record {
    edge = shifted_edge n s.edge;
    alone = ap (map (shifted_edge n)) s.alone;
    wanted = s.wanted;
    enters = Climbs-shift n low high s.edge.enters s.enters;
  }

  any-single : (most : ℕ) (t u : Table B) → AreSingle most t → AreSingle most u → AreSingle most (any_table t u)
  any-single most t u a b = record {
    starts =
        let e : t.size + 0 ≡ t.size = omega arith in
        Climbs-append 0 t.size (t.size + u.size) t.starts (shift t.size u.starts) a.starts
        (subst (λ k. Climbs k (t.size + u.size) (shift t.size u.starts)) e
        (Climbs-shift t.size 0 u.size u.starts b.starts));
    row = λ p below. (elim (cases_lt p t.size) [
      | inl low ↦
          let s = a.row p low in
          let here : (any_table t u).row p ≡ t.row p = rw (lt-ltb p t.size low) refl in
          record {
            edge = s.edge;
            alone = here ∙ s.alone;
            wanted = s.wanted;
            enters = Climbs-high (p + 1) t.size (t.size + u.size) s.edge.enters (omega arith) s.enters;
          }
      | inr high ↦
          let s =
          shifted-single most t.size (p - t.size + 1) u.size (u.row (p - t.size))
          (b.row (p - t.size) (omega arith)) in
          let here : (any_table t u).row p ≡ map (shifted_edge t.size) (u.row (p - t.size)) =
          rw (le-ltb p t.size high) refl in
          let e : t.size + (p - t.size + 1) ≡ p + 1 = omega arith in
          record {
            edge = s.edge;
            alone = here ∙ s.alone;
            wanted = s.wanted;
            enters = subst (λ k. Climbs k (t.size + u.size) s.edge.enters) e s.enters;
          }
    ]);
  }

  under-single : (most : ℕ) (b : B) (t : Table B) → AreSingle most t → AreSingle (most + 1) (under_table b t)
  under-single most b t a = record {
    starts = a.starts;
    row = λ p below.
        (let s = a.row p below in
        record {
          edge = wanting b s.edge;
          alone = ap (map (wanting b)) s.alone;
          wanted = omega (arith, s.wanted);
          enters = s.enters;
        });
  }

  module _ (most : ℕ) (t g u : Table B) (a : AreSingle most t) (c : AreSingle most g) (b : AreSingle most u) where
    abbrev whole : Table B
    whole = link_table false true t g u

    last-climbs : Climbs (t.size + g.size) (t.size + g.size + u.size) (shift (t.size + g.size) u.starts)
    last-climbs =
        let e : t.size + g.size + 0 ≡ t.size + g.size = omega arith in
        subst (λ k. Climbs k (t.size + g.size + u.size) (shift (t.size + g.size) u.starts)) e
        (Climbs-shift (t.size + g.size) 0 u.size u.starts b.starts)

    onward-climbs : Climbs t.size (t.size + g.size + u.size) (onward t g u)
    onward-climbs =
        let e : t.size + 0 ≡ t.size = omega arith in
        Climbs-append t.size (t.size + g.size) (t.size + g.size + u.size) (shift t.size g.starts)
        (picked_if g.empty (shift (t.size + g.size) u.starts))
        (subst (λ k. Climbs k (t.size + g.size) (shift t.size g.starts)) e
        (Climbs-shift t.size 0 g.size g.starts c.starts))
        (Climbs-picked (t.size + g.size) (t.size + g.size + u.size) g.empty (shift (t.size + g.size) u.starts)
        (omega arith) last-climbs)

    lead-alone : (e : Edge B) → flat_map (λ e. leading true t g u e ∷ fusing false t g u e) (e ∷ [])
        ≡ leading true t g u e ∷ []
    lead-alone e = ap (λ x. leading true t g u e ∷ x) (none e.accepts)
      where
        none : (x : Bool) → picked_if (x && false) (map (joined_edges (t.size + g.size) e) (flat_map u.row u.starts))
            ++ [] ≡ []
        none true = refl
        none false = refl

    link-single : AreSingle most whole
    link-single = record {
      starts =
          Climbs-append 0 t.size (t.size + g.size + u.size) t.starts (picked_if (true && t.empty) (onward t g u))
          a.starts (Climbs-picked t.size (t.size + g.size + u.size) (true && t.empty) (onward t g u) (omega arith)
          onward-climbs);
      row = λ p below. (elim (cases_lt p t.size) [
        | inl low ↦
            let s = a.row p low in
            let here : whole.row p ≡ flat_map (λ e. leading true t g u e ∷ fusing false t g u e) (t.row p) =
            rw (lt-ltb p t.size low) refl in
            record {
              edge = leading true t g u s.edge;
              alone =
                  here ∙ ap (flat_map (λ e. leading true t g u e ∷ fusing false t g u e)) s.alone ∙ lead-alone s.edge;
              wanted = s.wanted;
              enters =
                  Climbs-append (p + 1) t.size (t.size + g.size + u.size) s.edge.enters
                  (picked_if (s.edge.accepts && true) (onward t g u)) s.enters
                  (Climbs-picked t.size (t.size + g.size + u.size) (s.edge.accepts && true) (onward t g u)
                  (omega arith) onward-climbs);
            }
        | inr high ↦ elim (cases_lt p (t.size + g.size)) [
          | inl low ↦
              let s = c.row (p - t.size) (omega arith) in
              let here : whole.row p ≡ map (crossing t g u) (g.row (p - t.size)) =
              rw (le-ltb p t.size high, lt-ltb p (t.size + g.size) low) refl in
              let e : t.size + (p - t.size + 1) ≡ p + 1 = omega arith in
              record {
                edge = crossing t g u s.edge;
                alone = here ∙ ap (map (crossing t g u)) s.alone;
                wanted = s.wanted;
                enters =
                    Climbs-append (p + 1) (t.size + g.size) (t.size + g.size + u.size) (shift t.size s.edge.enters)
                    (picked_if s.edge.accepts (shift (t.size + g.size) u.starts))
                    (subst (λ k. Climbs k (t.size + g.size) (shift t.size s.edge.enters)) e
                    (Climbs-shift t.size (p - t.size + 1) g.size s.edge.enters s.enters))
                    (Climbs-picked (t.size + g.size) (t.size + g.size + u.size) s.edge.accepts
                    (shift (t.size + g.size) u.starts) (omega arith) last-climbs);
              }
          | inr higher ↦
              let s =
              shifted-single most (t.size + g.size) (p - (t.size + g.size) + 1) u.size
              (u.row (p - (t.size + g.size))) (b.row (p - (t.size + g.size)) (omega arith)) in
              let here : whole.row p ≡ map (shifted_edge (t.size + g.size)) (u.row (p - (t.size + g.size))) =
              rw (le-ltb p t.size high, le-ltb p (t.size + g.size) higher) refl in
              let e : t.size + g.size + (p - (t.size + g.size) + 1) ≡ p + 1 = omega arith in
              record {
                edge = s.edge;
                alone = here ∙ s.alone;
                wanted = s.wanted;
                enters = subst (λ k. Climbs k (t.size + g.size + u.size) s.edge.enters) e s.enters;
              }
        ]
      ]);
    }

  module _ (most : ℕ) (t : Table B) (a : AreSingle most t) (least turns : ℕ) where
    flat-climbs : (first count : ℕ)
        → Climbs (first * t.size) ((first + count) * t.size)
        (flat_map (λ c. shift (c * t.size) t.starts) (numbers_from first count))
    flat-climbs first zero = let e : first + 0 ≡ first = omega arith in mul-le-mul_right t.size (omega arith)
    flat-climbs first (suc count) =
        let e : first + 1 + count ≡ first + suc count = omega arith in
        let z : first * t.size + 0 ≡ first * t.size = omega arith in
        let next : first * t.size + t.size ≡ (first + 1) * t.size = omega arith in
        Climbs-append (first * t.size) ((first + 1) * t.size) ((first + suc count) * t.size)
        (shift (first * t.size) t.starts)
        (flat_map (λ c. shift (c * t.size) t.starts) (numbers_from (first + 1) count))
        (subst (λ k. Climbs (first * t.size) k (shift (first * t.size) t.starts)) next
        (subst (λ k. Climbs k (first * t.size + t.size) (shift (first * t.size) t.starts)) z
        (Climbs-shift (first * t.size) 0 t.size t.starts a.starts)))
        (subst
        (λ k. Climbs ((first + 1) * t.size) (k * t.size)
        (flat_map (λ c. shift (c * t.size) t.starts) (numbers_from (first + 1) count))) e
        (flat-climbs (first + 1) count))

    copies-climbs : (first : ℕ) → first ≤ turns → Climbs (first * t.size) (turns * t.size) (copies t first turns)
    copies-climbs first le =
        Climbs-high (first * t.size) ((first + (if t.empty then turns - first else min 1 (turns - first))) * t.size)
        (turns * t.size) (copies t first turns)
        (mul-le-mul_right t.size (few t.empty))
        (flat-climbs first (if t.empty then turns - first else min 1 (turns - first)))
      where
        few : (b : Bool) → first + (if b then turns - first else min 1 (turns - first)) ≤ turns
        few true = omega arith
        few false = omega arith

    loop-single : AreSingle most (loop_table t least turns)
    loop-single = record {
      starts =
          (let z : 0 * t.size ≡ 0 = omega arith in subst (λ k. Climbs k (turns * t.size) (copies t 0 turns)) z
          (copies-climbs 0 (omega arith)));
      row = λ p below.
          (let some : 0 < t.size = (elim (cases_eq t.size 0) [
            | inl none ↦ (let zeros : turns * t.size ≡ turns * 0 = ap (λ n. turns * n) none in
                absurd (omega (arith, zeros)))
            | inr other ↦ omega arith
          ]) in
          let c : ℕ = p / t.size in
          let k : ℕ = p % t.size in
          let split : p / t.size * t.size + p % t.size ≡ p = div-add-mod' p t.size in
          let high : p / t.size < turns = (elim (cases_lt (p / t.size) turns) [
            | inl is ↦ is
            | inr over ↦ (let more : turns * t.size ≤ p / t.size * t.size = mul-le-mul_right t.size over in
                absurd (omega (arith, more, split)))
          ]) in
          let low : p % t.size < t.size = omega arith in
          let s = a.row (p % t.size) low in
          let begin : c * t.size + (k + 1) ≡ p + 1 = omega (arith, split) in
          let next : c * t.size + t.size ≡ (c + 1) * t.size = omega arith in
          let up : (c + 1) * t.size ≤ turns * t.size = mul-le-mul_right t.size (omega (arith, high)) in
          record {
            edge = looping t least turns c s.edge;
            alone = ap (map (looping t least turns c)) s.alone;
            wanted = s.wanted;
            enters =
                Climbs-append (p + 1) ((c + 1) * t.size) (turns * t.size) (shift (c * t.size) s.edge.enters)
                (picked_if s.edge.accepts (copies t (c + 1) turns))
                (subst (λ n. Climbs (p + 1) n (shift (c * t.size) s.edge.enters)) next
                (subst (λ n. Climbs n (c * t.size + t.size) (shift (c * t.size) s.edge.enters)) begin
                (Climbs-shift (c * t.size) (k + 1) t.size s.edge.enters s.enters)))
                (Climbs-picked ((c + 1) * t.size) (turns * t.size) s.edge.accepts (copies t (c + 1) turns) up
                (copies-climbs (c + 1) (omega (arith, high))));
          });
    }

  -- what is kept of it
  module _ (most : ℕ) (t : Table B) (a : AreSingle most t) (up : IsRising t) where
    Climbs-sift : (low high : ℕ) (qs : List ℕ) → Climbs low high qs
        → Climbs (kept_below (is_position_kept t) low) (kept_below (is_position_kept t) high)
        (sift (is_position_kept t) qs)
    Climbs-sift low high [] h = rank-up (is_position_kept t) low high h
    Climbs-sift low high (q ∷ qs) h = elim (cases_Bool (is_position_kept t q)) [
      | inl on ↦
          let next : kept_below (is_position_kept t) (q + 1)
          ≡ kept_below (is_position_kept t) q + 1 = rank-next (is_position_kept t) q on in
          subst (λ b. Climbs (kept_below (is_position_kept t) low) (kept_below (is_position_kept t) high)
          (picked_if b (kept_below (is_position_kept t) q ∷ []) ++ sift (is_position_kept t) qs)) (sym on) (
            rank-up (is_position_kept t) low q h.0,
            subst (λ k. Climbs k (kept_below (is_position_kept t) high) (sift (is_position_kept t) qs)) next
                (Climbs-sift (q + 1) high qs h.1),
          )
      | inr off ↦
          subst (λ b. Climbs (kept_below (is_position_kept t) low) (kept_below (is_position_kept t) high)
          (picked_if b (kept_below (is_position_kept t) q ∷ []) ++ sift (is_position_kept t) qs)) (sym off)
          (Climbs-low (kept_below (is_position_kept t) low) (kept_below (is_position_kept t) (q + 1))
          (kept_below (is_position_kept t) high) (sift (is_position_kept t) qs)
          (rank-up (is_position_kept t) low (q + 1) (omega (arith, h.0))) (Climbs-sift (q + 1) high qs h.1))
    ]

    sifted-single : AreSingle most (sifted t)
    sifted-single = record {
      starts = Climbs-sift 0 t.size t.starts a.starts;
      row = λ q below.
          let f = from-kept B t up q below in
          let p : ℕ = from B t up q in
          let s = a.row p f.0 in
          let next : kept_below (is_position_kept t) (p + 1)
          ≡ q + 1 = omega (arith, rank-next (is_position_kept t) p f.1, f.2) in
          record {
            edge = sifted_edge (is_position_kept t) s.edge;
            alone = ap (map (sifted_edge (is_position_kept t))) s.alone;
            wanted = s.wanted;
            enters =
                subst (λ k. Climbs k (kept_below (is_position_kept t) t.size)
                (sift (is_position_kept t) s.edge.enters)) next
                (Climbs-sift (p + 1) t.size s.edge.enters s.enters);
          };
    }

booleans-positive : (w : Written Boolean) → 1 ≤ booleans w
booleans-positive (boolean b) = omega arith
booleans-positive (delay r least most s) = omega (arith, booleans-positive r)
booleans-positive (lead least most s) = booleans-positive s
booleans-positive (repeat r least most) = booleans-positive r
booleans-positive (or r s) = omega (arith, booleans-positive r)
booleans-positive (and r s) = omega (arith, booleans-positive r)
booleans-positive (intersect r s) = omega (arith, booleans-positive r)
booleans-positive (throughout b r) = omega arith

ticks-single : (true_one : Boolean) (most least turns : ℕ) → 1 ≤ most
    → AreSingle most (plan_table (loop (tick true_one) least turns))
ticks-single true_one most least turns le =
    loop-single Boolean most (tick_table true_one) (tick-single Boolean true_one most le) least turns

moving-single : (most : ℕ) (t e : Bool) (p : Plan Boolean) → AreSingle most (plan_table p)
    → AreSingle most (plan_table (moving t e p))
moving-single most true e p single = single
moving-single most false true p single = skip-single Boolean most
moving-single most false false p single =
    record { starts = omega arith; row = λ q below. absurd (omega (arith, below)) }

plain-single : (true_one : Boolean) (w : Written Boolean) → IsPlain w
    → AreSingle (booleans w) (plan_table (plan true_one w))
plain-single true_one (boolean b) plain = tick-single Boolean b 1 (omega arith)
plain-single true_one (delay r zero most s) plain = absurd (omega (arith, plain.0))
plain-single true_one (delay r (suc least) most s) plain =
    let m : ℕ = booleans r + booleans s in
    moving-single m (weighs (delay r (suc least) most s)) (admits_empty (delay r (suc least) most s))
    (link false true (plan true_one r) (loop (tick true_one) least (most - 1)) (plan true_one s))
    (link-single Boolean m (plan_table (plan true_one r)) (plan_table (loop (tick true_one) least (most - 1)))
    (plan_table (plan true_one s))
    (more-single Boolean (booleans r) m (plan_table (plan true_one r)) (omega arith) (plain-single true_one r plain.1))
    (ticks-single true_one m least (most - 1) (omega (arith, booleans-positive r)))
    (more-single Boolean (booleans s) m (plan_table (plan true_one s)) (omega arith) (plain-single true_one s plain.2)))
plain-single true_one (lead least most s) plain =
    moving-single (booleans s) (weighs (lead least most s)) (admits_empty (lead least most s))
    (link false true (loop (tick true_one) least most) skip (plan true_one s))
    (link-single Boolean (booleans s) (plan_table (loop (tick true_one) least most)) skip_table
    (plan_table (plan true_one s))
    (ticks-single true_one (booleans s) least most (booleans-positive s)) (skip-single Boolean (booleans s))
    (plain-single true_one s plain))
plain-single true_one (repeat r least most) plain =
    moving-single (booleans r) (weighs (repeat r least most)) (admits_empty (repeat r least most))
    (loop (plan true_one r) least most)
    (loop-single Boolean (booleans r) (plan_table (plan true_one r)) (plain-single true_one r plain) least most)
plain-single true_one (or r s) plain =
    let m : ℕ = booleans r + booleans s in
    moving-single m (weighs (or r s)) (admits_empty (or r s)) (any (plan true_one r) (plan true_one s))
    (any-single Boolean m (plan_table (plan true_one r)) (plan_table (plan true_one s))
    (more-single Boolean (booleans r) m (plan_table (plan true_one r)) (omega arith) (plain-single true_one r plain.0))
    (more-single Boolean (booleans s) m (plan_table (plan true_one s)) (omega arith) (plain-single true_one s plain.1)))
plain-single true_one (and r s) plain = absurd plain
plain-single true_one (intersect r s) plain = absurd plain
plain-single true_one (throughout b r) plain =
    moving-single (booleans r + 1) (weighs (throughout b r)) (admits_empty (throughout b r))
    (under b (plan true_one r))
    (under-single Boolean (booleans r) b (plan_table (plan true_one r)) (plain-single true_one r plain))

with_atom-length : (o : Option ℕ) (ns : List ℕ) → length (with_atom o ns) ≤ length ns + 1
with_atom-length None ns = omega arith
with_atom-length (Some n) ns = omega arith

atoms_of-length : (atom : Boolean → Option ℕ) (bs : List Boolean) → length (atoms_of atom bs) ≤ length bs
atoms_of-length atom [] = omega arith
atoms_of-length atom (b ∷ bs) = omega (arith, with_atom-length (atom b) (atoms_of atom bs), atoms_of-length atom bs)

accept-most : (b : Bool) → (if b then 1 else 0) ≤ 1
accept-most true = omega arith
accept-most false = omega arith

module _ (atom : Boolean → Option ℕ) (most : ℕ) (t : Table Boolean) (single : AreSingle most t) where
  block-length : (base p : ℕ) → (below : p < t.size)
      → length (position_block base (coded atom t p)) + p ≤ most + t.size + 1
  block-length base p below =
      let s = single.row p below in
      let e : Edge ℕ = numbered_edge atom s.edge in
      let alone : coded atom t p ≡ e ∷ [] = ap (map (numbered_edge atom)) s.alone in
      let same : length (position_block base (coded atom t p)) ≡ length (position_block base (e ∷ [])) =
      ap (λ es. length (position_block base es)) alone in
      let whole : length (position_block base (e ∷ [])) ≡ length (edge_code base e)
      + length (position_block (base + edge_size e) []) = length-append (edge_code base e)
      (position_block (base + edge_size e) []) in
      let size : length (edge_code base e) ≡ edge_size e = edge-length base e in
      let w = atoms_of-length atom s.edge.wanted in
      let k = Climbs-within (p + 1) t.size s.edge.enters s.enters in
      let a = accept-most s.edge.accepts in
      omega (arith, same, whole, size, w, k, a, s.wanted)

  blocks-size : (base p count : ℕ) → p + count ≡ t.size
      → 2 * instructions_in (position_blocks base (rows_from (coded atom t) p count))
      + count ≤ count * count + 2 * (count * (most + 2))
  blocks-size base p zero e = omega arith
  blocks-size base p (suc count) e =
      let rest = blocks-size (base + length (position_block base (coded atom t p))) (p + 1) count (omega (arith, e)) in
      let here = block-length base p (omega (arith, e)) in
      let square : suc count * suc count ≡ count * count + 2 * count + 1 = omega arith in
      let product : suc count * (most + 2) ≡ count * (most + 2) + most + 2 = omega arith in
      omega (arith, rest, here, square, product, e)

heavier : (n d m s : ℕ) → 2 * s + n ≤ n * n + 2 * (n * (m + 2))
    → 2 * s + (n + d) ≤ (n + d) * (n + d) + 2 * ((n + d) * (m + 2))
heavier n d m s h =
    let square : (n + d) * (n + d) ≡ n * n + 2 * (n * d) + d * d = omega arith in
    let product : (n + d) * (m + 2) ≡ n * (m + 2) + d * m + 2 * d = omega arith in
    omega (arith, h, square, product)

pub law-section_is_short : SectionIsShort
law-section_is_short atom true_one w ordered plain =
    let whole : Table Boolean = plan_table (plan true_one w) in
    let up = rising Boolean (plan true_one w) whole (spelling Boolean (plan true_one w)) in
    let t : Table Boolean = sifted whole in
    let small : t.size ≤ weight w = omega
    (arith, rank-few (is_position_kept whole) whole.size, size-weight true_one w ordered) in
    let same : t.size + (weight w - t.size) ≡ weight w = omega (arith, small) in
    let s : ℕ = instructions_in (section_for atom true_one w).blocks in
    let zero_plus : 0 + t.size ≡ t.size = omega arith in
    subst (λ n. 2 * s + n ≤ n * n + 2 * (n * (booleans w + 2))) same
    (heavier t.size (weight w - t.size) (booleans w) s
    (blocks-size atom (booleans w) t
    (sifted-single Boolean (booleans w) whole (plain-single true_one w plain) up) 0 0 t.size zero_plus))

-- the tables on the way are short, too

repeat-some : (r : Written Boolean) (least most : ℕ) → IsTrue (weighs (repeat r least most)) → 1 ≤ most
repeat-some r least zero on =
    let none : 0 * weight r ≡ 0 = omega arith in absurd (omega (arith, none, ltb-true 0 (0 * weight r) on))
repeat-some r least (suc most) on = omega arith

more-booleans : (n m k s : ℕ) → m ≤ k → 2 * s + n ≤ n * n + 2 * (n * (m + 2)) → 2 * s + n ≤ n * n + 2 * (n * (k + 2))
more-booleans n m k s le h =
    let more : n * (m + 2) ≤ n * (k + 2) = mul-le-mul_left n (omega (arith, le)) in omega (arith, h, more)

-- few enough for a sequence that weighs n and has m booleans
abbrev IsFew : ℕ → ℕ → ℕ → Type 0
IsFew n m s = 2 * s + n ≤ n * n + 2 * (n * (m + 2))

few-more : (n m k l s : ℕ) → n ≤ k → m ≤ l → IsFew n m s → IsFew k l s
few-more n m k l s le more h =
    let same : n + (k - n) ≡ k = omega (arith, le) in
    subst (λ j. IsFew j l s) same (heavier n (k - n) l s (more-booleans n m l s more h))

few-max : (n m a b : ℕ) → IsFew n m a → IsFew n m b → IsFew n m (max a b)
few-max n m a b p q = elim (cases_lt a b) [
  | inl lt ↦ let e : max a b ≡ b = omega arith in subst (IsFew n m) (sym e) q
  | inr ge ↦ let e : max a b ≡ a = omega arith in subst (IsFew n m) (sym e) p
]

few-none : (n m : ℕ) → IsFew n m 0
few-none n m = elim (cases_eq n 0) [
  | inl e ↦ omega (arith, e)
  | inr ne ↦ (let one : n * 1 ≤ n * n = mul-le-mul_left n (omega arith) in omega (arith, one))
]

own-few : (w : Written Boolean) → IsOrdered w → IsPlain w
    → IsFew (weight w) (booleans w) (rows_size (listed_for w).rows)
own-few w ordered plain =
    let t : Table Boolean = plan_table (plan One w) in
    let small = size-weight One w ordered in
    let zero_plus : 0 + t.size ≡ t.size = omega arith in
    let code = blocks.blocks-size 0 (listed_for w).rows in
    few-more t.size (booleans w) (weight w) (booleans w) (rows_size (listed_for w).rows) small (omega arith)
    (subst (IsFew t.size (booleans w)) code
    (blocks-size atom_of (booleans w) t (plain-single One w plain) 0 0 t.size zero_plus))

one-few : (w : Written Boolean) (parts : ℕ) → IsOrdered w → IsPlain w
    → (IsTrue (weighs w) → IsFew (weight w) (booleans w) parts) → IsFew (weight w) (booleans w) (at_least_own w parts)
one-few w parts ordered plain each = elim (cases_Bool (weighs w)) [
  | inl on ↦
      subst (IsFew (weight w) (booleans w))
      (sym (if-true {A = ℕ} (weighs w) (max parts (rows_size (listed_for w).rows)) 0 on))
      (few-max (weight w) (booleans w) parts (rows_size (listed_for w).rows) (each on) (own-few w ordered plain))
  | inr off ↦
      subst (IsFew (weight w) (booleans w))
      (sym (if-false {A = ℕ} (weighs w) (max parts (rows_size (listed_for w).rows)) 0 off))
      (few-none (weight w) (booleans w))
]

pub law-tables_are_short : (w : Written Boolean) → IsOrdered w → IsPlain w
    → IsFew (weight w) (booleans w) (largest_place w)
law-tables_are_short (boolean b) ordered plain =
    one-few (boolean b) 0 ordered plain (λ on. few-none 1 1)
law-tables_are_short (delay r least most s) ordered plain =
    one-few (delay r least most s) (max (largest_place r) (largest_place s)) ordered plain (λ on.
    few-max (weight (delay r least most s)) (booleans (delay r least most s)) (largest_place r) (largest_place s)
    (few-more (weight r) (booleans r) (weight (delay r least most s)) (booleans (delay r least most s))
    (largest_place r)
    (omega arith) (omega arith) (law-tables_are_short r ordered.1 plain.1))
    (few-more (weight s) (booleans s) (weight (delay r least most s)) (booleans (delay r least most s))
    (largest_place s)
    (omega arith) (omega arith) (law-tables_are_short s ordered.2 plain.2)))
law-tables_are_short (lead least most s) ordered plain =
    one-few (lead least most s) (largest_place s) ordered plain (λ on.
    few-more (weight s) (booleans s) (weight (lead least most s)) (booleans s) (largest_place s) (omega arith)
    (omega arith)
    (law-tables_are_short s ordered.1 plain))
law-tables_are_short (repeat r least most) ordered plain =
    one-few (repeat r least most) (largest_place r) ordered plain (λ on.
    let some : 1 ≤ most = repeat-some r least most on in
    let one : 1 * weight r ≤ most * weight r = mul-le-mul_right (weight r) some in
    few-more (weight r) (booleans r) (weight (repeat r least most)) (booleans r) (largest_place r) (omega (arith, one))
    (omega arith) (law-tables_are_short r ordered.1 plain))
law-tables_are_short (or r s) ordered plain =
    one-few (or r s) (max (largest_place r) (largest_place s)) ordered plain (λ on.
    few-max (weight (or r s)) (booleans (or r s)) (largest_place r) (largest_place s)
    (few-more (weight r) (booleans r) (weight (or r s)) (booleans (or r s)) (largest_place r) (omega arith)
    (omega arith)
    (law-tables_are_short r ordered.0 plain.0))
    (few-more (weight s) (booleans s) (weight (or r s)) (booleans (or r s)) (largest_place s) (omega arith)
    (omega arith)
    (law-tables_are_short s ordered.1 plain.1)))
law-tables_are_short (and r s) ordered plain = absurd plain
law-tables_are_short (intersect r s) ordered plain = absurd plain
law-tables_are_short (throughout b r) ordered plain =
    one-few (throughout b r) (largest_place r) ordered plain (λ on.
    few-more (weight r) (booleans r) (weight r) (booleans (throughout b r)) (largest_place r) (omega arith)
    (omega arith)
    (law-tables_are_short r ordered plain))
