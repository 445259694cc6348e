-- The table of each sequence, by its parts: equal to the form's, placed, and with no part longer than the whole.
use Rattle.std.proofs.Common.{◌≡◌, ◌∙◌, ◌⊎◌, inl, inr, ℕ, zero, suc, ◌+◌, ◌-◌, ◌*◌, ◌<◌, ◌≤◌, Bool, true, false, ◌&&◌}
use Rattle.std.proofs.Common.{◌||◌}
use Rattle.std.proofs.Common.{if◌then◌else◌, max, List, [], ◌∷◌, length, map, nat_le, Option, None, refl, sym, ap}
use Rattle.std.proofs.Common.{subst}
use Rattle.std.proofs.Common.{arith}
use Rattle.std.specs.Prelude.{IsTrue, ◌==◌}
use Rattle.std.specs.List.{flat_map}
use Rattle.std.proofs.lemmas.Bool.{le-leb, eqb-true, false_from_ne_true, ltb-true, cases_Bool}
use Rattle.std.proofs.lemmas.List.Sums.{sum_by-append, sum_by-cons}
use Rattle.assertions.specs.declared.sequence.Boolean.{Boolean}
use Rattle.assertions.specs.declared.sequence.Boolean.TheVariants.{One}
use Rattle.assertions.specs.Segments.{always}
use Rattle.assertions.specs.Written.{Written, boolean, delay, lead, repeat, or, and, intersect, throughout, weight}
use Rattle.assertions.specs.Written.{IsOrdered}
use Rattle.assertions.specs.Emptiness.{admits_empty}
use Rattle.positions.specs.Plans.{Plan, tick, skip, any, all, pair, under, loop, link, apart, moving, weighs}
use Rattle.positions.specs.Plans.{plan}
use Rattle.positions.specs.Living.{is_position_kept, sifted}
use Rattle.positions.specs.States.{PlanState, First}
use Rattle.positions.specs.Tables.{Edge, Table, SomeOf, EachOf, HasNumber, Fires, IsRising, plan_table}
use Rattle.positions.specs.Tables.{tick_table}
use Rattle.positions.specs.Tables.{loop_table}
use Rattle.positions.specs.Tables.{shift}
use Rattle.positions.specs.Sections.{edge_size, numbered_edge, coded, rows_from}
use Rattle.positions.specs.Sequences.{atom_of, listed_for, kept_for, at_least_own}
use Rattle.positions.specs.Rows.{TableData, IsClosedTable, listed, edges_size, rows_size, edges_at}
use Rattle.positions.specs.Rows.{joined_data}
use Rattle.positions.specs.Rows.{fused_data}
use Rattle.positions.specs.Rows.{still_data, tick_data, either_data, during_data, link_data, repeat_data}
use Rattle.positions.specs.Rows.{both_data}
use Rattle.positions.specs.Rows.{gap_data, apart_data, lead_in_data, pair_data}
use Rattle.positions.proofs.Rising.{rising}
use Rattle.positions.proofs.Spelling.{spelling}
use Rattle.positions.proofs.Lists.{SomeOf-each}
use Rattle.positions.proofs.Sifting.{if-true, if-false, sifted-rising, rank-few}
use Rattle.positions.proofs.KeptLaws.{listed-sifted}
use Rattle.positions.proofs.Theorem.{size-weight}
use Rattle.positions.proofs.ListedLaws.{rows_of-length, row_at-rows, listed-any, listed-under, listed-link}
use Rattle.positions.proofs.ListedLaws.{listed-loop}
use Rattle.positions.proofs.ListedLaws.{listed-all, listed-pair}

-- rising tables are placed

Has-EachOf : (P : ℕ → Type 0) (qs : List ℕ) → ((q : ℕ) → HasNumber qs q → P q) → EachOf P qs
Has-EachOf P [] each = tt
Has-EachOf P (q ∷ qs) each = (each q (inl refl), Has-EachOf P qs (λ p has. each p (inr has)))

module _ (B : Type 0) (atom : B → Option ℕ) (t : Table B) (up : IsRising t) where
  abbrev Near : List (Edge ℕ) → Type 0
  Near row = EachOf (λ (e : Edge ℕ). EachOf (λ q. q < t.size) e.enters) row

  row-near : (es : List (Edge B)) → ((q : ℕ) → SomeOf (λ (e : Edge B). HasNumber e.enters q) es → q < t.size)
      → Near (map (numbered_edge atom) es)
  row-near [] each = tt
  row-near (e ∷ es) each =
      (Has-EachOf (λ q. q < t.size) e.enters (λ q has. each q (inl has)), row-near es (λ q has. each q (inr has)))

  rows-near : (p n : ℕ) → p + n ≤ t.size → EachOf Near (rows_from (coded atom t) p n)
  rows-near p zero within = tt
  rows-near p (suc n) within =
      (row-near (t.row p) (λ q has. (up.enters p q (omega arith) has).1), rows-near (p + 1) n (omega arith))

  pub placed : t.size ≤ 127 → IsClosedTable (listed atom t)
  placed few =
      let count : length (listed atom t).rows ≡ t.size = rows_of-length (coded atom t) 0 t.size in
      record {
        few = omega (arith, count);
        starts =
            subst (λ n. EachOf (λ q. q < n) t.starts) (sym count) (Has-EachOf (λ q. q < t.size) t.starts up.starts);
        enters =
            subst (λ n. EachOf (λ row. EachOf (λ (e : Edge ℕ). EachOf (λ q. q < n) e.enters) row)
            (listed atom t).rows) (sym count) (rows-near 0 t.size (omega arith));
      }

  -- a start with an edge that leads on
  starts-some : (q : ℕ) → HasNumber t.starts q → 1 ≤ length t.starts
  starts-some q has = some t.starts has
    where
      some : (qs : List ℕ) → HasNumber qs q → 1 ≤ length qs
      some [] h = absurd h
      some (x ∷ xs) h = omega arith

abbrev table_for : Written Boolean → Table Boolean
table_for w = plan_table (plan One w)

rises : (w : Written Boolean) → IsRising (table_for w)
rises w = rising Boolean (plan One w) (table_for w) (spelling Boolean (plan One w))

moving-true : (t e : Bool) (p : Plan Boolean) → t ≡ true → moving t e p ≡ p
moving-true true e p is = refl
moving-true false e p is = cc

abbrev L : Written Boolean → TableData
L w = listed_for w

-- where no match takes a tick
still-moving : (t e : Bool) (p : Plan Boolean) → t ≡ false → listed atom_of (plan_table (moving t e p)) ≡ still_data e
still-moving true e p is = cc
still-moving false true p is = refl
still-moving false false p is = refl

pub still-for : (w : Written Boolean) → weighs w ≡ false → L w ≡ still_data (admits_empty w)
still-for (boolean b) still = cc
still-for (delay r least most s) still =
    still-moving (weighs (delay r least most s)) (admits_empty (delay r least most s))
    (apart One (plan One r) (plan One s) least most) still
still-for (lead least most s) still =
    still-moving (weighs (lead least most s)) (admits_empty (lead least most s))
    (link false true (loop (tick One) least most) skip (plan One s)) still
still-for (repeat r least most) still =
    still-moving (weighs (repeat r least most)) (admits_empty (repeat r least most))
    (loop (plan One r) least most) still
still-for (or r s) still =
    still-moving (weighs (or r s)) (admits_empty (or r s)) (any (plan One r) (plan One s)) still
still-for (and r s) still =
    still-moving (weighs (and r s)) (admits_empty (and r s)) (all (plan One r) (plan One s)) still
still-for (intersect r s) still =
    still-moving (weighs (intersect r s)) (admits_empty (intersect r s)) (pair (plan One r) (plan One s)) still
still-for (throughout b r) still =
    still-moving (weighs (throughout b r)) (admits_empty (throughout b r)) (under b (plan One r)) still

pub placed-for : (w : Written Boolean) → IsOrdered w → weight w ≤ 127 → IsClosedTable (L w)
placed-for w ordered bound =
    placed Boolean atom_of (table_for w) (rises w) (omega (arith, size-weight One w ordered, bound))

-- what is kept of it has its place, too
pub kept-for : (w : Written Boolean) → listed atom_of (sifted (table_for w)) ≡ kept_for w
kept-for w = listed-sifted Boolean atom_of (table_for w)

pub kept-placed : (w : Written Boolean) → IsOrdered w → weight w ≤ 127 → IsClosedTable (kept_for w)
kept-placed w ordered bound =
    subst IsClosedTable (kept-for w)
    (placed Boolean atom_of (sifted (table_for w)) (sifted-rising Boolean (table_for w) (rises w))
    (omega (arith, rank-few (is_position_kept (table_for w)) (table_for w).size, size-weight One w ordered, bound)))

pub length-for : (w : Written Boolean) → IsOrdered w → length (L w).rows ≤ weight w
length-for w ordered =
    omega (arith, rows_of-length (coded atom_of (table_for w)) 0 (table_for w).size, size-weight One w ordered)

-- the forms

pub made-or : (r s : Written Boolean) → IsTrue (weighs (or r s)) → L (or r s) ≡ either_data (L r) (L s)
made-or r s takes =
    ap (λ p. listed atom_of (plan_table p))
    (moving-true (weighs (or r s)) (admits_empty (or r s)) (any (plan One r) (plan One s)) takes)
    ∙ listed-any Boolean atom_of (table_for r) (table_for s)

pub made-and : (r s : Written Boolean) → IsTrue (weighs (and r s)) → L (and r s) ≡ both_data (L r) (L s)
made-and r s takes =
    ap (λ p. listed atom_of (plan_table p))
    (moving-true (weighs (and r s)) (admits_empty (and r s)) (all (plan One r) (plan One s)) takes)
    ∙ listed-all Boolean atom_of (table_for r) (table_for s)

pub made-intersect : (r s : Written Boolean) → IsTrue (weighs (intersect r s)) → L (intersect r s)
    ≡ pair_data (L r) (L s)
made-intersect r s takes =
    ap (λ p. listed atom_of (plan_table p))
    (moving-true (weighs (intersect r s)) (admits_empty (intersect r s)) (pair (plan One r) (plan One s)) takes)
    ∙ listed-pair Boolean atom_of (table_for r) (table_for s)

pub made-repeat : (r : Written Boolean) (least most : ℕ) → IsTrue (weighs (repeat r least most))
    → L (repeat r least most) ≡ repeat_data (L r) least most
made-repeat r least most takes =
    ap (λ p. listed atom_of (plan_table p))
    (moving-true (weighs (repeat r least most)) (admits_empty (repeat r least most))
    (loop (plan One r) least most) takes)
    ∙ listed-loop Boolean atom_of (table_for r) least most

pub made-throughout : (b : Boolean) (r : Written Boolean) → IsTrue (weighs (throughout b r)) → L (throughout b r)
    ≡ during_data (atom_of b) (L r)
made-throughout b r takes =
    ap (λ p. listed atom_of (plan_table p))
    (moving-true (weighs (throughout b r)) (admits_empty (throughout b r)) (under b (plan One r)) takes)
    ∙ listed-under Boolean atom_of b (table_for r)

pub made-ticks : (least most : ℕ) → listed atom_of (loop_table (tick_table One) least most)
    ≡ repeat_data (tick_data None) least most
made-ticks least most = listed-loop Boolean atom_of (tick_table One) least most

pub made-lead : (s : Written Boolean) (least most : ℕ) → IsTrue (weighs (lead least most s))
    → L (lead least most s) ≡ lead_in_data least most (L s)
made-lead s least most takes =
    ap (λ p. listed atom_of (plan_table p))
    (moving-true (weighs (lead least most s)) (admits_empty (lead least most s))
    (link false true (loop (tick One) least most) skip (plan One s)) takes)
    ∙ listed-link Boolean atom_of false true (loop_table (tick_table One) least most) (plan_table {B = Boolean} skip)
    (table_for s) (rises s)
    ∙ ap (λ t. link_data false true t (still_data true) (L s)) (made-ticks least most)

never-zero : (n : ℕ) → (suc n == 0) ≡ false
never-zero n =
    false_from_ne_true (suc n == 0) (λ e. let zero_is : suc n ≡ 0 = eqb-true (suc n) 0 e in omega (arith, zero_is))

gap-some : (least most : ℕ) → gap_data least (suc most) ≡ repeat_data (tick_data None) (least - 1) (suc most - 1)
gap-some least most =
    ap (λ b. if b then still_data true else repeat_data (tick_data None) (least - 1) (suc most - 1)) (never-zero most)

made-apart : (p q : Plan Boolean) (least most : ℕ) → least ≤ most → IsRising (plan_table q) →
    listed atom_of (plan_table (apart One p q least most)) ≡ apart_data (listed atom_of (plan_table p))
    (listed atom_of (plan_table q)) least most
made-apart p q zero zero le up =
    listed-link Boolean atom_of true false (plan_table p) (plan_table {B = Boolean} skip) (plan_table q) up
made-apart p q zero (suc most) le up =
    let some : nat_le 1 (suc most) ≡ true = le-leb 1 (suc most) (omega arith) in
    let less : most ≡ suc most - 1 = omega arith in
    listed-link Boolean atom_of true true (plan_table p) (loop_table (tick_table One) 0 most) (plan_table q) up
    ∙ ap (λ g. link_data true true (listed atom_of (plan_table p)) g (listed atom_of (plan_table q)))
    (made-ticks 0 most ∙ ap (repeat_data (tick_data None) 0) less ∙ sym (gap-some 0 most))
    ∙ ap (λ b. link_data true b (listed atom_of (plan_table p)) (gap_data 0 (suc most))
    (listed atom_of (plan_table q))) (sym some)
made-apart p q (suc least) zero le up = absurd (omega arith)
made-apart p q (suc least) (suc most) le up =
    let some : nat_le 1 (suc most) ≡ true = le-leb 1 (suc most) (omega arith) in
    let less : least ≡ suc least - 1 = omega arith in
    listed-link Boolean atom_of false true (plan_table p) (loop_table (tick_table One) least (suc most - 1))
    (plan_table q)
    up
    ∙ ap (λ g. link_data false true (listed atom_of (plan_table p)) g (listed atom_of (plan_table q)))
    (made-ticks least (suc most - 1) ∙ ap (λ k. repeat_data (tick_data None) k (suc most - 1)) less
    ∙ sym (gap-some (suc least) most))
    ∙ ap (λ b. link_data b true (listed atom_of (plan_table p)) (gap_data (suc least) (suc most))
    (listed atom_of (plan_table q))) (sym (never-zero least))
    ∙ ap (λ b. link_data (suc least == 0) b (listed atom_of (plan_table p)) (gap_data (suc least) (suc most))
    (listed atom_of (plan_table q))) (sym some)

pub made-delay : (r s : Written Boolean) (least most : ℕ) → IsOrdered (delay r least most s)
    → IsTrue (weighs (delay r least most s)) →
    L (delay r least most s) ≡ apart_data (L r) (L s) least most
made-delay r s least most ordered takes =
    ap (λ p. listed atom_of (plan_table p))
    (moving-true (weighs (delay r least most s)) (admits_empty (delay r least most s))
    (apart One (plan One r) (plan One s) least most) takes)
    ∙ made-apart (plan One r) (plan One s) least most ordered.0 (rises s)

-- a repetition of something that weighs has a copy
pub repeat-told : (r : Written Boolean) (least most : ℕ) → IsTrue (weighs (repeat r least most)) → 1 ≤ most
repeat-told r least zero takes =
    let none : 0 * weight r ≡ 0 = omega arith in absurd (omega (arith, none, ltb-true 0 (0 * weight r) takes))
repeat-told r least (suc most) takes = omega arith

-- each side of an intersection that weighs does so too
pub sides-told : (r s : Written Boolean) → IsTrue (weighs (intersect r s)) → (1 ≤ weight r) × (1 ≤ weight s)
sides-told r s takes = each (weight r) (weight s) (ltb-true 0 (weight r * weight s) takes)
  where
    each : (n m : ℕ) → 0 < n * m → (1 ≤ n) × (1 ≤ m)
    each zero m some = absurd (omega arith)
    each (suc n) zero some = let none : suc n * 0 ≡ 0 = omega arith in absurd (omega arith)
    each (suc n) (suc m) some = (omega arith, omega arith)

-- the largest table of a sequence and its parts

pub part-within : (w : Written Boolean) (parts n : ℕ) → IsTrue (weighs w) → n ≤ parts → n ≤ at_least_own w parts
part-within w parts n takes le =
    omega (arith, le, if-true {A = ℕ} (weighs w) (max parts (rows_size (L w).rows)) 0 takes)

pub own-within : (w : Written Boolean) (parts : ℕ) → IsTrue (weighs w) → rows_size (L w).rows ≤ at_least_own w parts
own-within w parts takes = omega (arith, if-true {A = ℕ} (weighs w) (max parts (rows_size (L w).rows)) 0 takes)

pub all-within : (w : Written Boolean) (parts bound : ℕ) → parts ≤ bound → rows_size (L w).rows ≤ bound
    → at_least_own w parts ≤ bound
all-within w parts bound le own = elim (cases_Bool (weighs w)) [
  | inl on ↦ omega (arith, le, own, if-true {A = ℕ} (weighs w) (max parts (rows_size (L w).rows)) 0 on)
  | inr off ↦ omega (arith, if-false {A = ℕ} (weighs w) (max parts (rows_size (L w).rows)) 0 off)
]

pub none-within : (w : Written Boolean) (parts : ℕ) → weighs w ≡ false → at_least_own w parts ≤ 65535
none-within w parts off = omega (arith, if-false {A = ℕ} (weighs w) (max parts (rows_size (L w).rows)) 0 off)

-- what lies between has its place

ticks-rising : (least most : ℕ) → IsRising (loop_table (tick_table One) least most)
ticks-rising least most =
    rising Boolean (loop (tick One) least most) (loop_table (tick_table One) least most)
    (spelling Boolean (loop (tick One) least most))

pub ticks-length : (least most : ℕ) → length (repeat_data (tick_data None) least most).rows ≡ most
ticks-length least most =
    let one : most * 1 ≡ most = omega arith in
    ap (λ (d : TableData). length d.rows) (sym (made-ticks least most))
    ∙ rows_of-length (coded atom_of (loop_table (tick_table One) least most)) 0 (most * 1) ∙ one

pub ticks-placed : (least most : ℕ) → most ≤ 127 → IsClosedTable (repeat_data (tick_data None) least most)
ticks-placed least most few =
    let one : most * 1 ≡ most = omega arith in
    subst IsClosedTable (made-ticks least most)
    (placed Boolean atom_of (loop_table (tick_table One) least most) (ticks-rising least most)
    (omega (arith, one)))

pub still-placed : (empty : Bool) → IsClosedTable (still_data empty)
still-placed empty = record { few = omega arith; starts = tt; enters = tt }

pub gap-placed : (least most : ℕ) → most ≤ 127 → IsClosedTable (gap_data least most)
gap-placed least zero few = still-placed true
gap-placed least (suc most) few =
    subst IsClosedTable (sym (gap-some least most)) (ticks-placed (least - 1) (suc most - 1) (omega arith))

pub gap-length : (least most : ℕ) → length (gap_data least most).rows ≤ most
gap-length least zero = omega arith
gap-length least (suc most) =
    omega (
      arith,
      ap (λ (d : TableData). length d.rows) (gap-some least most),
      ticks-length (least - 1) (suc most - 1),
    )
