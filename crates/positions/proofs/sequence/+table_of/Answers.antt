use Rattle.std.proofs.Common.{ℕ, ◌≡◌, ◌∙◌, ◌+◌, ◌*◌, ◌≤◌, true, false, max, length, rules, sym, ap, subst, arith}
use Rattle.std.proofs.Common.{Result, Ok, Err, IfOk}
use Rattle.std.specs.Prelude.{IsTrue}
use Rattle.std.proofs.Math.Nat.{mul-le-mul_right, mul-le-mul_left}
use Rattle.assertions.specs.declared.sequence.Boolean.{Boolean}
use Rattle.assertions.specs.declared.sequence.Sequence.TheViews.{the_lemmas}
use Rattle.assertions.specs.Shapes.{written_form}
use Rattle.assertions.specs.Listed.{EachBoolean, IsListed}
use Rattle.assertions.specs.Written.{Written, boolean, delay, lead, repeat, or, and, intersect, throughout}
use Rattle.assertions.specs.Written.{weight, IsOrdered}
use Rattle.positions.specs.Plans.{weighs}
use Rattle.positions.specs.Rows.{TableData, IsClosedTable, rows_size, still_data, either_data, both_data}
use Rattle.positions.specs.Rows.{repeat_data}
use Rattle.positions.specs.Rows.{during_data, apart_data, lead_in_data, pair_data}
use Rattle.positions.specs.declared.fault.SectionFault.{SectionFault}
use Rattle.positions.specs.Sequences.{listed_for, atom_of, largest_place}
use Rattle.positions.proofs.RowLaws.{long_on}
use Rattle.positions.proofs.ResultLaws.{ok_same, err_more}
use Rattle.positions.proofs.SequenceLaws.{still-for, placed-for, length-for, made-delay, made-lead}
use Rattle.positions.proofs.SequenceLaws.{made-repeat}
use Rattle.positions.proofs.SequenceLaws.{made-or, made-and, made-intersect, made-throughout, repeat-told}
use Rattle.positions.proofs.SequenceLaws.{sides-told}
use Rattle.positions.proofs.SequenceLaws.{part-within, own-within, all-within, none-within}
use Rattle.positions.proofs.sequence.+table_of.Goals as goal

-- no side of an intersection is heavy
sides-light : (r s : Written Boolean) → IsTrue (weighs (intersect r s)) → weight (intersect r s) ≤ 127
    → (weight r ≤ 127) × (weight s ≤ 127)
sides-light r s takes bound =
    let some = sides-told r s takes in
    let x : weight r * 1 ≤ weight r * weight s = mul-le-mul_left (weight r) some.1 in
    let y : 1 * weight s ≤ weight r * weight s = mul-le-mul_right (weight s) some.0 in
    (omega (arith, bound, x), omega (arith, bound, y))

short_on : (r : Result TableData SectionFault) (d : TableData) (w v : Written Boolean) → w ≡ v → IfOk r (λ t. t ≡ d)
    → IfOk r (λ t. rows_size t.rows ≤ 65535) → d ≡ listed_for w
    → (rows_size (listed_for v).rows ≤ 65535 → largest_place v ≤ 65535) → IfOk r (λ t. largest_place w ≤ 65535)
short_on (Ok t) d w v e is short same all =
    let own : rows_size (listed_for v).rows ≤ 65535 =
    omega (
      arith,
      ap (λ (x : TableData). rows_size x.rows) is,
      ap (λ (x : TableData). rows_size x.rows) same,
      ap (λ x. rows_size (listed_for x).rows) e,
      short,
    ) in
    omega (arith, ap largest_place e, all own)
short_on (Err f) d w v e is short same all = is

-- the whole, by its form
told : (w v : Written Boolean) → w ≡ v → listed_for w ≡ listed_for v
told w v e = ap listed_for e

placed_as : (t : TableData) (w : Written Boolean) → t ≡ listed_for w → IsOrdered w → weight w ≤ 127 → IsClosedTable t
placed_as t w is ordered bound = subst IsClosedTable (sym is) (placed-for w ordered bound)

length_as : (t : TableData) (w : Written Boolean) → t ≡ listed_for w → IsOrdered w → length t.rows ≤ weight w
length_as t w is ordered = omega (arith, ap (λ (x : TableData). length x.rows) is, length-for w ordered)

most_as : (w v : Written Boolean) (n : ℕ) → w ≡ v → n ≤ largest_place v → n ≤ largest_place w
most_as w v n e le = omega (arith, ap largest_place e, le)

own_as : (w v : Written Boolean) (d : TableData) → w ≡ v → d ≡ listed_for w
    → rows_size (listed_for v).rows ≤ largest_place v → rows_size d.rows ≤ largest_place w
own_as w v d e is le =
    omega (
      arith,
      ap largest_place e,
      ap (λ x. rows_size (listed_for x).rows) e,
      ap (λ (x : TableData). rows_size x.rows) is,
      le,
    )

pub returns-then-not-is_weighty-clause-ok : goal.returns-then-not-is_weighty-clause-ok
returns-then-not-is_weighty-clause-ok t c =
    let quiet : weighs (written_form c.args.sequence.now) ≡ false =
    sym c.is_weighty.ensures ∙ c.if-not-is_weighty.true in
    c.still.ensures ∙ ap still_data c.is_nullable.ensures
    ∙ sym (still-for (written_form c.args.sequence.now) quiet)

pub returns-in_err-front-in-Delay-clause-err : goal.returns-in_err-front-in-Delay-clause-err
returns-in_err-front-in-Delay-clause-err t c =
    let r : Written Boolean = written_form c.deref.result.now in
    let s : Written Boolean = written_form c.in-Delay.second.value in
    let e : written_form c.args.sequence.now ≡ delay r c.in-Delay.least c.in-Delay.most s =
    ap written_form c.in-Delay.is ∙ ap (λ q. delay (written_form q) c.in-Delay.least c.in-Delay.most s)
    (sym c.deref.ensures) in
    let takes : IsTrue (weighs (delay r c.in-Delay.least c.in-Delay.most s)) =
    ap weighs (sym e) ∙ sym c.is_weighty.ensures ∙ c.if-not-is_weighty.false in
    let ordered : IsOrdered (delay r c.in-Delay.least c.in-Delay.most s) = subst IsOrdered e c.requires.ordered in
    let bound : weight (delay r c.in-Delay.least c.in-Delay.most s) ≤ 127 =
    subst (λ w. weight w ≤ 127) e c.requires.bound in
    long_on _ _ _ _ c.from_residual-in_err-front-in-Delay.ensures.1 c.in_err-front-in-Delay.ensures.err
    (most_as (written_form c.args.sequence.now) (delay r c.in-Delay.least c.in-Delay.most s) _ e
    (part-within (delay r c.in-Delay.least c.in-Delay.most s) (max (largest_place r) (largest_place s))
    (largest_place r) takes
    (omega arith)))

pub returns-in_err-rest-in-Delay-clause-err : goal.returns-in_err-rest-in-Delay-clause-err
returns-in_err-rest-in-Delay-clause-err t c =
    let r : Written Boolean = written_form c.deref.result.now in
    let s : Written Boolean = written_form c.deref-in-Delay.result.now in
    let e : written_form c.args.sequence.now ≡ delay r c.in-Delay.least c.in-Delay.most s =
    ap written_form c.in-Delay.is
    ∙ ap (λ q. delay (written_form q) c.in-Delay.least c.in-Delay.most (written_form c.in-Delay.second.value))
    (sym c.deref.ensures) ∙ ap (λ q. delay r c.in-Delay.least c.in-Delay.most (written_form q))
    (sym c.deref-in-Delay.ensures) in
    let takes : IsTrue (weighs (delay r c.in-Delay.least c.in-Delay.most s)) =
    ap weighs (sym e) ∙ sym c.is_weighty.ensures ∙ c.if-not-is_weighty.false in
    let ordered : IsOrdered (delay r c.in-Delay.least c.in-Delay.most s) = subst IsOrdered e c.requires.ordered in
    let bound : weight (delay r c.in-Delay.least c.in-Delay.most s) ≤ 127 =
    subst (λ w. weight w ≤ 127) e c.requires.bound in
    long_on _ _ _ _ c.from_residual-in_err-rest-in-Delay.ensures.1 c.in_err-rest-in-Delay.ensures.err
    (most_as (written_form c.args.sequence.now) (delay r c.in-Delay.least c.in-Delay.most s) _ e
    (part-within (delay r c.in-Delay.least c.in-Delay.most s) (max (largest_place r) (largest_place s))
    (largest_place s) takes
    (omega arith)))

pub apart-requires-clause-first_placed : goal.apart-requires-clause-first_placed
apart-requires-clause-first_placed t c =
    let r : Written Boolean = written_form c.deref.result.now in
    let s : Written Boolean = written_form c.deref-in-Delay.result.now in
    let e : written_form c.args.sequence.now ≡ delay r c.in-Delay.least c.in-Delay.most s =
    ap written_form c.in-Delay.is
    ∙ ap (λ q. delay (written_form q) c.in-Delay.least c.in-Delay.most (written_form c.in-Delay.second.value))
    (sym c.deref.ensures) ∙ ap (λ q. delay r c.in-Delay.least c.in-Delay.most (written_form q))
    (sym c.deref-in-Delay.ensures) in
    let takes : IsTrue (weighs (delay r c.in-Delay.least c.in-Delay.most s)) =
    ap weighs (sym e) ∙ sym c.is_weighty.ensures ∙ c.if-not-is_weighty.false in
    let ordered : IsOrdered (delay r c.in-Delay.least c.in-Delay.most s) = subst IsOrdered e c.requires.ordered in
    let bound : weight (delay r c.in-Delay.least c.in-Delay.most s) ≤ 127 =
    subst (λ w. weight w ≤ 127) e c.requires.bound in
    let rb : weight r ≤ 127 = omega (arith, bound) in
    let sb : weight s ≤ 127 = omega (arith, bound) in
    placed_as c.in_ok-front-in-Delay.front r c.in_ok-front-in-Delay.ensures.ok ordered.1 rb

pub apart-requires-clause-second_placed : goal.apart-requires-clause-second_placed
apart-requires-clause-second_placed t c =
    let r : Written Boolean = written_form c.deref.result.now in
    let s : Written Boolean = written_form c.deref-in-Delay.result.now in
    let e : written_form c.args.sequence.now ≡ delay r c.in-Delay.least c.in-Delay.most s =
    ap written_form c.in-Delay.is
    ∙ ap (λ q. delay (written_form q) c.in-Delay.least c.in-Delay.most (written_form c.in-Delay.second.value))
    (sym c.deref.ensures) ∙ ap (λ q. delay r c.in-Delay.least c.in-Delay.most (written_form q))
    (sym c.deref-in-Delay.ensures) in
    let takes : IsTrue (weighs (delay r c.in-Delay.least c.in-Delay.most s)) =
    ap weighs (sym e) ∙ sym c.is_weighty.ensures ∙ c.if-not-is_weighty.false in
    let ordered : IsOrdered (delay r c.in-Delay.least c.in-Delay.most s) = subst IsOrdered e c.requires.ordered in
    let bound : weight (delay r c.in-Delay.least c.in-Delay.most s) ≤ 127 =
    subst (λ w. weight w ≤ 127) e c.requires.bound in
    let rb : weight r ≤ 127 = omega (arith, bound) in
    let sb : weight s ≤ 127 = omega (arith, bound) in
    placed_as c.in_ok-rest-in-Delay.rest s c.in_ok-rest-in-Delay.ensures.ok ordered.2 sb

pub apart-requires-clause-few : goal.apart-requires-clause-few
apart-requires-clause-few t c =
    let r : Written Boolean = written_form c.deref.result.now in
    let s : Written Boolean = written_form c.deref-in-Delay.result.now in
    let e : written_form c.args.sequence.now ≡ delay r c.in-Delay.least c.in-Delay.most s =
    ap written_form c.in-Delay.is
    ∙ ap (λ q. delay (written_form q) c.in-Delay.least c.in-Delay.most (written_form c.in-Delay.second.value))
    (sym c.deref.ensures) ∙ ap (λ q. delay r c.in-Delay.least c.in-Delay.most (written_form q))
    (sym c.deref-in-Delay.ensures) in
    let takes : IsTrue (weighs (delay r c.in-Delay.least c.in-Delay.most s)) =
    ap weighs (sym e) ∙ sym c.is_weighty.ensures ∙ c.if-not-is_weighty.false in
    let ordered : IsOrdered (delay r c.in-Delay.least c.in-Delay.most s) = subst IsOrdered e c.requires.ordered in
    let bound : weight (delay r c.in-Delay.least c.in-Delay.most s) ≤ 127 =
    subst (λ w. weight w ≤ 127) e c.requires.bound in
    let long = length_as c.in_ok-front-in-Delay.front r c.in_ok-front-in-Delay.ensures.ok ordered.1 in
    let more = length_as c.in_ok-rest-in-Delay.rest s c.in_ok-rest-in-Delay.ensures.ok ordered.2 in
    omega (arith, bound, long, more)

pub returns-in_ok-rest-in-Delay-clause-ok : goal.returns-in_ok-rest-in-Delay-clause-ok
returns-in_ok-rest-in-Delay-clause-ok t c =
    let r : Written Boolean = written_form c.deref.result.now in
    let s : Written Boolean = written_form c.deref-in-Delay.result.now in
    let e : written_form c.args.sequence.now ≡ delay r c.in-Delay.least c.in-Delay.most s =
    ap written_form c.in-Delay.is
    ∙ ap (λ q. delay (written_form q) c.in-Delay.least c.in-Delay.most (written_form c.in-Delay.second.value))
    (sym c.deref.ensures) ∙ ap (λ q. delay r c.in-Delay.least c.in-Delay.most (written_form q))
    (sym c.deref-in-Delay.ensures) in
    let takes : IsTrue (weighs (delay r c.in-Delay.least c.in-Delay.most s)) =
    ap weighs (sym e) ∙ sym c.is_weighty.ensures ∙ c.if-not-is_weighty.false in
    let ordered : IsOrdered (delay r c.in-Delay.least c.in-Delay.most s) = subst IsOrdered e c.requires.ordered in
    let bound : weight (delay r c.in-Delay.least c.in-Delay.most s) ≤ 127 =
    subst (λ w. weight w ≤ 127) e c.requires.bound in
    let same : apart_data c.in_ok-front-in-Delay.front c.in_ok-rest-in-Delay.rest
    c.in-Delay.least c.in-Delay.most ≡ listed_for (written_form c.args.sequence.now) =
    ap (λ x. apart_data x c.in_ok-rest-in-Delay.rest c.in-Delay.least
    c.in-Delay.most) c.in_ok-front-in-Delay.ensures.ok
    ∙ ap (λ x. apart_data (listed_for r) x c.in-Delay.least c.in-Delay.most)
    c.in_ok-rest-in-Delay.ensures.ok
    ∙ sym (made-delay r s c.in-Delay.least c.in-Delay.most ordered takes)
    ∙ sym (told (written_form c.args.sequence.now) (delay r c.in-Delay.least c.in-Delay.most s) e) in
    ok_same c.apart.result _ _ c.apart.ensures.ok same

pub returns-in_ok-rest-in-Delay-clause-err : goal.returns-in_ok-rest-in-Delay-clause-err
returns-in_ok-rest-in-Delay-clause-err t c =
    let r : Written Boolean = written_form c.deref.result.now in
    let s : Written Boolean = written_form c.deref-in-Delay.result.now in
    let e : written_form c.args.sequence.now ≡ delay r c.in-Delay.least c.in-Delay.most s =
    ap written_form c.in-Delay.is
    ∙ ap (λ q. delay (written_form q) c.in-Delay.least c.in-Delay.most (written_form c.in-Delay.second.value))
    (sym c.deref.ensures) ∙ ap (λ q. delay r c.in-Delay.least c.in-Delay.most (written_form q))
    (sym c.deref-in-Delay.ensures) in
    let takes : IsTrue (weighs (delay r c.in-Delay.least c.in-Delay.most s)) =
    ap weighs (sym e) ∙ sym c.is_weighty.ensures ∙ c.if-not-is_weighty.false in
    let ordered : IsOrdered (delay r c.in-Delay.least c.in-Delay.most s) = subst IsOrdered e c.requires.ordered in
    let bound : weight (delay r c.in-Delay.least c.in-Delay.most s) ≤ 127 =
    subst (λ w. weight w ≤ 127) e c.requires.bound in
    let same : apart_data c.in_ok-front-in-Delay.front c.in_ok-rest-in-Delay.rest
    c.in-Delay.least c.in-Delay.most ≡ listed_for (written_form c.args.sequence.now) =
    ap (λ x. apart_data x c.in_ok-rest-in-Delay.rest c.in-Delay.least
    c.in-Delay.most) c.in_ok-front-in-Delay.ensures.ok
    ∙ ap (λ x. apart_data (listed_for r) x c.in-Delay.least c.in-Delay.most)
    c.in_ok-rest-in-Delay.ensures.ok
    ∙ sym (made-delay r s c.in-Delay.least c.in-Delay.most ordered takes)
    ∙ sym (told (written_form c.args.sequence.now) (delay r c.in-Delay.least c.in-Delay.most s) e) in
    err_more c.apart.result _ _ c.apart.ensures.err
    (own_as (written_form c.args.sequence.now) (delay r c.in-Delay.least c.in-Delay.most s) _ e same
    (own-within (delay r c.in-Delay.least c.in-Delay.most s) (max (largest_place r) (largest_place s)) takes))

pub returns-in_err-front-in-Or-clause-err : goal.returns-in_err-front-in-Or-clause-err
returns-in_err-front-in-Or-clause-err t c =
    let r : Written Boolean = written_form c.deref-in-Or.result.now in
    let s : Written Boolean = written_form c.in-Or.second.value in
    let e : written_form c.args.sequence.now ≡ or r s =
    ap written_form c.in-Or.is ∙ ap (λ q. or (written_form q) s) (sym c.deref-in-Or.ensures) in
    let takes : IsTrue (weighs (or r s)) =
    ap weighs (sym e) ∙ sym c.is_weighty.ensures ∙ c.if-not-is_weighty.false in
    let ordered : IsOrdered (or r s) = subst IsOrdered e c.requires.ordered in
    let bound : weight (or r s) ≤ 127 = subst (λ w. weight w ≤ 127) e c.requires.bound in
    long_on _ _ _ _ c.from_residual-in_err-front-in-Or.ensures.1 c.in_err-front-in-Or.ensures.err
    (most_as (written_form c.args.sequence.now) (or r s) _ e
    (part-within (or r s) (max (largest_place r) (largest_place s)) (largest_place r) takes (omega arith)))

pub returns-in_err-rest-in-Or-clause-err : goal.returns-in_err-rest-in-Or-clause-err
returns-in_err-rest-in-Or-clause-err t c =
    let r : Written Boolean = written_form c.deref-in-Or.result.now in
    let s : Written Boolean = written_form c.deref-in-Or-2.result.now in
    let e : written_form c.args.sequence.now ≡ or r s =
    ap written_form c.in-Or.is ∙ ap (λ q. or (written_form q) (written_form c.in-Or.second.value))
    (sym c.deref-in-Or.ensures) ∙ ap (λ q. or r (written_form q)) (sym c.deref-in-Or-2.ensures) in
    let takes : IsTrue (weighs (or r s)) =
    ap weighs (sym e) ∙ sym c.is_weighty.ensures ∙ c.if-not-is_weighty.false in
    let ordered : IsOrdered (or r s) = subst IsOrdered e c.requires.ordered in
    let bound : weight (or r s) ≤ 127 = subst (λ w. weight w ≤ 127) e c.requires.bound in
    long_on _ _ _ _ c.from_residual-in_err-rest-in-Or.ensures.1 c.in_err-rest-in-Or.ensures.err
    (most_as (written_form c.args.sequence.now) (or r s) _ e
    (part-within (or r s) (max (largest_place r) (largest_place s)) (largest_place s) takes (omega arith)))

pub either-requires-clause-first_placed : goal.either-requires-clause-first_placed
either-requires-clause-first_placed t c =
    let r : Written Boolean = written_form c.deref-in-Or.result.now in
    let s : Written Boolean = written_form c.deref-in-Or-2.result.now in
    let e : written_form c.args.sequence.now ≡ or r s =
    ap written_form c.in-Or.is ∙ ap (λ q. or (written_form q) (written_form c.in-Or.second.value))
    (sym c.deref-in-Or.ensures) ∙ ap (λ q. or r (written_form q)) (sym c.deref-in-Or-2.ensures) in
    let takes : IsTrue (weighs (or r s)) =
    ap weighs (sym e) ∙ sym c.is_weighty.ensures ∙ c.if-not-is_weighty.false in
    let ordered : IsOrdered (or r s) = subst IsOrdered e c.requires.ordered in
    let bound : weight (or r s) ≤ 127 = subst (λ w. weight w ≤ 127) e c.requires.bound in
    let rb : weight r ≤ 127 = omega (arith, bound) in
    let sb : weight s ≤ 127 = omega (arith, bound) in
    placed_as c.in_ok-front-in-Or.front r c.in_ok-front-in-Or.ensures.ok ordered.0 rb

pub either-requires-clause-second_placed : goal.either-requires-clause-second_placed
either-requires-clause-second_placed t c =
    let r : Written Boolean = written_form c.deref-in-Or.result.now in
    let s : Written Boolean = written_form c.deref-in-Or-2.result.now in
    let e : written_form c.args.sequence.now ≡ or r s =
    ap written_form c.in-Or.is ∙ ap (λ q. or (written_form q) (written_form c.in-Or.second.value))
    (sym c.deref-in-Or.ensures) ∙ ap (λ q. or r (written_form q)) (sym c.deref-in-Or-2.ensures) in
    let takes : IsTrue (weighs (or r s)) =
    ap weighs (sym e) ∙ sym c.is_weighty.ensures ∙ c.if-not-is_weighty.false in
    let ordered : IsOrdered (or r s) = subst IsOrdered e c.requires.ordered in
    let bound : weight (or r s) ≤ 127 = subst (λ w. weight w ≤ 127) e c.requires.bound in
    let rb : weight r ≤ 127 = omega (arith, bound) in
    let sb : weight s ≤ 127 = omega (arith, bound) in
    placed_as c.in_ok-rest-in-Or.rest s c.in_ok-rest-in-Or.ensures.ok ordered.1 sb

pub either-requires-clause-few : goal.either-requires-clause-few
either-requires-clause-few t c =
    let r : Written Boolean = written_form c.deref-in-Or.result.now in
    let s : Written Boolean = written_form c.deref-in-Or-2.result.now in
    let e : written_form c.args.sequence.now ≡ or r s =
    ap written_form c.in-Or.is ∙ ap (λ q. or (written_form q) (written_form c.in-Or.second.value))
    (sym c.deref-in-Or.ensures) ∙ ap (λ q. or r (written_form q)) (sym c.deref-in-Or-2.ensures) in
    let takes : IsTrue (weighs (or r s)) =
    ap weighs (sym e) ∙ sym c.is_weighty.ensures ∙ c.if-not-is_weighty.false in
    let ordered : IsOrdered (or r s) = subst IsOrdered e c.requires.ordered in
    let bound : weight (or r s) ≤ 127 = subst (λ w. weight w ≤ 127) e c.requires.bound in
    let long = length_as c.in_ok-front-in-Or.front r c.in_ok-front-in-Or.ensures.ok ordered.0 in
    let more = length_as c.in_ok-rest-in-Or.rest s c.in_ok-rest-in-Or.ensures.ok ordered.1 in
    omega (arith, bound, long, more)

pub returns-in_ok-rest-in-Or-clause-ok : goal.returns-in_ok-rest-in-Or-clause-ok
returns-in_ok-rest-in-Or-clause-ok t c =
    let r : Written Boolean = written_form c.deref-in-Or.result.now in
    let s : Written Boolean = written_form c.deref-in-Or-2.result.now in
    let e : written_form c.args.sequence.now ≡ or r s =
    ap written_form c.in-Or.is ∙ ap (λ q. or (written_form q) (written_form c.in-Or.second.value))
    (sym c.deref-in-Or.ensures) ∙ ap (λ q. or r (written_form q)) (sym c.deref-in-Or-2.ensures) in
    let takes : IsTrue (weighs (or r s)) =
    ap weighs (sym e) ∙ sym c.is_weighty.ensures ∙ c.if-not-is_weighty.false in
    let ordered : IsOrdered (or r s) = subst IsOrdered e c.requires.ordered in
    let bound : weight (or r s) ≤ 127 = subst (λ w. weight w ≤ 127) e c.requires.bound in
    let same : either_data c.in_ok-front-in-Or.front c.in_ok-rest-in-Or.rest
    ≡ listed_for (written_form c.args.sequence.now) =
    ap (λ x. either_data x c.in_ok-rest-in-Or.rest) c.in_ok-front-in-Or.ensures.ok
    ∙ ap (either_data (listed_for r)) c.in_ok-rest-in-Or.ensures.ok
    ∙ sym (made-or r s takes) ∙ sym (told (written_form c.args.sequence.now) (or r s) e) in
    ok_same c.either.result _ _ c.either.ensures.ok same

pub returns-in_ok-rest-in-Or-clause-err : goal.returns-in_ok-rest-in-Or-clause-err
returns-in_ok-rest-in-Or-clause-err t c =
    let r : Written Boolean = written_form c.deref-in-Or.result.now in
    let s : Written Boolean = written_form c.deref-in-Or-2.result.now in
    let e : written_form c.args.sequence.now ≡ or r s =
    ap written_form c.in-Or.is ∙ ap (λ q. or (written_form q) (written_form c.in-Or.second.value))
    (sym c.deref-in-Or.ensures) ∙ ap (λ q. or r (written_form q)) (sym c.deref-in-Or-2.ensures) in
    let takes : IsTrue (weighs (or r s)) =
    ap weighs (sym e) ∙ sym c.is_weighty.ensures ∙ c.if-not-is_weighty.false in
    let ordered : IsOrdered (or r s) = subst IsOrdered e c.requires.ordered in
    let bound : weight (or r s) ≤ 127 = subst (λ w. weight w ≤ 127) e c.requires.bound in
    let same : either_data c.in_ok-front-in-Or.front c.in_ok-rest-in-Or.rest
    ≡ listed_for (written_form c.args.sequence.now) =
    ap (λ x. either_data x c.in_ok-rest-in-Or.rest) c.in_ok-front-in-Or.ensures.ok
    ∙ ap (either_data (listed_for r)) c.in_ok-rest-in-Or.ensures.ok
    ∙ sym (made-or r s takes) ∙ sym (told (written_form c.args.sequence.now) (or r s) e) in
    err_more c.either.result _ _ c.either.ensures.err
    (own_as (written_form c.args.sequence.now) (or r s) _ e same
    (own-within (or r s) (max (largest_place r) (largest_place s)) takes))

pub returns-in_err-front-in-And-clause-err : goal.returns-in_err-front-in-And-clause-err
returns-in_err-front-in-And-clause-err t c =
    let r : Written Boolean = written_form c.deref-in-And.result.now in
    let s : Written Boolean = written_form c.in-And.second.value in
    let e : written_form c.args.sequence.now ≡ and r s =
    ap written_form c.in-And.is ∙ ap (λ q. and (written_form q) s) (sym c.deref-in-And.ensures) in
    let takes : IsTrue (weighs (and r s)) =
    ap weighs (sym e) ∙ sym c.is_weighty.ensures ∙ c.if-not-is_weighty.false in
    let ordered : IsOrdered (and r s) = subst IsOrdered e c.requires.ordered in
    let bound : weight (and r s) ≤ 127 = subst (λ w. weight w ≤ 127) e c.requires.bound in
    long_on _ _ _ _ c.from_residual-in_err-front-in-And.ensures.1 c.in_err-front-in-And.ensures.err
    (most_as (written_form c.args.sequence.now) (and r s) _ e
    (part-within (and r s) (max (largest_place r) (largest_place s)) (largest_place r) takes (omega arith)))

pub returns-in_err-rest-in-And-clause-err : goal.returns-in_err-rest-in-And-clause-err
returns-in_err-rest-in-And-clause-err t c =
    let r : Written Boolean = written_form c.deref-in-And.result.now in
    let s : Written Boolean = written_form c.deref-in-And-2.result.now in
    let e : written_form c.args.sequence.now ≡ and r s =
    ap written_form c.in-And.is ∙ ap (λ q. and (written_form q) (written_form c.in-And.second.value))
    (sym c.deref-in-And.ensures) ∙ ap (λ q. and r (written_form q)) (sym c.deref-in-And-2.ensures) in
    let takes : IsTrue (weighs (and r s)) =
    ap weighs (sym e) ∙ sym c.is_weighty.ensures ∙ c.if-not-is_weighty.false in
    let ordered : IsOrdered (and r s) = subst IsOrdered e c.requires.ordered in
    let bound : weight (and r s) ≤ 127 = subst (λ w. weight w ≤ 127) e c.requires.bound in
    long_on _ _ _ _ c.from_residual-in_err-rest-in-And.ensures.1 c.in_err-rest-in-And.ensures.err
    (most_as (written_form c.args.sequence.now) (and r s) _ e
    (part-within (and r s) (max (largest_place r) (largest_place s)) (largest_place s) takes (omega arith)))

pub both-requires-clause-first_placed : goal.both-requires-clause-first_placed
both-requires-clause-first_placed t c =
    let r : Written Boolean = written_form c.deref-in-And.result.now in
    let s : Written Boolean = written_form c.deref-in-And-2.result.now in
    let e : written_form c.args.sequence.now ≡ and r s =
    ap written_form c.in-And.is ∙ ap (λ q. and (written_form q) (written_form c.in-And.second.value))
    (sym c.deref-in-And.ensures) ∙ ap (λ q. and r (written_form q)) (sym c.deref-in-And-2.ensures) in
    let takes : IsTrue (weighs (and r s)) =
    ap weighs (sym e) ∙ sym c.is_weighty.ensures ∙ c.if-not-is_weighty.false in
    let ordered : IsOrdered (and r s) = subst IsOrdered e c.requires.ordered in
    let bound : weight (and r s) ≤ 127 = subst (λ w. weight w ≤ 127) e c.requires.bound in
    let wide : (weight r + 1) * (weight s + 1) ≡ weight r * weight s + weight r + weight s + 1 = omega arith in
    let rb : weight r ≤ 127 = omega (arith, bound, wide) in
    let sb : weight s ≤ 127 = omega (arith, bound, wide) in
    placed_as c.in_ok-front-in-And.front r c.in_ok-front-in-And.ensures.ok ordered.0 rb

pub both-requires-clause-second_placed : goal.both-requires-clause-second_placed
both-requires-clause-second_placed t c =
    let r : Written Boolean = written_form c.deref-in-And.result.now in
    let s : Written Boolean = written_form c.deref-in-And-2.result.now in
    let e : written_form c.args.sequence.now ≡ and r s =
    ap written_form c.in-And.is ∙ ap (λ q. and (written_form q) (written_form c.in-And.second.value))
    (sym c.deref-in-And.ensures) ∙ ap (λ q. and r (written_form q)) (sym c.deref-in-And-2.ensures) in
    let takes : IsTrue (weighs (and r s)) =
    ap weighs (sym e) ∙ sym c.is_weighty.ensures ∙ c.if-not-is_weighty.false in
    let ordered : IsOrdered (and r s) = subst IsOrdered e c.requires.ordered in
    let bound : weight (and r s) ≤ 127 = subst (λ w. weight w ≤ 127) e c.requires.bound in
    let wide : (weight r + 1) * (weight s + 1) ≡ weight r * weight s + weight r + weight s + 1 = omega arith in
    let rb : weight r ≤ 127 = omega (arith, bound, wide) in
    let sb : weight s ≤ 127 = omega (arith, bound, wide) in
    placed_as c.in_ok-rest-in-And.rest s c.in_ok-rest-in-And.ensures.ok ordered.1 sb

pub both-requires-clause-few : goal.both-requires-clause-few
both-requires-clause-few t c =
    let r : Written Boolean = written_form c.deref-in-And.result.now in
    let s : Written Boolean = written_form c.deref-in-And-2.result.now in
    let e : written_form c.args.sequence.now ≡ and r s =
    ap written_form c.in-And.is ∙ ap (λ q. and (written_form q) (written_form c.in-And.second.value))
    (sym c.deref-in-And.ensures) ∙ ap (λ q. and r (written_form q)) (sym c.deref-in-And-2.ensures) in
    let takes : IsTrue (weighs (and r s)) =
    ap weighs (sym e) ∙ sym c.is_weighty.ensures ∙ c.if-not-is_weighty.false in
    let ordered : IsOrdered (and r s) = subst IsOrdered e c.requires.ordered in
    let bound : weight (and r s) ≤ 127 = subst (λ w. weight w ≤ 127) e c.requires.bound in
    let long = length_as c.in_ok-front-in-And.front r c.in_ok-front-in-And.ensures.ok ordered.0 in
    let more = length_as c.in_ok-rest-in-And.rest s c.in_ok-rest-in-And.ensures.ok ordered.1 in
    let n : ℕ = length c.in_ok-front-in-And.front.rows in
    let m : ℕ = length c.in_ok-rest-in-And.rest.rows in
    let wide : (weight r + 1) * (weight s + 1) ≡ weight r * weight s + weight r + weight s + 1 = omega arith in
    let x : n * m ≤ weight r * m = mul-le-mul_right m long in
    let y : weight r * m ≤ weight r * weight s = mul-le-mul_left (weight r) more in
    omega (arith, bound, wide, x, y, long, more)

pub returns-in_ok-rest-in-And-clause-ok : goal.returns-in_ok-rest-in-And-clause-ok
returns-in_ok-rest-in-And-clause-ok t c =
    let r : Written Boolean = written_form c.deref-in-And.result.now in
    let s : Written Boolean = written_form c.deref-in-And-2.result.now in
    let e : written_form c.args.sequence.now ≡ and r s =
    ap written_form c.in-And.is ∙ ap (λ q. and (written_form q) (written_form c.in-And.second.value))
    (sym c.deref-in-And.ensures) ∙ ap (λ q. and r (written_form q)) (sym c.deref-in-And-2.ensures) in
    let takes : IsTrue (weighs (and r s)) =
    ap weighs (sym e) ∙ sym c.is_weighty.ensures ∙ c.if-not-is_weighty.false in
    let ordered : IsOrdered (and r s) = subst IsOrdered e c.requires.ordered in
    let bound : weight (and r s) ≤ 127 = subst (λ w. weight w ≤ 127) e c.requires.bound in
    let same : both_data c.in_ok-front-in-And.front c.in_ok-rest-in-And.rest
    ≡ listed_for (written_form c.args.sequence.now) =
    ap (λ x. both_data x c.in_ok-rest-in-And.rest) c.in_ok-front-in-And.ensures.ok
    ∙ ap (both_data (listed_for r)) c.in_ok-rest-in-And.ensures.ok
    ∙ sym (made-and r s takes) ∙ sym (told (written_form c.args.sequence.now) (and r s) e) in
    ok_same c.both.result _ _ c.both.ensures.ok same

pub returns-in_ok-rest-in-And-clause-err : goal.returns-in_ok-rest-in-And-clause-err
returns-in_ok-rest-in-And-clause-err t c =
    let r : Written Boolean = written_form c.deref-in-And.result.now in
    let s : Written Boolean = written_form c.deref-in-And-2.result.now in
    let e : written_form c.args.sequence.now ≡ and r s =
    ap written_form c.in-And.is ∙ ap (λ q. and (written_form q) (written_form c.in-And.second.value))
    (sym c.deref-in-And.ensures) ∙ ap (λ q. and r (written_form q)) (sym c.deref-in-And-2.ensures) in
    let takes : IsTrue (weighs (and r s)) =
    ap weighs (sym e) ∙ sym c.is_weighty.ensures ∙ c.if-not-is_weighty.false in
    let ordered : IsOrdered (and r s) = subst IsOrdered e c.requires.ordered in
    let bound : weight (and r s) ≤ 127 = subst (λ w. weight w ≤ 127) e c.requires.bound in
    let same : both_data c.in_ok-front-in-And.front c.in_ok-rest-in-And.rest
    ≡ listed_for (written_form c.args.sequence.now) =
    ap (λ x. both_data x c.in_ok-rest-in-And.rest) c.in_ok-front-in-And.ensures.ok
    ∙ ap (both_data (listed_for r)) c.in_ok-rest-in-And.ensures.ok
    ∙ sym (made-and r s takes) ∙ sym (told (written_form c.args.sequence.now) (and r s) e) in
    err_more c.both.result _ _ c.both.ensures.err
    (own_as (written_form c.args.sequence.now) (and r s) _ e same
    (own-within (and r s) (max (largest_place r) (largest_place s)) takes))

pub returns-in_err-table-in-Lead-clause-err : goal.returns-in_err-table-in-Lead-clause-err
returns-in_err-table-in-Lead-clause-err t c =
    let r : Written Boolean = written_form c.deref-in-Lead.result.now in
    let e : written_form c.args.sequence.now ≡ lead c.in-Lead.least c.in-Lead.most r =
    ap written_form c.in-Lead.is ∙ ap (λ q. lead c.in-Lead.least c.in-Lead.most (written_form q))
    (sym c.deref-in-Lead.ensures) in
    let takes : IsTrue (weighs (lead c.in-Lead.least c.in-Lead.most r)) =
    ap weighs (sym e) ∙ sym c.is_weighty.ensures ∙ c.if-not-is_weighty.false in
    let ordered : IsOrdered (lead c.in-Lead.least c.in-Lead.most r) = subst IsOrdered e c.requires.ordered in
    let bound : weight (lead c.in-Lead.least c.in-Lead.most r) ≤ 127 = subst (λ w. weight w ≤ 127) e c.requires.bound in
    long_on _ _ _ _ c.from_residual-in_err-table-in-Lead.ensures.1 c.in_err-table-in-Lead.ensures.err
    (most_as (written_form c.args.sequence.now) (lead c.in-Lead.least c.in-Lead.most r) _ e
    (part-within (lead c.in-Lead.least c.in-Lead.most r) (largest_place r) (largest_place r) takes (omega arith)))

pub lead_in-requires-clause-placed : goal.lead_in-requires-clause-placed
lead_in-requires-clause-placed t c =
    let r : Written Boolean = written_form c.deref-in-Lead.result.now in
    let e : written_form c.args.sequence.now ≡ lead c.in-Lead.least c.in-Lead.most r =
    ap written_form c.in-Lead.is ∙ ap (λ q. lead c.in-Lead.least c.in-Lead.most (written_form q))
    (sym c.deref-in-Lead.ensures) in
    let takes : IsTrue (weighs (lead c.in-Lead.least c.in-Lead.most r)) =
    ap weighs (sym e) ∙ sym c.is_weighty.ensures ∙ c.if-not-is_weighty.false in
    let ordered : IsOrdered (lead c.in-Lead.least c.in-Lead.most r) = subst IsOrdered e c.requires.ordered in
    let bound : weight (lead c.in-Lead.least c.in-Lead.most r) ≤ 127 = subst (λ w. weight w ≤ 127) e c.requires.bound in
    let rb : weight r ≤ 127 = omega (arith, bound) in
    placed_as c.in_ok-table-in-Lead.table r c.in_ok-table-in-Lead.ensures.ok ordered.1 rb

pub lead_in-requires-clause-few : goal.lead_in-requires-clause-few
lead_in-requires-clause-few t c =
    let r : Written Boolean = written_form c.deref-in-Lead.result.now in
    let e : written_form c.args.sequence.now ≡ lead c.in-Lead.least c.in-Lead.most r =
    ap written_form c.in-Lead.is ∙ ap (λ q. lead c.in-Lead.least c.in-Lead.most (written_form q))
    (sym c.deref-in-Lead.ensures) in
    let takes : IsTrue (weighs (lead c.in-Lead.least c.in-Lead.most r)) =
    ap weighs (sym e) ∙ sym c.is_weighty.ensures ∙ c.if-not-is_weighty.false in
    let ordered : IsOrdered (lead c.in-Lead.least c.in-Lead.most r) = subst IsOrdered e c.requires.ordered in
    let bound : weight (lead c.in-Lead.least c.in-Lead.most r) ≤ 127 = subst (λ w. weight w ≤ 127) e c.requires.bound in
    let long = length_as c.in_ok-table-in-Lead.table r c.in_ok-table-in-Lead.ensures.ok ordered.1 in
    omega (arith, bound, long)

pub returns-in_ok-table-in-Lead-clause-ok : goal.returns-in_ok-table-in-Lead-clause-ok
returns-in_ok-table-in-Lead-clause-ok t c =
    let r : Written Boolean = written_form c.deref-in-Lead.result.now in
    let e : written_form c.args.sequence.now ≡ lead c.in-Lead.least c.in-Lead.most r =
    ap written_form c.in-Lead.is ∙ ap (λ q. lead c.in-Lead.least c.in-Lead.most (written_form q))
    (sym c.deref-in-Lead.ensures) in
    let takes : IsTrue (weighs (lead c.in-Lead.least c.in-Lead.most r)) =
    ap weighs (sym e) ∙ sym c.is_weighty.ensures ∙ c.if-not-is_weighty.false in
    let ordered : IsOrdered (lead c.in-Lead.least c.in-Lead.most r) = subst IsOrdered e c.requires.ordered in
    let bound : weight (lead c.in-Lead.least c.in-Lead.most r) ≤ 127 = subst (λ w. weight w ≤ 127) e c.requires.bound in
    let same : lead_in_data c.in-Lead.least c.in-Lead.most c.in_ok-table-in-Lead.table
    ≡ listed_for (written_form c.args.sequence.now) =
    ap (lead_in_data c.in-Lead.least c.in-Lead.most) c.in_ok-table-in-Lead.ensures.ok
    ∙ sym (made-lead r c.in-Lead.least c.in-Lead.most takes)
    ∙ sym (told (written_form c.args.sequence.now) (lead c.in-Lead.least c.in-Lead.most r) e) in
    ok_same c.lead_in.result _ _ c.lead_in.ensures.ok same

pub returns-in_ok-table-in-Lead-clause-err : goal.returns-in_ok-table-in-Lead-clause-err
returns-in_ok-table-in-Lead-clause-err t c =
    let r : Written Boolean = written_form c.deref-in-Lead.result.now in
    let e : written_form c.args.sequence.now ≡ lead c.in-Lead.least c.in-Lead.most r =
    ap written_form c.in-Lead.is ∙ ap (λ q. lead c.in-Lead.least c.in-Lead.most (written_form q))
    (sym c.deref-in-Lead.ensures) in
    let takes : IsTrue (weighs (lead c.in-Lead.least c.in-Lead.most r)) =
    ap weighs (sym e) ∙ sym c.is_weighty.ensures ∙ c.if-not-is_weighty.false in
    let ordered : IsOrdered (lead c.in-Lead.least c.in-Lead.most r) = subst IsOrdered e c.requires.ordered in
    let bound : weight (lead c.in-Lead.least c.in-Lead.most r) ≤ 127 = subst (λ w. weight w ≤ 127) e c.requires.bound in
    let same : lead_in_data c.in-Lead.least c.in-Lead.most c.in_ok-table-in-Lead.table
    ≡ listed_for (written_form c.args.sequence.now) =
    ap (lead_in_data c.in-Lead.least c.in-Lead.most) c.in_ok-table-in-Lead.ensures.ok
    ∙ sym (made-lead r c.in-Lead.least c.in-Lead.most takes)
    ∙ sym (told (written_form c.args.sequence.now) (lead c.in-Lead.least c.in-Lead.most r) e) in
    err_more c.lead_in.result _ _ c.lead_in.ensures.err
    (own_as (written_form c.args.sequence.now) (lead c.in-Lead.least c.in-Lead.most r) _ e same
    (own-within (lead c.in-Lead.least c.in-Lead.most r) (largest_place r) takes))

pub returns-in_err-table-in-Repeat-clause-err : goal.returns-in_err-table-in-Repeat-clause-err
returns-in_err-table-in-Repeat-clause-err t c =
    let r : Written Boolean = written_form c.deref-in-Repeat.result.now in
    let e : written_form c.args.sequence.now ≡ repeat r c.in-Repeat.least c.in-Repeat.most =
    ap written_form c.in-Repeat.is ∙ ap (λ q. repeat (written_form q) c.in-Repeat.least c.in-Repeat.most)
    (sym c.deref-in-Repeat.ensures) in
    let takes : IsTrue (weighs (repeat r c.in-Repeat.least c.in-Repeat.most)) =
    ap weighs (sym e) ∙ sym c.is_weighty.ensures ∙ c.if-not-is_weighty.false in
    let ordered : IsOrdered (repeat r c.in-Repeat.least c.in-Repeat.most) = subst IsOrdered e c.requires.ordered in
    let bound : weight (repeat r c.in-Repeat.least c.in-Repeat.most) ≤ 127 =
    subst (λ w. weight w ≤ 127) e c.requires.bound in
    long_on _ _ _ _ c.from_residual-in_err-table-in-Repeat.ensures.1 c.in_err-table-in-Repeat.ensures.err
    (most_as (written_form c.args.sequence.now) (repeat r c.in-Repeat.least c.in-Repeat.most) _ e
    (part-within (repeat r c.in-Repeat.least c.in-Repeat.most) (largest_place r) (largest_place r) takes (omega arith)))

pub table_of-requires-in-Repeat : goal.table_of-requires-in-Repeat
table_of-requires-in-Repeat t c =
    let r : Written Boolean = written_form c.deref-in-Repeat.result.now in
    let e : written_form c.args.sequence.now ≡ repeat r c.in-Repeat.least c.in-Repeat.most =
    ap written_form c.in-Repeat.is ∙ ap (λ q. repeat (written_form q) c.in-Repeat.least c.in-Repeat.most)
    (sym c.deref-in-Repeat.ensures) in
    let takes : IsTrue (weighs (repeat r c.in-Repeat.least c.in-Repeat.most)) =
    ap weighs (sym e) ∙ sym c.is_weighty.ensures ∙ c.if-not-is_weighty.false in
    let ordered : IsOrdered (repeat r c.in-Repeat.least c.in-Repeat.most) = subst IsOrdered e c.requires.ordered in
    let bound : weight (repeat r c.in-Repeat.least c.in-Repeat.most) ≤ 127 =
    subst (λ w. weight w ≤ 127) e c.requires.bound in
    let some = repeat-told r c.in-Repeat.least c.in-Repeat.most takes in
    let one_of : 1 * weight r ≤ c.in-Repeat.most * weight r = mul-le-mul_right (weight r) some in
    let rb : weight r ≤ 127 = omega (arith, bound, one_of) in
    let listed : EachBoolean (IsListed 127) (repeat r c.in-Repeat.least c.in-Repeat.most) =
    subst (EachBoolean (IsListed 127)) e c.requires.listed in
    (search (rules, the_lemmas), (ordered.1, (rb, listed)))

pub repeat-requires-clause-placed : goal.repeat-requires-clause-placed
repeat-requires-clause-placed t c =
    let r : Written Boolean = written_form c.deref-in-Repeat.result.now in
    let e : written_form c.args.sequence.now ≡ repeat r c.in-Repeat.least c.in-Repeat.most =
    ap written_form c.in-Repeat.is ∙ ap (λ q. repeat (written_form q) c.in-Repeat.least c.in-Repeat.most)
    (sym c.deref-in-Repeat.ensures) in
    let takes : IsTrue (weighs (repeat r c.in-Repeat.least c.in-Repeat.most)) =
    ap weighs (sym e) ∙ sym c.is_weighty.ensures ∙ c.if-not-is_weighty.false in
    let ordered : IsOrdered (repeat r c.in-Repeat.least c.in-Repeat.most) = subst IsOrdered e c.requires.ordered in
    let bound : weight (repeat r c.in-Repeat.least c.in-Repeat.most) ≤ 127 =
    subst (λ w. weight w ≤ 127) e c.requires.bound in
    let some = repeat-told r c.in-Repeat.least c.in-Repeat.most takes in
    let one_of : 1 * weight r ≤ c.in-Repeat.most * weight r = mul-le-mul_right (weight r) some in
    let rb : weight r ≤ 127 = omega (arith, bound, one_of) in
    placed_as c.in_ok-table-in-Repeat.table r c.in_ok-table-in-Repeat.ensures.ok ordered.1 rb

pub repeat-requires-clause-few : goal.repeat-requires-clause-few
repeat-requires-clause-few t c =
    let r : Written Boolean = written_form c.deref-in-Repeat.result.now in
    let e : written_form c.args.sequence.now ≡ repeat r c.in-Repeat.least c.in-Repeat.most =
    ap written_form c.in-Repeat.is ∙ ap (λ q. repeat (written_form q) c.in-Repeat.least c.in-Repeat.most)
    (sym c.deref-in-Repeat.ensures) in
    let takes : IsTrue (weighs (repeat r c.in-Repeat.least c.in-Repeat.most)) =
    ap weighs (sym e) ∙ sym c.is_weighty.ensures ∙ c.if-not-is_weighty.false in
    let ordered : IsOrdered (repeat r c.in-Repeat.least c.in-Repeat.most) = subst IsOrdered e c.requires.ordered in
    let bound : weight (repeat r c.in-Repeat.least c.in-Repeat.most) ≤ 127 =
    subst (λ w. weight w ≤ 127) e c.requires.bound in
    let long = length_as c.in_ok-table-in-Repeat.table r c.in_ok-table-in-Repeat.ensures.ok ordered.1 in
    let x : c.in-Repeat.most * length c.in_ok-table-in-Repeat.table.rows ≤ c.in-Repeat.most * weight r =
    mul-le-mul_left c.in-Repeat.most long in
    omega (arith, bound, x)

pub returns-in_ok-table-in-Repeat-clause-ok : goal.returns-in_ok-table-in-Repeat-clause-ok
returns-in_ok-table-in-Repeat-clause-ok t c =
    let r : Written Boolean = written_form c.deref-in-Repeat.result.now in
    let e : written_form c.args.sequence.now ≡ repeat r c.in-Repeat.least c.in-Repeat.most =
    ap written_form c.in-Repeat.is ∙ ap (λ q. repeat (written_form q) c.in-Repeat.least c.in-Repeat.most)
    (sym c.deref-in-Repeat.ensures) in
    let takes : IsTrue (weighs (repeat r c.in-Repeat.least c.in-Repeat.most)) =
    ap weighs (sym e) ∙ sym c.is_weighty.ensures ∙ c.if-not-is_weighty.false in
    let ordered : IsOrdered (repeat r c.in-Repeat.least c.in-Repeat.most) = subst IsOrdered e c.requires.ordered in
    let bound : weight (repeat r c.in-Repeat.least c.in-Repeat.most) ≤ 127 =
    subst (λ w. weight w ≤ 127) e c.requires.bound in
    let same : repeat_data c.in_ok-table-in-Repeat.table c.in-Repeat.least c.in-Repeat.most
    ≡ listed_for (written_form c.args.sequence.now) =
    ap ((λ x. repeat_data x c.in-Repeat.least c.in-Repeat.most)) c.in_ok-table-in-Repeat.ensures.ok
    ∙ sym (made-repeat r c.in-Repeat.least c.in-Repeat.most takes)
    ∙ sym (told (written_form c.args.sequence.now) (repeat r c.in-Repeat.least c.in-Repeat.most) e) in
    ok_same c.repeat.result _ _ c.repeat.ensures.ok same

pub returns-in_ok-table-in-Repeat-clause-err : goal.returns-in_ok-table-in-Repeat-clause-err
returns-in_ok-table-in-Repeat-clause-err t c =
    let r : Written Boolean = written_form c.deref-in-Repeat.result.now in
    let e : written_form c.args.sequence.now ≡ repeat r c.in-Repeat.least c.in-Repeat.most =
    ap written_form c.in-Repeat.is ∙ ap (λ q. repeat (written_form q) c.in-Repeat.least c.in-Repeat.most)
    (sym c.deref-in-Repeat.ensures) in
    let takes : IsTrue (weighs (repeat r c.in-Repeat.least c.in-Repeat.most)) =
    ap weighs (sym e) ∙ sym c.is_weighty.ensures ∙ c.if-not-is_weighty.false in
    let ordered : IsOrdered (repeat r c.in-Repeat.least c.in-Repeat.most) = subst IsOrdered e c.requires.ordered in
    let bound : weight (repeat r c.in-Repeat.least c.in-Repeat.most) ≤ 127 =
    subst (λ w. weight w ≤ 127) e c.requires.bound in
    let same : repeat_data c.in_ok-table-in-Repeat.table c.in-Repeat.least c.in-Repeat.most
    ≡ listed_for (written_form c.args.sequence.now) =
    ap ((λ x. repeat_data x c.in-Repeat.least c.in-Repeat.most)) c.in_ok-table-in-Repeat.ensures.ok
    ∙ sym (made-repeat r c.in-Repeat.least c.in-Repeat.most takes)
    ∙ sym (told (written_form c.args.sequence.now) (repeat r c.in-Repeat.least c.in-Repeat.most) e) in
    err_more c.repeat.result _ _ c.repeat.ensures.err
    (own_as (written_form c.args.sequence.now) (repeat r c.in-Repeat.least c.in-Repeat.most) _ e same
    (own-within (repeat r c.in-Repeat.least c.in-Repeat.most) (largest_place r) takes))

pub returns-in_err-table-in-Throughout-clause-err : goal.returns-in_err-table-in-Throughout-clause-err
returns-in_err-table-in-Throughout-clause-err t c =
    let r : Written Boolean = written_form c.deref-in-Throughout.result.now in
    let e : written_form c.args.sequence.now ≡ throughout c.in-Throughout.boolean r =
    ap written_form c.in-Throughout.is ∙ ap (λ q. throughout c.in-Throughout.boolean (written_form q))
    (sym c.deref-in-Throughout.ensures) in
    let takes : IsTrue (weighs (throughout c.in-Throughout.boolean r)) =
    ap weighs (sym e) ∙ sym c.is_weighty.ensures ∙ c.if-not-is_weighty.false in
    let ordered : IsOrdered (throughout c.in-Throughout.boolean r) = subst IsOrdered e c.requires.ordered in
    let bound : weight (throughout c.in-Throughout.boolean r) ≤ 127 = subst (λ w. weight w ≤ 127) e c.requires.bound in
    long_on _ _ _ _ c.from_residual-in_err-table-in-Throughout.ensures.1 c.in_err-table-in-Throughout.ensures.err
    (most_as (written_form c.args.sequence.now) (throughout c.in-Throughout.boolean r) _ e
    (part-within (throughout c.in-Throughout.boolean r) (largest_place r) (largest_place r) takes (omega arith)))

pub during-requires : goal.during-requires
during-requires t c =
    let r : Written Boolean = written_form c.deref-in-Throughout.result.now in
    let e : written_form c.args.sequence.now ≡ throughout c.in-Throughout.boolean r =
    ap written_form c.in-Throughout.is ∙ ap (λ q. throughout c.in-Throughout.boolean (written_form q))
    (sym c.deref-in-Throughout.ensures) in
    let takes : IsTrue (weighs (throughout c.in-Throughout.boolean r)) =
    ap weighs (sym e) ∙ sym c.is_weighty.ensures ∙ c.if-not-is_weighty.false in
    let ordered : IsOrdered (throughout c.in-Throughout.boolean r) = subst IsOrdered e c.requires.ordered in
    let bound : weight (throughout c.in-Throughout.boolean r) ≤ 127 = subst (λ w. weight w ≤ 127) e c.requires.bound in
    let rb : weight r ≤ 127 = omega (arith, bound) in
    placed_as c.in_ok-table-in-Throughout.table r c.in_ok-table-in-Throughout.ensures.ok ordered rb

pub returns-in_ok-table-in-Throughout-clause-ok : goal.returns-in_ok-table-in-Throughout-clause-ok
returns-in_ok-table-in-Throughout-clause-ok t c =
    let r : Written Boolean = written_form c.deref-in-Throughout.result.now in
    let e : written_form c.args.sequence.now ≡ throughout c.in-Throughout.boolean r =
    ap written_form c.in-Throughout.is ∙ ap (λ q. throughout c.in-Throughout.boolean (written_form q))
    (sym c.deref-in-Throughout.ensures) in
    let takes : IsTrue (weighs (throughout c.in-Throughout.boolean r)) =
    ap weighs (sym e) ∙ sym c.is_weighty.ensures ∙ c.if-not-is_weighty.false in
    let ordered : IsOrdered (throughout c.in-Throughout.boolean r) = subst IsOrdered e c.requires.ordered in
    let bound : weight (throughout c.in-Throughout.boolean r) ≤ 127 = subst (λ w. weight w ≤ 127) e c.requires.bound in
    let same : during_data c.atom_number-in-Throughout.result c.in_ok-table-in-Throughout.table
    ≡ listed_for (written_form c.args.sequence.now) =
    ap (λ o. during_data o c.in_ok-table-in-Throughout.table) c.atom_number-in-Throughout.ensures
    ∙ ap (during_data (atom_of c.in-Throughout.boolean)) c.in_ok-table-in-Throughout.ensures.ok
    ∙ sym (made-throughout c.in-Throughout.boolean r takes)
    ∙ sym (told (written_form c.args.sequence.now) (throughout c.in-Throughout.boolean r) e) in
    ok_same c.during.result _ _ c.during.ensures.ok same

pub returns-in_ok-table-in-Throughout-clause-err : goal.returns-in_ok-table-in-Throughout-clause-err
returns-in_ok-table-in-Throughout-clause-err t c =
    let r : Written Boolean = written_form c.deref-in-Throughout.result.now in
    let e : written_form c.args.sequence.now ≡ throughout c.in-Throughout.boolean r =
    ap written_form c.in-Throughout.is ∙ ap (λ q. throughout c.in-Throughout.boolean (written_form q))
    (sym c.deref-in-Throughout.ensures) in
    let takes : IsTrue (weighs (throughout c.in-Throughout.boolean r)) =
    ap weighs (sym e) ∙ sym c.is_weighty.ensures ∙ c.if-not-is_weighty.false in
    let ordered : IsOrdered (throughout c.in-Throughout.boolean r) = subst IsOrdered e c.requires.ordered in
    let bound : weight (throughout c.in-Throughout.boolean r) ≤ 127 = subst (λ w. weight w ≤ 127) e c.requires.bound in
    let same : during_data c.atom_number-in-Throughout.result c.in_ok-table-in-Throughout.table
    ≡ listed_for (written_form c.args.sequence.now) =
    ap (λ o. during_data o c.in_ok-table-in-Throughout.table) c.atom_number-in-Throughout.ensures
    ∙ ap (during_data (atom_of c.in-Throughout.boolean)) c.in_ok-table-in-Throughout.ensures.ok
    ∙ sym (made-throughout c.in-Throughout.boolean r takes)
    ∙ sym (told (written_form c.args.sequence.now) (throughout c.in-Throughout.boolean r) e) in
    err_more c.during.result _ _ c.during.ensures.err
    (own_as (written_form c.args.sequence.now) (throughout c.in-Throughout.boolean r) _ e same
    (own-within (throughout c.in-Throughout.boolean r) (largest_place r) takes))

pub returns-in_ok-rest-in-Delay-clause-short : goal.returns-in_ok-rest-in-Delay-clause-short
returns-in_ok-rest-in-Delay-clause-short t c =
    let r : Written Boolean = written_form c.deref.result.now in
    let s : Written Boolean = written_form c.deref-in-Delay.result.now in
    let e : written_form c.args.sequence.now ≡ delay r c.in-Delay.least c.in-Delay.most s =
    ap written_form c.in-Delay.is
    ∙ ap (λ q. delay (written_form q) c.in-Delay.least c.in-Delay.most (written_form c.in-Delay.second.value))
    (sym c.deref.ensures) ∙ ap (λ q. delay r c.in-Delay.least c.in-Delay.most (written_form q))
    (sym c.deref-in-Delay.ensures) in
    let takes : IsTrue (weighs (delay r c.in-Delay.least c.in-Delay.most s)) =
    ap weighs (sym e) ∙ sym c.is_weighty.ensures ∙ c.if-not-is_weighty.false in
    let ordered : IsOrdered (delay r c.in-Delay.least c.in-Delay.most s) = subst IsOrdered e c.requires.ordered in
    let bound : weight (delay r c.in-Delay.least c.in-Delay.most s) ≤ 127 =
    subst (λ w. weight w ≤ 127) e c.requires.bound in
    let same : apart_data c.in_ok-front-in-Delay.front c.in_ok-rest-in-Delay.rest
    c.in-Delay.least c.in-Delay.most ≡ listed_for (written_form c.args.sequence.now) =
    ap (λ x. apart_data x c.in_ok-rest-in-Delay.rest c.in-Delay.least
    c.in-Delay.most) c.in_ok-front-in-Delay.ensures.ok
    ∙ ap (λ x. apart_data (listed_for r) x c.in-Delay.least c.in-Delay.most)
    c.in_ok-rest-in-Delay.ensures.ok
    ∙ sym (made-delay r s c.in-Delay.least c.in-Delay.most ordered takes)
    ∙ sym (told (written_form c.args.sequence.now) (delay r c.in-Delay.least c.in-Delay.most s) e) in
    short_on c.apart.result _ (written_form c.args.sequence.now)
    (delay r c.in-Delay.least c.in-Delay.most s) e c.apart.ensures.ok c.apart.ensures.short same
    (λ own. all-within (delay r c.in-Delay.least c.in-Delay.most s) (max (largest_place r) (largest_place s)) 65535
    (omega (arith, c.in_ok-front-in-Delay.ensures.short, c.in_ok-rest-in-Delay.ensures.short)) own)

pub returns-in_ok-rest-in-Or-clause-short : goal.returns-in_ok-rest-in-Or-clause-short
returns-in_ok-rest-in-Or-clause-short t c =
    let r : Written Boolean = written_form c.deref-in-Or.result.now in
    let s : Written Boolean = written_form c.deref-in-Or-2.result.now in
    let e : written_form c.args.sequence.now ≡ or r s =
    ap written_form c.in-Or.is ∙ ap (λ q. or (written_form q) (written_form c.in-Or.second.value))
    (sym c.deref-in-Or.ensures) ∙ ap (λ q. or r (written_form q)) (sym c.deref-in-Or-2.ensures) in
    let takes : IsTrue (weighs (or r s)) =
    ap weighs (sym e) ∙ sym c.is_weighty.ensures ∙ c.if-not-is_weighty.false in
    let ordered : IsOrdered (or r s) = subst IsOrdered e c.requires.ordered in
    let bound : weight (or r s) ≤ 127 = subst (λ w. weight w ≤ 127) e c.requires.bound in
    let same : either_data c.in_ok-front-in-Or.front c.in_ok-rest-in-Or.rest
    ≡ listed_for (written_form c.args.sequence.now) =
    ap (λ x. either_data x c.in_ok-rest-in-Or.rest) c.in_ok-front-in-Or.ensures.ok
    ∙ ap (either_data (listed_for r)) c.in_ok-rest-in-Or.ensures.ok
    ∙ sym (made-or r s takes) ∙ sym (told (written_form c.args.sequence.now) (or r s) e) in
    short_on c.either.result _ (written_form c.args.sequence.now)
    (or r s) e c.either.ensures.ok c.either.ensures.short same
    (λ own. all-within (or r s) (max (largest_place r) (largest_place s)) 65535
    (omega (arith, c.in_ok-front-in-Or.ensures.short, c.in_ok-rest-in-Or.ensures.short)) own)

pub returns-in_ok-rest-in-And-clause-short : goal.returns-in_ok-rest-in-And-clause-short
returns-in_ok-rest-in-And-clause-short t c =
    let r : Written Boolean = written_form c.deref-in-And.result.now in
    let s : Written Boolean = written_form c.deref-in-And-2.result.now in
    let e : written_form c.args.sequence.now ≡ and r s =
    ap written_form c.in-And.is ∙ ap (λ q. and (written_form q) (written_form c.in-And.second.value))
    (sym c.deref-in-And.ensures) ∙ ap (λ q. and r (written_form q)) (sym c.deref-in-And-2.ensures) in
    let takes : IsTrue (weighs (and r s)) =
    ap weighs (sym e) ∙ sym c.is_weighty.ensures ∙ c.if-not-is_weighty.false in
    let ordered : IsOrdered (and r s) = subst IsOrdered e c.requires.ordered in
    let bound : weight (and r s) ≤ 127 = subst (λ w. weight w ≤ 127) e c.requires.bound in
    let same : both_data c.in_ok-front-in-And.front c.in_ok-rest-in-And.rest
    ≡ listed_for (written_form c.args.sequence.now) =
    ap (λ x. both_data x c.in_ok-rest-in-And.rest) c.in_ok-front-in-And.ensures.ok
    ∙ ap (both_data (listed_for r)) c.in_ok-rest-in-And.ensures.ok
    ∙ sym (made-and r s takes) ∙ sym (told (written_form c.args.sequence.now) (and r s) e) in
    short_on c.both.result _ (written_form c.args.sequence.now) (and r s) e c.both.ensures.ok c.both.ensures.short same
    (λ own. all-within (and r s) (max (largest_place r) (largest_place s)) 65535
    (omega (arith, c.in_ok-front-in-And.ensures.short, c.in_ok-rest-in-And.ensures.short)) own)

pub returns-in_ok-table-in-Lead-clause-short : goal.returns-in_ok-table-in-Lead-clause-short
returns-in_ok-table-in-Lead-clause-short t c =
    let r : Written Boolean = written_form c.deref-in-Lead.result.now in
    let e : written_form c.args.sequence.now ≡ lead c.in-Lead.least c.in-Lead.most r =
    ap written_form c.in-Lead.is ∙ ap (λ q. lead c.in-Lead.least c.in-Lead.most (written_form q))
    (sym c.deref-in-Lead.ensures) in
    let takes : IsTrue (weighs (lead c.in-Lead.least c.in-Lead.most r)) =
    ap weighs (sym e) ∙ sym c.is_weighty.ensures ∙ c.if-not-is_weighty.false in
    let ordered : IsOrdered (lead c.in-Lead.least c.in-Lead.most r) = subst IsOrdered e c.requires.ordered in
    let bound : weight (lead c.in-Lead.least c.in-Lead.most r) ≤ 127 = subst (λ w. weight w ≤ 127) e c.requires.bound in
    let same : lead_in_data c.in-Lead.least c.in-Lead.most c.in_ok-table-in-Lead.table
    ≡ listed_for (written_form c.args.sequence.now) =
    ap (lead_in_data c.in-Lead.least c.in-Lead.most) c.in_ok-table-in-Lead.ensures.ok
    ∙ sym (made-lead r c.in-Lead.least c.in-Lead.most takes)
    ∙ sym (told (written_form c.args.sequence.now) (lead c.in-Lead.least c.in-Lead.most r) e) in
    short_on c.lead_in.result _ (written_form c.args.sequence.now)
    (lead c.in-Lead.least c.in-Lead.most r) e c.lead_in.ensures.ok c.lead_in.ensures.short same
    (λ own. all-within (lead c.in-Lead.least c.in-Lead.most r) (largest_place r) 65535
    (omega (arith, c.in_ok-table-in-Lead.ensures.short)) own)

pub returns-in_ok-table-in-Repeat-clause-short : goal.returns-in_ok-table-in-Repeat-clause-short
returns-in_ok-table-in-Repeat-clause-short t c =
    let r : Written Boolean = written_form c.deref-in-Repeat.result.now in
    let e : written_form c.args.sequence.now ≡ repeat r c.in-Repeat.least c.in-Repeat.most =
    ap written_form c.in-Repeat.is ∙ ap (λ q. repeat (written_form q) c.in-Repeat.least c.in-Repeat.most)
    (sym c.deref-in-Repeat.ensures) in
    let takes : IsTrue (weighs (repeat r c.in-Repeat.least c.in-Repeat.most)) =
    ap weighs (sym e) ∙ sym c.is_weighty.ensures ∙ c.if-not-is_weighty.false in
    let ordered : IsOrdered (repeat r c.in-Repeat.least c.in-Repeat.most) = subst IsOrdered e c.requires.ordered in
    let bound : weight (repeat r c.in-Repeat.least c.in-Repeat.most) ≤ 127 =
    subst (λ w. weight w ≤ 127) e c.requires.bound in
    let same : repeat_data c.in_ok-table-in-Repeat.table c.in-Repeat.least c.in-Repeat.most
    ≡ listed_for (written_form c.args.sequence.now) =
    ap ((λ x. repeat_data x c.in-Repeat.least c.in-Repeat.most)) c.in_ok-table-in-Repeat.ensures.ok
    ∙ sym (made-repeat r c.in-Repeat.least c.in-Repeat.most takes)
    ∙ sym (told (written_form c.args.sequence.now) (repeat r c.in-Repeat.least c.in-Repeat.most) e) in
    short_on c.repeat.result _ (written_form c.args.sequence.now)
    (repeat r c.in-Repeat.least c.in-Repeat.most) e c.repeat.ensures.ok c.repeat.ensures.short same
    (λ own. all-within (repeat r c.in-Repeat.least c.in-Repeat.most) (largest_place r) 65535
    (omega (arith, c.in_ok-table-in-Repeat.ensures.short)) own)

pub returns-in_ok-table-in-Throughout-clause-short : goal.returns-in_ok-table-in-Throughout-clause-short
returns-in_ok-table-in-Throughout-clause-short t c =
    let r : Written Boolean = written_form c.deref-in-Throughout.result.now in
    let e : written_form c.args.sequence.now ≡ throughout c.in-Throughout.boolean r =
    ap written_form c.in-Throughout.is ∙ ap (λ q. throughout c.in-Throughout.boolean (written_form q))
    (sym c.deref-in-Throughout.ensures) in
    let takes : IsTrue (weighs (throughout c.in-Throughout.boolean r)) =
    ap weighs (sym e) ∙ sym c.is_weighty.ensures ∙ c.if-not-is_weighty.false in
    let ordered : IsOrdered (throughout c.in-Throughout.boolean r) = subst IsOrdered e c.requires.ordered in
    let bound : weight (throughout c.in-Throughout.boolean r) ≤ 127 = subst (λ w. weight w ≤ 127) e c.requires.bound in
    let same : during_data c.atom_number-in-Throughout.result c.in_ok-table-in-Throughout.table
    ≡ listed_for (written_form c.args.sequence.now) =
    ap (λ o. during_data o c.in_ok-table-in-Throughout.table) c.atom_number-in-Throughout.ensures
    ∙ ap (during_data (atom_of c.in-Throughout.boolean)) c.in_ok-table-in-Throughout.ensures.ok
    ∙ sym (made-throughout c.in-Throughout.boolean r takes)
    ∙ sym (told (written_form c.args.sequence.now) (throughout c.in-Throughout.boolean r) e) in
    short_on c.during.result _ (written_form c.args.sequence.now)
    (throughout c.in-Throughout.boolean r) e c.during.ensures.ok c.during.ensures.short same
    (λ own. all-within (throughout c.in-Throughout.boolean r) (largest_place r) 65535
    (omega (arith, c.in_ok-table-in-Throughout.ensures.short)) own)

pub returns-in_err-front-in-Intersect-clause-err : goal.returns-in_err-front-in-Intersect-clause-err
returns-in_err-front-in-Intersect-clause-err t c =
    let r : Written Boolean = written_form c.deref-in-Intersect.result.now in
    let s : Written Boolean = written_form c.in-Intersect.second.value in
    let e : written_form c.args.sequence.now ≡ intersect r s =
    ap written_form c.in-Intersect.is ∙ ap (λ q. intersect (written_form q) s) (sym c.deref-in-Intersect.ensures) in
    let takes : IsTrue (weighs (intersect r s)) =
    ap weighs (sym e) ∙ sym c.is_weighty.ensures ∙ c.if-not-is_weighty.false in
    let ordered : IsOrdered (intersect r s) = subst IsOrdered e c.requires.ordered in
    let bound : weight (intersect r s) ≤ 127 = subst (λ w. weight w ≤ 127) e c.requires.bound in
    long_on _ _ _ _ c.from_residual-in_err-front-in-Intersect.ensures.1 c.in_err-front-in-Intersect.ensures.err
    (most_as (written_form c.args.sequence.now) (intersect r s) _ e
    (part-within (intersect r s) (max (largest_place r) (largest_place s)) (largest_place r) takes (omega arith)))

pub returns-in_err-rest-in-Intersect-clause-err : goal.returns-in_err-rest-in-Intersect-clause-err
returns-in_err-rest-in-Intersect-clause-err t c =
    let r : Written Boolean = written_form c.deref-in-Intersect.result.now in
    let s : Written Boolean = written_form c.deref-in-Intersect-2.result.now in
    let e : written_form c.args.sequence.now ≡ intersect r s =
    ap written_form c.in-Intersect.is ∙ ap (λ q. intersect (written_form q) (written_form c.in-Intersect.second.value))
    (sym c.deref-in-Intersect.ensures) ∙ ap (λ q. intersect r (written_form q)) (sym c.deref-in-Intersect-2.ensures) in
    let takes : IsTrue (weighs (intersect r s)) =
    ap weighs (sym e) ∙ sym c.is_weighty.ensures ∙ c.if-not-is_weighty.false in
    let ordered : IsOrdered (intersect r s) = subst IsOrdered e c.requires.ordered in
    let bound : weight (intersect r s) ≤ 127 = subst (λ w. weight w ≤ 127) e c.requires.bound in
    long_on _ _ _ _ c.from_residual-in_err-rest-in-Intersect.ensures.1 c.in_err-rest-in-Intersect.ensures.err
    (most_as (written_form c.args.sequence.now) (intersect r s) _ e
    (part-within (intersect r s) (max (largest_place r) (largest_place s)) (largest_place s) takes (omega arith)))

pub pair-requires-clause-first_placed : goal.pair-requires-clause-first_placed
pair-requires-clause-first_placed t c =
    let r : Written Boolean = written_form c.deref-in-Intersect.result.now in
    let s : Written Boolean = written_form c.deref-in-Intersect-2.result.now in
    let e : written_form c.args.sequence.now ≡ intersect r s =
    ap written_form c.in-Intersect.is ∙ ap (λ q. intersect (written_form q) (written_form c.in-Intersect.second.value))
    (sym c.deref-in-Intersect.ensures) ∙ ap (λ q. intersect r (written_form q)) (sym c.deref-in-Intersect-2.ensures) in
    let takes : IsTrue (weighs (intersect r s)) =
    ap weighs (sym e) ∙ sym c.is_weighty.ensures ∙ c.if-not-is_weighty.false in
    let ordered : IsOrdered (intersect r s) = subst IsOrdered e c.requires.ordered in
    let bound : weight (intersect r s) ≤ 127 = subst (λ w. weight w ≤ 127) e c.requires.bound in
    let sides = sides-light r s takes bound in
    let rb : weight r ≤ 127 = sides.0 in
    let sb : weight s ≤ 127 = sides.1 in
    placed_as c.in_ok-front-in-Intersect.front r c.in_ok-front-in-Intersect.ensures.ok ordered.0 rb

pub pair-requires-clause-second_placed : goal.pair-requires-clause-second_placed
pair-requires-clause-second_placed t c =
    let r : Written Boolean = written_form c.deref-in-Intersect.result.now in
    let s : Written Boolean = written_form c.deref-in-Intersect-2.result.now in
    let e : written_form c.args.sequence.now ≡ intersect r s =
    ap written_form c.in-Intersect.is ∙ ap (λ q. intersect (written_form q) (written_form c.in-Intersect.second.value))
    (sym c.deref-in-Intersect.ensures) ∙ ap (λ q. intersect r (written_form q)) (sym c.deref-in-Intersect-2.ensures) in
    let takes : IsTrue (weighs (intersect r s)) =
    ap weighs (sym e) ∙ sym c.is_weighty.ensures ∙ c.if-not-is_weighty.false in
    let ordered : IsOrdered (intersect r s) = subst IsOrdered e c.requires.ordered in
    let bound : weight (intersect r s) ≤ 127 = subst (λ w. weight w ≤ 127) e c.requires.bound in
    let sides = sides-light r s takes bound in
    let rb : weight r ≤ 127 = sides.0 in
    let sb : weight s ≤ 127 = sides.1 in
    placed_as c.in_ok-rest-in-Intersect.rest s c.in_ok-rest-in-Intersect.ensures.ok ordered.1 sb

pub pair-requires-clause-few : goal.pair-requires-clause-few
pair-requires-clause-few t c =
    let r : Written Boolean = written_form c.deref-in-Intersect.result.now in
    let s : Written Boolean = written_form c.deref-in-Intersect-2.result.now in
    let e : written_form c.args.sequence.now ≡ intersect r s =
    ap written_form c.in-Intersect.is ∙ ap (λ q. intersect (written_form q) (written_form c.in-Intersect.second.value))
    (sym c.deref-in-Intersect.ensures) ∙ ap (λ q. intersect r (written_form q)) (sym c.deref-in-Intersect-2.ensures) in
    let takes : IsTrue (weighs (intersect r s)) =
    ap weighs (sym e) ∙ sym c.is_weighty.ensures ∙ c.if-not-is_weighty.false in
    let ordered : IsOrdered (intersect r s) = subst IsOrdered e c.requires.ordered in
    let bound : weight (intersect r s) ≤ 127 = subst (λ w. weight w ≤ 127) e c.requires.bound in
    let long = length_as c.in_ok-front-in-Intersect.front r c.in_ok-front-in-Intersect.ensures.ok ordered.0 in
    let more = length_as c.in_ok-rest-in-Intersect.rest s c.in_ok-rest-in-Intersect.ensures.ok ordered.1 in
    let n : ℕ = length c.in_ok-front-in-Intersect.front.rows in
    let m : ℕ = length c.in_ok-rest-in-Intersect.rest.rows in
    let x : n * m ≤ weight r * m = mul-le-mul_right m long in
    let y : weight r * m ≤ weight r * weight s = mul-le-mul_left (weight r) more in
    omega (arith, bound, x, y)

pub returns-in_ok-rest-in-Intersect-clause-ok : goal.returns-in_ok-rest-in-Intersect-clause-ok
returns-in_ok-rest-in-Intersect-clause-ok t c =
    let r : Written Boolean = written_form c.deref-in-Intersect.result.now in
    let s : Written Boolean = written_form c.deref-in-Intersect-2.result.now in
    let e : written_form c.args.sequence.now ≡ intersect r s =
    ap written_form c.in-Intersect.is ∙ ap (λ q. intersect (written_form q) (written_form c.in-Intersect.second.value))
    (sym c.deref-in-Intersect.ensures) ∙ ap (λ q. intersect r (written_form q)) (sym c.deref-in-Intersect-2.ensures) in
    let takes : IsTrue (weighs (intersect r s)) =
    ap weighs (sym e) ∙ sym c.is_weighty.ensures ∙ c.if-not-is_weighty.false in
    let ordered : IsOrdered (intersect r s) = subst IsOrdered e c.requires.ordered in
    let bound : weight (intersect r s) ≤ 127 = subst (λ w. weight w ≤ 127) e c.requires.bound in
    let same : pair_data c.in_ok-front-in-Intersect.front c.in_ok-rest-in-Intersect.rest
    ≡ listed_for (written_form c.args.sequence.now) =
    ap (λ x. pair_data x c.in_ok-rest-in-Intersect.rest) c.in_ok-front-in-Intersect.ensures.ok
    ∙ ap (pair_data (listed_for r)) c.in_ok-rest-in-Intersect.ensures.ok
    ∙ sym (made-intersect r s takes) ∙ sym (told (written_form c.args.sequence.now) (intersect r s) e) in
    ok_same c.pair.result _ _ c.pair.ensures.ok same

pub returns-in_ok-rest-in-Intersect-clause-err : goal.returns-in_ok-rest-in-Intersect-clause-err
returns-in_ok-rest-in-Intersect-clause-err t c =
    let r : Written Boolean = written_form c.deref-in-Intersect.result.now in
    let s : Written Boolean = written_form c.deref-in-Intersect-2.result.now in
    let e : written_form c.args.sequence.now ≡ intersect r s =
    ap written_form c.in-Intersect.is ∙ ap (λ q. intersect (written_form q) (written_form c.in-Intersect.second.value))
    (sym c.deref-in-Intersect.ensures) ∙ ap (λ q. intersect r (written_form q)) (sym c.deref-in-Intersect-2.ensures) in
    let takes : IsTrue (weighs (intersect r s)) =
    ap weighs (sym e) ∙ sym c.is_weighty.ensures ∙ c.if-not-is_weighty.false in
    let ordered : IsOrdered (intersect r s) = subst IsOrdered e c.requires.ordered in
    let bound : weight (intersect r s) ≤ 127 = subst (λ w. weight w ≤ 127) e c.requires.bound in
    let same : pair_data c.in_ok-front-in-Intersect.front c.in_ok-rest-in-Intersect.rest
    ≡ listed_for (written_form c.args.sequence.now) =
    ap (λ x. pair_data x c.in_ok-rest-in-Intersect.rest) c.in_ok-front-in-Intersect.ensures.ok
    ∙ ap (pair_data (listed_for r)) c.in_ok-rest-in-Intersect.ensures.ok
    ∙ sym (made-intersect r s takes) ∙ sym (told (written_form c.args.sequence.now) (intersect r s) e) in
    err_more c.pair.result _ _ c.pair.ensures.err
    (own_as (written_form c.args.sequence.now) (intersect r s) _ e same
    (own-within (intersect r s) (max (largest_place r) (largest_place s)) takes))

pub returns-in_ok-rest-in-Intersect-clause-short : goal.returns-in_ok-rest-in-Intersect-clause-short
returns-in_ok-rest-in-Intersect-clause-short t c =
    let r : Written Boolean = written_form c.deref-in-Intersect.result.now in
    let s : Written Boolean = written_form c.deref-in-Intersect-2.result.now in
    let e : written_form c.args.sequence.now ≡ intersect r s =
    ap written_form c.in-Intersect.is ∙ ap (λ q. intersect (written_form q) (written_form c.in-Intersect.second.value))
    (sym c.deref-in-Intersect.ensures) ∙ ap (λ q. intersect r (written_form q)) (sym c.deref-in-Intersect-2.ensures) in
    let takes : IsTrue (weighs (intersect r s)) =
    ap weighs (sym e) ∙ sym c.is_weighty.ensures ∙ c.if-not-is_weighty.false in
    let ordered : IsOrdered (intersect r s) = subst IsOrdered e c.requires.ordered in
    let bound : weight (intersect r s) ≤ 127 = subst (λ w. weight w ≤ 127) e c.requires.bound in
    let same : pair_data c.in_ok-front-in-Intersect.front c.in_ok-rest-in-Intersect.rest
    ≡ listed_for (written_form c.args.sequence.now) =
    ap (λ x. pair_data x c.in_ok-rest-in-Intersect.rest) c.in_ok-front-in-Intersect.ensures.ok
    ∙ ap (pair_data (listed_for r)) c.in_ok-rest-in-Intersect.ensures.ok
    ∙ sym (made-intersect r s takes) ∙ sym (told (written_form c.args.sequence.now) (intersect r s) e) in
    short_on c.pair.result _ (written_form c.args.sequence.now)
    (intersect r s) e c.pair.ensures.ok c.pair.ensures.short same
    (λ own. all-within (intersect r s) (max (largest_place r) (largest_place s)) 65535
    (omega (arith, c.in_ok-front-in-Intersect.ensures.short, c.in_ok-rest-in-Intersect.ensures.short)) own)

-- nothing is made from what weighs nothing
still-largest : (w : Written Boolean) → weighs w ≡ false → largest_place w ≤ 65535
still-largest (boolean b) quiet = cc
still-largest (delay r least most s) quiet =
    none-within (delay r least most s) (max (largest_place r) (largest_place s)) quiet
still-largest (lead least most s) quiet = none-within (lead least most s) (largest_place s) quiet
still-largest (repeat r least most) quiet = none-within (repeat r least most) (largest_place r) quiet
still-largest (or r s) quiet = none-within (or r s) (max (largest_place r) (largest_place s)) quiet
still-largest (and r s) quiet = none-within (and r s) (max (largest_place r) (largest_place s)) quiet
still-largest (intersect r s) quiet = none-within (intersect r s) (max (largest_place r) (largest_place s)) quiet
still-largest (throughout b r) quiet = none-within (throughout b r) (largest_place r) quiet

pub returns-then-not-is_weighty-clause-short : goal.returns-then-not-is_weighty-clause-short
returns-then-not-is_weighty-clause-short t c =
    still-largest (written_form c.args.sequence.now) (sym c.is_weighty.ensures ∙ c.if-not-is_weighty.true)
