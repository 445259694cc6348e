use Rattle.std.proofs.Common.{◌≡◌, ◌≤◌, ◌<◌, ◌-◌, ◌∙◌, ℕ, List, length, get_or, ap, sym, subst, arith}
use Rattle.std.specs.Prelude.{slice_range}
use Rattle.cycle_window.specs.declared.samples.Samples.{Samples}
use Rattle.cycle_window.specs.Picks.{AreBelow}
use Rattle.cycle_window.specs.Samples.{Each, stay_at}
use Rattle.cycle_window.specs.Held.{first_in, end_in}
use Rattle.cycle_window.proofs.WindowLaws.{below-part}
use Rattle.cycle_window.proofs.StayLaws.{picks-long, row-stays, row-noted}
use Rattle.cycle_window.proofs.window.Window.same_after.Goals as goal

pub overflow_sub-place : goal.overflow_sub-place
unfolding first_in
overflow_sub-place c = c.requires.low

pub slice_bounds-picks-end : goal.slice_bounds-picks-end
slice_bounds-picks-end c =
    let value = ap length c.deref.ensures.value in
    omega (arith, value, picks-long c.args.self.now, c.requires.inside)

pub offset_bounds-deref-from : goal.offset_bounds-deref-from
offset_bounds-deref-from c =
    let value = ap length c.deref.ensures.value in
    omega (
      arith,
      value,
      c.deref.type_inv.1,
      picks-long c.args.self.now,
      c.requires.order,
      c.requires.inside,
    )

pub overflow_sub-rest : goal.overflow_sub-rest
unfolding end_in
overflow_sub-rest c = omega (arith, c.requires.high)

pub overflow_sub-rest-2 : goal.overflow_sub-rest-2
unfolding end_in
overflow_sub-rest-2 c = omega (arith, c.requires.high)

pub least_stay-requires-clause-below : goal.least_stay-requires-clause-below
least_stay-requires-clause-below c =
    let w = c.args.self.now in
    let shared = w.columns.shared in
    let inside : c.args.to ≤ length shared.picks.items =
    omega (arith, picks-long w, c.requires.inside) in
    let long : length c.deref-2.result.now ≡ length shared.variables.items =
    ap (λ (xs : List Samples). length xs) c.deref-2.ensures.value ∙ w.many in
    subst (λ (n : ℕ). AreBelow n (slice_range c.deref.result.now c.args.from c.args.to))
    (sym long)
    (subst (λ (xs : List ℕ).
    AreBelow (length shared.variables.items) (slice_range xs c.args.from c.args.to))
    (sym c.deref.ensures.value)
    (below-part (length shared.variables.items) c.args.from c.args.to shared.picks.items
    c.requires.order inside shared.below))

pub least_stay-requires-clause-inside : goal.least_stay-requires-clause-inside
unfolding first_in end_in
least_stay-requires-clause-inside c =
    let w = c.args.self.now in
    subst (λ (all : List Samples). Each (λ i s. c.args.tick - w.first < length s.stays.items) all)
    (sym c.deref-2.ensures.value)
    (λ i s is.
    let full = w.full i s is in
    omega (arith, full.long, full.notes, c.requires.low, c.requires.high, w.few, w.inside))

pub returns-clause-inside : goal.returns-clause-inside
unfolding end_in
returns-clause-inside c = omega (arith, c.requires.high, c.least_stay.ensures.most)

pub returns-clause-same : goal.returns-clause-same
unfolding first_in end_in
returns-clause-same c = λ c' over.
    let w = c.args.self.now in
    let shared = w.columns.shared in
    let n = c.args.tick - w.first in
    let inside : c.args.to ≤ length shared.picks.items =
    omega (arith, picks-long w, c.requires.inside) in
    let lent : slice_range c.deref.result.now c.args.from c.args.to
    ≡ slice_range shared.picks.items c.args.from c.args.to =
    ap (λ (xs : List ℕ). slice_range xs c.args.from c.args.to) c.deref.ensures.value in
    let least =
    subst (λ (all : List Samples). (i : ℕ) → i < length (slice_range shared.picks.items c.args.from c.args.to)
    → c.least_stay.result ≤ stay_at all n (get_or (slice_range shared.picks.items c.args.from c.args.to) i 0))
    c.deref-2.ensures.value
    (subst (λ (ps : List ℕ). (i : ℕ) → i < length ps
    → c.least_stay.result ≤ stay_at c.deref-2.result.now n (get_or ps i 0)) lent c.least_stay.ensures.least) in
    row-stays w c' c.args.tick c.args.from c.args.to c.least_stay.result over c.requires.low
    (omega (arith, c.requires.high, c.least_stay.ensures.most)) c.requires.order inside least

pub returns-clause-longest : goal.returns-clause-longest
unfolding first_in end_in
returns-clause-longest c = λ c' n over high stays.
    let w = c.args.self.now in
    let shared = w.columns.shared in
    let at = c.args.tick - w.first in
    let picks = slice_range shared.picks.items c.args.from c.args.to in
    let inside : c.args.to ≤ length shared.picks.items =
    omega (arith, picks-long w, c.requires.inside) in
    let lent : slice_range c.deref.result.now c.args.from c.args.to ≡ picks =
    ap (λ (xs : List ℕ). slice_range xs c.args.from c.args.to) c.deref.ensures.value in
    let greatest =
    subst (λ (all : List Samples). n ≤ (w.end - 1) - c.args.tick
    → ((i : ℕ) → i < length picks → n ≤ stay_at all at (get_or picks i 0)) → n ≤ c.least_stay.result)
    c.deref-2.ensures.value
    (subst (λ (ps : List ℕ). n ≤ (w.end - 1) - c.args.tick
    → ((i : ℕ) → i < length ps → n ≤ stay_at c.deref-2.result.now at (get_or ps i 0))
    → n ≤ c.least_stay.result) lent (c.least_stay.ensures.greatest n)) in
    greatest (omega (arith, high))
    (λ i lt. row-noted w c' c.args.tick c.args.from c.args.to n i over c.requires.low high c.requires.order
    inside lt stays)
