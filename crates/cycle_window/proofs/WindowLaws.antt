-- A part of the ticks, and the rows there.
use Rattle.std.proofs.Common.{◌≡◌, ℕ, ◌+◌, ◌-◌, ◌<◌, ◌≤◌, List, length, get_or, take, drop}
use Rattle.std.proofs.Common.{ap, sym, ◌∙◌, arith, slice_range}
use Rattle.std.proofs.lemmas.List.{get_or-take, get_or-drop, length-take-le, length-drop}
use Rattle.std.proofs.lemmas.List.{take-map, drop-map}
use Rattle.vcd_reader.specs.Dump.{Contents}
use Rattle.cycle_window.specs.Ticks.{ticks_of}
use Rattle.cycle_window.specs.Rows.{AreAhead}
use Rattle.cycle_window.specs.Picks.{picked, AreBelow}
use Rattle.cycle_window.proofs.TickLaws.{tick-order, tick-inside}

pub slice-at : (xs : List ℕ) (a b n : ℕ) → n < b - a
    → get_or (slice_range xs a b) n 0 ≡ get_or xs (a + n) 0
slice-at xs a b n lt = get_or-take (b - a) (drop a xs) n 0 lt ∙ get_or-drop a xs n 0

pub slice-long : (xs : List ℕ) (a b : ℕ) → a ≤ b → b ≤ length xs
    → length (slice_range xs a b) ≡ b - a
slice-long xs a b le inside =
    let rest : length (drop a xs) ≡ length xs - a = length-drop a xs in
    length-take-le (b - a) (drop a xs) (omega (arith, rest))

-- the ticks from one on up to another are ahead, where all from the first on are
pub ticks-ahead : (c : Contents) (code at long : ℕ) (ticks : List ℕ) → ticks ≡ ticks_of c code
    → length c.steps ≡ long → (first end : ℕ) → first ≤ end → end ≤ length ticks
    → ((n : ℕ) → first ≤ n → n < length ticks → at ≤ get_or ticks n 0)
    → AreAhead at long (slice_range ticks first end)
ticks-ahead c code at long ticks is steps first end le inside before =
    let size = slice-long ticks first end le inside in
    record {
      low = λ n lt.
          let here = slice-at ticks first end n (omega (arith, size)) in
          let low = before (first + n) (omega arith) (omega (arith, size)) in
          omega (arith, here, low);
      high = λ n lt.
          let here = slice-at ticks first end n (omega (arith, size)) in
          let high = tick-inside c code ticks is (first + n) (omega (arith, size)) in
          omega (arith, here, high, steps);
      order = λ i n ile lt.
          let one = slice-at ticks first end i (omega (arith, size)) in
          let other = slice-at ticks first end n (omega (arith, size)) in
          let order =
          tick-order c code ticks is (first + i) (first + n) (omega arith)
          (omega (arith, size)) in
          omega (arith, one, other, order);
    }

-- none of them is after a later tick
pub ticks-behind : (c : Contents) (code : ℕ) (ticks : List ℕ) → ticks ≡ ticks_of c code
    → (first end : ℕ) → first ≤ end → end ≤ length ticks → (n : ℕ) → end ≤ n → n < length ticks
    → (m : ℕ) → m < length (slice_range ticks first end)
    → get_or (slice_range ticks first end) m 0 ≤ get_or ticks n 0
ticks-behind c code ticks is first end le inside n later lt m mlt =
    let size = slice-long ticks first end le inside in
    let here = slice-at ticks first end m (omega (arith, size)) in
    let order = tick-order c code ticks is (first + m) n (omega (arith, size)) lt in
    omega (arith, here, order)

-- a part of the places is below what they are below
pub below-part : (n a b : ℕ) (picks : List ℕ) → a ≤ b → b ≤ length picks → AreBelow n picks
    → AreBelow n (slice_range picks a b)
below-part n a b picks le inside below = λ i lt.
    let size = slice-long picks a b le inside in
    let here = slice-at picks a b i (omega (arith, size)) in
    let low = below (a + i) (omega (arith, size)) in
    omega (arith, here, low)

-- what is picked at a part of the places is that part of what is picked
pub picked-part : (list picks : List ℕ) (a b : ℕ)
    → picked list (slice_range picks a b) ≡ slice_range (picked list picks) a b
unfolding picked
picked-part list picks a b =
    let f : ℕ → ℕ = λ i. get_or list i 0 in
    sym (ap (take (b - a)) (drop-map f a picks) ∙ take-map f (b - a) (drop a picks))
