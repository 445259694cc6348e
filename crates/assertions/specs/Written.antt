-- Sequences as they are written, with names written out; what they stand for, and what they weigh
-- (IEEE 1800-2017, 16.7 and 16.9).
use Rattle.std.specs.Prelude.{ℕ, zero, suc, ◌+◌, ◌-◌, ◌*◌, ◌≤◌}
use Rattle.assertions.specs.Segments.{Seq, one, chop, fuse, either, both, meet, during, times}

pub data Written (B : Type 0) : Type 0 where
  boolean : (b : B) → Written B
  -- r ##[least:most] s; ##n is ##[n:n]
  delay : (r : Written B) (least most : ℕ) (s : Written B) → Written B
  -- ##[least:most] s, with nothing before it
  lead : (least most : ℕ) (s : Written B) → Written B
  -- r[*least:most]; r[*n] is r[*n:n]
  repeat : (r : Written B) (least most : ℕ) → Written B
  or : (r s : Written B) → Written B
  and : (r s : Written B) → Written B
  intersect : (r s : Written B) → Written B
  throughout : (b : B) (r : Written B) → Written B

-- the form at one of the numbers from the first one on, so many more than one
abbrev pub one_of : {B : Type 0} → ℕ → ℕ → (ℕ → Seq B) → Seq B
one_of first zero form = form first
one_of first (suc more) form = either (form first) (one_of (first + 1) more form)

-- so many ticks, whatever holds at them: 1[*n]
abbrev pub ticks : {B : Type 0} → B → ℕ → Seq B
ticks true_one n = times (one true_one) n n

-- r ##n s: for n of 2 or more it is r ##1 1[*n-1] ##1 s
abbrev pub after : {B : Type 0} → B → Seq B → Seq B → ℕ → Seq B
after true_one r s zero = fuse r s
after true_one r s (suc zero) = chop r s
after true_one r s (suc (suc n)) = chop (chop r (ticks true_one (n + 1))) s

-- ##n s is 1[*n] ##1 s, and ##0 s is s
abbrev pub later : {B : Type 0} → B → Seq B → ℕ → Seq B
later true_one s zero = s
later true_one s (suc n) = chop (ticks true_one (suc n)) s

-- The kernel that it stands for; true_one is the constant 1. A range is one of its numbers.
abbrev pub kernel : {B : Type 0} → B → Written B → Seq B
kernel true_one (boolean b) = one b
kernel true_one (delay r least most s) =
    one_of least (most - least) (after true_one (kernel true_one r) (kernel true_one s))
kernel true_one (lead least most s) =
    one_of least (most - least) (later true_one (kernel true_one s))
kernel true_one (repeat r least most) = times (kernel true_one r) least most
kernel true_one (or r s) = either (kernel true_one r) (kernel true_one s)
kernel true_one (and r s) = both (kernel true_one r) (kernel true_one s)
kernel true_one (intersect r s) = meet (kernel true_one r) (kernel true_one s)
kernel true_one (throughout b r) = during b (kernel true_one r)

-- What it weighs: no match takes more ticks, and a checker of it needs no more room.
abbrev pub weight : {B : Type 0} → Written B → ℕ
weight (boolean b) = 1
weight (delay r least most s) = weight r + weight s + most
weight (lead least most s) = weight s + most
weight (repeat r least most) = most * weight r
weight (or r s) = weight r + weight s
weight (and r s) = (weight r + 1) * (weight s + 1)
weight (intersect r s) = weight r * weight s
weight (throughout b r) = weight r

-- In each range the least comes first.
abbrev pub IsOrdered : {B : Type 0} → Written B → Type 0
IsOrdered (boolean b) = Unit {0}
IsOrdered (delay r least most s) = (least ≤ most) × IsOrdered r × IsOrdered s
IsOrdered (lead least most s) = (least ≤ most) × IsOrdered s
IsOrdered (repeat r least most) = (least ≤ most) × IsOrdered r
IsOrdered (or r s) = IsOrdered r × IsOrdered s
IsOrdered (and r s) = IsOrdered r × IsOrdered s
IsOrdered (intersect r s) = IsOrdered r × IsOrdered s
IsOrdered (throughout b r) = IsOrdered r
