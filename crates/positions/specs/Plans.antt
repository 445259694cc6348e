-- What the positions of a sequence are made from: its kernel, but that both ends of a range share
-- their parts, and that nothing is made from what weighs nothing.
use Rattle.std.specs.Prelude.{ℕ, zero, suc, ◌-◌, ◌&&◌, Bool, true, false, nat_lt}
use Rattle.assertions.specs.Segments.{Seq, one, none, chop, fuse, either, both, meet, during, times}
use Rattle.assertions.specs.Written.{Written, boolean, delay, lead, repeat, or, and, intersect}
use Rattle.assertions.specs.Written.{throughout, weight}
use Rattle.assertions.specs.Emptiness.{admits_empty}

pub data Plan (B : Type 0) : Type 0 where
  tick : (b : B) → Plan B
  skip : Plan B
  any : (r s : Plan B) → Plan B
  all : (r s : Plan B) → Plan B
  pair : (r s : Plan B) → Plan B
  under : (b : B) (r : Plan B) → Plan B
  loop : (r : Plan B) (least most : ℕ) → Plan B
  -- r and then s: with its first tick on r's last where it may fuse, and after a g where it may
  -- follow
  link : (fuses follows : Bool) (r g s : Plan B) → Plan B

-- the sequence that it stands for
abbrev pub plan_sequence : {B : Type 0} → Plan B → Seq B
plan_sequence (tick b) = one b
plan_sequence skip = none
plan_sequence (any r s) = either (plan_sequence r) (plan_sequence s)
plan_sequence (all r s) = both (plan_sequence r) (plan_sequence s)
plan_sequence (pair r s) = meet (plan_sequence r) (plan_sequence s)
plan_sequence (under b r) = during b (plan_sequence r)
plan_sequence (loop r least most) = times (plan_sequence r) least most
plan_sequence (link true true r g s) =
    either (fuse (plan_sequence r) (plan_sequence s))
    (chop (chop (plan_sequence r) (plan_sequence g)) (plan_sequence s))
plan_sequence (link true false r g s) = fuse (plan_sequence r) (plan_sequence s)
plan_sequence (link false true r g s) = chop (chop (plan_sequence r) (plan_sequence g))
    (plan_sequence s)
plan_sequence (link false false r g s) = fuse none none

-- r ##[least:most] s
abbrev pub apart : {B : Type 0} → B → Plan B → Plan B → ℕ → ℕ → Plan B
apart true_one r s zero zero = link true false r skip s
apart true_one r s zero (suc most) = link true true r (loop (tick true_one) 0 most) s
apart true_one r s (suc least) most =
    link false true r (loop (tick true_one) least (most - 1)) s

-- whether it weighs anything: else no match of it takes a tick
abbrev pub weighs : {B : Type 0} → Written B → Bool
weighs w = nat_lt 0 (weight w)

-- the plan, if a match may take a tick; else what is left: an empty match, or none at all
abbrev pub moving : {B : Type 0} → Bool → Bool → Plan B → Plan B
moving true empty r = r
moving false true r = skip
moving false false r = link false false skip skip skip

abbrev pub plan : {B : Type 0} → B → Written B → Plan B
plan true_one (boolean b) = tick b
plan true_one (delay r least most s) =
    moving (weighs (delay r least most s)) (admits_empty (delay r least most s))
    (apart true_one (plan true_one r) (plan true_one s) least most)
plan true_one (lead least most s) =
    moving (weighs (lead least most s)) (admits_empty (lead least most s))
    (link false true (loop (tick true_one) least most) skip (plan true_one s))
plan true_one (repeat r least most) =
    moving (weighs (repeat r least most)) (admits_empty (repeat r least most))
    (loop (plan true_one r) least most)
plan true_one (or r s) =
    moving (weighs (or r s)) (admits_empty (or r s)) (any (plan true_one r) (plan true_one s))
plan true_one (and r s) =
    moving (weighs (and r s)) (admits_empty (and r s))
    (all (plan true_one r) (plan true_one s))
plan true_one (intersect r s) =
    moving (weighs (intersect r s)) (admits_empty (intersect r s))
    (pair (plan true_one r) (plan true_one s))
plan true_one (throughout b r) =
    moving (weighs (throughout b r)) (admits_empty (throughout b r))
    (under b (plan true_one r))
