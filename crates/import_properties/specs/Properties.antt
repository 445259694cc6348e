-- Properties over sequences (IEEE 1800-2017, 16.12), by the forms that all others stand for
-- (F.3.4).
use Rattle.std.specs.Prelude.{ℕ, zero, suc, ◌+◌, ◌-◌}
use Rattle.import_properties.specs.declared.condition.Condition.{Condition}
use Rattle.import_properties.specs.declared.condition.Condition.TheVariants.{One}
use Rattle.import_properties.specs.declared.property.Property.{Property}
use Rattle.import_properties.specs.declared.property.Property.TheVariants as tree
use Rattle.import_properties.specs.Conditions.{negation}
use Rattle.import_properties.specs.Shapes.{shape}
use Rattle.assertions.specs.Segments.{Seq, one, chop}

pub data Form (B : Type 0) : Type 0 where
  -- a sequence: a match of it begins here (16.12.2)
  sequence : (s : Seq B) → Form B
  -- not p (16.12.3)
  negated : (p : Form B) → Form B
  -- p or q (16.12.4)
  either : (p q : Form B) → Form B
  -- p and q (16.12.5)
  both : (p q : Form B) → Form B
  -- r |-> p: at the last tick of each match of r that isn't empty, p (16.12.7)
  implied : (r : Seq B) (p : Form B) → Form B
  -- nexttime p (16.12.10)
  next : (p : Form B) → Form B
  -- p until q (16.12.12)
  until : (p q : Form B) → Form B

-- r #-# p is not (r |-> not p) (16.12.9)
abbrev pub followed : {B : Type 0} → Seq B → Form B → Form B
followed r p = negated (implied r (negated p))

-- r |=> p is (r ##1 1) |-> p, and r #=# p is (r ##1 1) #-# p (16.12.7, 16.12.9)
abbrev pub then_tick : Seq Condition → Seq Condition
then_tick r = chop r (one One)

-- if (b) p else q is (b |-> p) and (!b |-> q) (16.12.6)
abbrev pub chosen : Condition → Form Condition → Form Condition → Form Condition
chosen b p q = both (implied (one b) p) (implied (one (negation b)) q)

-- nexttime[n] p (16.12.10)
abbrev pub later : {B : Type 0} → ℕ → Form B → Form B
later zero p = p
later (suc n) p = next (later n p)

-- s_nexttime[n] p: s_nexttime p is not nexttime not p (16.12.10)
abbrev pub strong_later : {B : Type 0} → ℕ → Form B → Form B
strong_later zero p = p
strong_later (suc n) p = negated (next (negated (strong_later n p)))

-- nexttime[k] p for each k from the first one on, so many more than one
abbrev pub each_later : {B : Type 0} → ℕ → ℕ → Form B → Form B
each_later first zero p = later first p
each_later first (suc more) p = both (later first p) (each_later (first + 1) more p)

-- s_nexttime[k] p for one of them
abbrev pub some_later : {B : Type 0} → ℕ → ℕ → Form B → Form B
some_later first zero p = strong_later first p
some_later first (suc more) p = either (strong_later first p) (some_later (first + 1) more p)

-- The property that a tree says. always [m:n] p is p at each of these ticks (16.12.11),
-- s_eventually [m:n] p is p at one of them (16.12.13), p implies q is not p or q (16.12.8), p iff q
-- is (p implies q) and (q implies p), and p until_with q is p until (p and q) (16.12.12).
abbrev pub form_of : Property → Form Condition
form_of (tree.Sequence s) = sequence (shape s)
form_of (tree.Not' x p) = negated (form_of p)
form_of (tree.And' x p y q) = both (form_of p) (form_of q)
form_of (tree.Or' x p y q) = either (form_of p) (form_of q)
form_of (tree.Implication' r x p) = implied (shape r) (form_of p)
form_of (tree.NextImplication' r x p) = implied (then_tick (shape r)) (form_of p)
form_of (tree.FollowedBy' r x p) = followed (shape r) (form_of p)
form_of (tree.NextFollowedBy' r x p) = followed (then_tick (shape r)) (form_of p)
form_of (tree.If' b x p) = implied (one b) (form_of p)
form_of (tree.IfElse' b x p y q) = chosen b (form_of p) (form_of q)
form_of (tree.Implies' x p y q) = either (negated (form_of p)) (form_of q)
form_of (tree.Iff' x p y q) =
    both (either (negated (form_of p)) (form_of q)) (either (negated (form_of q)) (form_of p))
form_of (tree.Next' n x p) = later n (form_of p)
form_of (tree.Always' least most x p) = each_later least (most - least) (form_of p)
form_of (tree.Eventually' least most x p) = some_later least (most - least) (form_of p)
form_of (tree.Until' x p y q) = until (form_of p) (form_of q)
form_of (tree.UntilWith' x p y q) = until (form_of p) (both (form_of p) (form_of q))
