-- What two readings of one sequence spell matches alike.
use Rattle.std.proofs.Common.{◌≡◌, ℕ, ◌-◌, ◌||◌, Bool, List, map, Option, Some, None, nat_le, refl, sym, ap, ◌∙◌, subst}
use Rattle.std.specs.Option.{option_map}
use Rattle.expressions.specs.declared.expr.Expr.{Expr}
use Rattle.expressions.specs.Terms.{Samples}
use Rattle.assertions.specs.declared.sequence.Boolean.{Boolean}
use Rattle.assertions.specs.declared.sequence.Boolean.TheVariants.{One}
use Rattle.assertions.specs.Segments.{sat}
use Rattle.assertions.specs.Written.{Written, boolean, delay, lead, repeat, or, and, intersect, throughout, kernel}
use Rattle.assertions.specs.Written.{after, later}
use Rattle.types.specs.Drafts.{Draft, spelling_of, named_within, IsWrittenOut}
use Rattle.types.specs.Outlines.{map_draft, map_written}
use Rattle.types.specs.Entries.{Alike}
use Rattle.types.specs.Placed.{atom_true}
use Rattle.types.proofs.AlikeLaws.{alike_one, alike_one_of, alike_after, alike_later, alike_times}
use Rattle.types.proofs.AlikeLaws.{alike_either, alike_both, alike_meet, alike_during}
use Rattle.types.proofs.MapLaws.{spelled_map, named_map, spells_map, spells_one}
use Rattle.laws_one_report.proofs.PairLaws.{Pair, firsts, seconds, IsPaired, ArePaired}

-- What other booleans in the same places spell is what was spelled, with the booleans changed.
record IsMapped {B C : Type 0} (f : B → C) (bodies : List (Draft B)) (d : Draft B) (w : Written C) : Type 0 where
  from : Written B
  spells : IsWrittenOut bodies d from
  is : map_written f from ≡ w

mapped_by : {B C : Type 0} (f : B → C) (bodies : List (Draft B)) (d : Draft B) (w : Written C) (depth : ℕ)
    (o : Option (Written B)) → spelling_of (named_within bodies depth) d ≡ o → option_map (map_written f) o ≡ Some w
    → IsMapped f bodies d w
mapped_by f bodies d w depth None h e = absurd cc
mapped_by f bodies d w depth (Some v) h e = record { from = v; spells = (depth, h); is = cc }

spells_mapped : {B C : Type 0} (f : B → C) (bodies : List (Draft B)) (d : Draft B) (w : Written C)
    → IsWrittenOut (map (map_draft f) bodies) (map_draft f d) w → IsMapped f bodies d w
spells_mapped f bodies d w s =
    mapped_by f bodies d w s.0 (spelling_of (named_within bodies s.0) d) refl
    (sym (spelled_map f (named_within bodies s.0) (named_within (map (map_draft f) bodies) s.0) (named_map f bodies s.0)
    d) ∙ s.1)

module _ (ones others : List Expr) where
  -- each boolean of pairs by itself
  abbrev first_of : Pair ones others → Boolean
  first_of p = p.first

  abbrev second_of : Pair ones others → Boolean
  second_of p = p.second

  module _ (x : Samples) (n : ℕ) where
    abbrev Same : Written Boolean → Written Boolean → Type 0
    Same v w = Alike (sat (atom_true ones x) n) (sat (atom_true others x) n) (kernel One v) (kernel One w)

    pair_seen : (p : Pair ones others) (k : ℕ) → sat (atom_true ones x) n p.first k
        ≡ sat (atom_true others x) n p.second k
    pair_seen p k = ap (λ (v : Bool). nat_le n k || v) (p.alike x k)

    -- A sequence of pairs says the same by the first of each as by the second.
    pairs_alike : (w : Written (Pair ones others)) → Same (map_written first_of w) (map_written second_of w)
    pairs_alike (boolean p) =
        alike_one (sat (atom_true ones x) n) (sat (atom_true others x) n) p.first p.second (pair_seen p)
    pairs_alike (delay v least most w) =
        alike_one_of (sat (atom_true ones x) n) (sat (atom_true others x) n) least (most - least)
        (after One (kernel One (map_written first_of v)) (kernel One (map_written first_of w)))
        (after One (kernel One (map_written second_of v)) (kernel One (map_written second_of w)))
        (alike_after (sat (atom_true ones x) n) (sat (atom_true others x) n) One One
        (kernel One (map_written first_of v)) (kernel One (map_written first_of w))
        (kernel One (map_written second_of v)) (kernel One (map_written second_of w)) (λ k. refl) (pairs_alike v)
        (pairs_alike w))
    pairs_alike (lead least most w) =
        alike_one_of (sat (atom_true ones x) n) (sat (atom_true others x) n) least (most - least)
        (later One (kernel One (map_written first_of w))) (later One (kernel One (map_written second_of w)))
        (alike_later (sat (atom_true ones x) n) (sat (atom_true others x) n) One One
        (kernel One (map_written first_of w)) (kernel One (map_written second_of w)) (λ k. refl) (pairs_alike w))
    pairs_alike (repeat v least most) =
        alike_times (sat (atom_true ones x) n) (sat (atom_true others x) n) (kernel One (map_written first_of v))
        (kernel One (map_written second_of v)) least most (pairs_alike v)
    pairs_alike (or v w) =
        alike_either (sat (atom_true ones x) n) (sat (atom_true others x) n) (kernel One (map_written first_of v))
        (kernel One (map_written first_of w))
        (kernel One (map_written second_of v)) (kernel One (map_written second_of w)) (pairs_alike v) (pairs_alike w)
    pairs_alike (and v w) =
        alike_both (sat (atom_true ones x) n) (sat (atom_true others x) n) (kernel One (map_written first_of v))
        (kernel One (map_written first_of w))
        (kernel One (map_written second_of v)) (kernel One (map_written second_of w)) (pairs_alike v) (pairs_alike w)
    pairs_alike (intersect v w) =
        alike_meet (sat (atom_true ones x) n) (sat (atom_true others x) n) (kernel One (map_written first_of v))
        (kernel One (map_written first_of w))
        (kernel One (map_written second_of v)) (kernel One (map_written second_of w)) (pairs_alike v) (pairs_alike w)
    pairs_alike (throughout p v) =
        alike_during (sat (atom_true ones x) n) (sat (atom_true others x) n) p.first p.second
        (kernel One (map_written first_of v)) (kernel One (map_written second_of v)) (pair_seen p) (pairs_alike v)

  -- Two sequences match alike, by the places of their booleans, whatever is read and however much was seen.
  abbrev pub SayOne : Written Boolean → Written Boolean → Type 0
  SayOne v w =
      (x : Samples) (n : ℕ) → Alike (sat (atom_true ones x) n) (sat (atom_true others x) n) (kernel One v)
      (kernel One w)

  -- What paired drafts spell does.
  pub spelled_alike : (ds es : List (Draft Boolean)) (a b : Draft Boolean) (v w : Written Boolean)
      → ArePaired ones others ds es → IsPaired ones others a b → IsWrittenOut ds a v → IsWrittenOut es b w → SayOne v w
  spelled_alike ds es a b v w all one s t x n =
      let first : IsWrittenOut (map (firsts ones others) all.both) (firsts ones others one.both) v =
      subst (λ (d : Draft Boolean). IsWrittenOut (map (firsts ones others) all.both) d v) one.first
      (subst (λ (bodies : List (Draft Boolean)). IsWrittenOut bodies a v) all.first s) in
      let second : IsWrittenOut (map (seconds ones others) all.both) (seconds ones others one.both) w =
      subst (λ (d : Draft Boolean). IsWrittenOut (map (seconds ones others) all.both) d w) one.second
      (subst (λ (bodies : List (Draft Boolean)). IsWrittenOut bodies b w) all.second t) in
      let from = spells_mapped first_of all.both one.both v first in
      let same : map_written second_of from.from ≡ w =
      spells_one (map (seconds ones others) all.both) (seconds ones others one.both) (map_written second_of from.from) w
      (spells_map second_of all.both one.both from.from from.spells) second in
      subst (λ (u : Written Boolean). Same x n u w) from.is
      (subst (λ (u : Written Boolean). Same x n (map_written first_of from.from) u) same
      (pairs_alike x n from.from))
