use Rattle.std.proofs.Common.{rules, inr, ◌≡◌, ◌<◌, ℕ, true, false, Bool, List, map, length, sym, ◌∙◌, arith, get_or}
use Rattle.std.proofs.lemmas.Bool.{false≢true}
use Rattle.std.proofs.lemmas.List.{length-map, get_or_default}
use Rattle.types.specs.Views.{draft_of}
use Rattle.types.specs.Marks.{mark_at}
use Rattle.types.proofs.CyclicLaws.{all_marked}
use Rattle.types.proofs.cyclic.is_cyclic.Goals as goal

pub sweeps-init : goal.sweeps-init
sweeps-init c =
    record {
      long = c.in_ok-marks.ensures.long;
      sound = λ p m. elim (false≢true (sym (c.in_ok-marks.ensures.none p) ∙ m)) [ ];
      covers = λ p h. inr (c.in_ok-left.ensures p h);
    }

read_mark : (marks : List Bool) (p : ℕ) (found want : Bool) → p < length marks → found ≡ get_or marks p found
    → found ≡ want → mark_at marks p ≡ want
read_mark marks p found want h e w = get_or_default marks p false found h ∙ sym e ∙ w

pub returns-then-index : goal.returns-then-index
returns-then-index c = (
  λ t. c.sweep.ensures.sound c.sweeps.invariant.sound c.args.goal (read_mark c.sweep.new.marks.items c.args.goal
      c.index.result.now true (omega (arith, c.requires, c.sweep.ensures.long, c.sweeps.invariant.long)) c.index.ensures
      c.if-index.true),
  λ cyclic. search rules,
)

pub returns-then-len-before : goal.returns-then-len-before
returns-then-len-before c = (
  λ t. search (rules, t),
  λ cyclic.
      elim (false≢true
      (sym (read_mark c.sweep.new.marks.items c.args.goal c.index.result.now false
      (omega (arith, c.requires, c.sweep.ensures.long, c.sweeps.invariant.long)) c.index.ensures c.if-index.false)
      ∙ all_marked (map draft_of c.args.bodies.now) c.args.goal c.sweep.new.marks.items c.in_ok-left-2.left.items
      (c.in_ok-left-2.ensures.quiet
      (omega (
        arith,
        c.len.ensures,
        c.if-len-before.true,
        c.len-before.ensures,
        c.in_ok-left-2.left.ok,
        c.sweeps.left.ok,
      )))
      (λ p h. let d = inside p h in c.in_ok-left-2.ensures.covers p d (c.sweeps.invariant.covers p d)) cyclic.0
      c.args.goal cyclic.1)) [ ],
)
  where
    inside : (p : ℕ) → p < length (map draft_of c.args.bodies.now) → p < length c.args.bodies.now
    inside p h = rw (length-map c.args.bodies.now draft_of) at h
