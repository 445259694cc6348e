use Rattle.std.proofs.Common.{inr, ◌≡◌, ◌<◌, ℕ, map, length, sym, ◌∙◌, ap, arith}
use Rattle.std.proofs.lemmas.Bool.{false≢true}
use Rattle.std.proofs.lemmas.List.{length-map}
use Rattle.types.specs.Views.{draft_of}
use Rattle.types.specs.Entries.{is_entry}
use Rattle.types.proofs.StuckLaws.{stuck_reaches, left_are_stuck}
use Rattle.types.proofs.table.resolve.Goals as goal

pub sweeps-init : goal.sweeps-init
sweeps-init c =
    record {
      long = c.in_ok-table.ensures.long;
      entries = λ p e found. absurd (false≢true (sym (c.in_ok-table.ensures.none p) ∙ ap is_entry found));
      accounts = λ p h. inr (c.in_ok-left.ensures p h);
    }

pub returns-then-len-before-clause-cyclic : goal.returns-then-len-before-clause-cyclic
returns-then-len-before-clause-cyclic c = λ p h none.
    let bodies = map draft_of c.args.bodies.now in
    let same : length c.in_ok-left-2.left.items ≡ length c.sweeps.left.items =
    omega (
      arith,
      c.len.ensures,
      c.if-len-before.true,
      c.len-before.ensures,
      c.in_ok-left-2.left.ok,
      c.sweeps.left.ok,
    ) in
    stuck_reaches bodies c.sweep.new.table.items
    (left_are_stuck bodies c.sweep.new.table.items c.in_ok-left-2.left.items c.requires
    (c.in_ok-left-2.ensures.lacking same)
    (λ q k. let d = inside q k in c.in_ok-left-2.ensures.accounts q d (c.sweeps.invariant.accounts q d)))
    p (record { declared = rw (length-map c.args.bodies.now draft_of) h; lacking = none })
  where
    inside : (p : ℕ) → p < length (map draft_of c.args.bodies.now) → p < length c.args.bodies.now
    inside p h = rw (length-map c.args.bodies.now draft_of) at h
