use Rattle.std.proofs.Common.{◌≡◌, true, length, rules, arith, sym, subst, ◌∙◌}
use Rattle.std.proofs.lemmas.Bool.{false≢true}
use Rattle.types.specs.declared.draft.Draft.{Draft}
use Rattle.types.specs.Drafts.{uses}
use Rattle.types.specs.Views.{draft_of}
use Rattle.types.specs.Marks.{all_below}
use Rattle.types.proofs.DeclaredLaws.{all_declared, each_below}
use Rattle.types.proofs.declared.are_declared.Goals as goal

pub returns-then-not-is_below : goal.returns-then-not-is_below
returns-then-not-is_below c = (
  λ t. absurd (false≢true t),
  λ all.
      let below =
      each_below c.args.bodies.now all c.loop-draft.draft-index c.draft-item.result c.loop-draft-test.true in
      absurd
      (false≢true (sym c.if-not-is_below.true ∙ c.is_below.ensures
      ∙ subst (λ (d : Draft). all_below (length c.args.bodies.now) (uses (draft_of d)) ≡ true)
      (sym c.draft-item.is) below)),
)

pub returns : goal.returns
returns c = (
  λ t. all_declared c.args.bodies.now (λ k d h. c.loop-draft.invariant k d
      (omega (arith, h, c.loop-draft-test.false))),
  λ all. search rules,
)
