use Rattle.std.proofs.Common.{◌≡◌, ℕ, ◌+◌, ◌≤◌, ◌&&◌, ◌||◌, not, Bool, List, sym, ap, ◌∙◌, arith}
use Rattle.assertions.specs.Quantifiers.{some_in, each_in}
use Rattle.assertions.proofs.Quantifiers.{some_in-snoc, each_in-snoc}
use Rattle.judging.specs.Tables.{marks, has_link}
use Rattle.judging.proofs.outlook.outlook_of.Goals as goal

-- one tick more, of which a test is known
more_some : (i e : ℕ) (p : ℕ → Bool) (all before here : Bool) → i ≤ e → all ≡ (before || here) → before ≡ some_in i e p
    → here ≡ p e → all ≡ some_in i (e + 1) p
more_some i e p all before here le is so_far now =
    is ∙ ap (λ b. b || here) so_far ∙ ap (λ b. some_in i e p || b) now ∙ sym (some_in-snoc i e p le)

more_each : (i e : ℕ) (p : ℕ → Bool) (all before here : Bool) → i ≤ e → all ≡ (before && here) → before ≡ each_in i e p
    → here ≡ p e → all ≡ each_in i (e + 1) p
more_each i e p all before here le is so_far now =
    is ∙ ap (λ b. b && here) so_far ∙ ap (λ b. each_in i e p && b) now ∙ sym (each_in-snoc i e p le)

pub loop-tick-preserved : goal.loop-tick-preserved
loop-tick-preserved c =
    let ends = c.args.ends.now in
    let rows = c.args.consequents.now in
    let tick = c.loop-tick.tick in
    let below = c.args.below in
    let count = c.args.count in
    let row = c.row.ensures in
    record {
      ends =
          more_some 0 tick (λ e. marks ends (e + 1)) _ _ _ (omega arith) c.and-all.ensures.ends
          c.loop-tick.invariant.ends (c.outlook_at-here.ensures.ends ∙ c.is_marked.ensures);
      broken =
          more_some 0 tick (λ e. marks ends (e + 1) && not (some_in e count (has_link rows e))) _ _ _ (omega arith)
          c.and-all.ensures.broken c.loop-tick.invariant.broken
          (c.outlook_at-here.ensures.broken ∙ ap (λ b. b && not (some_in tick count (marks c.row.result.now)))
          c.is_marked.ensures
          ∙ ap (λ (l : List Bool). marks ends (tick + 1) && not (some_in tick count (marks l))) row);
      kept =
          more_each 0 tick (λ e. not (marks ends (e + 1)) || some_in e (below + 1) (has_link rows e)) _ _ _
          (omega arith)
          c.and-all.ensures.kept c.loop-tick.invariant.kept
          (c.outlook_at-here.ensures.kept ∙ ap (λ b. not b || some_in tick (below + 1) (marks c.row.result.now))
          c.is_marked.ensures
          ∙ ap (λ (l : List Bool). not (marks ends (tick + 1)) || some_in tick (below + 1) (marks l)) row);
    }
