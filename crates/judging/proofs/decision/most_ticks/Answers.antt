use Rattle.std.proofs.Common.{◌≡◌, ℕ, ◌≤◌, Option, Some, None, arith}
use Rattle.std.specs.Prelude.{MatchOption, unwrap_or}
use Rattle.assertions.specs.declared.sequence.Boolean.{Boolean}
use Rattle.assertions.specs.declared.sequence.Boolean.TheVariants.{One}
use Rattle.assertions.specs.Segments.{longest}
use Rattle.assertions.specs.Written.{Written, kernel, weight, IsOrdered}
use Rattle.assertions.specs.Shapes.{IsUnfit, written_form}
use Rattle.assertions.proofs.WeightLaws.{weight_covers}
use Rattle.judging.proofs.decision.most_ticks.Goals as goal

covered : (r : Written Boolean) (o : Option ℕ) → IsOrdered r → weight r ≤ 127
    → MatchOption o (IsUnfit r) (λ n. (n ≡ weight r) × (n ≤ 127) × IsOrdered r)
    → longest (kernel One r) ≤ unwrap_or o 127
covered r None ordered light is = omega (arith, weight_covers Boolean One r ordered)
covered r (Some n) ordered light is = omega (arith, weight_covers Boolean One r ordered, is.0)

pub returns-clause-covers : goal.returns-clause-covers
returns-clause-covers c =
    omega (
      arith,
      c.unwrap_or.ensures,
      covered (written_form c.args.sequence.now) c.weight_of.result c.requires.ordered c.requires.light
          c.weight_of.ensures,
    )
