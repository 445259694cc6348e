use Rattle.std.proofs.Common.{◌≡◌, ◌≤◌, length, map}
use Rattle.std.specs.Prelude.{IsUtf8}
use Rattle.std.specs.List.{All}
use Rattle.diagnostics.specs.declared.front.Refusal.{Refusal}
use Rattle.diagnostics.specs.Linted.{refusing, AreRefusals, HasStood}
use Rattle.diagnostics.proofs.lint_all.each_other.Given as goal

-- the refusals so far, what is left, and that the others stood there
abbrev pub invariant-loop-refusal : goal.invariant-loop-refusal
invariant-loop-refusal g l = record {
  told : AreRefusals
      (refusing (g.F.FrontEnd.refuses l.front) (g.F.FrontEnd.stands l.front)
      (g.F.FrontEnd.refuses_alone l.front l.text))
      l.ends l.text (map (λ r. r.at) l.refusals.items) l.left.items;
  utf8 : IsUtf8 l.left.items;
  long : length l.left.items ≡ length l.text;
  stood : All (λ (r : Refusal). HasStood
      (refusing (g.F.FrontEnd.refuses l.front) (g.F.FrontEnd.stands l.front)
      (g.F.FrontEnd.refuses_alone l.front l.text))
      l.ends l.text r.at) l.refusal-iterator.rest.items;
  more : length l.fn.refusals.items ≤ length l.refusals.items;
}
