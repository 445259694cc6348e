use Rattle.std.proofs.Common.{◌≡◌, ◌≤◌, [], length, map}
use Rattle.std.specs.Prelude.{IsUtf8}
use Rattle.diagnostics.specs.Linted.{refusing, AreRefusals}
use Rattle.diagnostics.proofs.lint_all.each_left.Given as goal

-- the refusals so far, at least one a round after those that had begun, and what is left
abbrev pub invariant-loop-round : goal.invariant-loop-round
invariant-loop-round g l = record {
  told : AreRefusals
      (refusing (g.F.FrontEnd.refuses l.front) (g.F.FrontEnd.stands l.front)
      (g.F.FrontEnd.refuses_alone l.front l.text))
      l.ends l.text (map (λ r. r.at) l.refusals.items) l.left.items;
  same : l.refusals.items ≡ [] → l.left.items ≡ l.text;
  utf8 : IsUtf8 l.left.items;
  long : length l.left.items ≡ length l.text;
  many : l._round ≤ length l.refusals.items;
}
