use Rattle.std.proofs.Common.{◌≡◌, ℕ, ◌-◌, ◌≤◌, length, drop}
use Rattle.lexer.specs.Cutting.{cuts, tokens_of}
use Rattle.lexer.proofs.CutLaws.{cuts_behind}
use Rattle.lexer.proofs.scan.lex.Given as goal

abbrev pub invariant-cuts : goal.invariant-cuts
invariant-cuts l =
    (l.at ≤ length l.bytes) × (turns : ℕ) × (length (drop l.at l.bytes) ≤ turns)
    × (tokens_of l.bytes ≡ cuts_behind l.tokens.items (cuts turns l.at (drop l.at l.bytes)))

abbrev pub decreases-cuts : goal.decreases-cuts
decreases-cuts l = length l.bytes - l.at
