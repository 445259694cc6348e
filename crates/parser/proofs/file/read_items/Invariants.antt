use Rattle.std.proofs.Common.{◌≡◌, ◌∷◌, ◌≤◌, map, length}
use Rattle.parser_grammar.specs.ReadFiles.{asserts, is_more, item}
use Rattle.parser_grammar.specs.Views.{item_of}
use Rattle.parser.proofs.LoopLaws.{Turns}
use Rattle.parser.proofs.file.read_items.Given as goal

abbrev pub invariant-items : goal.invariant-items
invariant-items l =
    (length l.left ≤ length l.tokens)
    × Turns is_more (λ t us. item (t ∷ us)) l.tokens (map item_of l.found.items) l.left
    × (l.asserted ≡ asserts (map item_of l.found.items))

abbrev pub decreases-items : goal.decreases-items
decreases-items l = length l.left
