use Rattle.std.proofs.Common.{◌≡◌, ◌+◌}
use Rattle.std.specs.Str.{bytes_eq}
use Rattle.vcd_reader.specs.Variables.{path_of}
use Rattle.vcd_reader.specs.Scopes.{open_scopes}
use Rattle.vcd_reader.proofs.scopes.is_same_path.Given as goal

abbrev pub invariant-pieces : goal.invariant-pieces
invariant-pieces l =
    bytes_eq (path_of (open_scopes l.scopes l.fn.left_place) l.left_name)
    (path_of (open_scopes l.scopes l.fn.right_place) l.right_name)
    ≡ bytes_eq (path_of (open_scopes l.scopes l.left_place) l.left)
    (path_of (open_scopes l.scopes l.right_place) l.right)

abbrev pub decreases-pieces : goal.decreases-pieces
decreases-pieces l = l.left_place + l.right_place
