use Rattle.std.proofs.Common.{◌≡◌, reverse}
use Rattle.vcd_reader.specs.Variables.{path_of}
use Rattle.vcd_reader.specs.Scopes.{open_scopes}
use Rattle.vcd_reader.proofs.scopes.path_text.Given as goal

abbrev pub invariant-scopes : goal.invariant-scopes
invariant-scopes l =
    path_of (open_scopes l.scopes l.fn.place) l.name
    ≡ path_of (open_scopes l.scopes l.place) (reverse l.path.items)

abbrev pub decreases-scopes : goal.decreases-scopes
decreases-scopes l = l.place
