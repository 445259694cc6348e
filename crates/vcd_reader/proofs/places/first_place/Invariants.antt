use Rattle.std.proofs.Common.{◌≡◌, ◌+◌, drop}
use Rattle.std.specs.Option.{option_map}
use Rattle.vcd_reader.specs.Variables.{path_of, place_of}
use Rattle.vcd_reader.specs.Scopes.{open_scopes}
use Rattle.vcd_reader.specs.Index.{texts_in}
use Rattle.vcd_reader.proofs.places.first_place.Given as goal

abbrev pub invariant-loop-i : goal.invariant-loop-i
invariant-loop-i l =
    place_of (texts_in l.part l.scopes l.variables) (path_of (open_scopes l.scopes l.place) l.own)
    ≡ option_map (λ n. l.i + n)
    (place_of (texts_in l.part l.scopes (drop l.i l.variables)) (path_of (open_scopes l.scopes l.place) l.own))
