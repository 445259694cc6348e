use Rattle.std.proofs.Common.{◌∙◌, List, ℕ, ap}
use Rattle.vcd_reader.specs.Variables.{path_of, place_of}
use Rattle.vcd_reader.specs.Index.{texts_in}
use Rattle.vcd_reader.proofs.ScopeLaws.{opened-top}
use Rattle.vcd_reader.proofs.places.find_text.Goals as goal

pub returns-clause-place : goal.returns-clause-place
returns-clause-place c =
    c.find_place.ensures.place
    ∙ ap (λ (xs : List (List ℕ)). place_of (texts_in c.args.part c.args.scopes.now c.args.variables.now)
    (path_of xs c.args.text.now)) (opened-top c.args.scopes.now)
