use Rattle.std.proofs.Common.{◌∙◌, ℕ, List, ap}
use Rattle.std.specs.Str.{bytes_eq}
use Rattle.vcd_reader.specs.Variables.{path_of}
use Rattle.vcd_reader.specs.Scopes.{open_scopes}
use Rattle.vcd_reader.specs.Index.{place_in}
use Rattle.vcd_reader.proofs.PlaceLaws.{text-parts}
use Rattle.vcd_reader.proofs.places.has_text.Goals as goal

pub returns : goal.returns
returns c =
    c.is_same_path.ensures
    ∙ ap (λ (n : ℕ). bytes_eq (path_of (open_scopes c.args.scopes.now n) c.own_part.result.now)
    (path_of (open_scopes c.args.scopes.now c.args.place) c.args.own.now)) c.place_of_part.ensures
    ∙ ap (λ (xs : List ℕ). bytes_eq
    (path_of (open_scopes c.args.scopes.now (place_in c.args.part c.args.variable.now)) xs)
    (path_of (open_scopes c.args.scopes.now c.args.place) c.args.own.now)) c.own_part.ensures
    ∙ ap (λ (xs : List ℕ). bytes_eq xs (path_of (open_scopes c.args.scopes.now c.args.place) c.args.own.now))
    (text-parts c.args.part c.args.scopes.now c.args.variable.now)
