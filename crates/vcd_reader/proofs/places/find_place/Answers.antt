use Rattle.std.proofs.Common.{◌≡◌, None, sym, ap}
use Rattle.std.specs.Prelude.{nat_eq, is_some}
use Rattle.std.specs.HashMap as table
use Rattle.vcd_reader.specs.Keys.{key_of}
use Rattle.vcd_reader.specs.Variables.{path_of}
use Rattle.vcd_reader.specs.Scopes.{open_scopes}
use Rattle.vcd_reader.proofs.PlaceLaws.{absent, known, inside}
use Rattle.vcd_reader.proofs.places.find_place.Goals as goal

pub returns-in_default-clause-place : goal.returns-in_default-clause-place
returns-in_default-clause-place c =
    let k : None ≡ table.get nat_eq c.args.places.now.hints
    (key_of (path_of (open_scopes c.args.scopes.now c.args.place) c.args.own.now)) = rw c.text_key.ensures at
    c.in_default.ensures.value in
    absent _ _ _ c.requires.index (ap is_some (sym k))

pub returns-then-has_text-clause-place : goal.returns-then-has_text-clause-place
returns-then-has_text-clause-place c =
    known c.args.part c.args.scopes.now c.args.variables.now c.args.places.now
    (path_of (open_scopes c.args.scopes.now c.args.place) c.args.own.now) c.in-Some.hint.now c.index.result.now
    c.index-variables-hint.result c.requires.index c.if-hint-variables.true c.index.ensures
    c.index-variables-hint.is
    (sym c.if-has_text.ensures)

pub returns-then-has_text-clause-inside : goal.returns-then-has_text-clause-inside
returns-then-has_text-clause-inside c =
    inside c.args.part c.args.scopes.now c.args.variables.now
    (path_of (open_scopes c.args.scopes.now c.args.place) c.args.own.now) c.index.result.now
    (known c.args.part c.args.scopes.now c.args.variables.now c.args.places.now
    (path_of (open_scopes c.args.scopes.now c.args.place) c.args.own.now) c.in-Some.hint.now c.index.result.now
    c.index-variables-hint.result c.requires.index c.if-hint-variables.true c.index.ensures
    c.index-variables-hint.is
    (sym c.if-has_text.ensures))
