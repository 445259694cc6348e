use Rattle.std.proofs.Common.{◌∙◌, ℕ, sym, ap}
use Rattle.vcd_reader.specs.Keys.{key_from}
use Rattle.vcd_reader.specs.Scopes.{front_of}
use Rattle.vcd_reader.proofs.ScopeLaws.{key-behind}
use Rattle.vcd_reader.proofs.places.text_key.Goals as goal

pub returns : goal.returns
returns c =
    c.key_behind.ensures ∙ ap (λ (n : ℕ). key_from n c.args.own.now) c.front_key.ensures
    ∙ sym (key-behind 0 (front_of c.args.scopes.now c.args.place) c.args.own.now)
