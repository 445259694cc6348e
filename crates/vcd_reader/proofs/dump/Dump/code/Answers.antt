use Rattle.std.proofs.Common.{◌≡◌, arith, length, vec_len, refl}
use Rattle.std.proofs.lemmas.List.{length-map}
use Rattle.vcd_reader.specs.Index.{codes_in}
use Rattle.vcd_reader.specs.Held.{variables_of}
use Rattle.vcd_reader.proofs.LookupLaws.{bindable-inside, number-at}
use Rattle.vcd_reader.proofs.dump.Dump.code.Goals as goal

pub index-requires : goal.index-requires
unfolding variables_of
index-requires c =
    let inside =
    bindable-inside c.args.self.now.scopes.items c.args.self.now.variables.items c.args.var.place c.requires in
    let texts : length (codes_in c.args.self.now.variables.items) ≡ length c.args.self.now.variables.items =
    rw length-map refl in
    let long : vec_len c.args.self.now.codes.firsts ≡ length c.args.self.now.codes.firsts.items =
    c.args.self.now.codes.firsts.ok.0 in
    omega (arith, inside, c.args.self.now.code_index.long)

pub returns-clause-number : goal.returns-clause-number
unfolding variables_of
returns-clause-number c =
    number-at c.args.self.now.scopes.items c.args.self.now.variables.items c.args.self.now.codes c.args.var.place
    c.index.result.now c.args.self.now.code_index
    (bindable-inside c.args.self.now.scopes.items c.args.self.now.variables.items c.args.var.place c.requires)
    c.index.ensures
