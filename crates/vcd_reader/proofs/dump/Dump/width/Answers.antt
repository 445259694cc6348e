use Rattle.std.proofs.Common.{◌≡◌, ◌∙◌, sym, arith, length, vec_len}
use Rattle.vcd_reader.specs.Held.{variables_of}
use Rattle.vcd_reader.proofs.LookupLaws.{bindable-at, bindable-inside, size-at}
use Rattle.vcd_reader.proofs.dump.Dump.width.Goals as goal

pub index-requires : goal.index-requires
unfolding variables_of
index-requires c =
    let inside =
    bindable-inside c.args.self.now.scopes.items c.args.self.now.variables.items c.args.var.place c.requires in
    let long : vec_len c.args.self.now.variables ≡ length c.args.self.now.variables.items =
    c.args.self.now.variables.ok.0 in
    omega (arith, inside)

pub returns-clause-size : goal.returns-clause-size
unfolding variables_of
returns-clause-size c =
    size-at c.args.self.now.scopes.items c.args.self.now.variables.items c.args.var.place c.index.result.now
    (bindable-inside c.args.self.now.scopes.items c.args.self.now.variables.items c.args.var.place c.requires)
    c.index.ensures

pub returns-clause-low : goal.returns-clause-low
unfolding variables_of
returns-clause-low c =
    c.index.result.now.low
    (sym (bindable-at c.args.self.now.scopes.items c.args.self.now.variables.items c.args.var.place c.index.result.now
    (bindable-inside c.args.self.now.scopes.items c.args.self.now.variables.items c.args.var.place c.requires)
    c.index.ensures) ∙ c.requires)

pub returns-clause-high : goal.returns-clause-high
unfolding variables_of
returns-clause-high c =
    c.index.result.now.high
    (sym (bindable-at c.args.self.now.scopes.items c.args.self.now.variables.items c.args.var.place c.index.result.now
    (bindable-inside c.args.self.now.scopes.items c.args.self.now.variables.items c.args.var.place c.requires)
    c.index.ensures) ∙ c.requires)
