use Rattle.std.proofs.Common.{◌≡◌, ◌∙◌, ◌<◌, arith, length, vec_len, refl, map}
use Rattle.std.proofs.lemmas.List.{length-map}
use Rattle.vcd_reader.specs.declared.places.Part.TheVariants.{Path}
use Rattle.vcd_reader.specs.Index.{texts_in}
use Rattle.vcd_reader.specs.Stored.{declaration_of}
use Rattle.vcd_reader.specs.Held.{variables_of}
use Rattle.vcd_reader.proofs.LookupLaws.{bindable-at, itself-bound, itself-unbound}
use Rattle.vcd_reader.proofs.dump.Dump.names_itself.Goals as goal

pub index-requires : goal.index-requires
unfolding variables_of
index-requires c =
    let mapped : length (map (declaration_of c.args.self.now.scopes.items) c.args.self.now.variables.items)
    ≡ length c.args.self.now.variables.items = rw length-map refl in
    let long : vec_len c.args.self.now.variables ≡ length c.args.self.now.variables.items =
    c.args.self.now.variables.ok.0 in
    omega (arith, c.requires)

pub index-requires-then-index : goal.index-requires-then-index
unfolding variables_of
index-requires-then-index c =
    let mapped : length (map (declaration_of c.args.self.now.scopes.items) c.args.self.now.variables.items)
    ≡ length c.args.self.now.variables.items = rw length-map refl in
    let texts : length (texts_in Path c.args.self.now.scopes.items c.args.self.now.variables.items)
    ≡ length c.args.self.now.variables.items = rw length-map refl in
    let long : vec_len c.args.self.now.paths.firsts ≡ length c.args.self.now.paths.firsts.items =
    c.args.self.now.paths.firsts.ok.0 in
    omega (arith, c.requires, c.args.self.now.path_index.long)

pub returns-then-index : goal.returns-then-index
unfolding variables_of
returns-then-index c =
    let inside : c.args.place < length c.args.self.now.variables.items = rw length-map at c.requires in
    itself-bound c.args.self.now.scopes.items c.args.self.now.variables.items c.args.self.now.paths c.args.place
    c.index-then-index.result.now c.args.self.now.path_index inside c.index-then-index.ensures
    (bindable-at c.args.self.now.scopes.items c.args.self.now.variables.items c.args.place c.index.result.now inside
    c.index.ensures ∙ c.if-index.true)

pub returns-else-index : goal.returns-else-index
unfolding variables_of
returns-else-index c =
    let inside : c.args.place < length c.args.self.now.variables.items = rw length-map at c.requires in
    c.if-index.false ∙ itself-unbound c.args.self.now.scopes.items c.args.self.now.variables.items c.args.self.now.paths
    c.args.place c.args.self.now.path_index inside
    (bindable-at c.args.self.now.scopes.items c.args.self.now.variables.items c.args.place c.index.result.now inside
    c.index.ensures ∙ c.if-index.false)
