use Rattle.std.proofs.Common.{◌≡◌, ◌∙◌, ◌++◌, ◌∷◌, ◌+◌, [], ◌<◌, arith, sym, ap, length, map, drop, refl, List}
use Rattle.std.proofs.Common.{append_assoc}
use Rattle.std.proofs.lemmas.List.{length-map, map-append, append-nil}
use Rattle.std.proofs.Math.ListN.{drop_of_length-le}
use Rattle.vcd_reader.specs.Stored.{declaration_of}
use Rattle.vcd_reader.specs.Variables.{Named, names_of, names_from}
use Rattle.vcd_reader.specs.Held.{variables_of, named_of}
use Rattle.vcd_reader.proofs.LookupLaws.{names-skip, names-take}
use Rattle.vcd_reader.proofs.dump.Dump.names.Goals as goal

pub names_itself-requires : goal.names_itself-requires
unfolding variables_of
names_itself-requires c =
    let mapped : length (map (declaration_of c.args.self.now.scopes.items) c.args.self.now.variables.items)
    ≡ length c.args.self.now.variables.items = rw length-map refl in
    omega arith

pub loop-place-preserved-then-not-names_itself : goal.loop-place-preserved-then-not-names_itself
unfolding variables_of
loop-place-preserved-then-not-names_itself c =
    let mapped : length (map (declaration_of c.args.self.now.scopes.items) c.args.self.now.variables.items)
    ≡ length c.args.self.now.variables.items = rw length-map refl in
    ap (λ (ns : List Named). map named_of c.loop-place.names.items ++ ns)
    (names-skip (map (declaration_of c.args.self.now.scopes.items) c.args.self.now.variables.items)
    c.loop-place.place (omega arith) c.if-not-names_itself.ensures) ∙ c.loop-place.invariant

pub loop-place-preserved : goal.loop-place-preserved
unfolding variables_of
loop-place-preserved c =
    let lt : c.loop-place.place < length c.args.self.now.variables.items = omega arith in
    let vs = c.args.self.now.variables.items in
    let rest =
    names_from (map (declaration_of c.args.self.now.scopes.items) vs) (c.loop-place.place + 1)
    (drop (c.loop-place.place + 1) (map (declaration_of c.args.self.now.scopes.items) vs)) in
    let name : Named = record { path = c.in_ok-path.path.items; width = c.index-variable.result.now.size } in
    let pushed : map named_of c.push.new.self.items ≡ map named_of c.loop-place.names.items ++ name ∷ [] =
    rw (c.in_ok-push.ensures.items, map-append) refl in
    ap (λ (ns : List Named). ns ++ rest) pushed ∙ append_assoc (map named_of c.loop-place.names.items) (name ∷ []) rest
    ∙ ap (λ (ns : List Named). map named_of c.loop-place.names.items ++ ns)
    (names-take c.args.self.now.scopes.items vs c.loop-place.place c.index-variable.result.now
    c.in_ok-path.path.items lt c.index-variable.ensures
    (rw (c.deref.ensures.value, c.deref-in-loop-place.ensures.value) at c.in_ok-path.ensures)
    c.if-not-names_itself.ensures)
    ∙ c.loop-place.invariant

pub returns : goal.returns
unfolding variables_of names_of names_from
returns c =
    let mapped : length (map (declaration_of c.args.self.now.scopes.items) c.args.self.now.variables.items)
    ≡ length c.args.self.now.variables.items = rw length-map refl in
    let none : drop c.loop-place.place
    (map (declaration_of c.args.self.now.scopes.items) c.args.self.now.variables.items)
    ≡ [] = drop_of_length-le (map (declaration_of c.args.self.now.scopes.items) c.args.self.now.variables.items)
    (omega arith) in
    let all = rw none at c.loop-place.invariant in
    sym (append-nil (map named_of c.loop-place.names.items)) ∙ all
