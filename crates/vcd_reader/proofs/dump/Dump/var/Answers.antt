use Rattle.std.proofs.Common.{◌∙◌}
use Rattle.vcd_reader.specs.Held.{variables_of}
use Rattle.vcd_reader.proofs.LookupLaws.{bindable-at, named-none, named-bound, named-unbound}
use Rattle.vcd_reader.proofs.dump.Dump.var.Goals as goal

pub returns-in-None-clause-place : goal.returns-in-None-clause-place
unfolding variables_of
returns-in-None-clause-place c =
    named-none c.args.self.now.scopes.items c.args.self.now.variables.items c.args.path.now
    (rw (c.deref.ensures.value, c.deref-2.ensures.value, c.as_bytes.ensures.value) at c.in-None.ensures.place)

pub returns-then-index-clause-place : goal.returns-then-index-clause-place
unfolding variables_of
returns-then-index-clause-place c =
    let inside = rw c.deref-2.ensures.value at c.in-Some.ensures.inside in
    named-bound c.args.self.now.scopes.items c.args.self.now.variables.items c.args.path.now c.in-Some.place
    (rw (c.deref.ensures.value, c.deref-2.ensures.value, c.as_bytes.ensures.value) at c.in-Some.ensures.place)
    (bindable-at c.args.self.now.scopes.items c.args.self.now.variables.items c.in-Some.place c.index.result.now
    inside c.index.ensures ∙ c.if-index.true)

pub returns-then-index-clause-of : goal.returns-then-index-clause-of
unfolding variables_of
returns-then-index-clause-of c =
    let inside = rw c.deref-2.ensures.value at c.in-Some.ensures.inside in
    bindable-at c.args.self.now.scopes.items c.args.self.now.variables.items c.in-Some.place c.index.result.now inside
    c.index.ensures ∙ c.if-index.true

pub returns-else-index-clause-place : goal.returns-else-index-clause-place
unfolding variables_of
returns-else-index-clause-place c =
    let inside = rw c.deref-2.ensures.value at c.in-Some.ensures.inside in
    named-unbound c.args.self.now.scopes.items c.args.self.now.variables.items c.args.path.now c.in-Some.place
    (rw (c.deref.ensures.value, c.deref-2.ensures.value, c.as_bytes.ensures.value) at c.in-Some.ensures.place)
    (bindable-at c.args.self.now.scopes.items c.args.self.now.variables.items c.in-Some.place c.index.result.now
    inside c.index.ensures ∙ c.if-index.false)
