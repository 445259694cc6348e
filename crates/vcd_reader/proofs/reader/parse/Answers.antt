use Rattle.std.proofs.Common.{◌∙◌, List, sym, subst}
use Rattle.std.proofs.lemmas.Result.{err_from_is_err_and}
use Rattle.vcd_reader.specs.declared.variable.Variable.{Variable}
use Rattle.vcd_reader.specs.declared.scope.Scope.{Scope}
use Rattle.vcd_reader.specs.declared.places.Part.TheVariants.{Path}
use Rattle.vcd_reader.specs.Index.{texts_in, codes_in, IsIndex}
use Rattle.vcd_reader.specs.Held.{variables_of, steps_in, high_of}
use Rattle.vcd_reader.proofs.DumpLaws.{dump-says, dump-fails, header-fails}
use Rattle.vcd_reader.proofs.reader.parse.Goals as goal

pub returns-in_err-scopes : goal.returns-in_err-scopes
returns-in_err-scopes g c =
    let p = err_from_is_err_and c.from_residual.result c.from_residual.ensures.1 in
    rw (p.1, p.2) (header-fails c.args.bytes.now _ c.in_err-scopes.ensures.header)

pub read_steps-requires-clause-index : goal.read_steps-requires-clause-index
read_steps-requires-clause-index g c =
    subst (λ (vs : List Variable). IsIndex (codes_in vs) c.in_ok-codes.codes)
    (c.deref-4.ensures.value ∙ sym c.deref-5.ensures.value) c.in_ok-codes.ensures

pub returns-in_err-steps : goal.returns-in_err-steps
returns-in_err-steps g c =
    let p = err_from_is_err_and c.from_residual-in_err-steps.result c.from_residual-in_err-steps.ensures.1 in
    let d = c.in_ok-scopes.field-0 in
    rw (p.1, p.2) (dump-fails c.args.bytes.now d.scopes.items d.variables.items _ c.in_ok-scopes.ensures.header _
    (rw c.deref-5.ensures.value at c.in_err-steps.ensures))

pub returns : goal.returns
unfolding variables_of steps_in high_of
returns g c =
    let d = c.in_ok-scopes.field-0 in
    let s =
    dump-says c.args.bytes.now d.scopes.items d.variables.items _ c.in_ok-scopes.ensures.header _
    (rw c.deref-5.ensures.value at c.in_ok-steps.ensures) in
    (s.contents, s.read, record { variables = s.variables; steps = s.steps })

pub invariant_of-result-clause-code_index : goal.invariant_of-result-clause-code_index
invariant_of-result-clause-code_index g c =
    subst (λ (vs : List Variable). IsIndex (codes_in vs) c.in_ok-codes.codes) c.deref-4.ensures.value
    c.in_ok-codes.ensures

pub invariant_of-result-clause-path_index : goal.invariant_of-result-clause-path_index
invariant_of-result-clause-path_index g c =
    let d = c.in_ok-scopes.field-0 in
    subst (λ (vs : List Variable). IsIndex (texts_in Path d.scopes.items vs) c.in_ok-paths.paths)
    c.deref-2.ensures.value
    (subst (λ (ss : List Scope). IsIndex (texts_in Path ss c.deref-2.result.now) c.in_ok-paths.paths)
    c.deref.ensures.value c.in_ok-paths.ensures)

pub invariant_of-result-clause-says : goal.invariant_of-result-clause-says
invariant_of-result-clause-says g c =
    let d = c.in_ok-scopes.field-0 in
    let s =
    dump-says c.args.bytes.now d.scopes.items d.variables.items _ c.in_ok-scopes.ensures.header _
    (rw c.deref-5.ensures.value at c.in_ok-steps.ensures) in
    ∣ (s.contents, record { same_variables = s.variables; same_steps = s.steps }) ∣₁
