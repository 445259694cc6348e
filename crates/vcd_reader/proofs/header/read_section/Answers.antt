use Rattle.std.proofs.Common.{◌∙◌, List, Ok, Result}
use Rattle.std.specs.Prelude.{slice_range}
use Rattle.vcd_reader.specs.Tokens.{DumpToken}
use Rattle.vcd_reader.specs.declared.fault.Fault.{Fault}
use Rattle.vcd_reader.specs.Header.{Header, header, outer_scopes}
use Rattle.vcd_reader.specs.Sections.{tokens_at}
use Rattle.vcd_reader.proofs.HeaderLaws.{at-ends, at-scope, at-upscope, at-var, at-other, fails-along}
use Rattle.vcd_reader.proofs.ResumedLaws.{resumed-err}
use Rattle.vcd_reader.proofs.header.read_section.Goals as goal

pub returns-in_err-stop-in-Ends-clause-section : goal.returns-in_err-stop-in-Ends-clause-section
returns-in_err-stop-in-Ends-clause-section c = λ scopes vars.
    rw (resumed-err _ _ c.from_residual.ensures.1)
    (at-ends scopes vars (slice_range c.args.bytes.now c.args.from c.args.end) c.args.from
    (tokens_at c.args.bytes.now c.args.end) c.in-Ends.ensures
    ∙ c.in_err-stop-in-Ends.ensures.close (slice_range c.args.bytes.now c.args.from c.args.end)
    (λ (us : List DumpToken). let r : Result Header Fault = Ok (vars, us) in r))

pub returns-in_ok-stop-in-Ends-clause-section : goal.returns-in_ok-stop-in-Ends-clause-section
returns-in_ok-stop-in-Ends-clause-section c = λ scopes vars.
    at-ends scopes vars (slice_range c.args.bytes.now c.args.from c.args.end) c.args.from
    (tokens_at c.args.bytes.now c.args.end) c.in-Ends.ensures
    ∙ c.in_ok-stop-in-Ends.ensures.close (slice_range c.args.bytes.now c.args.from c.args.end)
    (λ (us : List DumpToken). let r : Result Header Fault = Ok (vars, us) in r)

pub returns-in_err-name-in-Scope-clause-section : goal.returns-in_err-name-in-Scope-clause-section
returns-in_err-name-in-Scope-clause-section c = λ scopes vars.
    rw (resumed-err _ _ c.from_residual-in_err-name-in-Scope.ensures.1)
    (at-scope scopes vars (slice_range c.args.bytes.now c.args.from c.args.end) c.args.from
    (tokens_at c.args.bytes.now c.args.end) c.in-Scope.ensures
    ∙ c.in_err-name-in-Scope.ensures.scope (slice_range c.args.bytes.now c.args.from c.args.end)
    scopes vars)

pub returns-in_ok-name-in-Scope-clause-section : goal.returns-in_ok-name-in-Scope-clause-section
returns-in_ok-name-in-Scope-clause-section c = λ scopes vars.
    at-scope scopes vars (slice_range c.args.bytes.now c.args.from c.args.end) c.args.from
    (tokens_at c.args.bytes.now c.args.end) c.in-Scope.ensures
    ∙ c.in_ok-name-in-Scope.ensures.scope (slice_range c.args.bytes.now c.args.from c.args.end)
    scopes vars

pub returns-in_err-stop-in-Upscope-clause-section : goal.returns-in_err-stop-in-Upscope-clause-section
returns-in_err-stop-in-Upscope-clause-section c = λ scopes vars.
    rw (resumed-err _ _ c.from_residual-in_err-stop-in-Upscope.ensures.1)
    (at-upscope scopes vars (slice_range c.args.bytes.now c.args.from c.args.end) c.args.from
    (tokens_at c.args.bytes.now c.args.end) c.in-Upscope.ensures
    ∙ c.in_err-stop-in-Upscope.ensures.close (slice_range c.args.bytes.now c.args.from c.args.end)
    (λ (us : List DumpToken). header (outer_scopes scopes) vars us))

pub returns-in_ok-stop-in-Upscope-clause-section : goal.returns-in_ok-stop-in-Upscope-clause-section
returns-in_ok-stop-in-Upscope-clause-section c = λ scopes vars.
    at-upscope scopes vars (slice_range c.args.bytes.now c.args.from c.args.end) c.args.from
    (tokens_at c.args.bytes.now c.args.end) c.in-Upscope.ensures
    ∙ c.in_ok-stop-in-Upscope.ensures.close (slice_range c.args.bytes.now c.args.from c.args.end)
    (λ (us : List DumpToken). header (outer_scopes scopes) vars us)

pub returns-in_err-variable-in-Var-clause-section : goal.returns-in_err-variable-in-Var-clause-section
returns-in_err-variable-in-Var-clause-section c = λ scopes vars.
    rw (resumed-err _ _ c.from_residual-in_err-variable-in-Var.ensures.1)
    (fails-along _ (at-var scopes vars (slice_range c.args.bytes.now c.args.from c.args.end) c.args.from
    (tokens_at c.args.bytes.now c.args.end) c.in-Var.ensures)
    (c.in_err-variable-in-Var.ensures.variable (slice_range c.args.bytes.now c.args.from c.args.end) scopes vars))

pub returns-in_ok-variable-in-Var-clause-section : goal.returns-in_ok-variable-in-Var-clause-section
returns-in_ok-variable-in-Var-clause-section c = λ scopes vars.
    at-var scopes vars (slice_range c.args.bytes.now c.args.from c.args.end) c.args.from
    (tokens_at c.args.bytes.now c.args.end) c.in-Var.ensures
    ∙ c.in_ok-variable-in-Var.ensures.variable (slice_range c.args.bytes.now c.args.from c.args.end) scopes vars

pub returns-in_err-stop-in-Other-clause-section : goal.returns-in_err-stop-in-Other-clause-section
returns-in_err-stop-in-Other-clause-section c = λ scopes vars.
    rw (resumed-err _ _ c.from_residual-in_err-stop-in-Other.ensures.1)
    (at-other scopes vars (slice_range c.args.bytes.now c.args.from c.args.end) c.args.from
    (tokens_at c.args.bytes.now c.args.end) c.in-Other.ensures
    ∙ c.in_err-stop-in-Other.ensures.skipped (slice_range c.args.bytes.now c.args.from c.args.end)
    scopes vars)

pub returns-in_ok-stop-in-Other-clause-section : goal.returns-in_ok-stop-in-Other-clause-section
returns-in_ok-stop-in-Other-clause-section c = λ scopes vars.
    at-other scopes vars (slice_range c.args.bytes.now c.args.from c.args.end) c.args.from
    (tokens_at c.args.bytes.now c.args.end) c.in-Other.ensures
    ∙ c.in_ok-stop-in-Other.ensures.skipped (slice_range c.args.bytes.now c.args.from c.args.end)
    scopes vars
