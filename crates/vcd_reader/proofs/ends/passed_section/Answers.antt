use Rattle.std.proofs.Common.{◌∙◌, ◌++◌, ◌∷◌, [], List, Ok, Result}
use Rattle.std.specs.Prelude.{slice_range}
use Rattle.vcd_reader.specs.Tokens.{DumpToken}
use Rattle.vcd_reader.specs.declared.fault.Fault.{Fault}
use Rattle.vcd_reader.specs.Header.{Header, header, outer_scopes, variable}
use Rattle.vcd_reader.specs.Sections.{text_at, tokens_at, head_at}
use Rattle.vcd_reader.proofs.HeaderLaws.{at-ends, at-scope, at-upscope, at-var, at-other}
use Rattle.vcd_reader.proofs.ResumedLaws.{resumed-err}
use Rattle.vcd_reader.proofs.ends.passed_section.Goals as goal

pub returns-in_err-stop-in-Ends-clause-section : goal.returns-in_err-stop-in-Ends-clause-section
returns-in_err-stop-in-Ends-clause-section c = λ scopes vars.
    let word = slice_range c.args.bytes.now c.args.from c.args.end in
    rw (resumed-err _ _ c.from_residual.ensures.1)
    (at-ends scopes vars word c.args.from (tokens_at c.args.bytes.now c.args.end) c.in-Ends.ensures
    ∙ c.in_err-stop-in-Ends.ensures.close word
    (λ (us : List DumpToken). let r : Result Header Fault = Ok (vars, us) in r))

pub returns-in_ok-stop-in-Ends-clause-section : goal.returns-in_ok-stop-in-Ends-clause-section
returns-in_ok-stop-in-Ends-clause-section c = λ scopes vars.
    let word = slice_range c.args.bytes.now c.args.from c.args.end in
    at-ends scopes vars word c.args.from (tokens_at c.args.bytes.now c.args.end) c.in-Ends.ensures
    ∙ c.in_ok-stop-in-Ends.ensures.close word
    (λ (us : List DumpToken). let r : Result Header Fault = Ok (vars, us) in r)

pub returns-in_err-scope-in-Scope-clause-section : goal.returns-in_err-scope-in-Scope-clause-section
returns-in_err-scope-in-Scope-clause-section c = λ scopes vars.
    let word = slice_range c.args.bytes.now c.args.from c.args.end in
    rw (resumed-err _ _ c.from_residual-in_err-scope-in-Scope.ensures.1)
    (at-scope scopes vars word c.args.from (tokens_at c.args.bytes.now c.args.end) c.in-Scope.ensures
    ∙ c.in_err-scope-in-Scope.ensures.scope word scopes vars)

pub returns-in_ok-scope-in-Scope-clause-section : goal.returns-in_ok-scope-in-Scope-clause-section
returns-in_ok-scope-in-Scope-clause-section c = λ scopes vars.
    let word = slice_range c.args.bytes.now c.args.from c.args.end in (
      scopes ++ text_at c.args.bytes.now c.in_ok-scope-in-Scope.scope.0 ∷ [],
      vars,
      at-scope scopes vars word c.args.from (tokens_at c.args.bytes.now c.args.end) c.in-Scope.ensures
          ∙ c.in_ok-scope-in-Scope.ensures.scope word scopes vars,
    )

pub returns-in_err-stop-in-Upscope-clause-section : goal.returns-in_err-stop-in-Upscope-clause-section
returns-in_err-stop-in-Upscope-clause-section c = λ scopes vars.
    let word = slice_range c.args.bytes.now c.args.from c.args.end in
    rw (resumed-err _ _ c.from_residual-in_err-stop-in-Upscope.ensures.1)
    (at-upscope scopes vars word c.args.from (tokens_at c.args.bytes.now c.args.end) c.in-Upscope.ensures
    ∙ c.in_err-stop-in-Upscope.ensures.close word
    (λ (us : List DumpToken). header (outer_scopes scopes) vars us))

pub returns-in_ok-stop-in-Upscope-clause-section : goal.returns-in_ok-stop-in-Upscope-clause-section
returns-in_ok-stop-in-Upscope-clause-section c = λ scopes vars.
    let word = slice_range c.args.bytes.now c.args.from c.args.end in (
      outer_scopes scopes,
      vars,
      at-upscope scopes vars word c.args.from (tokens_at c.args.bytes.now c.args.end) c.in-Upscope.ensures
          ∙ c.in_ok-stop-in-Upscope.ensures.close word
          (λ (us : List DumpToken). header (outer_scopes scopes) vars us),
    )

pub returns-in_err-head-in-Var-clause-section : goal.returns-in_err-head-in-Var-clause-section
returns-in_err-head-in-Var-clause-section c = λ scopes vars.
    let word = slice_range c.args.bytes.now c.args.from c.args.end in
    rw (resumed-err _ _ c.from_residual-in_err-head-in-Var.ensures.1)
    (at-var scopes vars word c.args.from (tokens_at c.args.bytes.now c.args.end) c.in-Var.ensures
    ∙ c.in_err-head-in-Var.ensures.head word scopes vars)

pub returns-in_err-stop-in-Var-clause-section : goal.returns-in_err-stop-in-Var-clause-section
returns-in_err-stop-in-Var-clause-section c = λ scopes vars.
    let word = slice_range c.args.bytes.now c.args.from c.args.end in
    let head = head_at c.args.bytes.now c.in_ok-head-in-Var.head in
    rw (resumed-err _ _ c.from_residual-in_err-stop-in-Var.ensures.1)
    (at-var scopes vars word c.args.from (tokens_at c.args.bytes.now c.args.end) c.in-Var.ensures
    ∙ c.in_ok-head-in-Var.ensures.head word scopes vars
    ∙ c.in_err-stop-in-Var.ensures.reference word scopes vars head)

pub returns-in_ok-stop-in-Var-clause-section : goal.returns-in_ok-stop-in-Var-clause-section
returns-in_ok-stop-in-Var-clause-section c = λ scopes vars.
    let word = slice_range c.args.bytes.now c.args.from c.args.end in
    let head = head_at c.args.bytes.now c.in_ok-head-in-Var.head in
    let passed = c.in_ok-stop-in-Var.ensures.reference in (
      scopes,
      vars ++ variable scopes head passed.0 ∷ [],
      at-var scopes vars word c.args.from (tokens_at c.args.bytes.now c.args.end) c.in-Var.ensures
          ∙ c.in_ok-head-in-Var.ensures.head word scopes vars
          ∙ passed.1 word scopes vars head,
    )

pub returns-in_err-stop-in-Other-clause-section : goal.returns-in_err-stop-in-Other-clause-section
returns-in_err-stop-in-Other-clause-section c = λ scopes vars.
    let word = slice_range c.args.bytes.now c.args.from c.args.end in
    rw (resumed-err _ _ c.from_residual-in_err-stop-in-Other.ensures.1)
    (at-other scopes vars word c.args.from (tokens_at c.args.bytes.now c.args.end) c.in-Other.ensures
    ∙ c.in_err-stop-in-Other.ensures.skipped word scopes vars)

pub returns-in_ok-stop-in-Other-clause-section : goal.returns-in_ok-stop-in-Other-clause-section
returns-in_ok-stop-in-Other-clause-section c = λ scopes vars.
    let word = slice_range c.args.bytes.now c.args.from c.args.end in (
      scopes,
      vars,
      at-other scopes vars word c.args.from (tokens_at c.args.bytes.now c.args.end) c.in-Other.ensures
          ∙ c.in_ok-stop-in-Other.ensures.skipped word scopes vars,
    )
