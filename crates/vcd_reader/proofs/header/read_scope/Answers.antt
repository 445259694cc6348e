use Rattle.std.proofs.Common.{◌∙◌, [], ◌∷◌, ◌++◌}
use Rattle.vcd_reader.specs.Header.{header}
use Rattle.vcd_reader.specs.Sections.{text_at}
use Rattle.vcd_reader.proofs.HeaderLaws.{opened, then_name, then_close, scope_type-field, scope_name-field}
use Rattle.vcd_reader.proofs.HeaderLaws.{closed-close}
use Rattle.vcd_reader.proofs.ResumedLaws.{resumed-err}
use Rattle.vcd_reader.proofs.header.read_scope.Goals as goal

pub returns-in_err-kind-clause-scope : goal.returns-in_err-kind-clause-scope
returns-in_err-kind-clause-scope c = λ opener scopes vars.
    rw (resumed-err _ _ c.from_residual.ensures.1)
    (scope_type-field scopes vars _ _
    ∙ c.in_err-kind.ensures.field opener (then_name scopes vars (opened opener c.args.word)))

pub returns-in_err-name-clause-scope : goal.returns-in_err-name-clause-scope
returns-in_err-name-clause-scope c = λ opener scopes vars.
    rw (resumed-err _ _ c.from_residual-in_err-name.ensures.1)
    (scope_type-field scopes vars _ _
    ∙ c.in_ok-kind.ensures.field opener (then_name scopes vars (opened opener c.args.word))
    ∙ scope_name-field scopes vars _ _
    ∙ c.in_err-name.ensures.field opener (then_close scopes vars (opened opener c.args.word)))

pub returns-in_err-end-clause-scope : goal.returns-in_err-end-clause-scope
returns-in_err-end-clause-scope c = λ opener scopes vars.
    rw (resumed-err _ _ c.from_residual-in_err-end.ensures.1)
    (scope_type-field scopes vars _ _
    ∙ c.in_ok-kind.ensures.field opener (then_name scopes vars (opened opener c.args.word))
    ∙ scope_name-field scopes vars _ _
    ∙ c.in_ok-name.ensures.field opener (then_close scopes vars (opened opener c.args.word))
    ∙ closed-close (scopes ++ text_at c.args.bytes.now c.in_ok-name.name ∷ []) vars _ _
    ∙ c.in_err-end.ensures.close opener (header (scopes ++ text_at c.args.bytes.now c.in_ok-name.name ∷ []) vars))

pub returns-clause-scope : goal.returns-clause-scope
returns-clause-scope c = λ opener scopes vars.
    scope_type-field scopes vars _ _
    ∙ c.in_ok-kind.ensures.field opener (then_name scopes vars (opened opener c.args.word))
    ∙ scope_name-field scopes vars _ _
    ∙ c.in_ok-name.ensures.field opener (then_close scopes vars (opened opener c.args.word))
    ∙ closed-close (scopes ++ text_at c.args.bytes.now c.in_ok-name.name ∷ []) vars _ _
    ∙ c.in_ok-end.ensures.close opener (header (scopes ++ text_at c.args.bytes.now c.in_ok-name.name ∷ []) vars)
