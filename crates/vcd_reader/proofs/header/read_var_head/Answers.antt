use Rattle.std.proofs.Common.{◌∙◌, sym, ap}
use Rattle.vcd_reader.specs.Sections.{text_at, tokens_at}
use Rattle.vcd_reader.proofs.HeaderLaws.{opened, then_size, sized, then_code, coded, then_reference}
use Rattle.vcd_reader.proofs.HeaderLaws.{var_type-field, var_size-field, var_code-field}
use Rattle.vcd_reader.proofs.ResumedLaws.{resumed-err}
use Rattle.vcd_reader.proofs.header.read_var_head.Goals as goal

pub returns-in_err-kind-clause-head : goal.returns-in_err-kind-clause-head
returns-in_err-kind-clause-head c = λ opener scopes vars.
    rw (resumed-err _ _ c.from_residual.ensures.1)
    (var_type-field scopes vars _ _
    ∙ c.in_err-kind.ensures.field opener (then_size scopes vars (opened opener c.args.word)))

pub returns-in_err-digits-clause-head : goal.returns-in_err-digits-clause-head
returns-in_err-digits-clause-head c = λ opener scopes vars.
    rw (resumed-err _ _ c.from_residual-in_err-digits.ensures.1)
    (var_type-field scopes vars _ _
    ∙ c.in_ok-kind.ensures.field opener (then_size scopes vars (opened opener c.args.word))
    ∙ var_size-field scopes vars _ (text_at c.args.bytes.now c.in_ok-kind.kind) _
    ∙ c.in_err-digits.ensures.field opener
    (then_code scopes vars (opened opener c.args.word) (text_at c.args.bytes.now c.in_ok-kind.kind)))

pub returns-in_default-clause-head : goal.returns-in_default-clause-head
returns-in_default-clause-head c = λ opener scopes vars.
    var_type-field scopes vars _ _
    ∙ c.in_ok-kind.ensures.field opener (then_size scopes vars (opened opener c.args.word))
    ∙ var_size-field scopes vars _ (text_at c.args.bytes.now c.in_ok-kind.kind) _
    ∙ c.in_ok-digits.ensures.field opener
    (then_code scopes vars (opened opener c.args.word) (text_at c.args.bytes.now c.in_ok-kind.kind))
    ∙ ap (sized scopes vars (opened opener c.args.word) (text_at c.args.bytes.now c.in_ok-kind.kind)
    (opened (text_at c.args.bytes.now c.in_ok-digits.digits) c.in_ok-digits.digits.from)
    (tokens_at c.args.bytes.now c.in_ok-digits.digits.end)) (sym c.in_default.ensures)

pub returns-in_err-code-clause-head : goal.returns-in_err-code-clause-head
returns-in_err-code-clause-head c = λ opener scopes vars.
    rw (resumed-err _ _ c.from_residual-in_err-code.ensures.1)
    (var_type-field scopes vars _ _
    ∙ c.in_ok-kind.ensures.field opener (then_size scopes vars (opened opener c.args.word))
    ∙ var_size-field scopes vars _ (text_at c.args.bytes.now c.in_ok-kind.kind) _
    ∙ c.in_ok-digits.ensures.field opener
    (then_code scopes vars (opened opener c.args.word) (text_at c.args.bytes.now c.in_ok-kind.kind))
    ∙ ap (sized scopes vars (opened opener c.args.word) (text_at c.args.bytes.now c.in_ok-kind.kind)
    (opened (text_at c.args.bytes.now c.in_ok-digits.digits) c.in_ok-digits.digits.from)
    (tokens_at c.args.bytes.now c.in_ok-digits.digits.end)) (sym c.in-Some.ensures)
    ∙ var_code-field scopes vars _ (text_at c.args.bytes.now c.in_ok-kind.kind) c.in-Some.size _
    ∙ c.in_err-code.ensures.field opener
    (then_reference scopes vars (opened opener c.args.word)
    (text_at c.args.bytes.now c.in_ok-kind.kind) c.in-Some.size))

pub returns-then-not-is_code-clause-head : goal.returns-then-not-is_code-clause-head
returns-then-not-is_code-clause-head c = λ opener scopes vars.
    var_type-field scopes vars _ _
    ∙ c.in_ok-kind.ensures.field opener (then_size scopes vars (opened opener c.args.word))
    ∙ var_size-field scopes vars _ (text_at c.args.bytes.now c.in_ok-kind.kind) _
    ∙ c.in_ok-digits.ensures.field opener
    (then_code scopes vars (opened opener c.args.word) (text_at c.args.bytes.now c.in_ok-kind.kind))
    ∙ ap (sized scopes vars (opened opener c.args.word) (text_at c.args.bytes.now c.in_ok-kind.kind)
    (opened (text_at c.args.bytes.now c.in_ok-digits.digits) c.in_ok-digits.digits.from)
    (tokens_at c.args.bytes.now c.in_ok-digits.digits.end)) (sym c.in-Some.ensures)
    ∙ var_code-field scopes vars _ (text_at c.args.bytes.now c.in_ok-kind.kind) c.in-Some.size _
    ∙ c.in_ok-code.ensures.field opener
    (then_reference scopes vars (opened opener c.args.word)
    (text_at c.args.bytes.now c.in_ok-kind.kind) c.in-Some.size)
    ∙ ap (coded scopes vars (opened opener c.args.word) (text_at c.args.bytes.now c.in_ok-kind.kind) c.in-Some.size
    (opened (text_at c.args.bytes.now c.in_ok-code.code) c.in_ok-code.code.from)
    (tokens_at c.args.bytes.now c.in_ok-code.code.end)) (sym c.if-not-is_code.ensures)

pub returns-clause-head : goal.returns-clause-head
returns-clause-head c = λ opener scopes vars.
    var_type-field scopes vars _ _
    ∙ c.in_ok-kind.ensures.field opener (then_size scopes vars (opened opener c.args.word))
    ∙ var_size-field scopes vars _ (text_at c.args.bytes.now c.in_ok-kind.kind) _
    ∙ c.in_ok-digits.ensures.field opener
    (then_code scopes vars (opened opener c.args.word) (text_at c.args.bytes.now c.in_ok-kind.kind))
    ∙ ap (sized scopes vars (opened opener c.args.word) (text_at c.args.bytes.now c.in_ok-kind.kind)
    (opened (text_at c.args.bytes.now c.in_ok-digits.digits) c.in_ok-digits.digits.from)
    (tokens_at c.args.bytes.now c.in_ok-digits.digits.end)) (sym c.in-Some.ensures)
    ∙ var_code-field scopes vars _ (text_at c.args.bytes.now c.in_ok-kind.kind) c.in-Some.size _
    ∙ c.in_ok-code.ensures.field opener
    (then_reference scopes vars (opened opener c.args.word)
    (text_at c.args.bytes.now c.in_ok-kind.kind) c.in-Some.size)
    ∙ ap (coded scopes vars (opened opener c.args.word) (text_at c.args.bytes.now c.in_ok-kind.kind) c.in-Some.size
    (opened (text_at c.args.bytes.now c.in_ok-code.code) c.in_ok-code.code.from)
    (tokens_at c.args.bytes.now c.in_ok-code.code.end)) (sym c.if-not-is_code.ensures)
