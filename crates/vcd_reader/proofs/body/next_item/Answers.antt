use Rattle.std.proofs.Common.{◌∙◌, ℕ, List, ap, sym, length, Result}
use Rattle.vcd_reader.specs.declared.fault.Fault.{Fault}
use Rattle.vcd_reader.specs.declared.item.Item.{Item}
use Rattle.vcd_reader.specs.Index.{codes_in}
use Rattle.vcd_reader.specs.Body.{body}
use Rattle.vcd_reader.specs.Faults.{◌>>=◌}
use Rattle.vcd_reader.specs.Kept.{kept_result, with_item, scalar_item}
use Rattle.vcd_reader.specs.Sections.{tokens_at}
use Rattle.vcd_reader.proofs.BodyLaws.{body-scalar, body-vector, body-section, behind}
use Rattle.vcd_reader.proofs.ResumedLaws.{resumed-err}
use Rattle.vcd_reader.proofs.body.next_item.Goals as goal

pub returns-in_err-item-in-Scalar-clause-item : goal.returns-in_err-item-in-Scalar-clause-item
returns-in_err-item-in-Scalar-clause-item c = λ count now.
    rw (resumed-err _ _ c.from_residual.ensures.1)
    (body-scalar (codes_in c.args.codes.now.variables.now) (length c.args.bytes.now) count now _ _
    c.in-Some.from (tokens_at c.args.bytes.now c.in-Some.end) c.in-Some.ensures.tokens c.in-Scalar.value
    c.in-Scalar.ensures
    ∙ ap (λ (t : List ℕ). scalar_item (codes_in c.args.codes.now.variables.now) (length c.args.bytes.now) t
    c.in-Scalar.value c.in-Some.from >>= λ i. with_item i count now
    (λ k n. kept_result (body (codes_in c.args.codes.now.variables.now) (length c.args.bytes.now) k n
    (tokens_at c.args.bytes.now c.in-Some.end))))
    (behind c.args.bytes.now c.in-Some.from c.in-Some.end c.in-Some.ensures.some.1 c.in-Some.ensures.some.2)
    ∙ ap (λ (r : Result Item Fault). r >>= λ i. with_item i count now
    (λ k n. kept_result (body (codes_in c.args.codes.now.variables.now) (length c.args.bytes.now) k n
    (tokens_at c.args.bytes.now c.in-Some.end))))
    (sym c.in_err-item-in-Scalar.ensures))

pub returns-in_ok-item-in-Scalar-clause-item : goal.returns-in_ok-item-in-Scalar-clause-item
returns-in_ok-item-in-Scalar-clause-item c = λ count now.
    body-scalar (codes_in c.args.codes.now.variables.now) (length c.args.bytes.now) count now _ _
    c.in-Some.from (tokens_at c.args.bytes.now c.in-Some.end) c.in-Some.ensures.tokens c.in-Scalar.value
    c.in-Scalar.ensures
    ∙ ap (λ (t : List ℕ). scalar_item (codes_in c.args.codes.now.variables.now) (length c.args.bytes.now) t
    c.in-Scalar.value c.in-Some.from >>= λ i. with_item i count now
    (λ k n. kept_result (body (codes_in c.args.codes.now.variables.now) (length c.args.bytes.now) k n
    (tokens_at c.args.bytes.now c.in-Some.end))))
    (behind c.args.bytes.now c.in-Some.from c.in-Some.end c.in-Some.ensures.some.1 c.in-Some.ensures.some.2)
    ∙ ap (λ (r : Result Item Fault). r >>= λ i. with_item i count now
    (λ k n. kept_result (body (codes_in c.args.codes.now.variables.now) (length c.args.bytes.now) k n
    (tokens_at c.args.bytes.now c.in-Some.end))))
    (sym c.in_ok-item-in-Scalar.ensures)

pub returns-in_err-item-in-Vector-clause-item : goal.returns-in_err-item-in-Vector-clause-item
returns-in_err-item-in-Vector-clause-item c = λ count now.
    rw (resumed-err _ _ c.from_residual-in_err-item-in-Vector.ensures.1)
    (body-vector (codes_in c.args.codes.now.variables.now) (length c.args.bytes.now) count now _ _
    c.in-Some.from _ c.in-Some.ensures.tokens c.in-Vector.value _ c.in-Some-next_token.from
    (tokens_at c.args.bytes.now c.in-Some-next_token.end) c.in-Vector.ensures c.in-Some-next_token.ensures.tokens
    ∙ ap (λ (r : Result Item Fault). r >>= λ i. with_item i count now
    (λ k n. kept_result (body (codes_in c.args.codes.now.variables.now) (length c.args.bytes.now) k n
    (tokens_at c.args.bytes.now c.in-Some-next_token.end))))
    (sym c.in_err-item-in-Vector.ensures))

pub returns-in_ok-item-in-Vector-clause-item : goal.returns-in_ok-item-in-Vector-clause-item
returns-in_ok-item-in-Vector-clause-item c = λ count now.
    body-vector (codes_in c.args.codes.now.variables.now) (length c.args.bytes.now) count now _ _
    c.in-Some.from _ c.in-Some.ensures.tokens c.in-Vector.value _ c.in-Some-next_token.from
    (tokens_at c.args.bytes.now c.in-Some-next_token.end) c.in-Vector.ensures c.in-Some-next_token.ensures.tokens
    ∙ ap (λ (r : Result Item Fault). r >>= λ i. with_item i count now
    (λ k n. kept_result (body (codes_in c.args.codes.now.variables.now) (length c.args.bytes.now) k n
    (tokens_at c.args.bytes.now c.in-Some-next_token.end))))
    (sym c.in_ok-item-in-Vector.ensures)

pub returns-in_err-end-in-Section-clause-item : goal.returns-in_err-end-in-Section-clause-item
returns-in_err-end-in-Section-clause-item c = λ count now.
    rw (resumed-err _ _ c.from_residual-in_err-end-in-Section.ensures.1)
    (body-section (codes_in c.args.codes.now.variables.now) (length c.args.bytes.now) count now _ _
    c.in-Some.from _ c.in-Some.ensures.tokens c.in-Section.ensures
    ∙ ap kept_result
    (c.in_err-end-in-Section.ensures.section (codes_in c.args.codes.now.variables.now)
    (length c.args.bytes.now) count now))

pub returns-in_ok-end-in-Section-clause-item : goal.returns-in_ok-end-in-Section-clause-item
returns-in_ok-end-in-Section-clause-item c = λ count now.
    body-section (codes_in c.args.codes.now.variables.now) (length c.args.bytes.now) count now _ _
    c.in-Some.from _ c.in-Some.ensures.tokens c.in-Section.ensures
    ∙ ap kept_result
    (c.in_ok-end-in-Section.ensures.section (codes_in c.args.codes.now.variables.now)
    (length c.args.bytes.now) count now)
