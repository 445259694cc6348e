use Rattle.compiler.proofs.WrittenLaws.{writes-then, on-ok}
use Rattle.compiler.proofs.counter.balance_code.Goals as goal

pub returns : goal.returns
returns c =
    let two = writes-then c.in_ok-amount_code.ensures c.in_ok-amount_code-2.ensures in
    let first = writes-then two (writes-then c.in_ok-put.ensures c.in_ok-put-2.ensures) in
    let four = writes-then (writes-then first c.in_ok-amount_code-3.ensures)
    c.in_ok-amount_code-4.ensures in
    on-ok c.put-4.result c.put-4.ensures
    (λ last. writes-then four (writes-then c.in_ok-put-3.ensures last))
