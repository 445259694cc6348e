use Rattle.std.proofs.Common.{refl}
use Rattle.compiler.proofs.WrittenLaws.{writes-then, writes-as, on-ok}
use Rattle.compiler.proofs.counter.counter_code.Goals as goal

pub returns-in_ok-loaded_code-in-Some : goal.returns-in_ok-loaded_code-in-Some
returns-in_ok-loaded_code-in-Some c =
    let two = writes-then c.in_ok-truth_code-in-Some.ensures c.in_ok-put-in-Some.ensures in
    let three = writes-then two c.in_ok-loaded_code-in-Some.ensures in
    on-ok c.put-in-Some.result c.put-in-Some.ensures
    (λ last. writes-as (rw (c.counter_slot-slot.ensures, c.in-Some.is) refl) (writes-then three
    last))
