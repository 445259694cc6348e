use Rattle.std.proofs.Common.{◌<◌, ℕ, map, length, sym, arith, subst}
use Rattle.types.specs.Views.{draft_of}
use Rattle.types.proofs.CyclicLaws.{some_cyclic}
use Rattle.types.specs.CycleStages.{IsLowest}
use Rattle.types.proofs.StageLaws.{refused_memory}
use Rattle.types.proofs.CycleStage.{entry_acyclic, clear_6, first_6}
use Rattle.types.proofs.stages.check_cycles.Goals as goal
use Rattle.std.proofs.lemmas.List.{length-map}

pub returns-then-has_all-clause-ok : goal.returns-then-has_all-clause-ok
returns-then-has_all-clause-ok c = λ s items o clear.
    clear_6 s items (map draft_of c.args.bodies.now) c.args.bytes.now o
    (λ p h. entry_acyclic (map draft_of c.args.bodies.now) c.args.table.now p c.requires.entries
    (c.has_all.ensures.all c.if-has_all.true p
    (omega (arith, h, c.requires.long, length-map c.args.bodies.now draft_of))))
    clear

pub returns-in_err-first_cycle-clause-err : goal.returns-in_err-first_cycle-clause-err
returns-in_err-first_cycle-clause-err c = λ s items o clear.
    refused_memory s items c.from_residual.result c.from_residual.ensures.1

pub returns-in-Some-clause-err : goal.returns-in-Some-clause-err
returns-in-Some-clause-err c = λ s items o clear.
    let bodies = map draft_of c.args.bodies.now in
    let low = rw c.in-Some.is at c.in_ok-first_cycle.ensures in
    first_6 s items bodies c.args.bytes.now o c.in-Some.at
    (subst (λ (n : ℕ). IsLowest bodies c.args.bytes.now n c.in-Some.at)
    (sym (length-map c.args.bodies.now draft_of)) low) clear

-- one that lacks an entry would reach a cycle
pub returns-in-None-clause-entries : goal.returns-in-None-clause-entries
returns-in-None-clause-entries c = λ p h. absurd (no_cycle p h)
  where
    no_cycle : (p : ℕ) → p < length c.args.bodies.now → ⊥
    no_cycle p h =
        let lack = c.has_all.ensures.some c.if-has_all.false in
        let some =
        some_cyclic (map draft_of c.args.bodies.now) lack.place
        (c.requires.cyclic lack.place (omega (arith, lack.inside, c.requires.long)) lack.lacking) in
        let none = rw c.in-None.is at c.in_ok-first_cycle.ensures in
        none some.0 (omega (arith, some.1, length-map c.args.bodies.now draft_of)) some.2

pub returns-in-None-clause-ok : goal.returns-in-None-clause-ok
returns-in-None-clause-ok c = λ s items o clear. absurd no_cycle
  where
    no_cycle : ⊥
    no_cycle =
        let lack = c.has_all.ensures.some c.if-has_all.false in
        let some =
        some_cyclic (map draft_of c.args.bodies.now) lack.place
        (c.requires.cyclic lack.place (omega (arith, lack.inside, c.requires.long)) lack.lacking) in
        let none = rw c.in-None.is at c.in_ok-first_cycle.ensures in
        none some.0 (omega (arith, some.1, length-map c.args.bodies.now draft_of)) some.2
