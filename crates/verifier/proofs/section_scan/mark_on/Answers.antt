use Rattle.std.proofs.Common.{◌≡◌, ◌+◌, ◌-◌, [], ◌∷◌, set, length, true, sym, subst, arith}
use Rattle.bytecode_programs.specs.declared.flow.Flow.{Flow}
use Rattle.verifier.specs.Inference.{sends, jump_faults}
use Rattle.verifier.specs.Marks.{MarksReached}
use Rattle.verifier.proofs.MarkLaws.{marked_set}
use Rattle.verifier.proofs.TypingLaws.{target_clear}
use Rattle.verifier.proofs.section_scan.mark_on.Goals as goal

pub returns-in-GoesOn-clause-marks : goal.returns-in-GoesOn-clause-marks
returns-in-GoesOn-clause-marks c = λ ms reached.
    subst (λ (f : Flow). MarksReached c.args.base (set c.args.marks.now (c.args.k + 1) true)
    (sends (c.args.base + c.args.k) f [] ms)) (sym c.in-GoesOn.is)
    (marked_set c.args.base (c.args.k + 1) (c.args.base + c.args.k + 1) c.args.marks.now ms (omega arith) reached)

pub returns-in-Jumps-clause-marks : goal.returns-in-Jumps-clause-marks
returns-in-Jumps-clause-marks c = λ ms reached.
    let jump =
    target_clear (c.args.base + length c.args.marks.now) (c.args.base + c.args.k) c.in-Jumps.target
    (subst (λ (f : Flow). jump_faults (c.args.base + length c.args.marks.now) (c.args.base + c.args.k) f ≡ [])
    c.in-Jumps.is c.requires.forward) in
    subst (λ (f : Flow). MarksReached c.args.base (set c.args.marks.now (c.in-Jumps.target - c.args.base) true)
    (sends (c.args.base + c.args.k) f [] ms)) (sym c.in-Jumps.is)
    (marked_set c.args.base (c.in-Jumps.target - c.args.base) c.in-Jumps.target c.args.marks.now ms
    (omega (arith, jump.0)) reached)

pub returns-in-Branches-clause-marks : goal.returns-in-Branches-clause-marks
returns-in-Branches-clause-marks c = λ ms reached.
    let jump =
    target_clear (c.args.base + length c.args.marks.now) (c.args.base + c.args.k) c.in-Branches.target
    (subst (λ (f : Flow). jump_faults (c.args.base + length c.args.marks.now) (c.args.base + c.args.k) f ≡ [])
    c.in-Branches.is c.requires.forward) in
    subst (λ (f : Flow). MarksReached c.args.base
    (set (set c.args.marks.now (c.in-Branches.target - c.args.base) true) (c.args.k + 1) true)
    (sends (c.args.base + c.args.k) f [] ms)) (sym c.in-Branches.is)
    (marked_set c.args.base (c.args.k + 1) (c.args.base + c.args.k + 1)
    (set c.args.marks.now (c.in-Branches.target - c.args.base) true)
    (record { to = c.in-Branches.target; list = [] } ∷ ms) (omega arith)
    (marked_set c.args.base (c.in-Branches.target - c.args.base) c.in-Branches.target c.args.marks.now ms
    (omega (arith, jump.0)) reached))
