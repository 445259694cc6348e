use Rattle.std.proofs.Common.{◌≡◌, ℕ, List, ◌+◌, ◌∙◌, [], ◌∷◌, length, reverse, sym, subst, arith}
use Rattle.bytecode_programs.specs.declared.flow.Flow.{Flow}
use Rattle.verifier.specs.Inference.{sends, jump_faults}
use Rattle.verifier.specs.Arrivals.{HoldsFrom}
use Rattle.verifier.proofs.TypingLaws.{target_clear}
use Rattle.verifier.proofs.sample_scan.send_on.Goals as goal

pub returns-in-Jumps : goal.returns-in-Jumps
returns-in-Jumps c = λ ms holds.
    let jump =
    target_clear (length c.args.pending.now) c.args.pc c.in-Jumps.target
    (subst (λ (f : Flow). jump_faults (length c.args.pending.now) c.args.pc f ≡ []) c.in-Jumps.is
    c.requires.forward) in
    subst (λ (f : Flow). HoldsFrom (c.args.pc + 1) c.send-in-Jumps.new.pending
    (sends c.args.pc f (reverse c.args.list.items) ms)) (sym c.in-Jumps.is)
    (c.send-in-Jumps.ensures (c.args.pc + 1) ms (omega (arith, jump.0)) holds)

pub returns-in_ok-copied-in-Branches : goal.returns-in_ok-copied-in-Branches
returns-in_ok-copied-in-Branches c = λ ms holds.
    let target = c.in-Branches.target in
    let jump =
    target_clear (length c.args.pending.now) c.args.pc target
    (subst (λ (f : Flow). jump_faults (length c.args.pending.now) c.args.pc f ≡ []) c.in-Branches.is
    c.requires.forward) in
    let copied : c.in_ok-copied-in-Branches.copied.items ≡ c.args.list.items =
    c.in_ok-copied-in-Branches.ensures.items ∙ c.as_slice.ensures.value in
    let first = c.send-in-Branches.ensures (c.args.pc + 1) ms (omega (arith, jump.0)) holds in
    let both =
    c.send-in-Branches-2.ensures (c.args.pc + 1)
    (record { to = target; list = reverse c.in_ok-copied-in-Branches.copied.items } ∷ ms) (omega arith) first in
    subst (λ (f : Flow). HoldsFrom (c.args.pc + 1) c.send-in-Branches-2.new.pending
    (sends c.args.pc f (reverse c.args.list.items) ms)) (sym c.in-Branches.is)
    (subst
    (λ (xs : List ℕ). HoldsFrom (c.args.pc + 1) c.send-in-Branches-2.new.pending
    (record { to = c.args.pc + 1; list = reverse c.args.list.items } ∷ record { to = target; list = reverse xs }
    ∷ ms)) copied both)
