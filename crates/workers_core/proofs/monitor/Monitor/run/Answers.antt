use Rattle.std.proofs.Common.{◌≡◌, ◌∙◌, ◌+◌, ◌-◌, ◌≤◌, ℕ, Vec, refl, sym, subst, arith}
use Rattle.std.specs.Global.{Global}
use Rattle.bytecode_programs.specs.Values.{ProgramData}
use Rattle.workers_core.specs.Standing.{AreSampled, AreMore}
use Rattle.workers_core.proofs.PlaceLaws as laws
use Rattle.workers_core.proofs.monitor.Monitor.run.Goals as goal

pub loop-left-init : goal.loop-left-init
loop-left-init c =
    let old = c.args.self.now in
    let none : c.args.clocks - c.args.clocks ≡ 0 = omega arith in
    record {
      few = omega arith;
      row = refl;
      gone = subst (λ (n : ℕ). AreMore old old.row.items n old) (sym none)
          (laws.more-none old old old.row.items (laws.same-self old) refl refl);
    }

pub clock-requires-clause-row : goal.clock-requires-clause-row
clock-requires-clause-row c =
    let inv = c.loop-left.invariant in
    subst (λ (v : Vec ℕ Global). AreSampled c.loop-left.self.machine.program v.items) (sym inv.row)
    (subst (λ (p : ProgramData). AreSampled p c.args.self.now.row.items) (sym inv.gone.same.program)
    c.requires.row)

pub clock-requires-clause-room : goal.clock-requires-clause-room
clock-requires-clause-room c =
    subst (λ (p : ProgramData). p.header.limits.attempts ≤ 1024)
    (sym c.loop-left.invariant.gone.same.program) c.requires.room

pub repeat-passed-requires-clause-row : goal.repeat-passed-requires-clause-row
repeat-passed-requires-clause-row c =
    let inv = c.loop-left.invariant in
    let after = c.clock.new.self in
    subst (λ (v : Vec ℕ Global). AreSampled after.machine.program v.items)
    (sym (c.clock.ensures.row ∙ inv.row))
    (subst (λ (p : ProgramData). AreSampled p c.args.self.now.row.items)
    (sym (c.clock.ensures.clock.same.program ∙ inv.gone.same.program)) c.requires.row)

pub loop-left-preserved : goal.loop-left-preserved
loop-left-preserved c =
    let old = c.args.self.now in
    let mid = c.loop-left.self in
    let inv = c.loop-left.invariant in
    let after = c.clock.new.self in
    let last = c.repeat-passed.new.self in
    let passed = c.repeat-passed.result in
    let first = inv.row in
    let second : after.row ≡ old.row = c.clock.ensures.row ∙ inv.row in
    let one : AreMore mid old.row.items 1 after =
    subst (λ (v : Vec ℕ Global). AreMore mid v.items 1 after) first
    (laws.more-one mid after mid.row.items c.clock.ensures.clock) in
    let more : AreMore after old.row.items passed last =
    subst (λ (v : Vec ℕ Global). AreMore after v.items passed last) second c.repeat-passed.ensures.clocks in
    let ran = c.args.clocks - c.loop-left.left in
    let sum : (ran + 1) + passed ≡ c.args.clocks - ((c.loop-left.left - 1) - passed) =
    omega (arith, inv.few, c.repeat-passed.ensures.few, c.loop-left-test.true) in
    record {
      few = omega (arith, inv.few);
      row = c.repeat-passed.ensures.row ∙ second;
      gone = subst (λ (n : ℕ). AreMore old old.row.items n last) sum
          (laws.more-joined old after last old.row.items (ran + 1) passed
          (laws.more-joined old mid after old.row.items ran 1 inv.gone one) more);
    }

pub returns : goal.returns
returns c =
    let old = c.args.self.now in
    let inv = c.loop-left.invariant in
    let all : c.args.clocks - c.loop-left.left ≡ c.args.clocks = omega arith in
    subst (λ (n : ℕ). AreMore old old.row.items n c.loop-left.self) all inv.gone
