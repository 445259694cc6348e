use Rattle.std.proofs.Common.{sym, ◌∙◌, arith}
use Rattle.machine.proofs.DisableLaws as laws
use Rattle.machine.proofs.attempts.disable_attempts.Goals as goal

pub loop-slot-init : goal.loop-slot-init
loop-slot-init c =
    laws.disabling-first c.args.now c.args.pool.now c.args.left.now c.args.out.now.items c.requires.fits
    c.requires.room

pub get-attempt-requires : goal.get-attempt-requires
get-attempt-requires c =
    laws.live c.loop-slot.pool c.in-Some.slot (sym c.in-Some.is ∙ c.first.ensures.slot) c.first.ensures.distinct

pub overflow_sub-left : goal.overflow_sub-left
overflow_sub-left c =
    laws.affords c.args.now c.loop-slot.pool c.loop-slot.left c.loop-slot.out.items c.args.pool.now c.args.left.now
    c.args.out.now.items c.loop-slot.invariant c.in-Some.slot (sym c.in-Some.is ∙ c.first.ensures.slot)
    c.first.ensures.distinct

pub push-requires : goal.push-requires
push-requires c = (
  omega arith,
  laws.has_room c.args.now c.loop-slot.pool c.loop-slot.left c.loop-slot.out.items c.args.pool.now c.args.left.now
      c.args.out.now.items c.loop-slot.invariant c.in-Some.slot (sym c.in-Some.is ∙ c.first.ensures.slot)
      c.first.ensures.distinct,
)

pub retire-requires : goal.retire-requires
retire-requires c =
    laws.live c.loop-slot.pool c.in-Some.slot (sym c.in-Some.is ∙ c.first.ensures.slot) c.first.ensures.distinct

pub loop-slot-smaller : goal.loop-slot-smaller
loop-slot-smaller c =
    laws.one-less c.loop-slot.pool c.in-Some.slot (sym c.in-Some.is ∙ c.first.ensures.slot) c.first.ensures.distinct
    c.retire.new.self c.retire.ensures

pub loop-slot-preserved : goal.loop-slot-preserved
loop-slot-preserved c =
    laws.next c.args.now c.loop-slot.pool c.loop-slot.left c.loop-slot.out.items c.args.pool.now c.args.left.now
    c.args.out.now.items c.loop-slot.invariant c.in-Some.slot (sym c.in-Some.is ∙ c.first.ensures.slot)
    c.first.ensures.distinct c.get-attempt.result c.get-attempt.ensures c.retire.new.self c.retire.ensures
    c.push.new.self.items c.push.ensures.items

pub returns : goal.returns
returns c =
    let none = sym c.in_default.is ∙ c.first.ensures.slot in
    record {
      none = laws.emptied c.loop-slot.pool c.args.pool.now c.loop-slot.invariant.cap (laws.empty c.loop-slot.pool none);
      disabled =
          laws.disabling-last c.args.now c.loop-slot.pool c.loop-slot.left c.loop-slot.out.items c.args.pool.now
          c.args.left.now c.args.out.now.items c.loop-slot.invariant none;
    }
