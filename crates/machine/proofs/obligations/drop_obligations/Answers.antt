use Rattle.std.proofs.Common.{sym, ap, ◌∙◌}
use Rattle.machine.proofs.DisableLaws as laws
use Rattle.machine.proofs.obligations.drop_obligations.Goals as goal

pub retire-requires : goal.retire-requires
retire-requires c =
    laws.live c.loop-slot.pool c.in-Some.slot (sym c.in-Some.is ∙ c.first.ensures.slot) c.first.ensures.distinct

pub loop-slot-smaller : goal.loop-slot-smaller
loop-slot-smaller c =
    laws.one-less c.loop-slot.pool c.in-Some.slot (sym c.in-Some.is ∙ c.first.ensures.slot) c.first.ensures.distinct
    c.retire.new.self c.retire.ensures

pub loop-slot-preserved : goal.loop-slot-preserved
loop-slot-preserved c = ap (λ p. p.cap) c.retire.ensures ∙ c.loop-slot.invariant

pub returns : goal.returns
returns c =
    laws.emptied c.loop-slot.pool c.args.pool.now c.loop-slot.invariant
    (laws.empty c.loop-slot.pool (sym c.in_default.is ∙ c.first.ensures.slot))
