use Rattle.std.proofs.Common.{◌∙◌}
use Rattle.workers_core.specs.Parts.{core_state}
use Rattle.workers_core.proofs.CoreLaws as laws
use Rattle.workers_core.proofs.OnceLaws as once
use Rattle.workers_core.proofs.cores.Core.step.Goals as goal

pub invariant_of-self : goal.invariant_of-self
invariant_of-self c =
    let old = c.self.inside.parts in
    let new = c.slide.new.self in
    record {
      sound = c.slide.ensures.sound c.self.invariant.sound;
      once = once.unmoved-once old new c.slide.ensures.kept c.slide.ensures.waiting c.slide.ensures.workers
          c.self.invariant.once;
      window = c.slide.ensures.same;
      places = laws.kept-places c.self.inside.job.now old new c.slide.ensures.kept c.self.invariant.places;
      parts = c.slide.ensures.kept.parts ∙ c.self.invariant.parts;
    }

pub invariant_of-self-in-Claim : goal.invariant_of-self-in-Claim
invariant_of-self-in-Claim c =
    laws.kept-core c.self.inside.job.now c.self.inside.parts c.claim.new.self c.self.invariant
    (c.claim.ensures.sound c.self.invariant.sound) c.claim.ensures.kept
    c.claim.ensures.window
    (once.claim-once (core_state c.self.inside.parts) (core_state c.claim.new.self) c.in-Claim.worker c.claim.result
    c.claim.ensures.reply c.self.invariant.once)

pub invariant_of-self-in-Advance : goal.invariant_of-self-in-Advance
invariant_of-self-in-Advance c =
    laws.kept-core c.self.inside.job.now c.self.inside.parts c.advance.new.self c.self.invariant
    c.advance.ensures.sound c.advance.ensures.kept
    c.advance.ensures.window
    (once.unmoved-once c.self.inside.parts c.advance.new.self c.advance.ensures.kept c.advance.ensures.waiting
    c.advance.ensures.workers c.self.invariant.once)

pub invariant_of-self-in-Publish : goal.invariant_of-self-in-Publish
invariant_of-self-in-Publish c =
    laws.kept-core c.self.inside.job.now c.self.inside.parts c.publish.new.self c.self.invariant
    c.publish.ensures.sound c.publish.ensures.kept
    c.publish.ensures.window
    (once.publish-once (core_state c.self.inside.parts) (core_state c.publish.new.self) c.in-Publish.worker
    c.publish.result c.publish.ensures.reply c.self.invariant.once)

pub invariant_of-self-in-Gather : goal.invariant_of-self-in-Gather
invariant_of-self-in-Gather c =
    laws.kept-core c.self.inside.job.now c.self.inside.parts c.gather.new.self c.self.invariant
    (c.gather.ensures.sound c.self.invariant.sound) c.gather.ensures.kept
    c.gather.ensures.window
    (once.gather-once (core_state c.self.inside.parts) (core_state c.gather.new.self) c.gather.result
    c.gather.ensures.reply c.self.invariant.once)

pub returns-in-Slide-clause-reply : goal.returns-in-Slide-clause-reply
returns-in-Slide-clause-reply c =
    laws.slide-reply c.args.self.now c.self.inside.job.now c.self.inside.parts c.args.step
    (core_state c.slide.new.self) c.slide.result c.self.view_is c.in-Slide.is
    c.slide.ensures.reply

pub returns-in-Advance-clause-reply : goal.returns-in-Advance-clause-reply
returns-in-Advance-clause-reply c =
    laws.advance-reply c.args.self.now c.self.inside.job.now c.self.inside.parts c.args.step
    c.in-Advance.worker c.in-Advance.clocks (core_state c.advance.new.self) c.advance.result
    c.self.invariant c.self.view_is
    c.in-Advance.is c.advance.ensures.reply
