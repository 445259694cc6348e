use Rattle.std.proofs.Common.{◌+◌, refl, sym, subst, arith, length, reverse}
use Rattle.std.proofs.lemmas.Result.{err_from_is_err_and}
use Rattle.bytecode_programs.specs.declared.flow.Flow.{Flow}
use Rattle.bytecode_programs.specs.declared.sample_instr.SampleInstr.TheVariants.{Push}
use Rattle.verifier.specs.Rules.{sample_rules}
use Rattle.verifier.specs.Views.{frame_data}
use Rattle.verifier.specs.Inference.{sends}
use Rattle.verifier.specs.Arrivals.{arrived, HoldsFrom}
use Rattle.verifier.proofs.ScanLaws.{start, step, refused, stop}
use Rattle.verifier.proofs.SampleLaws.{sample_rise}
use Rattle.verifier.proofs.sample_scan.scan.Goals as goal

pub code-init : goal.code-init
code-init c =
    record {
      read =
          start (sample_rules (frame_data c.args.frame.now)) 0 (length c.args.code.now) c.args.code.now
          (HoldsFrom 0 c.args.pending.now) (omega arith) c.requires.some c.requires.entry;
      long = c.requires.long;
    }

pub returns-in_err-list-clause-refused : goal.returns-in_err-list-clause-refused
returns-in_err-list-clause-refused c =
    let p = err_from_is_err_and c.from_residual.result c.from_residual.ensures.1 in
    let read = c.code.invariant.read in
    rw (p.1, p.2)
    (refused (sample_rules (frame_data c.args.frame.now)) 0 c.args.code.now (HoldsFrom c.code.pc c.code.pending)
    c.code.longest (length c.args.code.now) c.code.pc c.code.pc _ (Push 0 0)
    (arrived c.take_arrival-arrival.result) read (omega arith) refl
    (sym (read.holds c.code.pc _ (omega arith) c.take_arrival-arrival.ensures.taken)) c.in_err-list.field-0.0
    (sample_rise (frame_data c.args.frame.now)) c.in_err-list.ensures.refused)

pub code-preserved : goal.code-preserved
code-preserved c =
    let read = c.code.invariant.read in
    record {
      read =
          step (sample_rules (frame_data c.args.frame.now)) 0 c.args.code.now (HoldsFrom c.code.pc c.code.pending)
          c.code.longest (length c.args.code.now) c.code.pc c.code.pc _ (Push 0 0)
          (arrived c.take_arrival-arrival.result) read (omega arith) refl
          (sym (read.holds c.code.pc _ (omega arith) c.take_arrival-arrival.ensures.taken))
          (reverse c.in_ok-list.list.items) (HoldsFrom (c.code.pc + 1) c.send_on.new.pending) c.max-longest.result
          c.in_ok-list.ensures.ok c.in_ok-list.ensures.left
          (omega (arith, c.max-longest.ensures, c.agreed_len.ensures))
          (λ ms holds. subst
          (λ (f : Flow). HoldsFrom (c.code.pc + 1) c.send_on.new.pending
          (sends c.code.pc f (reverse c.in_ok-list.list.items) ms)) c.flow.ensures
          (c.in_ok-send_on.ensures ms (c.take_arrival-arrival.ensures.rest ms holds)));
      long = omega (arith, c.code.invariant.long);
    }

pub returns : goal.returns
returns c =
    let done =
    stop (sample_rules (frame_data c.args.frame.now)) 0 c.args.code.now (HoldsFrom c.code.pc c.code.pending)
    c.code.longest (length c.args.code.now) c.code.pc c.code.pc c.code.invariant.read (omega arith) in
    record { ok = done.0; longest = done.1; refused = tt }
