use Rattle.std.proofs.Common.{◌≡◌, ℕ, zero, suc, false, List, length, replicate, refl}
use Rattle.std.proofs.Common.{sym, ap, ◌∙◌, subst, arith, pow_pos}
use Rattle.std.proofs.Math.ListN.{length-replicate}
use Rattle.std.specs.Prelude.{slice_index}
use Rattle.bytecode_programs.specs.Programs.{data_of}
use Rattle.bytecode_programs.specs.Instructions.{frame_of}
use Rattle.history_ring.specs.History.{cleared}
use Rattle.attempt_pool.specs.Pooled.{Pooled}
use Rattle.machine.specs.declared.attempt.AttemptRecord.{AttemptRecord}
use Rattle.machine.specs.declared.obligation.ObligationRecord.{ObligationRecord}
use Rattle.machine_sample_code.specs.Memory.{AreRows}
use Rattle.machine_checked.specs.Values.{AreValues}
use Rattle.machine_sample_code.proofs.RowLaws.{AreRows-cleared}
use Rattle.machine_checked.specs.Bounds.{IsReached}
use Rattle.machine.specs.SampleCode.{newest_rows}
use Rattle.machine.specs.Live.{attempts_in, obligations_in}
use Rattle.machine.proofs.VecLaws.{vec-long}
use Rattle.machine.proofs.state.Memory.new.Goals as goal

slice_index-zeros : (n k : ℕ) → slice_index (replicate n 0) k ≡ 0
slice_index-zeros zero k = refl
slice_index-zeros (suc n) zero = refl
slice_index-zeros (suc n) (suc k) = slice_index-zeros n k

zeros-fit : (ws vs : List ℕ) → vs ≡ replicate (length ws) 0 → AreValues ws vs
zeros-fit ws vs e = record {
  long = ap length e ∙ length-replicate (length ws) 0;
  fits = λ k. omega (arith, ap (λ l. slice_index l k) e, slice_index-zeros (length ws) k, pow_pos (slice_index ws k));
}

pub returns-clause-memory : goal.returns-clause-memory
returns-clause-memory c =
    let p = data_of c.args.program.now in
    let slots = ap (λ f. f.slots) c.in_ok-frame.ensures in
    let long : c.len-slots.result ≡ length (frame_of p).slots =
    c.len-slots.ensures ∙ vec-long c.in_ok-frame.frame.slots ∙ ap length slots in
    let first = c.in_ok-live.ensures in
    let attempts = ap (λ (q : Pooled AttemptRecord). attempts_in q.live) first.attempts in
    let obligations = ap (λ (q : Pooled ObligationRecord). obligations_in q.live) first.obligations in
    let widths = c.as_slice.ensures.value in
    let made : c.in_ok-history.history ≡ cleared p.header.limits.history (length c.as_slice.result.now) =
    c.in_ok-history.ensures
    ∙ ap (cleared p.header.limits.history)
    (c.len-slots.ensures ∙ vec-long c.in_ok-frame.frame.slots ∙ ap length (sym widths)) in
    let first-rows : newest_rows p c.in_ok-code.code c.in_ok-history.history
    ≡ cleared p.header.limits.history (length (frame_of p).slots) =
    ap (newest_rows p c.in_ok-code.code) made ∙ c.in_ok-code.ensures.rows p.header.limits.history refl
    ∙ ap (cleared p.header.limits.history) (ap length (widths ∙ slots)) in
    record {
      bases = c.in_ok-bases.ensures;
      code = c.in_ok-code.ensures.code;
      history =
          subst (AreRows p c.in_ok-frame.frame.slots.items) (sym first-rows)
          (AreRows-cleared p c.in_ok-frame.frame.slots.items slots);
      atoms = ap length c.in_ok-atoms.ensures.atoms ∙ length-replicate p.header.atoms false;
      counters =
          zeros-fit p.counters c.in_ok-counters.counters.items
          (c.in_ok-counters.ensures.zeros
          ∙ ap (λ n. replicate n 0) (c.len.ensures ∙ vec-long c.args.program.now.counters));
      pools =
          record {
            attempts = ap (λ (q : Pooled AttemptRecord). q.cap) first.attempts;
            obligations = ap (λ (q : Pooled ObligationRecord). q.cap) first.obligations;
          };
      few = omega (arith, ap (λ (q : Pooled AttemptRecord). length q.live) first.attempts);
      reached =
          subst (IsReached p)
          (λ j. record { now = sym first.now j; attempts = sym attempts j; obligations = sym obligations j })
          (record { attempts = omega arith; obligations = omega arith });
      outcomes = first.outcomes;
    }
