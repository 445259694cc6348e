use Rattle.std.proofs.Common.{◌≡◌, length, ap, ◌∙◌, sym, subst}
use Rattle.std.proofs.lemmas.Result.{IfOk-weaker}
use Rattle.bytecode_programs.specs.Instructions.{frame_of}
use Rattle.bytecode_programs.specs.Programs.{data_of}
use Rattle.history_ring.specs.History.{History, cleared}
use Rattle.machine_sample_code.specs.Memory.{AreRows}
use Rattle.machine_sample_code.proofs.RowLaws.{AreRows-cleared}
use Rattle.tests_parts.proofs.outcome.new_ring.Goals as goal

pub returns : goal.returns
returns c =
    let p = data_of c.args.program.now in
    let widths = c.args.widths.now in
    let all = AreRows-cleared p widths c.requires.slots in
    let same : cleared c.from.result (length widths) ≡ cleared p.header.limits.history (length (frame_of p).slots) =
    ap (λ d. cleared d (length widths)) c.from.ensures
    ∙ ap (λ ws. cleared p.header.limits.history (length ws)) c.requires.slots in
    IfOk-weaker c.new.result (λ ring. ring ≡ cleared c.from.result (length widths)) (λ ring. AreRows p widths ring)
    (λ ring e. subst (λ (h : History). AreRows p widths h) (sym (e ∙ same)) all) c.new.ensures
