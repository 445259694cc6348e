use Rattle.std.proofs.Common.{◌∙◌, ◌++◌, ◌∷◌, [], ap, ℕ}
use Rattle.bytecode_programs.specs.Programs.{data_of}
use Rattle.bytecode.specs.Spelling.{byte, head_spelling, limits_spelling, disable_spelling}
use Rattle.bytecode.proofs.PutLaws.{put_then}
use Rattle.bytecode.proofs.program_writing.put_front.Goals as goal

pub returns : goal.returns
returns c =
    let header = (data_of c.args.program.now).header in
    let limits = limits_spelling header.limits in
    let disable = byte (disable_spelling header.disable) in
    let disabled =
    c.in_ok-push.ensures.items ∙ ap (λ (d : ℕ). c.put_limits.new.out.items ++ d ∷ []) c.disable_byte.ensures in
    put_then c.args.out.now.items head_spelling c.extend_from_slice.new.self.items
    (limits ++ (disable ++ byte header.atoms)) c.push-2.new.self.items c.in_ok-extend_from_slice.ensures.items
    (put_then c.extend_from_slice.new.self.items limits c.put_limits.new.out.items (disable ++ byte header.atoms)
    c.push-2.new.self.items c.in_ok-put_limits.ensures
    (put_then c.put_limits.new.out.items disable c.push.new.self.items (byte header.atoms) c.push-2.new.self.items
    disabled c.in_ok-push-2.ensures.items))
