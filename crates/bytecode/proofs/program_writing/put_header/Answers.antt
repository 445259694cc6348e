use Rattle.std.proofs.Common.{◌∙◌, ◌++◌, ap, List, ℕ, string_bytes}
use Rattle.bytecode_programs.specs.Programs.{data_of}
use Rattle.bytecode.specs.Spelling.{text_spelling, front_spelling}
use Rattle.bytecode.proofs.FitLaws.{three-put}
use Rattle.bytecode.proofs.program_writing.put_header.Goals as goal

pub returns : goal.returns
returns c =
    three-put c.args.out.now.items (front_spelling (data_of c.args.program.now).header)
    (text_spelling (string_bytes c.args.program.now.name)) (text_spelling (string_bytes c.args.program.now.clock))
    c.put_front.new.out.items c.put_text.new.out.items c.put_text-2.new.out.items c.in_ok-put_front.ensures
    (c.in_ok-put_text.ensures ∙ ap (λ (t : List ℕ). c.put_front.new.out.items ++ text_spelling t)
    c.as_str.ensures.value)
    (c.in_ok-put_text-2.ensures ∙ ap (λ (t : List ℕ). c.put_text.new.out.items ++ text_spelling t)
    c.as_str-2.ensures.value)
