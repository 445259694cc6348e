use Rattle.std.proofs.Common.{◌∙◌, ◌++◌, ap, map, List, ℕ}
use Rattle.bytecode_programs.specs.declared.slot.Slot.{Slot}
use Rattle.bytecode_programs.specs.declared.sample_instr.SampleInstr.{SampleInstr}
use Rattle.bytecode_programs.specs.Programs.{data_of}
use Rattle.bytecode.specs.Spelling.{byte, counted_spelling, head_spelling, header_spelling, sample_spelling}
use Rattle.bytecode.specs.Spelling.{section_spelling, slot_spelling}
use Rattle.bytecode_programs.specs.Views.{slot_data}
use Rattle.bytecode.proofs.FitLaws.{antecedent-fits, consequent-fits}
use Rattle.bytecode.proofs.PutLaws.{put_then}
use Rattle.bytecode.proofs.program_writing.encode.Goals as goal

pub put_section-requires : goal.put_section-requires
put_section-requires c = antecedent-fits (data_of c.args.program.now) c.args.program.now.fits

pub put_section-requires-2 : goal.put_section-requires-2
put_section-requires-2 c = consequent-fits (data_of c.args.program.now) c.args.program.now.fits

pub returns : goal.returns
returns c =
    let p = data_of c.args.program.now in
    let slots =
    c.in_ok-put_slots.ensures
    ∙ ap (λ (s : List Slot). c.put_header.new.out.items ++ counted_spelling slot_spelling (map slot_data s))
    c.as_slice.ensures.value in
    let widths =
    c.in_ok-put_widths.ensures
    ∙ ap (λ (s : List ℕ). c.put_slots.new.out.items ++ counted_spelling byte s) c.as_slice-2.ensures.value in
    let samples =
    c.in_ok-put_samples.ensures
    ∙ ap (λ (s : List SampleInstr). c.put_widths.new.out.items ++ counted_spelling sample_spelling s)
    c.as_slice-3.ensures.value in
    let old = c.new-out.result.items in
    let front = head_spelling ++ header_spelling p.header in
    let with_slots = front ++ counted_spelling slot_spelling p.signals in
    let with_widths = with_slots ++ counted_spelling byte p.counters in
    let with_samples = with_widths ++ counted_spelling sample_spelling p.sample in
    let with_antecedent = with_samples ++ section_spelling p.antecedent in
    let first =
    put_then old front c.put_header.new.out.items _ c.put_slots.new.out.items c.in_ok-put_header.ensures slots in
    let second = put_then old with_slots c.put_slots.new.out.items _ c.put_widths.new.out.items first widths in
    let third = put_then old with_widths c.put_widths.new.out.items _ c.put_samples.new.out.items second samples in
    let fourth =
    put_then old with_samples c.put_samples.new.out.items _ c.put_section.new.out.items third
    c.in_ok-put_section.ensures in
    put_then old with_antecedent c.put_section.new.out.items (section_spelling p.consequent)
    c.put_section-2.new.out.items fourth c.in_ok-put_section-2.ensures
    ∙ ap (λ (t : List ℕ). t ++ (with_antecedent ++ section_spelling p.consequent)) c.new-out.ensures.items
