-- What a program in memory holds, field by field.
use Rattle.std.specs.Prelude.{ℕ, map, Option, Vec, String, string_bytes}
use Rattle.std.specs.declared.alloc.Global.{Global}
use Rattle.bytecode_programs.specs.declared.limits.Limits.{Limits}
use Rattle.bytecode_programs.specs.declared.slot.Slot.{Slot}
use Rattle.bytecode_programs.specs.declared.section.Section.{Section}
use Rattle.bytecode_programs.specs.declared.sample_instr.SampleInstr.{SampleInstr}
use Rattle.bytecode_programs.specs.Values.{SlotData, SectionData, ProgramData}

abbrev pub slot_data : Slot → SlotData
slot_data s = record { width = s.width; path = string_bytes s.path }

abbrev pub section_data : Section → SectionData
section_data s = record { start = s.start; blocks = map (λ b. b.items) s.blocks.items }

abbrev pub data_from : Limits → Option ℕ → ℕ → String Global → String Global → Vec Slot Global
    → Vec ℕ Global → Vec SampleInstr Global → Section → Section → ProgramData
data_from limits disable atoms name clock signals counters sample antecedent consequent = record {
  header =
      record {
        limits = limits;
        disable = disable;
        atoms = atoms;
        name = string_bytes name;
        clock = string_bytes clock;
      };
  signals = map slot_data signals.items;
  counters = counters.items;
  sample = sample.items;
  antecedent = section_data antecedent;
  consequent = section_data consequent;
}
