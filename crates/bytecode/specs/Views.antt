-- What the parts of a program hold, field by field.
use Rattle.std.specs.Prelude.{◌≡◌, Result, Ok, Err, string_bytes}
use Rattle.bytecode_programs.specs.declared.program.Program.{Program}
use Rattle.bytecode_programs.specs.Values.{HeaderData, ProgramData}
use Rattle.bytecode_programs.specs.Views.{data_from}
use Rattle.bytecode_programs.specs.Programs.{data_of}
use Rattle.bytecode.specs.declared.parts.Header.{Header}
use Rattle.bytecode.specs.declared.parts.Parts.{Parts}
use Rattle.bytecode.specs.declared.fault.CodeFault.{CodeFault}

abbrev pub header_data : Header → HeaderData
header_data h =
    record {
      limits = h.limits;
      disable = h.disable;
      atoms = h.atoms;
      name = string_bytes h.name;
      clock = string_bytes h.clock;
    }

abbrev pub parts_data : Parts → ProgramData
parts_data p =
    data_from p.header.limits p.header.disable p.header.atoms p.header.name p.header.clock p.signals
    p.counters p.sample p.antecedent p.consequent

-- it is this program, or the fault
abbrev pub IsProgramOr : Result Program CodeFault → ProgramData → CodeFault → Type 0
IsProgramOr (Ok p) x fault = data_of p ≡ x
IsProgramOr (Err f) x fault = f ≡ fault
