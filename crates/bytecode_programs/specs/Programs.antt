-- A program, apart from where it lies in memory.
use Rattle.bytecode_programs.specs.declared.program.Program.{Program}
use Rattle.bytecode_programs.specs.Values.{ProgramData}
use Rattle.bytecode_programs.specs.Views.{data_from}

abbrev pub data_of : Program → ProgramData
data_of p =
    data_from p.limits p.disable p.atoms p.name p.clock p.signals p.counters p.sample p.antecedent
    p.consequent
