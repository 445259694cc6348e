-- The byte with which each instruction begins.
use Rattle.std.specs.Prelude.{ℕ}
use Rattle.bytecode_programs.specs.declared.operator.JoinOperator.{JoinOperator}
use Rattle.bytecode_programs.specs.declared.operator.JoinOperator.TheVariants.{And, Or, Xor, Add}
use Rattle.bytecode_programs.specs.declared.operator.JoinOperator.TheVariants.{Sub}
use Rattle.bytecode_programs.specs.declared.operator.JoinOperator.TheVariants.{AddSat, SubSat}
use Rattle.bytecode_programs.specs.declared.operator.CompareOperator.{CompareOperator}
use Rattle.bytecode_programs.specs.declared.operator.CompareOperator.TheVariants.{Eq, Lt}
use Rattle.bytecode_programs.specs.declared.operator.ShiftOperator.{ShiftOperator}
use Rattle.bytecode_programs.specs.declared.operator.ShiftOperator.TheVariants.{Shl, Shr}
use Rattle.bytecode_programs.specs.declared.operator.ReduceOperator.{ReduceOperator}
use Rattle.bytecode_programs.specs.declared.operator.ReduceOperator.TheVariants.{RedAnd, RedOr}
use Rattle.bytecode_programs.specs.declared.operator.ReduceOperator.TheVariants.{RedXor}
use Rattle.bytecode_programs.specs.declared.operator.ReduceOperator.TheVariants.{Onehot, Onehot0}
use Rattle.bytecode_programs.specs.declared.sample_instr.SampleInstr.{SampleInstr}
use Rattle.bytecode_programs.specs.declared.sample_instr.SampleInstr.TheVariants as sample
use Rattle.bytecode_programs.specs.declared.block_instr.BlockInstr.{BlockInstr}
use Rattle.bytecode_programs.specs.declared.block_instr.BlockInstr.TheVariants as block

abbrev pub join_opcode : JoinOperator → ℕ
join_opcode And = 0x10
join_opcode Or = 0x11
join_opcode Xor = 0x12
join_opcode Add = 0x13
join_opcode Sub = 0x14
join_opcode AddSat = 0x15
join_opcode SubSat = 0x16

abbrev pub compare_opcode : CompareOperator → ℕ
compare_opcode Eq = 0x17
compare_opcode Lt = 0x18

abbrev pub shift_opcode : ShiftOperator → ℕ
shift_opcode Shl = 0x19
shift_opcode Shr = 0x1a

abbrev pub reduce_opcode : ReduceOperator → ℕ
reduce_opcode RedAnd = 0x21
reduce_opcode RedOr = 0x22
reduce_opcode RedXor = 0x23
reduce_opcode Onehot = 0x24
reduce_opcode Onehot0 = 0x25

abbrev pub sample_opcode : SampleInstr → ℕ
sample_opcode (sample.Push w v) = 0x01
sample_opcode (sample.Load s) = 0x02
sample_opcode (sample.Past s k) = 0x03
sample_opcode (sample.Join op) = join_opcode op
sample_opcode (sample.Compare op) = compare_opcode op
sample_opcode (sample.Shift op) = shift_opcode op
sample_opcode sample.Not = 0x20
sample_opcode (sample.Reduce op) = reduce_opcode op
sample_opcode sample.Concat = 0x26
sample_opcode (sample.Zext w) = 0x27
sample_opcode (sample.Slice high low) = 0x28
sample_opcode sample.Mux = 0x29
sample_opcode (sample.Jump target) = 0x30
sample_opcode (sample.JumpIfZero target) = 0x31
sample_opcode (sample.SetAtom atom) = 0x32
sample_opcode (sample.Store counter) = 0x33
sample_opcode sample.Halt = 0x34

abbrev pub block_opcode : BlockInstr → ℕ
block_opcode (block.Unless atom target) = 0x40
block_opcode (block.Enter position) = 0x41
block_opcode block.Accept = 0x42
block_opcode block.Stop = 0x43
block_opcode block.AcceptFirst = 0x44
