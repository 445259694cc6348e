-- Reading of a file from the left, field by field, up to the first fault.
use Rattle.std.specs.Prelude.{◌≡◌, ℕ, zero, suc, ◌+◌, ◌-◌, ◌*◌, ◌^◌, Bool, true, false, ◌==◌}
use Rattle.std.specs.Prelude.{nat_lt}
use Rattle.std.specs.Prelude.{if◌then◌else◌, List, [], ◌∷◌, length, take, drop, Option, Some, None}
use Rattle.std.specs.Prelude.{Result, Ok, Err}
use Rattle.std.specs.Int.{Width, w16, w32, w64, byte_len, from_be_bytes}
use Rattle.bytecode.specs.declared.fault.CodeFault.{CodeFault}
use Rattle.bytecode.specs.declared.fault.CodeFault.TheVariants as faults
use Rattle.bytecode.specs.declared.stop.Stop.{Stop}
use Rattle.bytecode.specs.declared.stop.Stop.TheVariants as stops
use Rattle.bytecode_programs.specs.declared.limits.Limits.{Limits}
use Rattle.bytecode_programs.specs.declared.operator.JoinOperator.{JoinOperator}
use Rattle.bytecode_programs.specs.declared.operator.JoinOperator.TheVariants.{And, Or, Xor, Add}
use Rattle.bytecode_programs.specs.declared.operator.JoinOperator.TheVariants.{Sub}
use Rattle.bytecode_programs.specs.declared.operator.JoinOperator.TheVariants.{AddSat, SubSat}
use Rattle.bytecode_programs.specs.declared.operator.CompareOperator.TheVariants.{Eq, Lt}
use Rattle.bytecode_programs.specs.declared.operator.ShiftOperator.TheVariants.{Shl, Shr}
use Rattle.bytecode_programs.specs.declared.operator.ReduceOperator.{ReduceOperator}
use Rattle.bytecode_programs.specs.declared.operator.ReduceOperator.TheVariants.{RedAnd, RedOr}
use Rattle.bytecode_programs.specs.declared.operator.ReduceOperator.TheVariants.{RedXor}
use Rattle.bytecode_programs.specs.declared.operator.ReduceOperator.TheVariants.{Onehot, Onehot0}
use Rattle.bytecode_programs.specs.declared.sample_instr.SampleInstr.{SampleInstr}
use Rattle.bytecode_programs.specs.declared.sample_instr.SampleInstr.TheVariants.{Push, Load, Past}
use Rattle.bytecode_programs.specs.declared.sample_instr.SampleInstr.TheVariants.{Join}
use Rattle.bytecode_programs.specs.declared.sample_instr.SampleInstr.TheVariants.{Compare, Shift}
use Rattle.bytecode_programs.specs.declared.sample_instr.SampleInstr.TheVariants.{Not}
use Rattle.bytecode_programs.specs.declared.sample_instr.SampleInstr.TheVariants.{Reduce, Concat}
use Rattle.bytecode_programs.specs.declared.sample_instr.SampleInstr.TheVariants.{Zext}
use Rattle.bytecode_programs.specs.declared.sample_instr.SampleInstr.TheVariants.{Slice, Mux, Jump}
use Rattle.bytecode_programs.specs.declared.sample_instr.SampleInstr.TheVariants.{JumpIfZero}
use Rattle.bytecode_programs.specs.declared.sample_instr.SampleInstr.TheVariants.{SetAtom, Store}
use Rattle.bytecode_programs.specs.declared.sample_instr.SampleInstr.TheVariants.{Halt}
use Rattle.bytecode_programs.specs.declared.block_instr.BlockInstr.{BlockInstr}
use Rattle.bytecode_programs.specs.declared.block_instr.BlockInstr.TheVariants as block
use Rattle.bytecode_programs.specs.Texts.{is_word, is_path}
use Rattle.bytecode_programs.specs.Values.{SlotData, SectionData, HeaderData, ProgramData, is_width}

infixl 10 ◌>>=◌
abbrev pub ◌>>=◌ : {A B : Type 0} → Result A Stop → (A → Result B Stop) → Result B Stop
(Ok x) >>= f = f x
(Err e) >>= f = Err e

-- What a function returned, seen by view, is what reading gives, unless memory ran out.
abbrev pub Fails : {Y : Type 0} → Stop → Result Y Stop → Type 0
Fails stops.Memory read = Unit {0}
Fails stops.Magic read = read ≡ Err stops.Magic
Fails stops.Version read = read ≡ Err stops.Version
Fails stops.Cut read = read ≡ Err stops.Cut
Fails (stops.Opcode left) read = read ≡ Err (stops.Opcode left)
Fails (stops.Field left) read = read ≡ Err (stops.Field left)
Fails (stops.Trailing left) read = read ≡ Err (stops.Trailing left)

abbrev pub Gives : {X Y : Type 0} → (X → Y) → Result X Stop → Result Y Stop → Type 0
Gives view (Ok x) read = read ≡ Ok (view x)
Gives view (Err e) read = Fails e read

-- a field: what it holds, and the bytes after it
abbrev pub Reader : Type 0 → Type 0
Reader A = List ℕ → Result (A × List ℕ) Stop

-- a number of so many bytes, the highest first
abbrev pub number_at : Width → Reader ℕ
number_at w bytes =
    if nat_lt (length bytes) (byte_len w) then Err stops.Cut
    else Ok (from_be_bytes w (take (byte_len w) bytes), drop (byte_len w) bytes)

-- a number of sixteen bytes, of two halves
unfoldable pub sixteen_at : Reader ℕ
sixteen_at bytes =
    number_at w64 bytes >>= λ high.
    number_at w64 high.1 >>= λ low.
    Ok (high.0 * 2 ^ 64 + low.0, low.1)

unfoldable pub byte_at : Reader ℕ
byte_at [] = Err stops.Cut
byte_at (b ∷ rest) = Ok (b, rest)

-- a field whose value is to pass a test
abbrev pub checked_at : {A : Type 0} → (A → Bool) → Reader A → Reader A
checked_at test read bytes =
    read bytes >>= λ x.
    if test x.0 then Ok x else Err (stops.Field (length bytes))

abbrev pub width_at : Reader ℕ
width_at = checked_at is_width byte_at

-- a length of two bytes, and as many
unfoldable pub bytes_at : Reader (List ℕ)
bytes_at bytes =
    number_at w16 bytes >>= λ n.
    if nat_lt (length n.1) n.0 then Err stops.Cut else Ok (take n.0 n.1, drop n.0 n.1)

abbrev pub text_at : (List ℕ → Bool) → Reader (List ℕ)
text_at is_text = checked_at is_text bytes_at

-- so many fields of a kind
unfoldable pub many_at : {A : Type 0} → Reader A → ℕ → Reader (List A)
many_at read zero bytes = Ok ([], bytes)
many_at read (suc n) bytes = read bytes >>= λ x. many_at read n x.1 >>= λ xs. Ok (x.0 ∷ xs.0, xs.1)

-- a count of two bytes, and as many fields
unfoldable pub counted_at : {A : Type 0} → Reader A → Reader (List A)
counted_at read bytes = number_at w16 bytes >>= λ n. many_at read n.0 n.1

unfoldable pub join_of : ℕ → Option JoinOperator
join_of o =
    if o == 0x10 then Some And else (if o == 0x11 then Some Or
    else (if o == 0x12 then Some Xor else (if o == 0x13 then Some Add
    else (if o == 0x14 then Some Sub else (if o == 0x15 then Some AddSat
    else (if o == 0x16 then Some SubSat else None))))))

unfoldable pub reduce_of : ℕ → Option ReduceOperator
reduce_of o =
    if o == 0x21 then Some RedAnd else (if o == 0x22 then Some RedOr
    else (if o == 0x23 then Some RedXor
    else (if o == 0x24 then Some Onehot else (if o == 0x25 then Some Onehot0 else None))))

-- an instruction without operands
unfoldable pub lone_of : ℕ → Option SampleInstr
lone_of o =
    if o == 0x17 then Some (Compare Eq) else (if o == 0x18 then Some (Compare Lt)
    else (if o == 0x19 then Some (Shift Shl) else (if o == 0x1a then Some (Shift Shr)
    else (if o == 0x20 then Some Not else (if o == 0x26 then Some Concat
    else (if o == 0x29 then Some Mux else (if o == 0x34 then Some Halt else None)))))))

abbrev pub as_join : Option JoinOperator → Option SampleInstr → Option SampleInstr
as_join (Some op) other = Some (Join op)
as_join None other = other

abbrev pub as_reduce : Option ReduceOperator → Option SampleInstr → Option SampleInstr
as_reduce (Some op) other = Some (Reduce op)
as_reduce None other = other

abbrev pub plain_of : ℕ → Option SampleInstr
plain_of o = as_join (join_of o) (as_reduce (reduce_of o) (lone_of o))

unfoldable pub push_at : Reader SampleInstr
push_at bytes =
    width_at bytes >>= λ w.
    sixteen_at w.1 >>= λ v.
    if nat_lt v.0 (2 ^ w.0) then Ok (Push w.0 v.0, v.1) else Err (stops.Field (length w.1))

unfoldable pub past_at : Reader SampleInstr
past_at bytes =
    number_at w16 bytes >>= λ slot.
    number_at w16 slot.1 >>= λ ticks.
    if ticks.0 == 0 then Err (stops.Field (length slot.1)) else Ok (Past slot.0 ticks.0, ticks.1)

unfoldable pub slice_at : Reader SampleInstr
slice_at bytes =
    byte_at bytes >>= λ high.
    if nat_lt 127 high.0 then Err (stops.Field (length bytes))
    else (byte_at high.1 >>= λ low.
    if nat_lt high.0 low.0 then Err (stops.Field (length high.1))
    else Ok (Slice high.0 low.0, low.1))

-- an instruction with one operand
abbrev pub one_at : {A : Type 0} → (A → SampleInstr) → Reader A → Reader SampleInstr
one_at make read bytes = read bytes >>= λ x. Ok (make x.0, x.1)

abbrev pub plain_at : ℕ → Option SampleInstr → Reader SampleInstr
plain_at left None bytes = Err (stops.Opcode left)
plain_at left (Some i) bytes = Ok (i, bytes)

-- the operands after the byte o, where so many bytes were left
unfoldable pub operands_at : ℕ → ℕ → Reader SampleInstr
operands_at o left bytes =
    if o == 0x01 then push_at bytes
    else (if o == 0x02 then one_at Load (number_at w16) bytes
    else (if o == 0x03 then past_at bytes
    else (if o == 0x27 then one_at Zext width_at bytes
    else (if o == 0x28 then slice_at bytes
    else (if o == 0x30 then one_at Jump (number_at w16) bytes
    else (if o == 0x31 then one_at JumpIfZero (number_at w16) bytes
    else (if o == 0x32 then one_at SetAtom byte_at bytes
    else (if o == 0x33 then one_at Store byte_at bytes
    else plain_at left (plain_of o) bytes))))))))

unfoldable pub sample_at : Reader SampleInstr
sample_at bytes = byte_at bytes >>= λ o. operands_at o.0 (length bytes) o.1

unfoldable pub unless_at : Reader BlockInstr
unless_at bytes =
    byte_at bytes >>= λ atom.
    number_at w16 atom.1 >>= λ target.
    Ok (block.Unless atom.0 target.0, target.1)

unfoldable pub enter_at : Reader BlockInstr
enter_at bytes = byte_at bytes >>= λ position. Ok (block.Enter position.0, position.1)

-- AcceptFirst may be read, or not
unfoldable pub step_at : Bool → Reader BlockInstr
step_at first bytes =
    byte_at bytes >>= λ o.
    if o.0 == 0x40 then unless_at o.1
    else (if o.0 == 0x41 then enter_at o.1
    else (if o.0 == 0x42 then Ok (block.Accept, o.1)
    else (if o.0 == 0x43 then Ok (block.Stop, o.1)
    else (if o.0 == 0x44
    then (if first then Ok (block.AcceptFirst, o.1) else Err (stops.Opcode (length bytes)))
    else Err (stops.Opcode (length bytes))))))

unfoldable pub slot_at : Reader SlotData
slot_at bytes =
    width_at bytes >>= λ w.
    text_at is_path w.1 >>= λ p.
    Ok (record { width = w.0; path = p.0 }, p.1)

unfoldable pub section_at : Bool → Reader SectionData
section_at first bytes =
    sixteen_at bytes >>= λ start.
    byte_at start.1 >>= λ n.
    many_at (counted_at (step_at first)) n.0 n.1 >>= λ blocks.
    Ok (record { start = start.0; blocks = blocks.0 }, blocks.1)

-- "SVAM", and the version: whether AcceptFirst may stand in the blocks
unfoldable pub head_at : Reader Bool
head_at bytes =
    number_at w32 bytes >>= λ magic.
    if magic.0 == 0x5356414d
    then (byte_at magic.1 >>= λ version.
    if version.0 == 2 then Ok (true, version.1)
    else (if version.0 == 1 then Ok (false, version.1) else Err stops.Version))
    else Err stops.Magic

unfoldable pub limits_at : Reader Limits
limits_at bytes =
    number_at w16 bytes >>= λ history.
    number_at w16 history.1 >>= λ stack.
    number_at w16 stack.1 >>= λ attempts.
    number_at w16 attempts.1 >>= λ obligations.
    number_at w32 obligations.1 >>= λ budget.
    Ok (
      record {
        history = history.0;
        stack = stack.0;
        attempts = attempts.0;
        obligations = obligations.0;
        budget = budget.0;
      },
      budget.1,
    )

-- 255 for none
abbrev pub disable_of : ℕ → Option ℕ
disable_of n = if n == 255 then None else Some n

unfoldable pub header_at : Reader HeaderData
header_at bytes =
    limits_at bytes >>= λ limits.
    byte_at limits.1 >>= λ disable.
    byte_at disable.1 >>= λ atoms.
    text_at is_word atoms.1 >>= λ name.
    text_at is_path name.1 >>= λ clock.
    Ok (
      record {
        limits = limits.0;
        disable = disable_of disable.0;
        atoms = atoms.0;
        name = name.0;
        clock = clock.0;
      },
      clock.1,
    )

unfoldable pub program_at : Reader ProgramData
program_at bytes =
    head_at bytes >>= λ a.
    header_at a.1 >>= λ header.
    counted_at slot_at header.1 >>= λ signals.
    counted_at width_at signals.1 >>= λ counters.
    counted_at sample_at counters.1 >>= λ sample.
    section_at a.0 sample.1 >>= λ antecedent.
    section_at a.0 antecedent.1 >>= λ consequent.
    Ok (
      record {
        header = header.0;
        signals = signals.0;
        counters = counters.0;
        sample = sample.0;
        antecedent = antecedent.0;
        consequent = consequent.0;
      },
      consequent.1,
    )

-- all of the bytes
unfoldable pub whole_of : List ℕ → Result ProgramData Stop
whole_of bytes =
    program_at bytes >>= λ p. if length p.1 == 0 then Ok p.0 else Err (stops.Trailing (length p.1))

-- a stop as a fault of an input of so many bytes
abbrev pub fault_of : ℕ → Stop → CodeFault
fault_of total stops.Memory = faults.Memory
fault_of total stops.Magic = faults.Magic
fault_of total stops.Version = faults.Version
fault_of total stops.Cut = faults.Truncated total
fault_of total (stops.Opcode left) = faults.BadOpcode (total - left)
fault_of total (stops.Field left) = faults.BadField (total - left)
fault_of total (stops.Trailing left) = faults.TrailingBytes (total - left)

-- reading stopped, and the fault says where
abbrev pub FaultOf : ℕ → Result ProgramData Stop → CodeFault → Type 0
FaultOf total (Ok x) fault = ⊥
FaultOf total (Err stop) fault = fault_of total stop ≡ fault

-- The fault is the first that reading meets, unless memory ran out.
abbrev pub IsFirstFault : List ℕ → CodeFault → Type 0
IsFirstFault bytes faults.Memory = Unit {0}
IsFirstFault bytes fault = FaultOf (length bytes) (whole_of bytes) fault
