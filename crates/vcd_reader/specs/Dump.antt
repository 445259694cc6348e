-- What a dump says, from its bytes.
use Rattle.std.specs.Prelude.{◌≡◌, ℕ, ◌≤◌, ◌+◌, ◌^◌, ◌==◌, List, [], length, take, Option, Result}
use Rattle.std.specs.Prelude.{Ok, Err, count_by}
use Rattle.std.specs.Io.KnownBytes.{Consumes, IsAtEnd}
use Rattle.signals.specs.Source.{SourceState, after_failure, GaveOver}
use Rattle.vcd_reader.specs.declared.fault.Fault.{Fault}
use Rattle.vcd_reader.specs.declared.fault.Fault.TheVariants as byte
use Rattle.vcd_reader.specs.declared.fault.VcdFault.{VcdFault}
use Rattle.vcd_reader.specs.declared.fault.VcdFault.TheVariants as line
use Rattle.vcd_reader.specs.Tokens.{tokens}
use Rattle.vcd_reader.specs.Faults.{◌>>=◌}
use Rattle.vcd_reader.specs.Values.{Moment}
use Rattle.vcd_reader.specs.Variables.{Declared, codes_of}
use Rattle.vcd_reader.specs.Header.{Header, header}
use Rattle.vcd_reader.specs.Body.{body, steps_of}

-- what a dump says
pub record Contents : Type 0 where
  pub variables : List Declared
  pub steps : List Moment

-- what the body of a dump with this header says
unfoldable pub contents_behind : ℕ → Header → Result Contents Fault
contents_behind len h =
    steps_of (body (codes_of h.0) len 0 0 h.1)
    >>= λ steps. Ok (record { variables = h.0; steps = steps })

-- what the bytes say, or their first fault
unfoldable pub dump_of : List ℕ → Result Contents Fault
dump_of bytes = header [] [] (tokens 0 bytes) >>= contents_behind (length bytes)

-- lines count from 1, and each ends at a line feed
abbrev pub line_of : List ℕ → ℕ → ℕ
line_of bytes at = 1 + count_by (λ b. b == 10) (take at bytes)

abbrev pub fault_at_line : List ℕ → Fault → VcdFault
fault_at_line bytes (byte.BadToken at) = line.BadToken (line_of bytes at)
fault_at_line bytes (byte.UnknownCode at) = line.UnknownCode (line_of bytes at)
fault_at_line bytes (byte.TimeBack at) = line.TimeBack (line_of bytes at)
fault_at_line bytes (byte.UnclosedSection at) = line.UnclosedSection (line_of bytes at)
fault_at_line bytes (byte.BadSize at) = line.BadSize (line_of bytes at)
fault_at_line bytes byte.Truncated = line.Truncated
fault_at_line bytes byte.TooLarge = line.TooLarge

-- the most bytes of a dump
abbrev pub most_bytes : ℕ
most_bytes = 2 ^ 48

-- these are all the bytes that the source had, no more than a dump may have
pub record Gave (old new : Option (List ℕ)) (bytes : List ℕ) : Type 0 where
  pub taken : Consumes old new bytes
  pub ended : IsAtEnd new
  pub few : length bytes ≤ most_bytes

-- the source gave a dump that says this
abbrev pub GaveDump : Option (List ℕ) → Option (List ℕ) → Contents → Type 0
GaveDump old new c = (bytes : List ℕ) × Gave old new bytes × (dump_of bytes ≡ Ok c)

-- the bytes have this fault as the first
abbrev pub HasFault : List ℕ → VcdFault → Type 0
HasFault bytes e = (fault : Fault) × (dump_of bytes ≡ Err fault) × (e ≡ fault_at_line bytes fault)

-- the source gave bytes with this fault as the first
abbrev pub GaveFault : Option (List ℕ) → Option (List ℕ) → VcdFault → Type 0
GaveFault old new e = (bytes : List ℕ) × Gave old new bytes × HasFault bytes e

-- the source gave more bytes than a dump may have, or a dump with too many changes
pub data GaveTooMuch (old new : Option (List ℕ)) : Type 0 where
  Bytes : GaveOver old new most_bytes → GaveTooMuch old new
  Changes : GaveFault old new line.TooLarge → GaveTooMuch old new

-- why there is no dump, where no call of the source failed
abbrev pub WhyRefused : Option (List ℕ) → Option (List ℕ) → VcdFault → Type 0
WhyRefused old new line.Memory = Unit {0}
WhyRefused old new line.Read = ⊥
WhyRefused old new line.TooLarge = GaveTooMuch old new
WhyRefused old new e = GaveFault old new e

-- why there is no dump: a call of the source failed, or none did
abbrev pub Stands : SourceState → SourceState → VcdFault → Type 0
Stands old new line.Read = new.failures ≡ after_failure old.failures
Stands old new e = (new.failures ≡ old.failures) × WhyRefused old.remaining new.remaining e
