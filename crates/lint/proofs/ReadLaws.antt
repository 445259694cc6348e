-- A dump that is read from bytes in memory.
use Rattle.std.proofs.Common.{◌≡◌, ◌∙◌, ℕ, ◌≤◌, List, ◌++◌, length, Option, Some, None, Result, Ok, Err, sym, ap}
use Rattle.std.proofs.Common.{subst, append-nil, length-append, arith}
use Rattle.std.specs.Prelude.{IfOk, IfErr}
use Rattle.std.specs.Io.KnownBytes.{Consumes, IsAtEnd}
use Rattle.vcd_reader.specs.declared.dump.Dump.{Dump}
use Rattle.vcd_reader.specs.declared.fault.VcdFault.{VcdFault}
use Rattle.vcd_reader.specs.declared.fault.VcdFault.TheVariants.{Memory, Read, TooLarge}
use Rattle.vcd_reader.specs.Dump.{dump_of, Gave, HasFault, GaveFault, GaveTooMuch, Stands}
use Rattle.vcd_reader.specs.Dump.GaveTooMuch.{Bytes, Changes}
use Rattle.vcd_reader.specs.Held.{ReadsAs, Parses}
use Rattle.lint.specs.Tells.{held, vcd_fault, StandsOver, WhyNoTextOver}

-- what is read to its end is all that there was
all-taken : (bytes bs : List ℕ) (left : Option (List ℕ)) → Consumes (Some bytes) left bs → IsAtEnd left → bs ≡ bytes
all-taken bytes bs None taken end = absurd taken
all-taken bytes bs (Some ys) taken end = sym (taken ∙ ap (λ (x : List ℕ). bs ++ x) end ∙ append-nil bs)

pub reads-parses : (bytes : List ℕ) (left : Option (List ℕ)) (r : Result Dump VcdFault)
    → IfOk r (ReadsAs (Some bytes) left) → IfOk r (Parses bytes)
reads-parses bytes left (Ok d) h =
    let gave = h.1.1 in
    let same = all-taken bytes h.1.0 left gave.taken gave.ended in
    (h.0, ap dump_of (sym same) ∙ h.1.2, h.2)
reads-parses bytes left (Err e) h = h

-- a source that gave the bytes has the fault that they have in memory
same-fault : (bytes : List ℕ) (left before after : Option (List ℕ)) (e : VcdFault) → Gave before after bytes
    → GaveFault (Some bytes) left e → GaveFault before after e
same-fault bytes left before after e gave h =
    (bytes, gave, subst (λ (bs : List ℕ). HasFault bs e) (all-taken bytes h.0 left h.1.taken h.1.ended) h.2)

no-more : (bytes bs : List ℕ) (left : Option (List ℕ)) → Consumes (Some bytes) left bs → length bs ≤ length bytes
no-more bytes bs None taken = absurd taken
no-more bytes bs (Some ys) taken =
    let long = ap (λ (x : List ℕ). length x) taken in
    let parts = length-append bs ys in
    omega arith

too-much : (bytes : List ℕ) (left before after : Option (List ℕ)) → Gave before after bytes
    → GaveTooMuch (Some bytes) left → GaveTooMuch before after
too-much bytes left before after gave (Bytes h) =
    let few = gave.few in
    let most = no-more bytes h.0 left h.1 in
    let over = h.2 in
    absurd (omega arith)
too-much bytes left before after gave (Changes h) = Changes (same-fault bytes left before after TooLarge gave h)

-- what stands of bytes in memory stands of each source that gave them
stands-over : (bytes : List ℕ) (left : Option (List ℕ)) (e : VcdFault) → Stands (held (Some bytes)) (held left) e
    → StandsOver bytes e
stands-over bytes left Memory h = λ before after gave same. (same, tt)
stands-over bytes left Read h = absurd (omega arith)
stands-over bytes left TooLarge h = λ before after gave same. (
  same,
  too-much bytes left before.remaining after.remaining gave h.1,
)
stands-over bytes left e h = λ before after gave same. (
  same,
  same-fault bytes left before.remaining after.remaining e gave h.1,
)

pub all-stand : (bytes : List ℕ) (left : Option (List ℕ)) (r : Result Dump VcdFault)
    → IfErr r (Stands (held (Some bytes)) (held left)) → IfErr r (StandsOver bytes)
all-stand bytes left (Ok d) h = h
all-stand bytes left (Err e) h = stands-over bytes left e h

pub no-text : (bytes : List ℕ) (e : VcdFault) → StandsOver bytes e → WhyNoTextOver bytes (vcd_fault e)
no-text bytes Memory h = λ before after gave same. same
no-text bytes e h = h
