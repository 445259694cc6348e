-- Faults at their bytes.
use Rattle.std.proofs.Common.{◌≡◌, ℕ, Option, Some, None, unwrap_or, ap}
use Rattle.types.specs.declared.fault.TypeFault.{TypeFault}
use Rattle.types.specs.declared.fault.TypeFault.TheVariants as types
use Rattle.types.specs.Faults.{byte_of}
use Rattle.lint_messages.specs.Bytes.{byte_of_type}

-- the byte at which a fault stands is the one at which it is told
pub same-byte : (fault : TypeFault) (at : ℕ) → byte_of_type fault ≡ Some at → byte_of fault ≡ at
same-byte (types.UnknownName b) at is = ap (λ (o : Option ℕ). unwrap_or o 0) is
same-byte (types.Duplicate b) at is = ap (λ (o : Option ℕ). unwrap_or o 0) is
same-byte (types.WiderThan128 b) at is = ap (λ (o : Option ℕ). unwrap_or o 0) is
same-byte (types.SliceRange b) at is = ap (λ (o : Option ℕ). unwrap_or o 0) is
same-byte (types.Degenerate b) at is = ap (λ (o : Option ℕ). unwrap_or o 0) is
same-byte (types.AdmitsEmpty b) at is = ap (λ (o : Option ℕ). unwrap_or o 0) is
same-byte (types.OtherClock b) at is = ap (λ (o : Option ℕ). unwrap_or o 0) is
same-byte (types.CyclicSequence b) at is = ap (λ (o : Option ℕ). unwrap_or o 0) is
same-byte (types.TooWide b) at is = ap (λ (o : Option ℕ). unwrap_or o 0) is
same-byte types.Memory at is = absurd cc
