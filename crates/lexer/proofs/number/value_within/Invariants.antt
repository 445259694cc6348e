use Rattle.std.proofs.Common.{◌≡◌, ◌≤◌, drop}
use Rattle.lexer.specs.Numbers.{value_from}
use Rattle.lexer.proofs.number.value_within.Given as goal

-- The bytes that are left, after the value so far, are worth the whole.
abbrev pub invariant-loop-byte : goal.invariant-loop-byte
invariant-loop-byte l = record {
  fits : l.value ≤ l.most;
  value : value_from l.radix 0 l.digits ≡ value_from l.radix l.value (drop l.byte-index l.digits);
}
