use Rattle.std.proofs.Common.{◌≡◌, ◌<◌, ◌≤◌, ℕ, min, drop, length, List}
use Rattle.std.specs.List.{list_all}
use Rattle.std.specs.Char.{is_ascii_digit}
use Rattle.axi4_rules.specs.Lines.{decimal_from}
use Rattle.axi4_rules.proofs.values.number.Given as goal

pub record IsRead (digits : List ℕ) (number i : ℕ) : Type 0 where
  pub some : 0 < length digits
  pub all : list_all is_ascii_digit digits ≡ list_all is_ascii_digit (drop i digits)
  pub capped : number ≤ 65536
  pub value : min 65536 (decimal_from 0 digits) ≡ min 65536 (decimal_from number (drop i digits))

abbrev pub invariant-loop-digit : goal.invariant-loop-digit
invariant-loop-digit l = IsRead l.digits l.number l.digit-index
