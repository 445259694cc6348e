-- Codes and digits on a line that is read at once (own; the forms are those of IEEE 1364-2005,
-- 18.2.1).
use Rattle.std.specs.Prelude.{◌≡◌, ℕ, ◌+◌, ◌/◌, ◌%◌, ◌<◌, ◌≤◌, List, length, drop, get_or}
use Rattle.std.specs.Prelude.{slice_range, true, false}
use Rattle.std.specs.List.{list_all}
use Rattle.vcd_reader.specs.Tokens.{is_separator, token_goes_on}
use Rattle.std.specs.Char.{is_ascii_digit}
use Rattle.vcd_reader.specs.Numbers.{is_bit, bits_from, decimal_from}
use Rattle.vcd_reader.specs.Packed.{unpacked_code}

-- a code, which packed is this number, is between two bytes, and a separator or the end follows
pub record IsPackedAt (bytes : List ℕ) (from packed end : ℕ) : Type 0 where
  pub low : from < end
  pub high : end ≤ length bytes
  pub some : 0 < packed
  pub word : (k : ℕ) → from ≤ k → k < end → is_separator (get_or bytes k 0) ≡ false
  pub ends : token_goes_on (drop end bytes) ≡ false
  pub text : unpacked_code packed ≡ slice_range bytes from end

-- digits of a vector are between two bytes, and they mean this number
pub record AreBitsAt (bytes : List ℕ) (from number end : ℕ) : Type 0 where
  pub low : from ≤ end
  pub high : end ≤ length bytes
  pub word : (k : ℕ) → from ≤ k → k < end → is_separator (get_or bytes k 0) ≡ false
  pub all : list_all is_bit (slice_range bytes from end) ≡ true
  pub value : bits_from 0 (slice_range bytes from end) ≡ number

-- decimal digits are between two bytes, and they mean this number
pub record AreDigitsAt (bytes : List ℕ) (from number end : ℕ) : Type 0 where
  pub low : from ≤ end
  pub high : end ≤ length bytes
  pub word : (k : ℕ) → from ≤ k → k < end → is_separator (get_or bytes k 0) ≡ false
  pub all : list_all is_ascii_digit (slice_range bytes from end) ≡ true
  pub value : decimal_from 0 (slice_range bytes from end) ≡ number

-- four digits, each 0 or 1, are at a byte, and they mean this number
pub record AreFourAt (bytes : List ℕ) (at number : ℕ) : Type 0 where
  pub few : number < 16
  pub first : get_or bytes at 0 ≡ 48 + number / 8
  pub second : get_or bytes (at + 1) 0 ≡ 48 + number / 4 % 2
  pub third : get_or bytes (at + 2) 0 ≡ 48 + number / 2 % 2
  pub fourth : get_or bytes (at + 3) 0 ≡ 48 + number % 2
