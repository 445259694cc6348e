-- The first token as a place.
use Rattle.std.proofs.Common.{◌≡◌, ◌<◌, List, [], ◌∷◌, length, refl, ap, arith}
use Rattle.std.specs.List.{Contains}
use Rattle.lexer.specs.declared.token.Token.{Token}
use Rattle.parser.specs.Bytes.{IsByteIn}

pub contains-first : (ts : List Token) (t : Token) (us : List Token) → ts ≡ t ∷ us → Contains ts t
contains-first ts t us e = rw e (0, omega arith, refl)

pub byte-none : (ts : List Token) → 0 < length ts → ts ≡ [] → IsByteIn ts 0
byte-none ts some e = absurd (omega (arith, ap length e))

pub byte-first : (ts : List Token) (t : Token) (us : List Token) → ts ≡ t ∷ us → IsByteIn ts t.at
byte-first ts t us e = record { token = t; among = contains-first ts t us e; stands = refl }

pub ruleset for_byte = (byte-none, byte-first)
