-- Values of a variable, in as many bits as they are kept in.
use Rattle.std.specs.Prelude.{ℕ, List, vec_capacity}
use Rattle.cycle_window.specs.declared.values.Values.{Values}
use Rattle.cycle_window.specs.declared.values.Values.TheVariants.{Bytes, Words, Wide}

-- the values
abbrev pub numbers : Values → List ℕ
numbers (Bytes v) = v.items
numbers (Words v) = v.items
numbers (Wide v) = v.items

-- for how many there is room
abbrev pub room_in : Values → ℕ
room_in (Bytes v) = vec_capacity v
room_in (Words v) = vec_capacity v
room_in (Wide v) = vec_capacity v

-- how many bits each has at most
abbrev pub bits_in : Values → ℕ
bits_in (Bytes v) = 8
bits_in (Words v) = 64
bits_in (Wide v) = 128
