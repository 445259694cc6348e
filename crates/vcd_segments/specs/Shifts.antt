-- Tokens that stand further behind (own).
use Rattle.std.specs.Prelude.{◌≡◌, ℕ, suc, ◌+◌, ◌==◌, List, map, Result, Ok, Err}
use Rattle.vcd_reader.specs.declared.fault.Fault.{Fault}
use Rattle.vcd_reader.specs.declared.fault.Fault.TheVariants.{BadToken, UnknownCode, TimeBack}
use Rattle.vcd_reader.specs.declared.fault.Fault.TheVariants.{UnclosedSection, BadSize, Truncated}
use Rattle.vcd_reader.specs.declared.fault.Fault.TheVariants.{TooLarge}
use Rattle.vcd_reader.specs.Tokens.{DumpToken, tokens}
use Rattle.vcd_segments.specs.Pieces.{Place, Between, AfterDigits, AfterText, Inside, Stand, Told}
use Rattle.vcd_segments.specs.Pieces.{tokens_told}

abbrev pub moved_token : ℕ → DumpToken → DumpToken
moved_token by t = record { text = t.text; at = by + t.at }

abbrev pub moved_place : ℕ → Place → Place
moved_place by Between = Between
moved_place by (AfterDigits digits) = AfterDigits digits
moved_place by AfterText = AfterText
moved_place by (Inside word) = Inside (by + word)

abbrev pub moved_stand : ℕ → Stand → Stand
moved_stand by s = record { place = moved_place by s.place; count = s.count; now = s.now }

abbrev pub moved_fault : ℕ → Fault → Fault
moved_fault by (BadToken at) = BadToken (by + at)
moved_fault by (UnknownCode at) = UnknownCode (by + at)
moved_fault by (TimeBack at) = TimeBack (by + at)
moved_fault by (UnclosedSection at) = UnclosedSection (by + at)
moved_fault by (BadSize at) = BadSize (by + at)
moved_fault by Truncated = Truncated
moved_fault by TooLarge = TooLarge

abbrev pub moved_told : ℕ → Result Told Fault → Result Told Fault
moved_told by (Ok p) = Ok (p.0, moved_stand by p.1)
moved_told by (Err f) = Err (moved_fault by f)

-- The tokens of bytes that stand behind so many others.
abbrev pub TokensMove : Type 0
TokensMove =
    (by at : ℕ) (bytes : List ℕ)
    → tokens (by + at) bytes ≡ map (moved_token by) (tokens at bytes)

-- What they tell, where a token ends the longer input exactly if it ends the shorter one.
abbrev pub TokensTellMoved : Type 0
TokensTellMoved =
    (declared : List (List ℕ)) (by len far : ℕ)
    → ((at : ℕ) → (suc (by + at) == far) ≡ (suc at == len))
    → (s : Stand) (ts : List DumpToken)
    → tokens_told declared far (moved_stand by s) (map (moved_token by) ts)
    ≡ moved_told by (tokens_told declared len s ts)
