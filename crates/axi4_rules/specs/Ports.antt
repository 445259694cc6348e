-- Port files.
use Rattle.std.specs.Prelude.{ℕ, ◌^◌, ◌==◌, ◌||◌, ◌&&◌, suc, nat_lt, nat_le, Bool, true, not}
use Rattle.std.specs.Prelude.{List, [], ◌∷◌, ◌++◌, map, length, Option, Some, None, Result, Ok, Err}
use Rattle.std.specs.Prelude.{codes, string_bytes, if◌then◌else◌}
use Rattle.std.specs.Prelude.{String}
use Rattle.std.specs.Global.{Global}
use Rattle.std.specs.List.{list_all, list_any, filter}
use Rattle.axi4_rules.specs.declared.fault.PortFault.{PortFault}
use Rattle.axi4_rules.specs.declared.fault.PortFault.TheVariants.{BadWidth, BadId, BadName, BadLine}
use Rattle.axi4_rules.specs.Texts.{is_empty, begins_with, lines, fields}
use Rattle.axi4_rules.specs.Names.{is_word, is_path}
use Rattle.axi4_rules.specs.Lines.{LineData, SizeData, PathData, line_said}

abbrev pub is_between : ℕ → ℕ → ℕ → Bool
is_between low high n = nat_le low n && nat_le n high

abbrev pub is_data_width : ℕ → Bool
is_data_width n = (n == 8) || (n == 16) || (n == 32) || (n == 64) || (n == 128)

-- addr 12 to 64; data 8, 16, 32, 64 or 128; id 1 to 16; wait 0 to 64
unfoldable pub are_sizes : SizeData → Bool
are_sizes s =
    is_between 12 64 s.addr && is_data_width s.data_width && is_between 1 16 s.id
    && nat_le s.wait 64

abbrev pub are_different : List ℕ → Bool
are_different [] = true
are_different (x ∷ xs) = not (list_any (λ y. y == x) xs) && are_different xs

-- up to 16 different IDs below 2 to the width of IDs
unfoldable pub are_ids : ℕ → List ℕ → Bool
are_ids width ids =
    nat_le (length ids) 16 && list_all (λ i. nat_lt i (2 ^ width)) ids && are_different ids

-- the name is a word; the clock, the reset, and the prefix with awvalid after it are paths
unfoldable pub are_names : List ℕ → PathData → Bool
are_names name p =
    is_word name && is_path p.clock && is_path p.reset && is_path (p.prefix ++ codes "awvalid")

abbrev pub is_sized : ℕ → ℕ → ℕ → ℕ → Bool
is_sized addr data_width id wait =
    are_sizes (record { addr = addr; data_width = data_width; id = id; wait = wait })

abbrev pub is_named : String Global → String Global → String Global → String Global → Bool
is_named name clock reset prefix =
    are_names (string_bytes name) (record {
      clock = string_bytes clock;
      reset = string_bytes reset;
      prefix = string_bytes prefix;
    })

-- the first fault of a line that has the form of a port
unfoldable pub checked : LineData → Result LineData PortFault
checked d =
    if not (are_sizes d.port.sizes) then Err BadWidth
    else (if not (are_ids d.port.sizes.id d.port.watch) then Err BadId
    else (if not (are_names d.port.name d.port.paths) then Err BadName
    else Ok d))

abbrev pub checked_line : ℕ → Option LineData → Result LineData PortFault
checked_line number None = Err (BadLine number)
checked_line number (Some d) = checked d

-- blank lines, and lines that begin with #
unfoldable pub is_skipped : List ℕ → Bool
is_skipped line = begins_with 35 line || is_empty (fields line)

-- what the line of that number says
unfoldable pub port_in : ℕ → List ℕ → Result LineData PortFault
port_in number line = checked_line number (line_said (fields line))

-- a line with its number
pub record Numbered : Type 0 where
  pub number : ℕ
  pub text : List ℕ

abbrev pub numbered : ℕ → List (List ℕ) → List Numbered
numbered n [] = []
numbered n (l ∷ ls) = record { number = n; text = l } ∷ numbered (suc n) ls

abbrev pub onto_ok : {A E : Type 0} → A → Result (List A) E → Result (List A) E
onto_ok x (Ok xs) = Ok (x ∷ xs)
onto_ok x (Err e) = Err e

-- what all give, or the first fault
abbrev pub all_or_first : {A E : Type 0} → List (Result A E) → Result (List A) E
all_or_first [] = Ok []
all_or_first (Ok x ∷ rs) = onto_ok x (all_or_first rs)
all_or_first (Err e ∷ rs) = Err e

-- The ports of lines that are numbered from n, one a line, in order; or the fault of the first
-- faulty line.
unfoldable pub ports_in : ℕ → List (List ℕ) → Result (List LineData) PortFault
ports_in n ls =
    all_or_first
    (map (λ l. port_in l.number l.text) (filter (λ l. not (is_skipped l.text)) (numbered n ls)))

-- The ports of a text.
unfoldable pub port_file : List ℕ → Result (List LineData) PortFault
port_file text = ports_in 1 (lines text)
