-- What a line of a port file spells.
use Rattle.std.specs.Prelude.{ℕ, ◌+◌, ◌-◌, ◌*◌, ◌&&◌, min, nat_eq, Bool, not, if◌then◌else◌}
use Rattle.std.specs.Prelude.{List, [], ◌∷◌, length, drop, Option, Some, None, codes}
use Rattle.std.specs.List.{list_all, list_any, filter_map, starts_with}
use Rattle.std.specs.Char.{is_ascii_digit}
use Rattle.std.specs.Str.{bytes_eq}
use Rattle.axi4_rules.specs.declared.case.Case.{Case}
use Rattle.axi4_rules.specs.declared.case.Case.TheVariants as cases
use Rattle.axi4_rules.specs.declared.mode.Mode.{Mode}
use Rattle.axi4_rules.specs.declared.mode.Mode.TheVariants as modes
use Rattle.axi4_rules.specs.Texts.{is_empty, pieces}

infixl 10 ◌>>=◌
abbrev pub ◌>>=◌ : {A B : Type 0} → Option A → (A → Option B) → Option B
(Some x) >>= f = f x
None >>= f = None

-- what stands after the key, in a field that begins with it
abbrev pub value_in : List ℕ → List ℕ → Option (List ℕ)
value_in key field = if starts_with nat_eq field key then Some (drop (length key) field) else None

-- and in all fields that do
abbrev pub values : List ℕ → List (List ℕ) → List (List ℕ)
values key fs = filter_map (value_in key) fs

-- a list of at most one; `None` where there are more
abbrev pub at_most_one : {A : Type 0} → List A → Option (Option A)
at_most_one [] = Some None
at_most_one (x ∷ []) = Some (Some x)
at_most_one (x ∷ y ∷ xs) = None

-- a field that may be left out
unfoldable pub optional : List ℕ → List (List ℕ) → Option (Option (List ℕ))
optional key fs = at_most_one (values key fs)

-- a field that stands once
unfoldable pub required : List ℕ → List (List ℕ) → Option (List ℕ)
required key fs = optional key fs >>= (λ o. o)

-- the number that decimal digits stand for, after digits that stand for n
unfoldable pub decimal_from : ℕ → List ℕ → ℕ
decimal_from n [] = n
decimal_from n (d ∷ ds) = decimal_from (10 * n + (d - 48)) ds

-- A number is one digit or more. What is over 65,536 counts as 65,536, which is out of range
-- everywhere.
unfoldable pub number : List ℕ → Option ℕ
number ds =
    if not (is_empty ds) && list_all is_ascii_digit ds then Some (min 65536 (decimal_from 0 ds))
    else None

abbrev pub number_or : ℕ → Option (List ℕ) → Option ℕ
number_or n None = Some n
number_or n (Some ds) = number ds

abbrev pub all_numbers : List (List ℕ) → Option (List ℕ)
all_numbers [] = Some []
all_numbers (t ∷ ts) = number t >>= (λ n. all_numbers ts >>= (λ ns. Some (n ∷ ns)))

-- numbers with commas between them; none where the field is left out
unfoldable pub watched : Option (List ℕ) → Option (List ℕ)
watched None = Some []
watched (Some text) = all_numbers (pieces 44 text)

unfoldable pub case_named : Option (List ℕ) → Option Case
case_named None = Some cases.Lower
case_named (Some text) =
    if bytes_eq text (codes "lower") then Some cases.Lower
    else (if bytes_eq text (codes "upper") then Some cases.Upper
    else None)

unfoldable pub mode_named : Option (List ℕ) → Option Mode
mode_named None = Some modes.Multi
mode_named (Some text) =
    if bytes_eq text (codes "multi") then Some modes.Multi
    else (if bytes_eq text (codes "single") then Some modes.Single
    else None)

-- the paths of a port
pub record PathData : Type 0 where
  pub clock : List ℕ
  pub reset : List ℕ
  pub prefix : List ℕ

unfoldable pub paths_in : List (List ℕ) → Option PathData
paths_in fs =
    required (codes "clock=") fs >>= (λ c.
    required (codes "reset=") fs >>= (λ r.
    required (codes "prefix=") fs >>= (λ p.
    Some (record { clock = c; reset = r; prefix = p }))))

abbrev pub required_number : List ℕ → List (List ℕ) → Option ℕ
required_number key fs = required key fs >>= number

abbrev pub optional_number : ℕ → List ℕ → List (List ℕ) → Option ℕ
optional_number other key fs = optional key fs >>= number_or other

abbrev pub mode_in : List (List ℕ) → Option Mode
mode_in fs = optional (codes "mode=") fs >>= mode_named

abbrev pub case_in : List (List ℕ) → Option Case
case_in fs = optional (codes "case=") fs >>= case_named

abbrev pub watched_in : List (List ℕ) → Option (List ℕ)
watched_in fs = optional (codes "watch=") fs >>= watched

-- the numbers of a port
pub record SizeData : Type 0 where
  pub addr : ℕ
  pub data_width : ℕ
  pub id : ℕ
  pub wait : ℕ

unfoldable pub sizes_in : List (List ℕ) → Option SizeData
sizes_in fs =
    required_number (codes "addr=") fs >>= (λ a.
    required_number (codes "data=") fs >>= (λ d.
    required_number (codes "id=") fs >>= (λ i.
    optional_number 16 (codes "wait=") fs >>= (λ w.
    Some (record { addr = a; data_width = d; id = i; wait = w })))))

unfoldable pub keys : List (List ℕ)
keys =
    codes "clock=" ∷ codes "reset=" ∷ codes "prefix=" ∷ codes "addr=" ∷ codes "data="
    ∷ codes "id=" ∷ codes "wait=" ∷ codes "mode=" ∷ codes "case=" ∷ codes "watch=" ∷ []

-- a field begins with one of the keys
unfoldable pub is_keyed : List ℕ → Bool
is_keyed field = list_any (starts_with nat_eq field) keys

-- a port
pub record PortData : Type 0 where
  pub name : List ℕ
  pub paths : PathData
  pub sizes : SizeData
  pub case : Case
  pub watch : List ℕ

-- a port and its mode
pub record LineData : Type 0 where
  pub port : PortData
  pub mode : Mode

unfoldable pub said_by : List ℕ → List (List ℕ) → Option LineData
said_by name fs =
    paths_in fs >>= (λ p.
    sizes_in fs >>= (λ s.
    mode_in fs >>= (λ m.
    case_in fs >>= (λ c.
    watched_in fs >>= (λ w.
    Some (record {
      port = record { name = name; paths = p; sizes = s; case = c; watch = w };
      mode = m;
    }))))))

-- port NAME and then fields, each of which begins with a key
unfoldable pub line_said : List (List ℕ) → Option LineData
line_said [] = None
line_said (head ∷ []) = None
line_said (head ∷ name ∷ fs) =
    if bytes_eq head (codes "port") && list_all is_keyed fs then said_by name fs else None
