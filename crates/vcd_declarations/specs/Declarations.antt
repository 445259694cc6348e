-- The declarations of a header: what each $var says, and the scopes around it (IEEE 1364-2005,
-- clauses 18.2.3.4 for $scope, 18.2.3.6 for $upscope, 18.2.3.8 for $var).
use Rattle.std.specs.Prelude.{◌≡◌, ℕ, ◌^◌, List, [], ◌∷◌, ◌++◌, Ok, map, drop, length, unwrap_or}
use Rattle.std.specs.Prelude.{codes, if◌then◌else◌}
use Rattle.std.specs.List.{flat_map}
use Rattle.std.specs.Str.{bytes_eq}
use Rattle.vcd_reader.specs.Numbers.{decimal_below}
use Rattle.vcd_reader.specs.Variables.{Declared}
use Rattle.vcd_reader.specs.Header.{name_of, outer_scopes, variable}
use Rattle.vcd_reader.specs.Dump.{Contents, dump_of}
use Rattle.vcd_declarations.specs.Sections.{texts, sections}

-- texts with nothing between
abbrev pub joined : List (List ℕ) → List ℕ
joined ts = flat_map (λ t. t) ts

-- what stands in a $var: its kind, size and code, and the name and range with nothing between
pub record Fields : Type 0 where
  pub kind : List ℕ
  pub size : ℕ
  pub code : List ℕ
  pub reference : List ℕ

-- a size is a decimal below 2^32 in every dump
abbrev pub size_in : List ℕ → ℕ
size_in digits = unwrap_or (decimal_below (2 ^ 32) digits) 0

-- what a section says
pub data Said : Type 0 where
  -- the header's end
  Ended : Said
  -- a scope of this name opens
  Opened : List ℕ → Said
  -- the innermost scope closes
  Closed : Said
  -- a variable is declared
  Declares : Fields → Said
  -- nothing that is asked for
  Silent : Said

-- $scope type name $end
abbrev pub scope_said : List (List ℕ) → Said
scope_said [] = Silent
scope_said (type ∷ []) = Silent
scope_said (type ∷ name ∷ more) = Opened name

-- $var kind size code reference.. $end
abbrev pub variable_said : List (List ℕ) → Said
variable_said [] = Silent
variable_said (kind ∷ []) = Silent
variable_said (kind ∷ size ∷ []) = Silent
variable_said (kind ∷ size ∷ code ∷ reference) = Declares (record {
  kind = kind;
  size = size_in size;
  code = code;
  reference = joined reference;
})

-- by the section's word
abbrev pub said : List (List ℕ) → Said
said [] = Silent
said (word ∷ fields) =
    if bytes_eq word (codes "$var") then variable_said fields
    else (if bytes_eq word (codes "$scope") then scope_said fields
    else (if bytes_eq word (codes "$upscope") then Closed
    else (if bytes_eq word (codes "$enddefinitions") then Ended
    else Silent)))

-- a declaration: the scopes that are open, the outermost first, and what stands in the $var
pub record Declaration : Type 0 where
  pub scopes : List (List ℕ)
  pub fields : Fields

-- the declarations of sections inside these scopes, up to the header's end
abbrev pub declared_in : List (List ℕ) → List Said → List Declaration
declared_in scopes [] = []
declared_in scopes (Ended ∷ ss) = []
declared_in scopes (Opened name ∷ ss) = declared_in (scopes ++ name ∷ []) ss
declared_in scopes (Closed ∷ ss) = declared_in (outer_scopes scopes) ss
declared_in scopes (Declares fields ∷ ss) =
    record { scopes = scopes; fields = fields } ∷ declared_in scopes ss
declared_in scopes (Silent ∷ ss) = declared_in scopes ss

-- those of texts of tokens
unfoldable pub declarations_in : List (List ℕ) → List (List ℕ) → List Declaration
declarations_in scopes ts = declared_in scopes (map said (sections ts))

-- the declarations of a header, in order
unfoldable pub declarations : List ℕ → List Declaration
declarations bytes = declarations_in [] (texts bytes)

-- the range that a reference ends with, as [7:0]; nothing where it has none
abbrev pub range_of : List ℕ → List ℕ
range_of reference = drop (length (name_of reference)) reference

-- the variable that the reader of dumps makes of a declaration
unfoldable pub variable_of : Declaration → Declared
variable_of d =
    variable d.scopes
    (record { type = d.fields.kind; size = d.fields.size; code = d.fields.code })
    d.fields.reference

-- the declarations of a dump are its variables, one for one and in order
abbrev pub AreVariables : Type 0
AreVariables =
    (bytes : List ℕ) (c : Contents) → dump_of bytes ≡ Ok c
    → map variable_of (declarations bytes) ≡ c.variables
