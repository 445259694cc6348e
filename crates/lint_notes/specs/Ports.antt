-- The widths that a port says, beside those of a dump.
use Rattle.std.specs.Prelude.{ℕ, List, [], ◌∷◌, ◌++◌, ◌/◌, Bool, true, false, not, ◌==◌, ◌&&◌}
use Rattle.std.specs.Prelude.{codes}
use Rattle.std.specs.Prelude.{Option, Some, None, map, string_bytes, if◌then◌else◌}
use Rattle.std.specs.Option.{option_map}
use Rattle.vcd_reader.specs.Variables.{Declared, variable_named, size_of}
use Rattle.lint_notes.specs.declared.ports.PortSaid.{PortSaid}
use Rattle.lint_notes.specs.declared.ports.Said.{Said}
use Rattle.lint_notes.specs.declared.facts.PathFact.{PathFact}

-- a signal of a port: what follows the prefix, in both cases, and its bits
pub record SaidData : Type 0 where
  pub lower : List ℕ
  pub upper : List ℕ
  pub bits : ℕ

abbrev pub said_data : Said → SaidData
said_data s = record { lower = s.lower.now; upper = s.upper.now; bits = s.bits }

abbrev pub one : List ℕ → List ℕ → ℕ → SaidData
one lower upper bits = record { lower = lower; upper = upper; bits = bits }

-- the signals whose bits a port says
abbrev pub said_by : PortSaid → List SaidData
said_by p =
    one (codes "awaddr") (codes "AWADDR") p.addr ∷ one (codes "araddr") (codes "ARADDR") p.addr
    ∷ one (codes "wdata") (codes "WDATA") p.data
    ∷ one (codes "rdata") (codes "RDATA") p.data
    ∷ one (codes "wstrb") (codes "WSTRB") (p.data / 8)
    ∷ one (codes "awid") (codes "AWID") p.id ∷ one (codes "bid") (codes "BID") p.id
    ∷ one (codes "arid") (codes "ARID") p.id ∷ one (codes "rid") (codes "RID") p.id ∷ []

abbrev pub path_said : PortSaid → SaidData → List ℕ
path_said p s = string_bytes p.prefix ++ (if p.upper then s.upper else s.lower)

-- the bits of the variable that a path names
abbrev pub bits_found : List Declared → List ℕ → Option ℕ
bits_found vs path = option_map (size_of vs) (variable_named vs path)

-- whether other bits are found than are said
abbrev pub differs : Option ℕ → ℕ → Bool
differs None said = false
differs (Some found) said = not (found == said)

abbrev pub path_when : Bool → List ℕ → List (List ℕ)
path_when true path = path ∷ []
path_when false path = []

-- the paths of those signals that the dump has with other bits
abbrev pub wrong_paths : List Declared → PortSaid → List SaidData → List (List ℕ)
wrong_paths vs p [] = []
wrong_paths vs p (s ∷ ss) =
    path_when (differs (bits_found vs (path_said p s)) s.bits) (path_said p s)
    ++ wrong_paths vs p ss

abbrev pub fact_paths : List PathFact → List (List ℕ)
fact_paths facts = map (λ f. string_bytes f.path) facts
