-- The rules of a port file's ports.
use Rattle.std.specs.Prelude.{ℕ, List, ◌∷◌, ◌++◌, Result, Ok, Err}
use Rattle.std.specs.List.{flat_map}
use Rattle.axi4_rules.specs.declared.fault.PortFault.{PortFault}
use Rattle.axi4_rules.specs.Lines.{LineData}
use Rattle.axi4_rules.specs.Ports.{port_file}
use Rattle.axi4_rules.specs.Rules.{table, tokens_of}

-- the table of a line's port, in its mode
abbrev pub table_of : LineData → List (List ℕ)
table_of l = table l.port l.mode

-- the tokens of the tables of ports, in order
abbrev pub tokens_said : List LineData → List (List ℕ)
tokens_said ls = tokens_of (flat_map table_of ls)

abbrev pub tokens_or_fault : Result (List LineData) PortFault → Result (List (List ℕ)) PortFault
tokens_or_fault (Ok ls) = Ok (tokens_said ls)
tokens_or_fault (Err e) = Err e

-- the tokens of the rules of all ports of a file, or its first fault
unfoldable pub file_rules : List ℕ → Result (List (List ℕ)) PortFault
file_rules text = tokens_or_fault (port_file text)

-- a text, a line feed, and the rules
abbrev pub joined : List ℕ → List ℕ → List ℕ
joined text rules = text ++ 10 ∷ rules
