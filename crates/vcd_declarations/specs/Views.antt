-- What the code holds of a header, as the definitions say it.
use Rattle.std.specs.Prelude.{ℕ, List, map, take, drop}
use Rattle.vcd_declarations.specs.declared.variable.Variable.{Variable}
use Rattle.vcd_declarations.specs.declared.entry.Entry.{Entry}
use Rattle.vcd_declarations.specs.declared.entry.Entry.TheVariants as entries
use Rattle.vcd_declarations.specs.declared.header.Header.{Header}
use Rattle.vcd_declarations.specs.declared.spelling.Spelling.{Spelling}
use Rattle.vcd_declarations.specs.Sections.{texts}
use Rattle.vcd_declarations.specs.Declarations.{joined, Fields, Said, Ended, Opened}
use Rattle.vcd_declarations.specs.Declarations.{Closed, Declares}
use Rattle.vcd_declarations.specs.Declarations.{Silent, Declaration, declarations_in}

-- what stands in a variable's section
abbrev pub fields_of : Variable → Fields
fields_of v = record {
  kind = v.kind.now;
  size = v.size;
  code = v.code.now;
  reference = joined (texts v.reference.now);
}

abbrev pub said_in : Entry → Said
said_in entries.Ended = Ended
said_in (entries.Opened name) = Opened name.now
said_in entries.Closed = Closed
said_in (entries.Declared v) = Declares (fields_of v)
said_in entries.Skipped = Silent

-- the names of the open scopes, the outermost first
abbrev pub scopes_in : Header → List (List ℕ)
scopes_in h = map (λ s. s.now) h.scopes.items

-- the declarations that are left
unfoldable pub left_in : Header → List Declaration
left_in h = declarations_in (scopes_in h) (texts h.rest.now)

-- the path that is spelled out, and the range after it
unfoldable pub path_in : Spelling → List ℕ
path_in s = take s.end s.text.items

unfoldable pub range_in : Spelling → List ℕ
range_in s = drop s.end s.text.items
