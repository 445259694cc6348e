-- What a text asks of a dump, and its scope over one.
use Rattle.std.specs.Prelude.{ℕ, List, Option, Some, None, if◌then◌else◌}
use Rattle.parser_grammar.specs.Trees.{ItemForm}
use Rattle.types_names.specs.Scopes.{Scope, look_up, owns}
use Rattle.types_names.specs.Columns.{is_listed, columns_of}

-- the names that a text declares, and all paths that have widths
abbrev pub whole_scope : List ItemForm → (List ℕ → Option ℕ) → Scope
whole_scope items widths = record { own = look_up (owns items); dump = widths }

-- over a dump in which each path is a signal, of one bit
abbrev pub scope_over_any : List ItemForm → Scope
scope_over_any items = whole_scope items (λ path. Some 1)

-- The paths that a text asks for: those that it would read as signals, were all of them there.
abbrev pub asked : List ItemForm → List (List ℕ)
asked items = columns_of (scope_over_any items) items

-- the widths of these paths, and of no other
abbrev pub widths_among : List (List ℕ) → (List ℕ → Option ℕ) → List ℕ → Option ℕ
widths_among paths widths path = if is_listed paths path then widths path else None

-- The scope of a text over a dump whose paths have these widths: the names that it declares, and
-- the dump's paths that it asks for.
abbrev pub scope_for : List ItemForm → (List ℕ → Option ℕ) → Scope
scope_for items widths = whole_scope items (widths_among (asked items) widths)
