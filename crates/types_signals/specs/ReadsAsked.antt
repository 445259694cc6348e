-- The scope of a text leaves out no path that the text reads.
use Rattle.std.specs.Prelude.{ℕ, List, Option, IsTrue}
use Rattle.parser_grammar.specs.Trees.{ItemForm}
use Rattle.types_names.specs.Columns.{file_signals, all_listed}
use Rattle.types_names.specs.Asked.{whole_scope, asked}

-- Whatever the widths of a dump's paths are, each path that the text reads as a signal is one that
-- it asks for.
abbrev pub ReadsAreAsked : Type 0
ReadsAreAsked =
    (items : List ItemForm) (widths : List ℕ → Option ℕ)
    → IsTrue (all_listed (asked items) (file_signals (whole_scope items widths) items))
