-- How many items of a text are counted.
use Rattle.std.specs.Prelude.{ℕ, ◌+◌, List, Bool, not, ◌&&◌, ◌==◌, length, if◌then◌else◌}
use Rattle.std.specs.Prelude.{slice_index_or}
use Rattle.std.specs.Char.{is_ascii_whitespace}
use Rattle.std.specs.List.{list_any}
use Rattle.diagnostics.specs.declared.front.Refusal.{Refusal}
use Rattle.diagnostics.specs.Items.{item_at}

-- whether a refusal stands in no item: after the last one, at what is no white space
abbrev pub is_outside : List ℕ → List ℕ → Refusal → Bool
is_outside text ends r =
    (item_at ends r.at == length ends) && not (is_ascii_whitespace (slice_index_or text r.at 32))

-- how many items are counted: those of the text, and what stands after them, where it is refused
abbrev pub counted : List ℕ → List ℕ → List Refusal → ℕ
counted text ends refusals =
    if list_any (is_outside text ends) refusals then length ends + 1 else length ends
