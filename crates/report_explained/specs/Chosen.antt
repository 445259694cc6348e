-- Which failed attempts of a report are explained.
use Rattle.std.specs.Prelude.{ℕ, suc, ◌==◌, List, [], ◌∷◌, ◌++◌, Bool, true}
use Rattle.std.specs.Prelude.{Option, None, Some, filter, map, take, if◌then◌else◌, string_bytes}
use Rattle.std.specs.Option.{option_map}
use Rattle.std.specs.Str.{bytes_eq}
use Rattle.report_lines.specs.declared.line.Failure.{Failure}
use Rattle.report_lines.specs.declared.line.Line.{Line}
use Rattle.report_explained.specs.declared.choices.Choice.{Choice}
use Rattle.report_explained.specs.declared.selection.Wanted.{Wanted}

-- the one name that is asked for, or any
abbrev pub is_among_names : Option (List ℕ) → List ℕ → Bool
is_among_names None name = true
is_among_names (Some only) name = bytes_eq only name

-- an assertion of this name is asked for
abbrev pub is_named : Wanted → List ℕ → Bool
is_named w name = is_among_names (option_map (λ t. t.now) w.only) name

-- an attempt began at the clock that is asked for, or at any
abbrev pub begins_at : Option ℕ → Failure → Bool
begins_at None f = true
begins_at (Some start) f = f.start == start

-- a failed attempt of the assertion at a place
abbrev pub choice_at : ℕ → Failure → Choice
choice_at place f = record { place = place; failure = f }

-- those of a line that are asked for: of those that began when it is asked, at most so many
abbrev pub chosen_in : Wanted → ℕ → Line → List Choice
chosen_in w place l =
    if is_named w (string_bytes l.name)
    then map (choice_at place) (take w.most (filter (begins_at w.start) l.fails.items))
    else []

-- those of all lines, in their order; the first line is that of the assertion at the place
unfoldable pub chosen_from : Wanted → ℕ → List Line → List Choice
chosen_from w place [] = []
chosen_from w place (l ∷ ls) = chosen_in w place l ++ chosen_from w (suc place) ls
