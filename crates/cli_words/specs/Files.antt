-- Which of the files that are written would be written over one that is read, or over one another,
-- by the paths that were given.
use Rattle.std.specs.Prelude.{ℕ, List, [], ◌∷◌, ◌++◌, Bool, Option, None, Some, String, map}
use Rattle.std.specs.Prelude.{find, string_bytes, if◌then◌else◌}
use Rattle.std.specs.Global.{Global}
use Rattle.std.specs.List.{list_any}
use Rattle.cli_words.specs.Paths.{is_alike}
use Rattle.cli_words.specs.declared.request.Request.{Request}
use Rattle.cli_words.specs.declared.request.Request.TheVariants.{Check, Build}
use Rattle.cli_words.specs.declared.request.Request.TheVariants.{Upgrade}
use Rattle.cli_words.specs.declared.request.Request.TheVariants.{Explain}

-- the path of an option, if it is given
abbrev pub if_given : Option (String Global) → List (List ℕ)
if_given None = []
if_given (Some path) = string_bytes path ∷ []

-- the paths of a dump, of texts, of ports and of a team's files
abbrev pub sources :
    List ℕ → List (String Global) → Option (String Global) → List (String Global) → List (List ℕ)
sources vcd sva axi team =
    vcd ∷ ((if_given axi ++ map string_bytes sva) ++ map string_bytes team)

-- The paths of files that are read and have to stay as they are. The program that is upgraded may
-- be written over.
abbrev pub kept_paths : Request → List (List ℕ)
kept_paths (Check vcd sva axi team only keep_going workers window junit json html) =
    sources (string_bytes vcd) sva.items axi team.files.items
kept_paths (Explain vcd sva axi team only keep_going start most gtkw) =
    sources (string_bytes vcd) sva.items axi team.files.items
kept_paths (Build vcd sva axi name out) = sources (string_bytes vcd) sva.items axi []
kept_paths _ = []

-- the paths of files that are written
abbrev pub written_paths : Request → List (List ℕ)
written_paths (Check vcd sva axi team only keep_going workers window junit json html) =
    (if_given junit ++ if_given json) ++ if_given html
written_paths (Explain vcd sva axi team only keep_going start most gtkw) = if_given gtkw
written_paths (Build vcd sva axi name out) = string_bytes out ∷ []
written_paths (Upgrade code out) = string_bytes out ∷ []
written_paths _ = []

-- a path is like one of some
abbrev pub is_like_one : List (List ℕ) → List ℕ → Bool
is_like_one paths path = list_any (is_alike path) paths

-- the first of some paths that is like one of others
abbrev pub first_like : List (List ℕ) → List (List ℕ) → Option (List ℕ)
first_like others paths = find (is_like_one others) paths

-- the first path of a file that is written over one that has to stay
abbrev pub overwritten_of : Request → Option (List ℕ)
overwritten_of request = first_like (kept_paths request) (written_paths request)

-- the first path that is like one after it
abbrev pub first_double : List (List ℕ) → Option (List ℕ)
first_double [] = None
first_double (path ∷ paths) =
    if is_like_one paths path then Some path else first_double paths

-- the first path of two files that are written into one
abbrev pub written_twice_of : Request → Option (List ℕ)
written_twice_of request = first_double (written_paths request)
