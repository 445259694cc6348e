-- Why no rule names a variable.
use Rattle.std.specs.Prelude.{ℕ, List, [], Bool, true, not, ◌||◌, ◌==◌, nat_lt, codes}
use Rattle.std.specs.Prelude.{if◌then◌else◌}
use Rattle.std.specs.Str.{bytes_eq}
use Rattle.cli_names.specs.declared.note.Note.{Note}
use Rattle.cli_names.specs.declared.note.Note.TheVariants.{
  Free,
  Real,
  Text,
  Event,
  NoBits,
  Wide,
}
use Rattle.cli_names.specs.declared.note.Note.TheVariants.{NoWords, Reserved, Later}
use Rattle.cli_names.specs.Spelled.{are_words, begins_with_name}

-- why no rule spells the path, or which variable it names
abbrev pub path_note : List ℕ → Bool → Note
path_note path itself =
    if not (are_words true path) then NoWords
    else (if not (begins_with_name path) then Reserved
    else (if itself then Free
    else Later))

-- the first reason why no rule names a variable of that kind, size and path; `itself` where the
-- path names this variable and no earlier one
unfoldable pub note_of : List ℕ → ℕ → List ℕ → Bool → Note
note_of kind size path itself =
    if bytes_eq kind (codes "real") || bytes_eq kind (codes "realtime") then Real
    else (if bytes_eq kind (codes "string") then Text
    else (if bytes_eq kind (codes "event") then Event
    else (if size == 0 then NoBits
    else (if nat_lt 128 size then Wide
    else path_note path itself))))

-- what is told of it
abbrev pub note_text : Note → List ℕ
note_text Free = []
note_text Real = codes "not in a rule: a real"
note_text Text = codes "not in a rule: a string"
note_text Event = codes "not in a rule: an event"
note_text NoBits = codes "not in a rule: of 0 bits"
note_text Wide = codes "not in a rule: over 128 bits"
note_text NoWords = codes "not in a rule: not words joined by dots"
note_text Reserved = codes "not in a rule: begins with a word of the language"
note_text Later = codes "not in a rule: an earlier variable has this path"
