-- What clauses see of a text whose directives are known.
use Rattle.std.specs.Prelude.{ℕ, List}
use Rattle.import_tokens.specs.declared.expansions.Expansions.{Expansions}

-- the text itself
abbrev pub text_of : Expansions → List ℕ
text_of all = all.text.now
