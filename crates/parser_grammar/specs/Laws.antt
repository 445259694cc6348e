-- Laws that show that reading from the left finds exactly what the grammar's rules say.
use Rattle.std.specs.Prelude.{◌≡◌, ℕ, ◌<◌, List, Some}
use Rattle.lexer.specs.declared.token.Token.{Token}
use Rattle.parser_grammar.specs.Marks.{next_precedence, choice_level, or_level, implication_level}
use Rattle.parser_grammar.specs.Trees.{Tree, SequenceForm, PropertyForm, ItemForm}
use Rattle.parser_grammar.specs.Expressions.{Spells}
use Rattle.parser_grammar.specs.Sequences.{IsSequence, IsProperty}
use Rattle.parser_grammar.specs.Files.{IsFile}
use Rattle.parser_grammar.specs.ReadExpressions.{expression}
use Rattle.parser_grammar.specs.ReadSequences.{whole, property}
use Rattle.parser_grammar.specs.ReadFiles.{ReadsFile}

-- The tokens that a file spells are read as that file, up to their end.
abbrev pub SpelledFilesAreRead : Type 0
SpelledFilesAreRead =
    (xs : List ItemForm) (tokens : List Token) → IsFile xs tokens → ReadsFile xs tokens

-- What is read up to the end, with an assertion in it, is a file that spells the tokens.
abbrev pub ReadFilesAreSpelled : Type 0
ReadFilesAreSpelled =
    (xs : List ItemForm) (tokens : List Token) → ReadsFile xs tokens → IsFile xs tokens

-- Tokens spell at most one file.
abbrev pub TokensSpellOneFile : Type 0
TokensSpellOneFile =
    (xs ys : List ItemForm) (tokens : List Token) → IsFile xs tokens → IsFile ys tokens → xs ≡ ys

-- The tokens that an expression spells are read as it, where no operator of expressions follows.
abbrev pub SpelledExpressionsAreRead : Type 0
SpelledExpressionsAreRead =
    (d : ℕ) (e : Tree) (ts rest : List Token) → choice_level < next_precedence rest
    → Spells d e ts rest → expression d ts ≡ Some (e, rest)

-- What is read as an expression spells the tokens that were read.
abbrev pub ReadExpressionsAreSpelled : Type 0
ReadExpressionsAreSpelled =
    (d : ℕ) (e : Tree) (ts rest : List Token)
    → expression d ts ≡ Some (e, rest) → Spells d e ts rest

-- Tokens spell at most one expression, where no operator of expressions follows.
abbrev pub TokensSpellOneExpression : Type 0
TokensSpellOneExpression =
    (d : ℕ) (e f : Tree) (ts rest : List Token) → choice_level < next_precedence rest
    → Spells d e ts rest → Spells d f ts rest → e ≡ f

-- The tokens that a sequence spells are read as it, where no operator of sequences follows.
abbrev pub SpelledSequencesAreRead : Type 0
SpelledSequencesAreRead =
    (d : ℕ) (s : SequenceForm) (ts rest : List Token) → or_level < next_precedence rest
    → IsSequence d s ts rest → whole d ts ≡ Some (s, rest)

-- What is read as a sequence spells the tokens that were read.
abbrev pub ReadSequencesAreSpelled : Type 0
ReadSequencesAreSpelled =
    (d : ℕ) (s : SequenceForm) (ts rest : List Token)
    → whole d ts ≡ Some (s, rest) → IsSequence d s ts rest

-- The tokens that a property spells are read as it, where no operator of properties follows.
abbrev pub SpelledPropertiesAreRead : Type 0
SpelledPropertiesAreRead =
    (d : ℕ) (p : PropertyForm) (ts rest : List Token) → implication_level < next_precedence rest
    → IsProperty d p ts rest → property d ts ≡ Some (p, rest)

-- What is read as a property spells the tokens that were read.
abbrev pub ReadPropertiesAreSpelled : Type 0
ReadPropertiesAreSpelled =
    (d : ℕ) (p : PropertyForm) (ts rest : List Token)
    → property d ts ≡ Some (p, rest) → IsProperty d p ts rest
