-- Items of a text that are refused by themselves, whatever stands beside them.
use Rattle.std.specs.Prelude.{◌≡◌, ◌+◌, ◌-◌, ℕ, List, [], ◌∷◌, Option, Some, None, Ok}
use Rattle.std.specs.Prelude.{Result, Err, map, take, drop, codes, Bool, true, false, ◌||◌}
use Rattle.std.specs.Prelude.{length, nat_lt, not, option_map, string_bytes}
use Rattle.std.specs.Prelude.{if◌then◌else◌}
use Rattle.std.specs.List.{list_any}
use Rattle.std.specs.Str.{bytes_eq}
use Rattle.lexer.specs.declared.fault.LexFault.{LexFault}
use Rattle.lexer.specs.declared.token.Token.{Token}
use Rattle.lexer.specs.Covering.{IsLexFault}
use Rattle.lexer.specs.Cutting.{Cut, cut_of, tokens_of}
use Rattle.parser_grammar.specs.Trees.{ItemForm}
use Rattle.parser.specs.declared.fault.ParseFault.{ParseFault}
use Rattle.parser.specs.Faults.{IsParseFault}
use Rattle.vcd_reader.specs.Variables.{Declared}
use Rattle.suite_over_dump.specs.Suites.{Spells, clock_byte}
use Rattle.lint_messages.specs.Bytes.{byte_of_lex, byte_of_parse}
use Rattle.lint_refusals.specs.Refused.{IsRefused, has_clock}
use Rattle.lint_refusals.specs.Verbs.{is_verb}
use Rattle.lint_refusals.specs.declared.front.DumpFront.{DumpFront}

-- whether the next token is a name that is declared
abbrev pub declares : List ℕ → Bool
declares text = bytes_eq text (codes "sequence") || bytes_eq text (codes "counter")

-- the names that are declared: those after `sequence` and `counter`
abbrev pub names_after : Bool → List Cut → List (List ℕ)
names_after named [] = []
names_after named (c ∷ cs) =
    if named then c.text ∷ names_after (declares c.text) cs else names_after (declares c.text) cs

abbrev pub names_cut : Result (List Cut) LexFault → Option (List (List ℕ))
names_cut (Ok cs) = Some (names_after false cs)
names_cut (Err fault) = None

-- the names that a text declares, if it has tokens
abbrev pub declared_in : List ℕ → Option (List (List ℕ))
declared_in text = names_cut (tokens_of text)

-- the bytes of a text between two places
abbrev pub part_of : List ℕ → ℕ → ℕ → List ℕ
part_of text start end = take (end - start) (drop start text)

-- whether some token is this word
abbrev pub has_word : List ℕ → List Token → Bool
has_word word tokens = list_any (λ t. bytes_eq t.text.now word) tokens

-- the word that ends the item of some tokens
abbrev pub ender : List Token → List ℕ
ender tokens =
    if has_word (codes "sequence") tokens then codes "endsequence" else codes ";"

-- Whether the form of an item says, whatever stands beside it, if it is refused: it begins an
-- assertion, or it isn't ended.
abbrev pub is_decided : List Token → Bool
is_decided tokens = list_any is_verb tokens || not (has_word (ender tokens) tokens)

-- the names that are known to be declared
abbrev pub known_names : DumpFront → Option (List (List ℕ))
known_names front = option_map (λ names. map string_bytes names.now) front.declared

-- The names that a text declares are known, and none of some tokens is one.
pub record IsApart (declared : Option (List (List ℕ))) (tokens : List Token) : Type 0 where
  pub names : List (List ℕ)
  pub known : declared ≡ Some names
  pub none : list_any (λ t. list_any (bytes_eq t.text.now) names) tokens ≡ false

-- A part of a text is refused at a byte of its own, whatever stands beside it: it has no tokens; or
-- none of its tokens is a name that the text declares; or its tokens spell no items, and its form
-- says so; or its clock is no variable of one bit.
pub data IsRefusedPart (vs : List Declared) (declared : Option (List (List ℕ)))
    (part : List ℕ) (byte : ℕ) : Type 0 where
  unlexed : (fault : LexFault) → IsLexFault part fault → byte_of_lex fault ≡ Some byte
      → IsRefusedPart vs declared part byte
  apart : (tokens : List Token) → tokens_of part ≡ Ok (map cut_of tokens)
      → IsApart declared tokens → nat_lt byte (length part) ≡ true → IsRefused vs part byte
      → IsRefusedPart vs declared part byte
  misspelt : (fault : ParseFault) (tokens : List Token)
      → tokens_of part ≡ Ok (map cut_of tokens) → is_decided tokens ≡ true
      → IsParseFault tokens fault → byte_of_parse fault ≡ Some byte
      → IsRefusedPart vs declared part byte
  clockless : (tokens : List Token) (items : List ItemForm) → Spells part tokens items
      → has_clock vs items ≡ false → byte ≡ clock_byte items
      → IsRefusedPart vs declared part byte

-- The same of a part that begins at a byte of the text, at a byte of the text.
pub record IsMovedPart (vs : List Declared) (declared : Option (List (List ℕ)))
    (part : List ℕ) (start at : ℕ) : Type 0 where
  pub byte : ℕ
  pub refused : IsRefusedPart vs declared part byte
  pub is : at ≡ start + byte

-- The same of what stands between two places.
abbrev pub IsRefusedOf : List Declared → Option (List (List ℕ)) → List ℕ → ℕ → ℕ → ℕ → Type 0
IsRefusedOf vs declared text start end at =
    IsMovedPart vs declared (part_of text start end) start at

-- The same of all names that the text declares.
abbrev pub IsRefusedAlone : List Declared → List ℕ → ℕ → ℕ → ℕ → Type 0
IsRefusedAlone vs text start end at = IsRefusedOf vs (declared_in text) text start end at
