-- The assertions of a file (IEEE 1800-2017, 16.3 and 16.14).
use Rattle.std.specs.Prelude.{ℕ, suc, List, [], ◌∷◌, Bool, true, false, ◌&&◌, ◌||◌}
use Rattle.std.specs.Prelude.{if◌then◌else◌}
use Rattle.import_tokens.specs.declared.keyword.Keyword.{Keyword}
use Rattle.import_tokens.specs.declared.keyword.Keyword.TheVariants as words
use Rattle.import_tokens.specs.declared.symbol.Symbol.TheVariants as marks
use Rattle.import_tokens.specs.declared.token.Kind.{Kind}
use Rattle.import_tokens.specs.declared.token.Kind.TheVariants as kinds
use Rattle.import_tokens.specs.declared.token.Token.{Token}

abbrev pub is_assertion_word : Keyword → Bool
is_assertion_word words.Assert = true
is_assertion_word words.Assume = true
is_assertion_word words.Restrict = true
is_assertion_word words.Cover = true
is_assertion_word word = false

-- whether a token begins an assertion, of whatever sort
abbrev pub begins_assertion : Kind → Bool
begins_assertion (kinds.Keyword word) = is_assertion_word word
begins_assertion kind = false

abbrev pub is_word : Kind → Bool
is_word kinds.Word = true
is_word kind = false

abbrev pub is_property : Kind → Bool
is_property (kinds.Keyword words.Property) = true
is_property kind = false

abbrev pub is_bracket : Kind → Bool
is_bracket (kinds.Symbol marks.OpenRound) = true
is_bracket kind = false

-- A word stands before `property (`, where the language has `assert` or its kin (annex A.6.10).
abbrev pub is_misspelt : List Token → Bool
is_misspelt (one ∷ two ∷ three ∷ tokens) =
    is_word one.kind && (is_property two.kind && is_bracket three.kind)
is_misspelt tokens = false

-- whether an assertion begins with the first token, or would if it were spelled right
abbrev pub is_begun : List Token → Bool
is_begun [] = false
is_begun (token ∷ tokens) = begins_assertion token.kind || is_misspelt (token ∷ tokens)

-- the places of the tokens where one does, in order, where the first token has the place `at`
unfoldable pub word_places : ℕ → List Token → List ℕ
word_places at [] = []
word_places at (token ∷ tokens) =
    if is_begun (token ∷ tokens) then at ∷ word_places (suc at) tokens
    else word_places (suc at) tokens
