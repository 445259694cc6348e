-- What is kept where generate constructs are written out (IEEE 1800-2017, 27.4 and 27.5).
use Rattle.std.specs.Prelude.{◌≡◌, ℕ, List, [], ◌∷◌, Bool, true, false, if◌then◌else◌, ◌==◌}
use Rattle.import_tokens.specs.declared.keyword.Keyword.TheVariants as words
use Rattle.import_tokens.specs.declared.token.Kind.{Kind}
use Rattle.import_tokens.specs.declared.token.Kind.TheVariants as kinds
use Rattle.import_tokens.specs.declared.token.Token.{Token}
use Rattle.import_scopes.specs.Words.{begins_assertion}

-- the bytes of the words that begin assertions, in order
unfoldable pub word_bytes : List Token → List ℕ
word_bytes [] = []
word_bytes (token ∷ tokens) =
    if begins_assertion token.kind then token.at ∷ word_bytes tokens else word_bytes tokens

abbrev pub is_loop : Kind → Bool
is_loop (kinds.Keyword words.For) = true
is_loop kind = false

-- whether `for` stands among tokens
unfoldable pub has_loop : List Token → Bool
has_loop [] = false
has_loop (token ∷ tokens) = if is_loop token.kind then true else has_loop tokens

-- whether all of one list stand in another, in their order
unfoldable pub is_among : List ℕ → List ℕ → Bool
is_among [] ys = true
is_among (x ∷ xs) [] = false
is_among (x ∷ xs) (y ∷ ys) = if x == y then is_among xs ys else is_among (x ∷ xs) ys

-- No word that begins an assertion is lost; and where no `for` stands, each is there once.
pub record Unrolls (tokens unrolled : List Token) : Type 0 where
  pub kept : is_among (word_bytes tokens) (word_bytes unrolled) ≡ true
  pub once : has_loop tokens ≡ false → word_bytes tokens ≡ word_bytes unrolled
