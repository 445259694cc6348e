-- What is shown of a line, character by character.
use Rattle.std.proofs.Common.{◌≡◌, ℕ, zero, suc, List, [], ◌++◌, take, drop, map, refl, ap, ◌∙◌}
use Rattle.std.specs.Prelude.{encode_utf8_all, IsUtf8, encode_utf8}
use Rattle.std.specs.Str.{chars}
use Rattle.std.proofs.lemmas.Str.{chars_past_char, chars-nil}
use Rattle.diagnostics.specs.Told.{shown_char, shown_text}

-- so many characters after so many others, as bytes
abbrev shown : ℕ → ℕ → List ℕ → List ℕ
shown before count cs = encode_utf8_all (map shown_char (take count (drop before cs)))

-- a character that isn't shown
pub shown-skip : (bs rest : List ℕ) (c before count : ℕ) → IsUtf8 bs → bs ≡ encode_utf8 c ++ rest
    → shown_text (suc before) count bs ≡ shown_text before count rest
shown-skip bs rest c before count utf8 is = ap (shown (suc before) count) (chars_past_char bs rest c utf8 is)

-- one that is
pub shown-push : (bs rest : List ℕ) (c count : ℕ) → IsUtf8 bs → bs ≡ encode_utf8 c ++ rest
    → shown_text zero (suc count) bs ≡ encode_utf8 (shown_char c) ++ shown_text zero count rest
unfolding chars lib.Utf8.encode
shown-push bs rest c count utf8 is = ap (shown zero (suc count)) (chars_past_char bs rest c utf8 is)

-- no more of them
pub shown-none : (bs : List ℕ) (before : ℕ) → shown_text before zero bs ≡ []
shown-none bs before = refl

none : (before count : ℕ) → shown before count [] ≡ []
none zero zero = refl
none zero (suc count) = refl
none (suc before) zero = refl
none (suc before) (suc count) = refl

-- nothing of an empty text
pub shown-nil : (bs : List ℕ) (before count : ℕ) → bs ≡ [] → shown_text before count bs ≡ []
shown-nil bs before count is =
    ap (λ (l : List ℕ). shown before count (chars l)) is ∙ ap (shown before count) chars-nil ∙ none before count
