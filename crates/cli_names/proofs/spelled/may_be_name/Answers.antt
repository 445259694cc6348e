use Rattle.std.proofs.Common.{◌≡◌, ◌∙◌, ◌&&◌, ℕ, Bool, true, false, List, refl, sym, ap}
use Rattle.std.specs.Str.{is_utf8}
use Rattle.std.proofs.lemmas.Str.{is_utf8-from_IsUtf8, IsUtf8-from_is_utf8}
use Rattle.parser_grammar.specs.Terminals.{is_name, names, word_terminal}
use Rattle.cli_names.specs.Spelled.{is_name_word}
use Rattle.cli_names.proofs.spelled.may_be_name.Goals as goal

no-text : (word : List ℕ) (b : Bool) → is_utf8 word ≡ b → (is_utf8 word ≡ true → ⊥) → is_utf8 word ≡ false
no-text word false e h = e
no-text word true e h = absurd (h e)

pub returns-in-Err : goal.returns-in-Err
unfolding is_name_word
returns-in-Err c =
    let word = c.args.word.now in
    let none = no-text word (is_utf8 word) refl (λ h. c.in-Err.ensures.cases.0 (IsUtf8-from_is_utf8 word h)) in
    sym (ap (λ (b : Bool). b && names (word_terminal word)) none)

pub returns-in-Ok : goal.returns-in-Ok
unfolding is_name_word is_name
returns-in-Ok c =
    let word = c.args.word.now in
    let text = is_utf8-from_IsUtf8 word c.in-Ok.ensures.cases.1 in
    c.is_name.ensures ∙ ap (λ (w : List ℕ). names (word_terminal w)) c.in-Ok.ensures.cases.0
    ∙ sym (ap (λ (b : Bool). b && names (word_terminal word)) text)
