-- A text of whole lines, grown by one.
use Rattle.std.proofs.Common.{◌≡◌, ℕ, Bool, true, false, List, [], ◌∷◌, ◌++◌, Result, Ok, Err, refl, sym, ap, ◌∙◌}
use Rattle.std.proofs.Common.{append_assoc, append-nil, subst}
use Rattle.std.specs.Prelude.{OnOk, IsTrue, is_ok, not, if◌then◌else◌}
use Rattle.std.proofs.lemmas.Bool.{false≢true}
use Rattle.axi4_rules.specs.Texts.{tokens}
use Rattle.axi4_rules.specs.Wholes.{IsWhole}
use Rattle.axi4_rules.proofs.TokenLaws.{tokens-line, tokens-nil}

tokens-ended : (line : List ℕ) → tokens (line ++ 10 ∷ []) ≡ tokens line
tokens-ended line = tokens-line line [] ∙ ap (λ l. tokens line ++ l) tokens-nil ∙ append-nil (tokens line)

tokens-grown : (old line : List ℕ) → IsWhole old → tokens (old ++ (line ++ 10 ∷ [])) ≡ tokens old ++ tokens line
tokens-grown old line whole = whole (line ++ 10 ∷ []) ∙ ap (λ l. tokens old ++ l) (tokens-ended line)

grown_whole : (old line : List ℕ) → IsWhole old → IsWhole (old ++ (line ++ 10 ∷ []))
grown_whole old line whole more =
    ap tokens (append_assoc old (line ++ 10 ∷ []) more ∙ ap (λ l. old ++ l) (append_assoc line (10 ∷ []) more))
    ∙ whole (line ++ 10 ∷ more)
    ∙ ap (λ l. tokens old ++ l) (tokens-line line more)
    ∙ sym (append_assoc (tokens old) (tokens line) (tokens more))
    ∙ ap (λ l. l ++ tokens more) (sym (tokens-grown old line whole))

pub stays_whole : {T E : Type 0} (r : Result T E) (old new piece line : List ℕ)
    → new ≡ (if is_ok r then old ++ piece else old) → piece ≡ line ++ 10 ∷ [] → IsWhole old → IsWhole new
stays_whole (Ok x) old new piece line h e whole =
    subst IsWhole (sym (h ∙ ap (λ l. old ++ l) e)) (grown_whole old line whole)
stays_whole (Err f) old new piece line h e whole = subst IsWhole (sym h) whole

pub line_added : {T E : Type 0} (r : Result T E) (old new piece line : List ℕ) (seen : List (List ℕ))
    → new ≡ (if is_ok r then old ++ piece else old) → piece ≡ line ++ 10 ∷ [] → IsWhole old → tokens old ≡ seen
    → OnOk r (tokens new ≡ seen ++ tokens line)
line_added (Ok x) old new piece line seen h e whole is =
    ap tokens (h ∙ ap (λ l. old ++ l) e) ∙ tokens-grown old line whole ∙ ap (λ l. l ++ tokens line) is
line_added (Err f) old new piece line seen h e whole is = tt

pub nothing_added : {T E : Type 0} (r : Result T E) (new old added : List (List ℕ)) → OnOk r (new ≡ old ++ added)
    → added ≡ [] → OnOk r (new ≡ old)
nothing_added (Ok x) new old added h e = h ∙ ap (λ l. old ++ l) e ∙ append-nil old
nothing_added (Err f) new old added h e = tt

pub not_true : (b : Bool) → IsTrue (not b) → b ≡ false
not_true true h = absurd (false≢true h)
not_true false h = refl
