-- The words of the outcomes, one after another.
use Rattle.std.proofs.Common.{◌≡◌, ◌∙◌, ℕ, ◌+◌, ◌<◌, List, [], ◌∷◌, ◌++◌, map, take, length, get_or, slice_index_or}
use Rattle.std.proofs.Common.{sym, ap}
use Rattle.std.proofs.lemmas.List.{map-append, take_more}
use Rattle.import_files.specs.declared.outcome.Outcome.{Outcome}

pub words_more : (words : List ℕ) (place w : ℕ) (olds news : List Outcome) (o : Outcome) → place < length words
    → map (λ (one : Outcome). one.word) olds ≡ take place words → news ≡ olds ++ o ∷ [] → o.word ≡ w
    → w ≡ slice_index_or words place w → map (λ (one : Outcome). one.word) news ≡ take (place + 1) words
words_more words place w olds news o lt so_far e is here =
    ap (map (λ (one : Outcome). one.word)) e
    ∙ map-append (λ (one : Outcome). one.word) olds (o ∷ [])
    ∙ ap (λ (ws : List ℕ). ws ++ o.word ∷ []) so_far
    ∙ ap (λ (x : ℕ). take place words ++ x ∷ []) (is ∙ here)
    ∙ sym (take_more words place w lt)
