-- Parts of a path, in memory and apart from it.
use Rattle.std.proofs.Common.{◌≡◌, ◌++◌, ◌∷◌, ◌-◌, [], ℕ, List, Bool, true, map, take, length, sym, ap, ◌∙◌, Bor}
use Rattle.std.proofs.Common.{if◌then◌else◌}
use Rattle.std.proofs.lemmas.List.{take-map, length-map}
use Rattle.std.specs.Prelude.{codes}
use Rattle.cli_words.specs.Paths.{ends_in_name, one_back}

-- the bytes of a part
abbrev pub bytes_of : Bor (List ℕ) → List ℕ
bytes_of part = part.now

-- over the last part back
pub over_last : (rooted : Bool) (parts : List (Bor (List ℕ))) (n : ℕ) → ends_in_name (map bytes_of parts) ≡ true
    → n ≡ length parts - 1 → map bytes_of (take n parts) ≡ one_back rooted (map bytes_of parts)
over_last rooted parts n inside is =
    let told : List (List ℕ) = map bytes_of parts in
    sym (take-map bytes_of n parts)
    ∙ ap (λ (k : ℕ). take k told) (is ∙ ap (λ (k : ℕ). k - 1) (sym (length-map parts bytes_of)))
    ∙ sym
    (ap
    (λ (b : Bool). if b then take (length told - 1) told else (if rooted then told else told ++ codes ".." ∷ []))
    inside)
