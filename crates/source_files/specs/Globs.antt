-- What a pattern means.
use Rattle.std.specs.Prelude.{ℕ, ◌==◌, List, [], ◌∷◌, Bool, true, false, ◌&&◌, ◌||◌}
use Rattle.std.specs.Prelude.{if◌then◌else◌, Option, Some, None}

abbrev pub is_empty : List ℕ → Bool
is_empty [] = true
is_empty (c ∷ cs) = false

-- whether some end of a text passes
abbrev pub some_end : (List ℕ → Bool) → List ℕ → Bool
some_end passes [] = passes []
some_end passes (c ∷ cs) = passes (c ∷ cs) || some_end passes cs

-- whether a text begins with a byte, which `?` (63) leaves open, and the rest passes
abbrev pub begins : ℕ → (List ℕ → Bool) → List ℕ → Bool
begins p passes [] = false
begins p passes (c ∷ cs) = ((p == 63) || (p == c)) && passes cs

-- whether a text is one that a pattern means; `*` (42) stands for any run of bytes
abbrev pub means : List ℕ → List ℕ → Bool
means [] = is_empty
means (p ∷ ps) = if p == 42 then some_end (means ps) else begins p (means ps)

-- the bytes of a pattern up to its first star
abbrev pub front_part : List ℕ → List ℕ
front_part [] = []
front_part (p ∷ ps) = if p == 42 then [] else p ∷ front_part ps

-- the bytes of a pattern after its first star
abbrev pub after_star : List ℕ → Option (List ℕ)
after_star [] = None
after_star (p ∷ ps) = if p == 42 then Some ps else after_star ps

-- whether a text begins with bytes without a star, and the rest passes
abbrev pub fits : List ℕ → (List ℕ → Bool) → List ℕ → Bool
fits [] passes = passes
fits (q ∷ qs) passes = begins q (fits qs passes)

-- what is left of a text behind bytes without a star
abbrev pub after : List ℕ → List ℕ → Option (List ℕ)
after [] ts = Some ts
after (q ∷ qs) [] = None
after (q ∷ qs) (c ∷ cs) = if (q == 63) || (q == c) then after qs cs else None

-- what there is, or else another
abbrev pub or_else : Option (List ℕ) → Option (List ℕ) → Option (List ℕ)
or_else None other = other
or_else (Some ts) other = Some ts

-- what is left of a text behind the first place where bytes without a star stand
abbrev pub first_after : List ℕ → List ℕ → Option (List ℕ)
first_after qs [] = after qs []
first_after qs (c ∷ cs) = or_else (after qs (c ∷ cs)) (first_after qs cs)
