-- What is left of lists.
use Rattle.std.proofs.Common.{◌≡◌, ◌-◌, ◌++◌, ◌∙◌, ℕ, zero, suc, List, [], ◌∷◌, Option, Some, None, length, take, drop}
use Rattle.std.proofs.Common.{refl, ap, arith}
use Rattle.std.specs.Prelude.{unwrap_or}
use Rattle.std.proofs.lemmas.List.{take_all, length-drop}
use Rattle.report_explained.specs.declared.failed_attempt.FailedAttempt.{FailedAttempt}
use Rattle.report_forms.specs.Provenances.{ProvenanceData}
use Rattle.report_gtkwave.specs.Waves.{WaveName}
use Rattle.report_gtkwave.specs.Scales.{scale_at, scale_in}
use Rattle.report_gtkwave.specs.Saves.{group_text, groups_text}

-- a slice to the end
pub slice-rest : {X : Type 0} (xs : List X) (i : ℕ) → take (length xs - i) (drop i xs) ≡ drop i xs
slice-rest xs i = take_all (length xs - i) (drop i xs) (omega (arith, length-drop i xs))

-- all but the first of what is left
pub drop-first : {X : Type 0} (xs : List X) (i : ℕ) → drop 1 (drop i xs) ≡ drop (suc i) xs
drop-first [] zero = refl
drop-first [] (suc i) = refl
drop-first (x ∷ xs) zero = refl
drop-first (x ∷ xs) (suc i) = drop-first xs i

-- a text that begins with no time scale
pub scale-skip : (b : ℕ) (bs : List ℕ) → scale_at (b ∷ bs) ≡ None → scale_in (b ∷ bs) ≡ scale_in bs
scale-skip b bs none = ap (λ (o : Option ℕ). unwrap_or o (scale_in bs)) none

-- the first of some attempts, and the others
groups-first : (p : ProvenanceData) (ws : List WaveName) (n : ℕ) (told : List FailedAttempt)
    → groups_text p ws n told ≡ group_text p ws n told ++ groups_text p ws (suc n) (drop 1 told)
unfolding groups_text
groups-first p ws n [] = refl
groups-first p ws n (a ∷ told) = refl

-- what is left of them
pub groups-step : (p : ProvenanceData) (ws : List WaveName) (n : ℕ) (told : List FailedAttempt)
    → groups_text p ws n (drop n told)
    ≡ group_text p ws n (drop n told) ++ groups_text p ws (suc n) (drop (suc n) told)
groups-step p ws n told =
    groups-first p ws n (drop n told)
    ∙ ap (λ (l : List FailedAttempt). group_text p ws n (drop n told) ++ groups_text p ws (suc n) l)
    (drop-first told n)

pub groups-none : (p : ProvenanceData) (ws : List WaveName) (n : ℕ) → groups_text p ws n [] ≡ []
unfolding groups_text
groups-none p ws n = refl
