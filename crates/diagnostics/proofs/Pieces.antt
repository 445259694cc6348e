-- The pieces of a text, joined.
use Rattle.std.proofs.Common.{◌≡◌, ◌++◌, List, Option, Some, None, [], ℕ, ap, ◌∙◌, append_assoc}
use Rattle.std.specs.Prelude.{unwrap_or, option_map}
use denote.Bor.{Bor}
use Rattle.diagnostics.specs.Told.{Grows}

-- one piece and then another
pub and_then : {s t u a b : List ℕ} → Grows s t a → Grows t u b → Grows s u (a ++ b)
and_then {s} {t} {u} {a} {b} p q = record { is = q.is ∙ ap (λ l. l ++ b) p.is ∙ append_assoc s a b }

-- the same piece, told otherwise
pub told_as : {s t a b : List ℕ} → Grows s t a → a ≡ b → Grows s t b
told_as {s} {t} {a} {b} p e = record { is = p.is ∙ ap (λ l. s ++ l) e }

-- what a reference that may be none leads to
pub now-unwrap_or : (r : Option (Bor (List ℕ))) (d : Bor (List ℕ)) (found : Option (List ℕ))
    → option_map (λ (x : Bor (List ℕ)). x.now) r ≡ found → d.now ≡ [] → (unwrap_or r d).now ≡ unwrap_or found []
now-unwrap_or None d found is empty = empty ∙ ap (λ (o : Option (List ℕ)). unwrap_or o []) is
now-unwrap_or (Some x) d found is empty = ap (λ (o : Option (List ℕ)). unwrap_or o []) is
