-- Sections, a text at a time.
use Rattle.std.proofs.Common.{◌≡◌, ℕ, true, false, List, [], ◌∷◌, ◌++◌, refl, sym, ap, ◌∙◌, append_assoc}
use Rattle.std.proofs.lemmas.List.{append-nil}
use Rattle.vcd_reader.specs.Header.{is_end}
use Rattle.vcd_declarations.specs.Sections.{with_text, sections}

-- the sections with more texts at the front of the first
abbrev pub with_texts : List (List ℕ) → List (List (List ℕ)) → List (List (List ℕ))
with_texts ws [] = []
with_texts ws (s ∷ ss) = (ws ++ s) ∷ ss

pub with-none : (ss : List (List (List ℕ))) → with_texts [] ss ≡ ss
with-none [] = refl
with-none (s ∷ ss) = refl

with-more : (ws : List (List ℕ)) (w : List ℕ) (ss : List (List (List ℕ))) → with_texts ws (with_text w ss)
    ≡ with_texts (ws ++ w ∷ []) ss
with-more ws w [] = refl
with-more ws w (s ∷ ss) = ap (λ (t : List (List ℕ)). t ∷ ss) (sym (append_assoc ws (w ∷ []) s))

pub sections-end : (t : List ℕ) (ts : List (List ℕ)) → is_end t ≡ true → sections (t ∷ ts) ≡ [] ∷ sections ts
unfolding sections
sections-end t ts e = rw e refl

pub sections-more : (t : List ℕ) (ts : List (List ℕ)) → is_end t ≡ false → sections (t ∷ ts)
    ≡ with_text t (sections ts)
unfolding sections
sections-more t ts e = rw e refl

-- no text is left
pub section-none : (ws ts : List (List ℕ)) → ts ≡ [] → with_texts ws (sections ts) ≡ []
unfolding sections
section-none ws ts e = rw e refl

-- the $end comes
pub section-end : (ws ts : List (List ℕ)) (t : List ℕ) (us : List (List ℕ)) → ts ≡ t ∷ us → is_end t ≡ true
    → with_texts ws (sections ts) ≡ ws ∷ sections us
section-end ws ts t us e h =
    ap (λ (x : List (List ℕ)). with_texts ws (sections x)) e ∙ ap (with_texts ws) (sections-end t us h)
    ∙ ap (λ (x : List (List ℕ)). x ∷ sections us) (append-nil ws)

-- another text comes
pub section-more : (ws ts : List (List ℕ)) (t : List ℕ) (us : List (List ℕ)) → ts ≡ t ∷ us → is_end t ≡ false
    → with_texts ws (sections ts) ≡ with_texts (ws ++ t ∷ []) (sections us)
section-more ws ts t us e h =
    ap (λ (x : List (List ℕ)). with_texts ws (sections x)) e ∙ ap (with_texts ws) (sections-more t us h)
    ∙ with-more ws t (sections us)
