-- The step that tells what stands.
use Rattle.std.proofs.Common.{◌≡◌, ℕ, Bool, true, false, cond, eqb, List, [], ◌∷◌, Option, Some, None}
use Rattle.std.proofs.Common.{◌⊎◌, inl, inr, refl, sym, ap, ◌∙◌}
use Rattle.std.proofs.lemmas.Bool.Decides.{eqb_tells}
use Rattle.vcd_reader.specs.Values.{ValueChange, Moment, or_else, last_digits}
use Rattle.vcd_segments.specs.Segments.{changes_in, Tells, is_among, front_told, told_changes}
use Rattle.vcd_segments.specs.Segments.{telling_step}
use Rattle.vcd_segments.proofs.StandingLaws.{or_else-none}

if-none : (b : Bool) (o : Option (List ℕ)) → None ≡ o → cond b o None ≡ o
if-none true o e = refl
if-none false o e = e

or-if : (b : Bool) (o : Option (List ℕ)) (digits : List ℕ) → Some digits ≡ o
    → or_else (cond b o None) (Some digits) ≡ o
or-if true o digits e = ap (λ (p : Option (List ℕ)). or_else p (Some digits)) (sym e) ∙ e
or-if false o digits e = e

-- one code more
told-more : (here : Option (List ℕ)) (k code : ℕ) (same b : Bool) (o : Option (List ℕ))
    (rest : List ValueChange) → eqb k code ≡ same → (same ≡ true → here ≡ o)
    → last_digits code rest ≡ cond b o None
    → last_digits code (front_told k here rest) ≡ cond (cond same true b) o None
unfolding last_digits
told-more None k code true b o rest e h ih = ih ∙ if-none b o (h refl)
told-more None k code false b o rest e h ih = ih
told-more (Some digits) k code true b o rest e h ih =
    ap (λ (t : Bool). or_else (last_digits code rest) (cond t (Some digits) None)) e
    ∙ ap (λ (p : Option (List ℕ)). or_else p (Some digits)) ih ∙ or-if b o digits (h refl)
told-more (Some digits) k code false b o rest e h ih =
    ap (λ (t : Bool). or_else (last_digits code rest) (cond t (Some digits) None)) e
    ∙ or_else-none (last_digits code rest) ∙ ih

same-last : (cs : List ValueChange) (k code : ℕ) → eqb k code ≡ true
    → last_digits k cs ≡ last_digits code cs
same-last cs k code e = elim (eqb_tells k code) [
  | inl p ↦ ap (λ (n : ℕ). last_digits n cs) p.1
  | inr p ↦ absurd (let f = p.0 in cc)
]

-- of the codes that are told the last digits, of others none
last-told : (cs : List ValueChange) (codes : List ℕ) (code : ℕ)
    → last_digits code (told_changes cs codes)
    ≡ cond (is_among codes code) (last_digits code cs) None
unfolding last_digits told_changes
last-told cs [] code = refl
last-told cs (k ∷ ks) code =
    told-more (last_digits k cs) k code (eqb k code) (is_among ks code) (last_digits code cs)
    (told_changes cs ks) refl (same-last cs k code) (last-told cs ks code)

pub telling-step-tells : (codes : List ℕ) (before : List Moment)
    → Tells (is_among codes) before (telling_step codes before)
telling-step-tells codes before = record {
  last = λ code r.
      last-told (changes_in before) codes code
      ∙ ap (λ (b : Bool). cond b (last_digits code (changes_in before)) None) r;
}
