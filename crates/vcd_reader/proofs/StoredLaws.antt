-- What is stored for a change.
use Rattle.std.proofs.Common.{◌≡◌, ℕ, ◌+◌, ◌-◌, ◌*◌, ◌/◌, ◌%◌, ◌^◌, false, eqb, List, [], ◌∷◌, ◌++◌, length, get_or}
use Rattle.std.proofs.Common.{map, refl, ap, arith, inl, inr}
use Rattle.std.proofs.lemmas.List.{length-append, map-append}
use Rattle.std.proofs.Math.Nat.{div-add-mod}
use Rattle.std.proofs.lemmas.Bool.Decides.{eqb_tells}
use Rattle.vcd_reader.specs.declared.step.Change.{Change}
use Rattle.vcd_reader.specs.declared.step.Step.{Step}
use Rattle.vcd_reader.specs.Stored.{StoredChange, stored_value, stored_change, stored_step}

pub stored-narrow : (high : List ℕ) (code value : ℕ) → value / 2 ^ 64 ≡ 0
    → stored_change high (record { code = code; high = 0; low = value % 2 ^ 64 })
    ≡ record { code = code; value = value }
unfolding stored_change stored_value
stored-narrow high code value e =
    ap (λ (v : ℕ). record { code = code; value = v }) (let h : value % 2 ^ 64 ≡ value = omega arith in h)

get_or-front : (old more : List ℕ) (x : ℕ) → get_or ((old ++ x ∷ []) ++ more) (length old) 0 ≡ x
get_or-front [] more x = refl
get_or-front (y ∷ ys) more x = get_or-front ys more x

pub stored-wide : (old more : List ℕ) (code value above high : ℕ) → above ≡ value / 2 ^ 64
    → high ≡ length (old ++ above ∷ [])
    → stored_change ((old ++ above ∷ []) ++ more) (record { code = code; high = high; low = value % 2 ^ 64 })
    ≡ record { code = code; value = value }
unfolding stored_change stored_value
stored-wide old more code value above high is long =
    let size : length (old ++ above ∷ []) ≡ length old + 1 = length-append old (above ∷ []) in
    let some : eqb high 0 ≡ false = elim (eqb_tells high 0) [ inl p ↦ absurd (omega (arith, p.1)) | inr p ↦ p.0 ] in
    let last : high - 1 ≡ length old = omega arith in
    rw (some, last, get_or-front, is)
    (ap (λ (v : ℕ). record { code = code; value = v }) (let h : value % 2 ^ 64 + 2 ^ 64 * (value / 2 ^ 64)
    ≡ value = omega (arith, div-add-mod value (2 ^ 64)) in h))

-- one more step, with the changes that were gathered
pub step-pushed : (high : List ℕ) (steps new : List Step) (s : Step) (changes : List Change) → new ≡ steps ++ s ∷ []
    → s.changes.items ≡ changes
    → map (stored_step high) new ≡ map (stored_step high) steps
    ++ record { time = s.time; changes = map (stored_change high) changes } ∷ []
unfolding stored_step
step-pushed high steps new s changes is same =
    rw (is, map-append)
    (ap (λ (cs : List Change). map (stored_step high) steps
    ++ record { time = s.time; changes = map (stored_change high) cs } ∷ []) same)

-- one more change
pub change-pushed : (high : List ℕ) (changes new : List Change) (c : Change) (k : StoredChange)
    → new ≡ changes ++ c ∷ [] → stored_change high c ≡ k → map (stored_change high) new
    ≡ map (stored_change high) changes ++ k ∷ []
change-pushed high changes new c k is same =
    rw (is, map-append) (ap (λ (x : StoredChange). map (stored_change high) changes ++ x ∷ []) same)
