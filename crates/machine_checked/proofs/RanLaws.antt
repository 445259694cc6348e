-- What a part of a clock comes to, with its value turned, and what is so of its value.
use Rattle.std.proofs.Common.{◌≡◌, ℕ, refl}
use Rattle.machine_checked.specs.Outcomes.{Ran, done, trapped, and_then}

abbrev pub ran_map : {A B : Type 0} → (A → B) → Ran A → Ran B
ran_map f r = and_then r (λ x left. done (f x) left)

-- Of its value, where it has one, P holds.
abbrev pub IfDone : {A : Type 0} → (A → Type 0) → Ran A → Type 0
IfDone P (done x left) = P x
IfDone P (trapped t) = Unit {0}

pub done_then : {A B : Type 0} (P : A → Type 0) (Q : B → Type 0) (r : Ran A) (go : A → ℕ → Ran B) → IfDone P r →
    ((x : A) (left : ℕ) → P x → IfDone Q (go x left)) → IfDone Q (and_then r go)
done_then P Q (done x left) go h k = k x left h
done_then P Q (trapped t) go h k = tt

pub done_any : {A B : Type 0} (Q : B → Type 0) (r : Ran A) (go : A → ℕ → Ran B) →
    ((x : A) (left : ℕ) → IfDone Q (go x left)) → IfDone Q (and_then r go)
done_any Q (done x left) go k = k x left
done_any Q (trapped t) go k = tt
