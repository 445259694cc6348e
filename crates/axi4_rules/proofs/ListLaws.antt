-- Lists that a loop goes through, by what is left of them.
use Rattle.std.proofs.Common.{◌≡◌, ℕ, ◌+◌, ◌<◌, ◌≤◌, Bool, true, false, List, [], ◌∷◌, ◌++◌, length, get_or, drop, map}
use Rattle.std.proofs.Common.{Option, Some, None, Bor, append_assoc, refl, sym, ap, ◌∙◌, add-one}
use Rattle.std.specs.List.{list_all, list_any}
use Rattle.std.proofs.Math.Seq.{drop-cons}
use Rattle.std.proofs.lemmas.List.{drop_all, map-append}
use Rattle.axi4_rules.specs.Texts.{is_empty, filled_ones}

pub drop-next : {X : Type 0} (xs : List X) (i : ℕ) (d : X) → i < length xs → drop i xs ≡ get_or xs i d ∷ drop (i + 1) xs
drop-next xs i d below = drop-cons xs i d below ∙ ap (λ n. get_or xs i d ∷ drop n xs) (sym (add-one i))

pub all_passes : {X : Type 0} (p : X → Bool) (xs : List X) (i : ℕ) (d : X) → i < length xs → p (get_or xs i d) ≡ true
    → list_all p (drop i xs) ≡ list_all p (drop (i + 1) xs)
all_passes p xs i d below h = rw (drop-next xs i d below, h) refl

pub all_fails : {X : Type 0} (p : X → Bool) (xs : List X) (i : ℕ) (d : X) → i < length xs → p (get_or xs i d) ≡ false
    → list_all p (drop i xs) ≡ false
all_fails p xs i d below h = rw (drop-next xs i d below, h) refl

pub any_fails : {X : Type 0} (p : X → Bool) (xs : List X) (i : ℕ) (d : X) → i < length xs → p (get_or xs i d) ≡ false
    → list_any p (drop i xs) ≡ list_any p (drop (i + 1) xs)
any_fails p xs i d below h = rw (drop-next xs i d below, h) refl

pub any_passes : {X : Type 0} (p : X → Bool) (xs : List X) (i : ℕ) (d : X) → i < length xs → p (get_or xs i d) ≡ true
    → list_any p (drop i xs) ≡ true
any_passes p xs i d below h = rw (drop-next xs i d below, h) refl

-- the list with others in front
abbrev pub with_front : {A : Type 0} → List A → Option (List A) → Option (List A)
with_front xs None = None
with_front xs (Some ys) = Some (xs ++ ys)

pub drop-end : {X : Type 0} (xs : List X) (i : ℕ) → length xs ≤ i → drop i xs ≡ []
drop-end xs i over = drop_all i xs over

-- the same behind a view
pub any_seen_fails : {X Y : Type 0} (p : Y → Bool) (v : X → Y) (xs : List X) (i : ℕ) (d : X) → i < length xs
    → p (v (get_or xs i d)) ≡ false → list_any p (map v (drop i xs)) ≡ list_any p (map v (drop (i + 1) xs))
any_seen_fails p v xs i d below h = rw (drop-next xs i d below, h) refl

pub any_seen_passes : {X Y : Type 0} (p : Y → Bool) (v : X → Y) (xs : List X) (i : ℕ) (d : X) → i < length xs
    → p (v (get_or xs i d)) ≡ true → list_any p (map v (drop i xs)) ≡ true
any_seen_passes p v xs i d below h = rw (drop-next xs i d below, h) refl

-- the texts that aren't empty, from one that is
pub filled_skips : (ts : List (Bor (List ℕ))) (i : ℕ) (d : Bor (List ℕ)) → i < length ts
    → is_empty ((get_or ts i d).now) ≡ true
    → filled_ones (map (λ t. t.now) (drop i ts)) ≡ filled_ones (map (λ t. t.now) (drop (i + 1) ts))
filled_skips ts i d below h = rw (drop-next ts i d below, h) refl

filled_keeps : (ts : List (Bor (List ℕ))) (i : ℕ) (d : Bor (List ℕ)) → i < length ts
    → is_empty ((get_or ts i d).now) ≡ false
    → filled_ones (map (λ t. t.now) (drop i ts))
    ≡ (get_or ts i d).now ∷ filled_ones (map (λ t. t.now) (drop (i + 1) ts))
filled_keeps ts i d below h = rw (drop-next ts i d below, h) refl

-- the same from one that isn't, after those that were found
pub filled_more : (ts found new : List (Bor (List ℕ))) (i : ℕ) (d : Bor (List ℕ)) → i < length ts
    → is_empty ((get_or ts i d).now) ≡ false → new ≡ found ++ get_or ts i d ∷ []
    → map (λ t. t.now) found ++ filled_ones (map (λ t. t.now) (drop i ts))
    ≡ map (λ t. t.now) new ++ filled_ones (map (λ t. t.now) (drop (i + 1) ts))
filled_more ts found new i d below h is =
    let left = filled_ones (map (λ t. t.now) (drop (i + 1) ts)) in
    ap (λ l. map (λ t. t.now) found ++ l) (filled_keeps ts i d below h)
    ∙ sym (append_assoc (map (λ t. t.now) found) ((get_or ts i d).now ∷ []) left)
    ∙ ap (λ l. l ++ left) (sym (ap (map (λ t. t.now)) is ∙ map-append (λ t. t.now) found (get_or ts i d ∷ [])))
