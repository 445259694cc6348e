-- Numbers in lists.
use Rattle.std.proofs.Common.{◌≡◌, ◌⊎◌, inl, inr, ℕ, List, [], ◌∷◌, ◌++◌}
use Rattle.types.specs.Drafts.{IsNumberIn}

pub in_front : (p : ℕ) (xs ys : List ℕ) → IsNumberIn p xs → IsNumberIn p (xs ++ ys)
in_front p [] ys h = elim h [ ]
in_front p (x ∷ xs) ys (inl e) = inl e
in_front p (x ∷ xs) ys (inr h) = inr (in_front p xs ys h)

pub in_back : (p : ℕ) (xs ys : List ℕ) → IsNumberIn p ys → IsNumberIn p (xs ++ ys)
in_back p [] ys h = h
in_back p (x ∷ xs) ys h = inr (in_back p xs ys h)

in_more : (p x : ℕ) (xs ys : List ℕ) → IsNumberIn p xs ⊎ IsNumberIn p ys → IsNumberIn p (x ∷ xs) ⊎ IsNumberIn p ys
in_more p x xs ys (inl h) = inl (inr h)
in_more p x xs ys (inr h) = inr h

pub in_either : (p : ℕ) (xs ys : List ℕ) → IsNumberIn p (xs ++ ys) → IsNumberIn p xs ⊎ IsNumberIn p ys
in_either p [] ys h = inr h
in_either p (x ∷ xs) ys (inl e) = inl (inl e)
in_either p (x ∷ xs) ys (inr h) = in_more p x xs ys (in_either p xs ys h)

pub in_only : (p q : ℕ) → IsNumberIn p (q ∷ []) → p ≡ q
in_only p q (inl e) = e
in_only p q (inr h) = elim h [ ]

pub in_last : (p q : ℕ) (xs : List ℕ) → IsNumberIn p (xs ++ q ∷ []) → IsNumberIn p xs ⊎ (p ≡ q)
in_last p q xs h = last_of (in_either p xs (q ∷ []) h)
  where
    last_of : IsNumberIn p xs ⊎ IsNumberIn p (q ∷ []) → IsNumberIn p xs ⊎ (p ≡ q)
    last_of (inl i) = inl i
    last_of (inr i) = inr (in_only p q i)
