-- Loops that write one place after another, and places of which all were written.
use Rattle.std.proofs.Common.{◌≡◌, ℕ, zero, suc, ◌+◌, ◌<◌, ◌≤◌, List, [], ◌∷◌, ◌++◌, length, get_or}
use Rattle.std.proofs.Common.{set, take, drop, map, replicate, refl, sym, ap, ◌∙◌, append_assoc}
use Rattle.std.proofs.Common.{add-one, arith, length-append, length-set, subst, ◌-◌}
use Rattle.std.specs.Prelude.{Option, Some, None}
use Rattle.std.proofs.lemmas.List.{length-map, append-nil, map-append, take-map, drop-map, take_all}
use Rattle.std.proofs.lemmas.List.{take-append-drop, length-take-le, set_split}
use Rattle.std.proofs.lemmas.List.{take-append-le, drop-append-le, drop-replicate, length-replicate}
use Rattle.std.proofs.lemmas.List.{get_or-replicate}
use Rattle.std.proofs.Math.Seq.{take-append_seam, take-suc, drop-append-add}
use Rattle.std.proofs.Math.Seq.{drop-drop}
use Rattle.history_ring.specs.Held.{spare, AllHeld, IsRowWritten}
use Rattle.raw_places.specs.Filled.{values_of}

pub values_of-map : (xs : List ℕ) → values_of (map Some xs ++ spare) ≡ xs
unfolding values_of
values_of-map [] = refl
values_of-map (x ∷ xs) = ap (λ ys. x ∷ ys) (values_of-map xs)

pub AllHeld-map : (places : List (Option ℕ)) (xs : List ℕ) → places ≡ map Some xs ++ spare
    → AllHeld places
AllHeld-map places xs e =
    e ∙ ap (λ ys. map Some ys ++ spare) (sym (ap values_of e ∙ values_of-map xs))

pub values_of-is : (places : List (Option ℕ)) (xs : List ℕ) → places ≡ map Some xs ++ spare
    → values_of places ≡ xs
values_of-is places xs e = ap values_of e ∙ values_of-map xs

pub length-values_of : (places : List (Option ℕ)) → AllHeld places
    → length places ≡ length (values_of places) + 8
length-values_of places all =
    let vs = values_of places in
    ap length all ∙ length-append (map Some vs) spare ∙ ap (λ n. n + 8) (length-map vs Some)

get_or-Some : (xs : List ℕ) (i : ℕ) → i < length xs
    → get_or (map Some xs ++ spare) i None ≡ Some (get_or xs i 0)
get_or-Some [] i lt = absurd (omega arith)
get_or-Some (x ∷ xs) zero lt = refl
get_or-Some (x ∷ xs) (suc i) lt = get_or-Some xs i (omega arith)

pub get_or-held : (places : List (Option ℕ)) (i : ℕ) → AllHeld places
    → i < length (values_of places) → get_or places i None ≡ Some (get_or (values_of places) i 0)
get_or-held places i all lt = ap (λ cs. get_or cs i None) all ∙ get_or-Some (values_of places) i lt

-- a row that was put, as values
pub row-values : (places : List (Option ℕ)) (at : ℕ) (row : List ℕ) (new : List (Option ℕ))
    → AllHeld places → at + length row ≤ length (values_of places)
    → new ≡ take at places ++ map Some row ++ drop (at + length row) places
    → new
    ≡ map Some (take at (values_of places) ++ row ++ drop (at + length row) (values_of places))
    ++ spare
row-values places at row new all fits e =
    let vs = values_of places in let n = at + length row in
    let long = length-map vs Some in
    let front : take at places ≡ map Some (take at vs) = ap (λ cs. take at cs) all
    ∙ take-append-le at (map Some vs) spare (omega (arith, long, fits)) ∙ take-map Some at vs in
    let rest : drop n places ≡ map Some (drop n vs) ++ spare = ap (λ cs. drop n cs) all
    ∙ drop-append-le n (map Some vs) spare (omega (arith, long, fits))
    ∙ ap (λ cs. cs ++ spare) (drop-map Some n vs) in
    let both : map Some (take at vs ++ row ++ drop n vs)
    ≡ map Some (take at vs) ++ map Some row ++ map Some (drop n vs) =
    map-append Some (take at vs ++ row) (drop n vs)
    ∙ ap (λ cs. cs ++ map Some (drop n vs)) (map-append Some (take at vs) row) in
    e ∙ ap (λ cs. cs ++ map Some row ++ drop n places) front
    ∙ ap (λ cs. map Some (take at vs) ++ map Some row ++ cs) rest
    ∙ sym (append_assoc (map Some (take at vs) ++ map Some row) (map Some (drop n vs)) spare)
    ∙ ap (λ cs. cs ++ spare) (sym both)

-- so many zeros that were put into the first places, where all were empty
pub zeros-put : (n : ℕ) (old new : List (Option ℕ)) → old ≡ replicate (n + 8) None
    → IsRowWritten 0 (replicate n 0) old new → new ≡ map Some (replicate n 0) ++ spare
zeros-put n old new empty e =
    let nought : ℕ = 0 in let none : Option ℕ = None in
    let long : 0 + length (replicate n nought) ≡ n =
    omega (arith, length-replicate n nought) in
    let left : n + 8 - n ≡ 8 = omega arith in
    let rest : drop n old ≡ spare = ap (drop n) empty ∙ drop-replicate n (n + 8) none
    ∙ ap (λ k. replicate k none) left in
    e ∙ ap (λ k. map Some (replicate n nought) ++ drop k old) long
    ∙ ap (λ cs. map Some (replicate n nought) ++ cs) rest

-- the first i values of the row were written, from a place on
pub record IsRowPartly (at i : ℕ) (row : List ℕ) (old places : List (Option ℕ)) : Type 0 where
  pub long : length places ≡ length old
  pub holds : places ≡ (take at old ++ map Some (take i row)) ++ drop (at + i) old

pub row_none : (at : ℕ) (row : List ℕ) (old : List (Option ℕ)) → IsRowPartly at 0 row old old
row_none at row old = let e : at + 0 ≡ at = omega arith in record {
  long = refl;
  holds =
      rw (append-nil, e) (sym (take-append-drop at old));
}

pub row_more : (at i : ℕ) (row : List ℕ) (old places : List (Option ℕ)) → i < length row
    → at + length row ≤ length old → IsRowPartly at i row old places
    → IsRowPartly at (i + 1) row old (set places (at + i) (Some (get_or row i 0)))
row_more at i row old places lt fits h =
    let v = get_or row i 0 in let k = at + i in
    let front = take at old ++ map Some (take i row) in
    let inside : k < length places = omega (arith, h.long) in
    let long : length front ≡ k =
    omega (
      arith,
      length-append (take at old) (map Some (take i row)),
      length-take-le at old
          (omega arith),
      length-map (take i row) Some,
      length-take-le i row (omega arith),
    ) in
    let before : take k places ≡ front = ap (λ cs. take k cs) h.holds
    ∙ ap (λ m. take m (front ++ drop k old)) (sym long) ∙ take-append_seam front (drop k old) in
    let next : suc k ≡ length front + 1 = omega (arith, add-one k) in
    let end : at + (i + 1) ≡ suc k = omega (arith, add-one k) in
    let behind : drop (suc k) places ≡ drop (suc k) old =
    ap (λ cs. drop (suc k) cs) h.holds ∙ ap (λ m. drop m (front ++ drop k old)) next
    ∙ drop-append-add front (drop k old) 1 ∙ drop-drop 1 k old ∙ ap (λ m. drop m old) (add-one k) in
    let split : set places k (Some v) ≡ take k places ++ Some v ∷ drop (suc k) places =
    set_split places k (Some v) inside in
    let parts : take k places ++ Some v ∷ drop (suc k) places ≡ front ++ Some v ∷ drop
    (suc k) old = ap (λ cs. cs ++ Some v ∷ drop (suc k) places) before
    ∙ ap (λ cs. front ++ Some v ∷ cs) behind in
    let grown : map Some (take i row) ++ Some v ∷ [] ≡ map Some (take (i + 1) row) =
    sym (map-append Some (take i row) (v ∷ []))
    ∙ ap (λ xs. map Some xs) (sym (ap (λ m. take m row) (add-one i) ∙ take-suc row i 0 lt)) in
    let front_grown : front ++ Some v ∷ [] ≡ take at old ++ map Some (take (i + 1) row) =
    append_assoc (take at old) (map Some (take i row)) (Some v ∷ [])
    ∙ ap (λ cs. take at old ++ cs) grown in
    record {
      long = length-set places k (Some v) ∙ h.long;
      holds = split ∙ parts ∙ sym (append_assoc front (Some v ∷ []) (drop (suc k) old))
          ∙ ap (λ cs. cs ++ drop (suc k) old) front_grown
          ∙ ap (λ m. (take at old ++ map Some (take (i + 1) row)) ++ drop m old) (sym end);
    }

pub row_all : (at : ℕ) (row : List ℕ) (old places : List (Option ℕ))
    → IsRowPartly at (length row) row old places
    → places ≡ take at old ++ map Some row ++ drop (at + length row) old
row_all at row old places h = h.holds
    ∙ ap (λ xs. (take at old ++ map Some xs) ++ drop (at + length row) old) (take_all
    (length row) row (omega arith))

-- one zero more, in the first places
pub zero_more : (n i : ℕ) (old places : List (Option ℕ)) → i < n → n ≤ length old
    → IsRowPartly 0 i (replicate n 0) old places
    → IsRowPartly 0 (i + 1) (replicate n 0) old (set places i (Some 0))
zero_more n i old places lt fits h =
    let nought : ℕ = 0 in
    let long = length-replicate n nought in
    let at : 0 + i ≡ i = omega arith in
    let zero_is : get_or (replicate n nought) i nought ≡ nought =
    get_or-replicate n i nought nought lt in
    subst (IsRowPartly 0 (i + 1) (replicate n nought) old)
    (λ j. set places (at j) (Some (zero_is j)))
    (row_more 0 i (replicate n nought) old places (omega (arith, long, lt))
    (omega (arith, long, fits)) h)
