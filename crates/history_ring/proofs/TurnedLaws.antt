-- Rows that are cut out of a turned list.
use Rattle.std.proofs.Common.{inl, inr, ◌≡◌, ℕ, zero, suc, ◌+◌, ◌-◌, ◌*◌, ◌<◌, ◌≤◌, List, [], ◌∷◌}
use Rattle.std.proofs.Common.{◌++◌, length, get_or, take, drop, refl, sym, ap, ◌∙◌, append_assoc}
use Rattle.std.proofs.Common.{add-one, arith, length-append, length-drop, length-take, replicate}
use Rattle.std.proofs.Common.{mul-le-mul_right, take-add, add-mul}
use Rattle.std.proofs.lemmas.List.{drop_all, append-nil, take-append-le, drop-append-le}
use Rattle.std.proofs.lemmas.List.{get_or-drop, get_or-take, take_all, length-replicate}
use Rattle.std.proofs.lemmas.List.{take-replicate, drop-replicate, length-take-le, take-append-drop}
use Rattle.std.proofs.lemmas.List.{get_or-append_right, get_or_append_left}
use Rattle.std.proofs.Math.Seq.{take-append_seam, drop-append_seam}
use native.Mathlib.Nat.{zero-mul, suc-mul}
use Rattle.history_ring.specs.History.{History, zeros, cleared, pushed, KeepsLastRows}
use Rattle.history_ring.specs.Turned.{cut_rows, turned, history_of, IsTurned, IsRowBefore, IsBehind}

-- how many values so many rows have
one_more : (n s : ℕ) → suc n * s ≡ s + n * s
one_more n s = omega (arith, suc-mul n s)

row_first : (row rest : List ℕ) (s : ℕ) → length row ≡ s → take s (row ++ rest) ≡ row
row_first row rest s e = rw (← e) (take-append_seam row rest)

row_rest : (row rest : List ℕ) (s : ℕ) → length row ≡ s → drop s (row ++ rest) ≡ rest
row_rest row rest s e = rw (← e) (drop-append_seam row rest)

take-rows_of : (m k s : ℕ) (xs : List ℕ) → m ≤ k → take m (cut_rows k s xs) ≡ cut_rows m s xs
take-rows_of zero k s xs le = refl
take-rows_of (suc m) zero s xs le = absurd (omega arith)
take-rows_of (suc m) (suc k) s xs le = ap (λ rs. take s xs ∷ rs) (take-rows_of m k s (drop s xs)
    (omega arith))

-- what stands after the rows changes none
rows_of-append : (k s : ℕ) (xs ys : List ℕ) → k * s ≤ length xs
    → cut_rows k s (xs ++ ys) ≡ cut_rows k s xs
rows_of-append zero s xs ys le = refl
rows_of-append (suc k) s xs ys le =
    let here : s ≤ length xs = omega (arith, one_more k s) in
    let rest : k * s ≤ length (drop s xs) = omega (arith, one_more k s, length-drop s xs) in
    rw (take-append-le s xs ys here, drop-append-le s xs ys here) (ap (λ rs. take s xs ∷ rs)
    (rows_of-append k s (drop s xs) ys rest))

rows_of-zeros : (k s n : ℕ) → n ≡ k * s → cut_rows k s (replicate n 0) ≡ replicate k (zeros s)
rows_of-zeros zero s n e = refl
rows_of-zeros (suc k) s n e =
    let here : s ≤ n = omega (arith, one_more k s) in
    let left : n - s ≡ k * s = omega (arith, one_more k s) in
    let nought : ℕ = 0 in rw (take-replicate s n nought here, drop-replicate s n nought) (ap
    (λ rs. zeros s ∷ rs) (rows_of-zeros k s (n - s) left))

-- a value of a row stands in the list
get_or-rows_of : (k s : ℕ) (xs : List ℕ) (b i : ℕ) → b < k → i < s
    → get_or (get_or (cut_rows k s xs) b []) i 0 ≡ get_or xs (b * s + i) 0
get_or-rows_of zero s xs b i lt here = absurd (omega arith)
get_or-rows_of (suc k) s xs zero i lt here = get_or-take s xs i 0 here
    ∙ ap (λ j. get_or xs j 0) (omega (arith, zero-mul s))
get_or-rows_of (suc k) s xs (suc b) i lt here =
    get_or-rows_of k s (drop s xs) b i (omega arith) here ∙ get_or-drop s xs (b * s + i) 0
    ∙ ap (λ j. get_or xs j 0) (omega (arith, one_more b s))

-- round the end or not
get_or-turned : (place : ℕ) (xs : List ℕ) (j : ℕ) → place ≤ length xs → j + place < length xs
    → get_or (turned place xs) j 0 ≡ get_or xs (place + j) 0
get_or-turned place xs j le lt =
    let here : j < length (drop place xs) = omega (arith, length-drop place xs) in
    get_or_append_left (drop place xs) (take place xs) 0 j here ∙ get_or-drop place xs j 0

get_or-turned_round : (place : ℕ) (xs : List ℕ) (j i : ℕ) → place ≤ length xs → i < place
    → j + place ≡ length xs + i → get_or (turned place xs) j 0 ≡ get_or xs i 0
get_or-turned_round place xs j i le lt e =
    let long : length (drop place xs) ≡ length xs - place = length-drop place xs in
    let past : length xs - place ≤ j = omega arith in
    let here : j - (length xs - place) ≡ i = omega arith in
    get_or-append_right (drop place xs) (take place xs) (length xs - place) j 0 long past
    ∙ ap (λ k. get_or (take place xs) k 0) here ∙ get_or-take place xs i 0 lt

-- the values once a row is written at a place
abbrev pub written : ℕ → List ℕ → List ℕ → List ℕ
written place row xs = take place xs ++ row ++ drop (place + length row) xs

pub length-written : (place : ℕ) (row xs : List ℕ) → place + length row ≤ length xs
    → length (written place row xs) ≡ length xs
length-written place row xs le =
    simp (length-append, length-take, length-drop) (omega (
      arith,
      length-take-le place xs
          (omega arith),
    ))

-- seen from there the row stands first, and the others after it in order
turned-written : (place : ℕ) (row xs : List ℕ) → place + length row ≤ length xs
    → turned place (written place row xs) ≡ row ++ (drop (place + length row) xs ++ take place xs)
turned-written place row xs le =
    let front = take place xs in
    let long : length front ≡ place = length-take-le place xs (omega arith) in
    let rest = drop (place + length row) xs in
    let all : written place row xs ≡ front ++ (row ++ rest) = append_assoc front row rest in
    let behind : drop place (front ++ (row ++ rest)) ≡ row ++ rest =
    row_rest front (row ++ rest) place long in
    let before : take place (front ++ (row ++ rest)) ≡ front =
    row_first front (row ++ rest) place long in
    rw (all, behind, before) (append_assoc row rest front)

product_le : (m n s : ℕ) → m ≤ n → m * s ≤ n * s
product_le m n s le = mul-le-mul_right s le

next_row : (row slots : ℕ) → (row + 1) * slots ≡ row * slots + slots
next_row row slots = rw add-one (omega (arith, suc-mul row slots))

pub rows_fit : (depth slots : ℕ) → depth ≤ 4096 → slots ≤ 256 → (depth + 1) * slots ≤ 1048832
rows_fit depth slots le ls =
    let a : (depth + 1) * slots ≤ 4097 * slots = product_le (depth + 1) 4097 slots (omega arith) in
    omega arith

pub row_fits : (depth slots row : ℕ) → row ≤ depth → row * slots + slots ≤ (depth + 1) * slots
row_fits depth slots row le =
    let a : (row + 1) * slots ≤ (depth + 1) * slots =
    product_le (row + 1) (depth + 1) slots (omega arith) in
    omega (arith, next_row row slots)

pub history_of-zeros : (depth slots : ℕ)
    → history_of depth slots 0 (replicate ((depth + 1) * slots) 0) ≡ cleared depth slots
unfolding history_of
history_of-zeros depth slots =
    let nought : ℕ = 0 in
    let n = (depth + 1) * slots in
    let all = replicate n nought in
    let size : n ≡ suc depth * slots = ap (λ k. k * slots) (add-one depth) in
    let start : 0 * slots ≡ 0 = zero-mul slots in
    let same : turned (0 * slots) all ≡ all ++ [] = ap (λ k. turned k all) start in
    let rows : cut_rows (suc depth) slots (all ++ []) ≡ cut_rows (suc depth) slots all =
    rows_of-append (suc depth) slots all [] (omega (arith, length-replicate n nought)) in
    let zero_rows : cut_rows (suc depth) slots all ≡ replicate (suc depth) (zeros slots) =
    rows_of-zeros (suc depth) slots n size in
    let more : replicate (suc depth) (zeros slots) ≡ replicate (depth + 1) (zeros slots) =
    ap (λ k. replicate k (zeros slots)) (sym (add-one depth)) in
    ap (λ rs. let h : History = record {
      depth = depth;
      slots = slots;
      rows =
          rs;
    } in h) (ap (λ xs. cut_rows (suc depth) slots xs) same ∙ rows ∙ zero_rows ∙ more)

-- the rows before a list's end: what a push keeps
kept : (depth slots : ℕ) (front last xs : List ℕ) → xs ≡ front ++ last
    → length front ≡ depth * slots
    → take depth (cut_rows (suc depth) slots xs) ≡ cut_rows depth slots front
kept depth slots front last xs e long =
    take-rows_of depth (suc depth) slots xs (omega arith) ∙ ap (λ ys. cut_rows depth slots ys) e
    ∙ rows_of-append depth slots front last (omega arith)

-- seen from a later row, the row before it is the last
one_row : (depth slots newest row : ℕ) (values : List ℕ) → newest ≡ row + 1
    → turned (newest * slots) values ≡ (drop (row * slots + slots) values ++ take
    (row * slots) values) ++ take slots (drop (row * slots) values)
one_row depth slots newest row values e =
    let at : newest * slots ≡ row * slots + slots = ap (λ k. k * slots) e ∙ next_row row slots in
    let cut : take (row * slots + slots) values ≡ take (row * slots) values ++ take slots (drop
    (row * slots) values) = take-add (row * slots) slots values in
    ap (λ k. turned k values) at ∙ ap (λ xs. drop (row * slots + slots) values ++ xs) cut
    ∙ sym (append_assoc (drop (row * slots + slots) values) (take (row * slots) values)
    (take slots (drop (row * slots) values)))

-- seen from the first row, the last row is the last
round : (depth slots newest row : ℕ) (values : List ℕ) → newest ≡ 0 → row ≡ depth
    → length values ≤ row * slots + slots
    → turned (newest * slots) values ≡ (drop (row * slots + slots) values ++ take
    (row * slots) values) ++ drop (row * slots) values
round depth slots newest row values e f le =
    let at : newest * slots ≡ 0 = ap (λ k. k * slots) e ∙ zero-mul slots in
    let none : drop (row * slots + slots) values ≡ [] = drop_all (row * slots + slots) values le in
    ap (λ k. turned k values) at ∙ append-nil values
    ∙ sym (take-append-drop (row * slots) values)
    ∙ ap (λ xs. (xs ++ take (row * slots) values) ++ drop (row * slots) values) (sym none)

-- a push keeps the rows after the new one
turned-kept : (depth slots newest row : ℕ) (values : List ℕ)
    → IsTurned depth slots newest values → IsRowBefore depth newest row
    → take depth (cut_rows (suc depth) slots (turned
    (newest * slots) values)) ≡ cut_rows depth slots (drop (row * slots + slots) values ++ take
    (row * slots) values)
turned-kept depth slots newest row values t b =
    let full : length values ≡ depth * slots + slots = t.full ∙ next_row depth slots in
    let fits : row * slots + slots ≤ depth * slots + slots =
    omega (arith, row_fits depth slots row b.inside, next_row depth slots) in
    let front = drop (row * slots + slots) values ++ take (row * slots) values in
    let long : length front ≡ depth * slots =
    omega (
      arith,
      length-append (drop (row * slots + slots) values) (take
          (row * slots) values),
      length-drop (row * slots + slots) values,
      length-take-le
          (row * slots) values (omega arith),
    ) in
    elim b.turns [
      | inl e ↦ kept depth slots front (take slots (drop (row * slots) values)) (turned
          (newest * slots) values) (one_row depth slots newest row values e) long
      | inr e ↦ kept depth slots front (drop (row * slots) values) (turned
          (newest * slots) values) (round depth slots newest row values e.0 e.1 (omega (
            arith,
            ap
                (λ k. k * slots) e.1,
          ))) long
    ]

pub history_of-written : (depth slots newest row : ℕ) (values new : List ℕ)
    → IsTurned depth slots newest values → IsRowBefore depth newest row → length new ≡ slots
    → history_of depth slots row (written (row * slots) new values) ≡ pushed
    (history_of depth slots newest values) new
unfolding history_of
history_of-written depth slots newest row values new t b long =
    let full : length values ≡ depth * slots + slots = t.full ∙ next_row depth slots in
    let fits : row * slots + length new ≤ length values =
    omega (arith, row_fits depth slots row b.inside, next_row depth slots) in
    let behind = drop (row * slots + length new) values ++ take (row * slots) values in
    let whole : turned (row * slots) (written (row * slots) new values) ≡ new ++ behind =
    turned-written (row * slots) new values fits in
    let same : behind ≡ drop (row * slots + slots) values ++ take (row * slots) values =
    ap (λ k. drop (row * slots + k) values ++ take (row * slots) values) long in
    let older : cut_rows depth slots behind
    ≡ take depth (cut_rows (suc depth) slots (turned (newest * slots) values)) =
    ap (λ xs. cut_rows depth slots xs) same ∙ sym (turned-kept depth slots newest row values t b) in
    let rows : cut_rows (suc depth) slots (new ++ behind)
    ≡ new ∷ take depth (cut_rows (suc depth) slots (turned (newest * slots) values)) =
    rw (row_first new behind slots long, row_rest new behind slots long) (ap
    (λ rs. new ∷ rs) older) in
    ap (λ rs. let h : History = record {
      depth = depth;
      slots = slots;
      rows =
          rs;
    } in h) (ap (λ xs. cut_rows (suc depth) slots xs) whole ∙ rows)

pub IsTurned-written : (depth slots newest row : ℕ) (values new : List ℕ)
    → IsTurned depth slots newest values → IsRowBefore depth newest row → length new ≡ slots
    → IsTurned depth slots row (written (row * slots) new values)
IsTurned-written depth slots newest row values new t b long =
    let full : length values ≡ depth * slots + slots = t.full ∙ next_row depth slots in
    let fits : row * slots + length new ≤ length values =
    omega (arith, row_fits depth slots row b.inside, next_row depth slots) in
    record {
      depth_at_most = t.depth_at_most;
      slots_at_most = t.slots_at_most;
      inside =
          b.inside;
      full = length-written (row * slots) new values fits ∙ t.full;
    }

-- where it goes round the end, the row stands before the newest
before_newest : (depth slots newest back row : ℕ) → back ≤ depth
    → newest + back ≡ row + (depth + 1) → row * slots + slots ≤ newest * slots
before_newest depth slots newest back row reach e =
    let a : (row + 1) * slots ≤ newest * slots = product_le (row + 1) newest slots (omega arith) in
    omega (arith, next_row row slots)

pub get_or-history_of : (depth slots newest back row slot : ℕ) (values : List ℕ)
    → IsTurned depth slots newest values → IsBehind depth newest back row → back ≤ depth
    → slot < slots
    → get_or (get_or (history_of depth slots newest values).rows back []) slot 0
    ≡ get_or values (row * slots + slot) 0
unfolding history_of
get_or-history_of depth slots newest back row slot values t b reach range =
    let full : length values ≡ depth * slots + slots = t.full ∙ next_row depth slots in
    let fits = row_fits depth slots row b.inside in
    let start : newest * slots ≤ depth * slots = product_le newest depth slots t.inside in
    let place : get_or (get_or (cut_rows (suc depth) slots (turned
    (newest * slots) values)) back []) slot 0 ≡ get_or (turned (newest * slots) values)
    (back * slots + slot) 0 =
    get_or-rows_of (suc depth) slots (turned (newest * slots) values) back slot
    (omega arith) range in
    let both : (newest + back) * slots ≡ newest * slots + back * slots =
    add-mul newest back slots in
    place ∙ elim b.turns [
      | inl e ↦ (let at : newest * slots + back * slots ≡ row * slots = sym both
          ∙ ap (λ k. k * slots) e in
          get_or-turned (newest * slots) values (back * slots + slot) (omega arith) (omega
          (arith, next_row depth slots)) ∙ ap (λ k. get_or values k 0) (omega arith))
      | inr e ↦ (let at : newest * slots + back * slots ≡ row * slots + (depth + 1) * slots =
          sym both ∙ ap (λ k. k * slots) e ∙ add-mul row (depth + 1) slots in
          let below : row * slots + slots ≤ newest * slots =
          before_newest depth slots newest back row reach e in
          get_or-turned_round (newest * slots) values (back * slots + slot) (row * slots + slot)
          (omega arith) (omega arith) (omega (arith, t.full)))
    ]

take-take : {X : Type 0} (m n : ℕ) (xs : List X) → m ≤ n → take m (take n xs) ≡ take m xs
take-take zero n xs le = refl
take-take (suc m) zero xs le = absurd (omega arith)
take-take (suc m) (suc n) [] le = refl
take-take (suc m) (suc n) (x ∷ xs) le = ap (λ ys. x ∷ ys) (take-take m n xs (omega arith))

pub history_of-slots : (depth slots newest : ℕ) (values : List ℕ)
    → (history_of depth slots newest values).slots ≡ slots
unfolding history_of
history_of-slots depth slots newest values = refl

pub history_of-depth : (depth slots newest : ℕ) (values : List ℕ)
    → (history_of depth slots newest values).depth ≡ depth
unfolding history_of
history_of-depth depth slots newest values = refl

pub keeps_last_rows : KeepsLastRows
keeps_last_rows = record {
  at_first = λ depth slots. sym (take_all (depth + 1) (replicate (depth + 1) (zeros slots))
      (omega (arith, length-replicate (depth + 1) (zeros slots))));
  more = λ depth slots all row. rw add-one (ap (λ rs. row ∷ rs) (take-take depth (suc depth)
      (all ++ replicate (suc depth) (zeros slots)) (omega arith)));
}
