-- Copies one after another.
use Rattle.std.proofs.Common.{◌≡◌, ◌∙◌, ℕ, zero, suc, ◌+◌, ◌-◌, ◌*◌, ◌<◌, ◌≤◌, List, [], ◌∷◌, ◌++◌, sym, ap, arith}
use Rattle.std.specs.Prelude.{sum_by}
use Rattle.std.specs.List.{flat_map}
use Rattle.std.proofs.lemmas.List.{append-nil}
use Rattle.std.proofs.lemmas.List.Sums.{sum_by-append}
use Rattle.std.proofs.lemmas.Grind.{flat_map-append}
use Rattle.std.proofs.Math.Nat.{mul-le-mul_right}
use Rattle.positions.specs.Tables.{Edge, numbers_from, shift}
use Rattle.positions.specs.Rows.{DraftData, with_rows, rows_size, row_size, draft_size}

numbers-last : (first n : ℕ) → numbers_from first (suc n) ≡ numbers_from first n ++ (first + n) ∷ []
numbers-last first zero = let e : first ≡ first + 0 = omega arith in ap (λ k. k ∷ []) e
numbers-last first (suc n) =
    let e : first + 1 + n ≡ first + suc n = omega arith in
    ap (λ xs. first ∷ xs) (numbers-last (first + 1) n ∙ ap (λ k. numbers_from (first + 1) n ++ k ∷ []) e)

-- one copy more
copies-last : {A : Type 0} (f : ℕ → List A) (first n more next : ℕ) → more ≡ suc n → first + n ≡ next →
    flat_map f (numbers_from first more) ≡ flat_map f (numbers_from first n) ++ f next
copies-last f first n more next count here =
    ap (λ k. flat_map f (numbers_from first k)) count
    ∙ ap (flat_map f) (numbers-last first n)
    ∙ flat_map-append f (numbers_from first n) ((first + n) ∷ [])
    ∙ ap (λ xs. flat_map f (numbers_from first n) ++ xs) (append-nil (f (first + n)) ∙ ap f here)

pub copied-more : (old new starts all : List ℕ) (len size first next : ℕ) →
    new ≡ old ++ shift (next * len) starts → starts ≡ all → len ≡ size →
    old ≡ flat_map (λ c. shift (c * size) all) (numbers_from first (next - first)) → first ≤ next →
    new ≡ flat_map (λ c. shift (c * size) all) (numbers_from first (next + 1 - first))
copied-more old new starts all len size first next pushed same sized so_far le =
    let f : ℕ → List ℕ = λ c. shift (c * size) all in
    let front : List ℕ = flat_map f (numbers_from first (next - first)) in
    pushed
    ∙ ap (λ xs. xs ++ shift (next * len) starts) so_far
    ∙ ap (λ xs. front ++ shift (next * len) xs) same
    ∙ ap (λ n. front ++ shift (next * n) all) sized
    ∙ sym (copies-last f first (next - first) (next + 1 - first) next (omega arith) (omega arith))

pub rows-copied : (f : ℕ → List (List (Edge ℕ))) (draft now : DraftData) (made : List (List (Edge ℕ))) (next : ℕ) →
    now ≡ with_rows draft made → made ≡ f next → draft
    ≡ record { rows = flat_map f (numbers_from 0 next); begun = [] } →
    now ≡ record { rows = flat_map f (numbers_from 0 (next + 1)); begun = [] }
rows-copied f draft now made next pushed is so_far =
    pushed
    ∙ ap (λ d. with_rows d made) so_far
    ∙ ap (λ xs. with_rows (record { rows = flat_map f (numbers_from 0 next); begun = [] }) xs) is
    ∙ ap (λ xs. record { rows = xs; begun = [] })
    (sym (copies-last f 0 next (next + 1) next (omega arith) (omega arith)))

-- the copies up to one are no more than all
pub copies-within : {A : Type 0} (g : A → ℕ) (f : ℕ → List A) (first n k : ℕ) → k < n →
    sum_by g (flat_map f (numbers_from first k)) + sum_by g (f (first + k)) ≤ sum_by g
    (flat_map f (numbers_from first n))
copies-within g f first zero k below = absurd (omega arith)
copies-within g f first (suc n) zero below =
    let e : first ≡ first + 0 = omega arith in
    omega (arith, ap (λ k. sum_by g (f k)) e, sum_by-append g (f first) (flat_map f (numbers_from (first + 1) n)))
copies-within g f first (suc n) (suc k) below =
    let e : first + 1 + k ≡ first + suc k = omega arith in
    omega (
      arith,
      copies-within g f (first + 1) n k (omega arith),
      ap (λ k. sum_by g (f k)) e,
      sum_by-append g (f first) (flat_map f (numbers_from (first + 1) n)),
      sum_by-append g (f first) (flat_map f (numbers_from (first + 1) k)),
    )

pub rows-within : (f : ℕ → List (List (Edge ℕ))) (draft : DraftData) (made : List (List (Edge ℕ))) (next most : ℕ) →
    made ≡ f next → draft ≡ record { rows = flat_map f (numbers_from 0 next); begun = [] } → next < most →
    draft_size draft + rows_size made ≤ rows_size (flat_map f (numbers_from 0 most))
rows-within f draft made next most is so_far below =
    let here : rows_size made ≡ rows_size (f (0 + next)) = ap rows_size is ∙ ap (λ k. rows_size (f k)) (omega arith) in
    omega (arith, ap draft_size so_far, here, copies-within row_size f 0 most next below)

-- a copy is inside
pub copy-room : (copy most size : ℕ) → copy < most → most * size ≤ 127 → copy * size + size ≤ 127
copy-room copy most size below few =
    let next : copy * size + size ≡ (copy + 1) * size = omega arith in
    let up : (copy + 1) * size ≤ most * size = mul-le-mul_right size (omega arith) in
    omega arith
