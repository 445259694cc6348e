-- Sizes of what a loop has made, and faults that are handed on.
use Rattle.std.proofs.Common.{◌≡◌, ℕ, zero, suc, ◌+◌, ◌<◌, ◌≤◌, List, ◌∷◌, [], length, take, get_or, arith}
use Rattle.std.proofs.Common.{Result, Ok, Err, IfErr, ap, ◌∙◌, ◌++◌, refl}
use Rattle.std.specs.Prelude.{map, sum_by}
use Rattle.std.specs.Result.{IsErrAnd}
use Rattle.std.specs.List.{flat_map}
use Rattle.std.proofs.lemmas.List.Sums.{sum_by-cons, sum_by-append}
use Rattle.positions.specs.Tables.{Edge}
use Rattle.positions.specs.Sections.{edge_size}
use Rattle.positions.specs.Rows.{DraftData, draft_size, edges_size, row_size, rows_size, with_edges, with_rows}
use Rattle.positions.specs.declared.fault.SectionFault.{SectionFault}
use Rattle.positions.specs.Faults.{IsLong}

-- what was seen and the next are no more than all
pub sum-next : {A C E : Type 0} (g : E → ℕ) (f : C → E) (view : A → C) (xs : List A) (i : ℕ) (d : A) →
    i < length xs →
    sum_by g (map f (map view (take i xs))) + g (f (view (get_or xs i d))) ≤ sum_by g (map f (map view xs))
sum-next g f view [] i d below = absurd (omega arith)
sum-next g f view (x ∷ xs) zero d below = omega (arith, sum_by-cons g (f (view x)) (map f (map view xs)))
sum-next g f view (x ∷ xs) (suc i) d below =
    omega (
      arith,
      sum-next g f view xs i d (omega arith),
      sum_by-cons g (f (view x)) (map f (map view xs)),
      sum_by-cons g (f (view x)) (map f (map view (take i xs))),
    )

-- A loop that adds edges to the next row: what is there with one more is no more than the whole.
pub edges-next : {A C : Type 0} (f : C → Edge ℕ) (view : A → C) (xs : List A) (i : ℕ) (item : A) (d now : DraftData)
    (made : Edge ℕ) →
    i < length xs → now ≡ with_edges d (map f (map view (take i xs))) → item ≡ get_or xs i item → made ≡ f (view item) →
    draft_size now + edge_size made ≤ draft_size d + edges_size (map f (map view xs))
edges-next f view xs i item d now made below so_far is becomes =
    let here : edge_size made ≡ edge_size (f (view (get_or xs i item))) =
    ap edge_size becomes ∙ ap (λ x. edge_size (f (view x))) is in
    omega (
      arith,
      ap draft_size so_far,
      here,
      sum_by-append edge_size d.begun (map f (map view (take i xs))),
      sum-next edge_size f view xs i item below,
    )

-- A loop that adds rows: as it is with what is still added, it is no more than the whole.
pub rows-next : {A C : Type 0} (f : C → List (Edge ℕ)) (view : A → C) (xs : List A) (i : ℕ) (item : A)
    (d now : DraftData) (more : ℕ) →
    i < length xs → d.begun ≡ [] → now ≡ with_rows d (map f (map view (take i xs))) → item ≡ get_or xs i item
    → more ≤ row_size (f (view item)) →
    draft_size now + more ≤ draft_size d + rows_size (map f (map view xs))
rows-next f view xs i item d now more below none so_far is within =
    let here : row_size (f (view item)) ≡ row_size (f (view (get_or xs i item))) = ap (λ x. row_size (f (view x))) is in
    omega (
      arith,
      ap draft_size so_far,
      here,
      within,
      ap edges_size none,
      sum_by-append row_size d.rows (map f (map view (take i xs))),
      sum-next row_size f view xs i item below,
    )

-- the same where each makes several
flat-next : {A E : Type 0} (g : E → ℕ) (f : A → List E) (xs : List A) (i : ℕ) (d : A) → i < length xs →
    sum_by g (flat_map f (take i xs)) + sum_by g (f (get_or xs i d)) ≤ sum_by g (flat_map f xs)
flat-next g f [] i d below = absurd (omega arith)
flat-next g f (x ∷ xs) zero d below = omega (arith, sum_by-append g (f x) (flat_map f xs))
flat-next g f (x ∷ xs) (suc i) d below =
    omega (
      arith,
      flat-next g f xs i d (omega arith),
      sum_by-append g (f x) (flat_map f xs),
      sum_by-append g (f x) (flat_map f (take i xs)),
    )

flat_map-map : {A C E : Type 0} (f : C → List E) (view : A → C) (xs : List A) → flat_map f (map view xs)
    ≡ flat_map (λ x. f (view x)) xs
flat_map-map f view [] = refl
flat_map-map f view (x ∷ xs) = ap (λ es. f (view x) ++ es) (flat_map-map f view xs)

pub edges-flat : {A : Type 0} (f : A → List (Edge ℕ)) (xs : List A) (i : ℕ) (item other : A) (d now : DraftData)
    (more : ℕ) →
    i < length xs → now ≡ with_edges d (flat_map f (take i xs)) → item ≡ get_or xs i other → more ≤ edges_size (f item)
    →
    draft_size now + more ≤ draft_size d + edges_size (flat_map f xs)
edges-flat f xs i item other d now more below so_far is within =
    let here : edges_size (f item) ≡ edges_size (f (get_or xs i other)) = ap (λ x. edges_size (f x)) is in
    omega (
      arith,
      ap draft_size so_far,
      here,
      within,
      sum_by-append edge_size d.begun (flat_map f (take i xs)),
      flat-next edge_size f xs i other below,
    )

pub edges-flat-view : {A C : Type 0} (f : C → List (Edge ℕ)) (view : A → C) (xs : List A) (i : ℕ) (item : A)
    (d now : DraftData) (more : ℕ) →
    i < length xs → now ≡ with_edges d (flat_map f (map view (take i xs))) → item ≡ get_or xs i item
    → more ≤ edges_size (f (view item)) →
    draft_size now + more ≤ draft_size d + edges_size (flat_map f (map view xs))
edges-flat-view f view xs i item d now more below so_far is within =
    omega (
      arith,
      ap edges_size (flat_map-map f view xs),
      edges-flat (λ x. f (view x)) xs i item item d now more below
          (so_far ∙ ap (with_edges d) (flat_map-map f view (take i xs))) is within,
    )

-- a loop that adds several rows at a time
pub rows-flat-view : {A C : Type 0} (f : C → List (List (Edge ℕ))) (view : A → C) (xs : List A) (i : ℕ) (item : A)
    (d now : DraftData) (more : ℕ) →
    i < length xs → d.begun ≡ [] → now ≡ with_rows d (flat_map f (map view (take i xs))) → item ≡ get_or xs i item
    → more ≤ rows_size (f (view item)) →
    draft_size now + more ≤ draft_size d + rows_size (flat_map f (map view xs))
rows-flat-view f view xs i item d now more below none so_far is within =
    let here : rows_size (f (view item)) ≡ rows_size (f (view (get_or xs i item))) =
    ap (λ x. rows_size (f (view x))) is in
    omega (
      arith,
      ap draft_size so_far,
      here,
      within,
      ap edges_size none,
      ap rows_size (flat_map-map f view xs),
      ap rows_size (flat_map-map f view (take i xs)),
      sum_by-append row_size d.rows (flat_map f (map view (take i xs))),
      flat-next row_size (λ x. f (view x)) xs i item below,
    )

-- a fault of a part is one of the whole
pub long_on : {X : Type 0} (part whole : ℕ) (fault : SectionFault) (r : Result X SectionFault) →
    IsErrAnd r (λ e. e ≡ fault) → IsLong part fault → part ≤ whole → IfErr r (IsLong whole)
long_on part whole fault (Ok x) h long le = elim h [ ]
long_on part whole fault (Err e) h long le = λ is. omega (arith, long (long_same e fault h is))
  where
    long_same : (e f : SectionFault) → e ≡ f → {g : SectionFault} → e ≡ g → f ≡ g
    long_same e f a b = cc

pub with_edges-size : (d now : DraftData) (es : List (Edge ℕ)) → now ≡ with_edges d es
    → draft_size now ≡ draft_size d + edges_size es
with_edges-size d now es is = omega (arith, ap draft_size is, sum_by-append edge_size d.begun es)
