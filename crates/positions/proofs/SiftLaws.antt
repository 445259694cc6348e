-- Loops that mark and keep positions.
use Rattle.std.proofs.Common.{◌≡◌, ◌∙◌, inl, inr, ℕ, zero, suc, ◌+◌, ◌<◌, ◌≤◌, Bool, true, false, ◌&&◌, ◌||◌, List, []}
use Rattle.std.proofs.Common.{◌∷◌, ◌++◌, length, map, take, get_or, Vec, refl, sym, ap, subst, arith, append_assoc}
use Rattle.std.proofs.Common.{length-append}
use Rattle.std.specs.Prelude.{IsTrue, nat_lt, slice_index_or}
use Rattle.std.specs.Global.{Global}
use Rattle.std.specs.List.{list_any, flat_map}
use Rattle.std.proofs.Math.Path.{fun_ext}
use Rattle.std.proofs.Math.Seq.{take-suc}
use Rattle.std.proofs.lemmas.Bool.{cases_lt, cases_eq, lt-ltb, le-ltb}
use Rattle.std.proofs.lemmas.List.{append-nil, map-append}
use Rattle.positions.specs.declared.edge.Edge as code
use Rattle.positions.specs.Tables.{Edge, picked_if}
use Rattle.positions.specs.Living.{edge_leads, lives_for, is_among, led_to, kept_below, sift, sifted_edge}
use Rattle.positions.specs.Rows.{TableData, edges_at, is_marked_at, kept_rows, lives_in, kept_in, sift_data}
use Rattle.positions.specs.Views.{edge_data, edges_data, rows_data}

-- positions that are kept

sift-append : (keeps : ℕ → Bool) (xs ys : List ℕ) → sift keeps (xs ++ ys) ≡ sift keeps xs ++ sift keeps ys
sift-append keeps [] ys = refl
sift-append keeps (x ∷ xs) ys =
    ap (λ zs. picked_if (keeps x) (kept_below keeps x ∷ []) ++ zs) (sift-append keeps xs ys)
    ∙ sym (append_assoc (picked_if (keeps x) (kept_below keeps x ∷ [])) (sift keeps xs) (sift keeps ys))

sift-next : (keeps : ℕ → Bool) (qs : List ℕ) (i : ℕ) → i < length qs → sift keeps (take (i + 1) qs)
    ≡ sift keeps (take i qs) ++ picked_if (keeps (get_or qs i 0)) (kept_below keeps (get_or qs i 0) ∷ [])
sift-next keeps qs i below =
    let more : i + 1 ≡ suc i = omega arith in
    ap (λ n. sift keeps (take n qs)) more
    ∙ ap (sift keeps) (take-suc qs i 0 below)
    ∙ sift-append keeps (take i qs) (get_or qs i 0 ∷ [])
    ∙ ap (λ zs. sift keeps (take i qs) ++ zs)
    (append-nil (picked_if (keeps (get_or qs i 0)) (kept_below keeps (get_or qs i 0) ∷ [])))

pub put-more : (keeps : ℕ → Bool) (old before now qs : List ℕ) (i : ℕ) (b : Bool) → i < length qs
    → before ≡ old ++ sift keeps (take i qs) → b ≡ keeps (get_or qs i 0)
    → now ≡ before ++ picked_if b (kept_below keeps (get_or qs i 0) ∷ []) → now ≡ old ++ sift keeps (take (i + 1) qs)
put-more keeps old before now qs i b below so_far is put =
    let it : List ℕ = kept_below keeps (get_or qs i 0) ∷ [] in
    put
    ∙ ap (λ xs. xs ++ picked_if b it) so_far
    ∙ ap (λ x. (old ++ sift keeps (take i qs)) ++ picked_if x it) is
    ∙ append_assoc old (sift keeps (take i qs)) (picked_if (keeps (get_or qs i 0)) it)
    ∙ ap (λ xs. old ++ xs) (sym (sift-next keeps qs i below))

-- rows that are kept

abbrev Row : Type 0
Row = Vec code.Edge Global

row_at-view : (rows : List Row) (i : ℕ) (d : Row) → i < length rows → edges_at (rows_data rows) i
    ≡ edges_data (get_or rows i d)
row_at-view [] i d below = absurd (omega arith)
row_at-view (row ∷ rows) zero d below = refl
row_at-view (row ∷ rows) (suc i) d below = row_at-view rows i d (omega arith)

pub keep-next : (keeps : ℕ → Bool) (rows : List (List (Edge ℕ))) (i : ℕ) (b : Bool) (before now : List (List (Edge ℕ)))
    → before ≡ kept_rows keeps rows i → b ≡ keeps i
    → now ≡ before ++ picked_if b (map (sifted_edge keeps) (edges_at rows i) ∷ []) → now ≡ kept_rows keeps rows (i + 1)
keep-next keeps rows i b before now so_far is put =
    let more : suc i ≡ i + 1 = omega arith in
    let it : List (List (Edge ℕ)) = map (sifted_edge keeps) (edges_at rows i) ∷ [] in
    put
    ∙ ap (λ xs. xs ++ picked_if b it) so_far
    ∙ ap (λ x. kept_rows keeps rows i ++ picked_if x it) is
    ∙ ap (kept_rows keeps rows) more

pub kept-here : (keeps : ℕ → Bool) (rows : List Row) (i : ℕ) (d : Row) (es : List code.Edge) (made : List code.Edge)
    → i < length rows → es ≡ (get_or rows i d).items
    → map edge_data made ≡ map (sifted_edge keeps) (map edge_data es)
    → map edge_data made ≡ map (sifted_edge keeps) (edges_at (rows_data rows) i)
kept-here keeps rows i d es made below of is =
    is ∙ ap (λ xs. map (sifted_edge keeps) (map edge_data xs)) of
    ∙ ap (map (sifted_edge keeps)) (sym (row_at-view rows i d below))

pub rows-put : (before : List Row) (row : Row) (now : List Row) → now ≡ before ++ row ∷ []
    → rows_data now ≡ rows_data before ++ edges_data row ∷ []
rows-put before row now put = ap rows_data put ∙ map-append edges_data before (row ∷ [])

-- positions that may come to an end

pub map-length : {A C : Type 0} (f : A → C) (xs : List A) → length (map f xs) ≡ length xs
map-length f [] = refl
map-length f (x ∷ xs) = ap suc (map-length f xs)

marked-in : (f : List (Edge ℕ) → Bool) (rows : List (List (Edge ℕ))) (p : ℕ) → p < length rows
    → is_marked_at (map f rows) p ≡ f (edges_at rows p)
marked-in f [] p below = absurd (omega arith)
marked-in f (row ∷ rows) zero below = refl
marked-in f (row ∷ rows) (suc p) below = marked-in f rows p (omega arith)

marked-out : (f : List (Edge ℕ) → Bool) (rows : List (List (Edge ℕ))) (p : ℕ) → length rows ≤ p
    → is_marked_at (map f rows) p ≡ false
marked-out f [] p over = refl
marked-out f (row ∷ rows) zero over = absurd (omega arith)
marked-out f (row ∷ rows) (suc p) over = marked-out f rows p (omega arith)

abbrev pub Marks : List (List (Edge ℕ)) → ℕ → List Bool → Type 0
Marks rows n marks = (p : ℕ) → is_marked_at marks p ≡ lives_for (length rows) (edges_at rows) n p

-- a tick more
pub marks-next : (rows : List (List (Edge ℕ))) (n : ℕ) (marks new : List Bool) → Marks rows n marks
    → new ≡ map (list_any (edge_leads (is_marked_at marks))) rows → Marks rows (n + 1) new
marks-next rows n marks new so_far made p =
    let more : suc n ≡ n + 1 = omega arith in
    let f : (ℕ → Bool) → List (Edge ℕ) → Bool = λ passes es. list_any (edge_leads passes) es in
    ap (λ ms. is_marked_at ms p) made
    ∙ elim (cases_lt p (length rows)) [
      | inl below ↦
          marked-in (f (is_marked_at marks)) rows p below
          ∙ ap (λ passes. f passes (edges_at rows p)) (fun_ext so_far)
          ∙ ap (λ b. b && f (lives_for (length rows) (edges_at rows) n) (edges_at rows p))
          (sym (lt-ltb p (length rows) below))
      | inr over ↦
          marked-out (f (is_marked_at marks)) rows p over
          ∙ ap (λ b. b && f (lives_for (length rows) (edges_at rows) n) (edges_at rows p))
          (sym (le-ltb p (length rows) over))
    ]
    ∙ ap (λ k. lives_for (length rows) (edges_at rows) k p) more

pub marks-all : (rows : List Row) (n : ℕ) (marks : List Bool) → n ≡ length rows → Marks (rows_data rows) n marks
    → (p : ℕ) → is_marked_at marks p ≡ lives_in (rows_data rows) p
marks-all rows n marks all so_far p =
    so_far p
    ∙ ap (λ k. lives_for (length (rows_data rows)) (edges_at (rows_data rows)) k p)
    (all ∙ sym (map-length edges_data rows))

-- positions that something leads to

pub led-next : (starts : List ℕ) (rows : List Row) (i : ℕ) (d : Row) (es : List code.Edge) (b : Bool)
    (before now : List ℕ) → i < length rows → es ≡ (get_or rows i d).items
    → before ≡ led_to starts (edges_at (rows_data rows)) i
    → b ≡ is_among (led_to starts (edges_at (rows_data rows)) i) i
    → now ≡ before ++ picked_if b (flat_map (λ e. e.enters) (map edge_data es))
    → now ≡ led_to starts (edges_at (rows_data rows)) (i + 1)
led-next starts rows i d es b before now below of so_far is put =
    let led : List ℕ = led_to starts (edges_at (rows_data rows)) i in
    let more : suc i ≡ i + 1 = omega arith in
    put
    ∙ ap (λ xs. xs ++ picked_if b (flat_map (λ e. e.enters) (map edge_data es))) so_far
    ∙ ap (λ x. led ++ picked_if x (flat_map (λ e. e.enters) (map edge_data es))) is
    ∙ ap (λ xs. led ++ picked_if (is_among led i) (flat_map (λ e. e.enters) (map edge_data xs))) of
    ∙ ap (λ xs. led ++ picked_if (is_among led i) (flat_map (λ e. e.enters) xs)) (sym (row_at-view rows i d below))
    ∙ ap (led_to starts (edges_at (rows_data rows))) more

-- positions beyond the rows live no more
lives-out : (size : ℕ) (row : ℕ → List (Edge ℕ)) (n p : ℕ) → size ≤ p → lives_for size row n p ≡ false
lives-out size row zero p over = refl
lives-out size row (suc n) p over =
    ap (λ b. b && list_any (edge_leads (lives_for size row n)) (row p)) (le-ltb p size over)

-- Marks below a place, and none after it.
pub record AreMarked (d : TableData) (count : ℕ) (marks : List Bool) : Type 0 where
  pub long : length marks ≡ count
  pub each : (p : ℕ) → p < count → is_marked_at marks p ≡ kept_in d p

marked-before : (marks : List Bool) (b : Bool) (p : ℕ) → p < length marks → is_marked_at (marks ++ b ∷ []) p
    ≡ is_marked_at marks p
marked-before [] b p below = absurd (omega arith)
marked-before (m ∷ marks) b zero below = refl
marked-before (m ∷ marks) b (suc p) below = marked-before marks b p (omega arith)

marked-last : (marks : List Bool) (b : Bool) → is_marked_at (marks ++ b ∷ []) (length marks) ≡ b
marked-last [] b = refl
marked-last (m ∷ marks) b = marked-last marks b

marked-beyond : (marks : List Bool) (p : ℕ) → length marks ≤ p → is_marked_at marks p ≡ false
marked-beyond [] p over = refl
marked-beyond (m ∷ marks) zero over = absurd (omega arith)
marked-beyond (m ∷ marks) (suc p) over = marked-beyond marks p (omega arith)

pub marks-more : (d : TableData) (count : ℕ) (marks new : List Bool) (b : Bool) → AreMarked d count marks
    → b ≡ kept_in d count → new ≡ marks ++ b ∷ [] → AreMarked d (count + 1) new
marks-more d count marks new b so_far is put = record {
  long = omega (arith, ap length put, length-append marks (b ∷ []), so_far.long);
  each = λ p below. (elim (cases_eq p count) [
    | inl last ↦
        let same : p ≡ length marks = last ∙ sym so_far.long in
        ap (λ ms. is_marked_at ms p) put ∙ ap (is_marked_at (marks ++ b ∷ [])) same ∙ marked-last marks b ∙ is
        ∙ ap (kept_in d) (sym last)
    | inr other ↦
        ap (λ ms. is_marked_at ms p) put ∙ marked-before marks b p (omega (arith, so_far.long))
        ∙ so_far.each p (omega arith)
  ]);
}

pub marks-whole : (d : TableData) (count : ℕ) (marks : List Bool) → count ≡ length d.rows → AreMarked d count marks
    → (p : ℕ) → is_marked_at marks p ≡ kept_in d p
marks-whole d count marks all so_far p = elim (cases_lt p count) [
  | inl below ↦ so_far.each p below
  | inr over ↦
      marked-beyond marks p (omega (arith, so_far.long))
      ∙ sym (ap (λ b. b && is_among (led_to d.starts (edges_at d.rows) (length d.rows)) p)
      (lives-out (length d.rows) (edges_at d.rows) (length d.rows) p (omega (arith, all))))
]

-- all of it
pub all-kept : (d : TableData) (rows : List (List (Edge ℕ))) (marks : List Bool) (count : ℕ)
    (made : List (List (Edge ℕ))) (starts : List ℕ) (empty : Bool) → rows ≡ d.rows
    → ((p : ℕ) → is_marked_at marks p ≡ kept_in d p) → count ≡ length rows
    → made ≡ kept_rows (is_marked_at marks) rows count → starts ≡ [] ++ sift (is_marked_at marks) d.starts → empty
    ≡ d.empty
    → record { rows = made; starts = starts; empty = empty } ≡ sift_data d
all-kept d rows marks count made starts empty is lives all kept begin none =
    let same : is_marked_at marks ≡ kept_in d = fun_ext lives in
    ap (λ xs. record { rows = xs; starts = starts; empty = empty }) kept
    ∙ ap (λ xs. record { rows = kept_rows (is_marked_at marks) rows count; starts = xs; empty = empty }) begin
    ∙ ap (λ b. record {
      rows = kept_rows (is_marked_at marks) rows count;
      starts = sift
          (is_marked_at marks) d.starts;
      empty = b;
    })
    none
    ∙ ap (λ n. record {
      rows = kept_rows (is_marked_at marks) rows n;
      starts = sift
          (is_marked_at marks) d.starts;
      empty = d.empty;
    })
    all
    ∙ ap (λ keeps. record { rows = kept_rows keeps rows (length rows); starts = sift keeps d.starts; empty = d.empty })
    same
    ∙ ap (λ xs. record {
      rows = kept_rows (kept_in d) xs (length xs);
      starts = sift
          (kept_in d) d.starts;
      empty = d.empty;
    })
    is
