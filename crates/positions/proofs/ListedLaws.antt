-- The rows of each form's table are those of its parts, changed or joined.
use Rattle.std.proofs.Common.{◌≡◌, ◌∙◌, ℕ, zero, suc, ◌+◌, ◌-◌, ◌*◌, ◌/◌, ◌%◌, ◌<◌, ◌≤◌, Bool, true, false}
use Rattle.std.proofs.Common.{◌&&◌, ◌||◌, List, [], ◌∷◌, ◌++◌, length, map, Option, Some, None, refl, sym, ap, inl, inr}
use Rattle.std.proofs.Common.{arith, if◌then◌else◌, min, nat_le}
use Rattle.std.specs.List.{flat_map}
use Rattle.std.proofs.lemmas.Bool.{lt-ltb, le-ltb}
use Rattle.std.proofs.lemmas.List.{append-nil, map-append}
use Rattle.std.proofs.lemmas.Nat.{div-mul-add, mod-mul-add}
use Rattle.std.proofs.Math.Nat.{mul-le-mul_right}
use Rattle.positions.specs.Tables.{Edge, Table, HasNumber, IsRising, shift, shifted_edge, picked_if}
use Rattle.positions.specs.Tables.{numbers_from}
use Rattle.positions.specs.Tables.{tick_table}
use Rattle.positions.specs.Tables.{any_table, wanting, under_table, onward, leading, joined_edges, fusing}
use Rattle.positions.specs.Tables.{crossing}
use Rattle.positions.specs.Tables.{link_table}
use Rattle.positions.specs.Tables.{copies, looping, loop_table, products, paired_edges, all_table, coupled}
use Rattle.positions.specs.Tables.{pair_table}
use Rattle.positions.specs.Sections.{with_atom, atoms_of, numbered_edge, coded, rows_from}
use Rattle.positions.specs.Rows.{TableData, ChangeData, listed, changed, change_all, moved, tick_data}
use Rattle.positions.specs.Rows.{either_data}
use Rattle.positions.specs.Rows.{wanting_also, during_data, onward_data, leading_data, crossing_data, edges_at}
use Rattle.positions.specs.Rows.{joined_data}
use Rattle.positions.specs.Rows.{fused_data, lead_data, link_data, copies_data, turn_data, repeat_data}
use Rattle.positions.specs.Rows.{pairs_data}
use Rattle.positions.specs.Rows.{paired_data}
use Rattle.positions.specs.Rows.{pair_row, both_data, couple_row, pair_data}

-- rows in order

pub rows_of-length : {A : Type 0} (row : ℕ → A) (p n : ℕ) → length (rows_from row p n) ≡ n
rows_of-length row p zero = refl
rows_of-length row p (suc n) = ap suc (rows_of-length row (p + 1) n)

pub rows_of-append : {A : Type 0} (row : ℕ → A) (p m n : ℕ) → rows_from row p (m + n) ≡ rows_from row p m
    ++ rows_from row
    (p + m)
    n
rows_of-append row p zero n =
    let a : 0 + n ≡ n = omega arith in
    let b : p ≡ p + 0 = omega arith in
    ap (rows_from row p) a ∙ ap (λ k. rows_from row k n) b
rows_of-append row p (suc m) n =
    let a : suc m + n ≡ suc (m + n) = omega arith in
    let b : p + 1 + m ≡ p + suc m = omega arith in
    ap (rows_from row p) a
    ∙ ap (λ xs. row p ∷ xs) (rows_of-append row (p + 1) m n)
    ∙ ap (λ k. row p ∷ rows_from row (p + 1) m ++ rows_from row k n) b

pub rows_of-same : {A : Type 0} (row other : ℕ → A) (p q n : ℕ) → ((k : ℕ) → k < n → row (p + k) ≡ other (q + k))
    → rows_from row p n ≡ rows_from other q n
rows_of-same row other p q zero same = refl
rows_of-same row other p q (suc n) same =
    let a : p ≡ p + 0 = omega arith in
    let b : q + 0 ≡ q = omega arith in
    ap (λ x. x ∷ rows_from row (p + 1) n) (ap row a ∙ same 0 (omega arith) ∙ ap other b)
    ∙ ap (λ xs. other q ∷ xs) (rows_of-same row other (p + 1) (q + 1) n (λ k below.
    let c : p + 1 + k ≡ p + suc k = omega arith in
    let d : q + suc k ≡ q + 1 + k = omega arith in
    ap row c ∙ same (suc k) (omega arith) ∙ ap other d))

rows_of-map : {A C : Type 0} (f : A → C) (row : ℕ → A) (p n : ℕ) → rows_from (λ k. f (row k)) p n
    ≡ map f (rows_from row p n)
rows_of-map f row p zero = refl
rows_of-map f row p (suc n) = ap (λ xs. f (row p) ∷ xs) (rows_of-map f row (p + 1) n)

pub row_at-rows : (row : ℕ → List (Edge ℕ)) (p n k : ℕ) → k < n → edges_at (rows_from row p n) k ≡ row (p + k)
row_at-rows row p zero k below = absurd (omega arith)
row_at-rows row p (suc n) zero below = let e : p ≡ p + 0 = omega arith in ap row e
row_at-rows row p (suc n) (suc k) below =
    let e : p + 1 + k ≡ p + suc k = omega arith in
    row_at-rows row (p + 1) n k (omega arith) ∙ ap row e

-- so many blocks of rows, one after another
rows_of-blocks : {A : Type 0} (row : ℕ → A) (block : ℕ → ℕ → A) (size first n : ℕ)
    → ((c k : ℕ) → c < first + n → k < size → row (c * size + k) ≡ block c k) →
    rows_from row (first * size) (n * size) ≡ flat_map (λ c. rows_from (block c) 0 size) (numbers_from first n)
rows_of-blocks row block size first zero same =
    let e : 0 * size ≡ 0 = omega arith in ap (rows_from row (first * size)) e
rows_of-blocks row block size first (suc n) same =
    let e : suc n * size ≡ size + n * size = omega arith in
    let f : first * size + size ≡ (first + 1) * size = omega arith in
    ap (rows_from row (first * size)) e
    ∙ rows_of-append row (first * size) size (n * size)
    ∙ ap (λ xs. xs ++ rows_from row (first * size + size) (n * size))
    (rows_of-same row (block first) (first * size) 0 size (λ k below.
    let g : k ≡ 0 + k = omega arith in
    same first k (omega arith) below ∙ ap (block first) g))
    ∙ ap (λ k. rows_from (block first) 0 size ++ rows_from row k (n * size)) f
    ∙ ap (λ xs. rows_from (block first) 0 size ++ xs)
    (rows_of-blocks row block size (first + 1) n (λ c k low below. same c k (omega arith) below))

rows_of-numbers : {A : Type 0} (row : ℕ → A) (p n : ℕ) → rows_from row p n ≡ map row (numbers_from p n)
rows_of-numbers row p zero = refl
rows_of-numbers row p (suc n) = ap (λ xs. row p ∷ xs) (rows_of-numbers row (p + 1) n)

flat_map-view : {A C E : Type 0} (f : C → List E) (view : A → C) (xs : List A) → flat_map f (map view xs)
    ≡ flat_map (λ x. f (view x)) xs
flat_map-view f view [] = refl
flat_map-view f view (x ∷ xs) = ap (λ es. f (view x) ++ es) (flat_map-view f view xs)

flat_map-each : {A C : Type 0} (f g : A → List C) (xs : List A) → ((x : A) → f x ≡ g x) → flat_map f xs ≡ flat_map g xs
flat_map-each f g [] each = refl
flat_map-each f g (x ∷ xs) each =
    ap (λ es. es ++ flat_map f xs) (each x) ∙ ap (λ es. g x ++ es) (flat_map-each f g xs each)

-- two ways round

pub map-square : {A C D E : Type 0} (f : A → C) (view : C → E) (g : D → E) (start : A → D) (xs : List A)
    → ((x : A) → view (f x) ≡ g (start x)) → map view (map f xs) ≡ map g (map start xs)
map-square f view g start [] each = refl
map-square f view g start (x ∷ xs) each =
    ap (λ y. y ∷ map view (map f xs)) (each x) ∙ ap (λ ys. g (start x) ∷ ys) (map-square f view g start xs each)

flat-square : {A C D E : Type 0} (f : A → List C) (view : C → E) (g : D → List E) (start : A → D) (xs : List A)
    → ((x : A) → map view (f x) ≡ g (start x)) → map view (flat_map f xs) ≡ flat_map g (map start xs)
flat-square f view g start [] each = refl
flat-square f view g start (x ∷ xs) each =
    map-append view (f x) (flat_map f xs)
    ∙ ap (λ ys. ys ++ map view (flat_map f xs)) (each x)
    ∙ ap (λ ys. g (start x) ++ ys) (flat-square f view g start xs each)

map-picked : {A C : Type 0} (f : A → C) (b : Bool) (xs : List A) → map f (picked_if b xs) ≡ picked_if b (map f xs)
map-picked f true xs = refl
map-picked f false xs = refl

-- edges

abbrev edge : List ℕ → List ℕ → Bool → Edge ℕ
edge wanted enters accepts = record { wanted = wanted; enters = enters; accepts = accepts }

same_edge : (w v e f : List ℕ) (a b : Bool) → w ≡ v → e ≡ f → a ≡ b → edge w e a ≡ edge v f b
same_edge w v e f a b p q r = ap (λ x. edge x e a) p ∙ ap (λ x. edge v x a) q ∙ ap (edge v f) r

shift-zero : (qs : List ℕ) → shift 0 qs ≡ qs
shift-zero [] = refl
shift-zero (q ∷ qs) = let e : 0 + q ≡ q = omega arith in ap (λ x. x ∷ shift 0 qs) e ∙ ap (λ xs. q ∷ xs) (shift-zero qs)

picked-none : (b : Bool) (qs : List ℕ) → qs ++ picked_if b [] ≡ qs
picked-none true qs = append-nil qs
picked-none false qs = append-nil qs

and-true : (b : Bool) → b ≡ (b && true)
and-true true = refl
and-true false = refl

picked-both : (a b : Bool) (qs : List ℕ) → picked_if (a && b) qs ≡ picked_if a (picked_if b qs)
picked-both true b qs = refl
picked-both false b qs = refl

atoms_of-append : {B : Type 0} (atom : B → Option ℕ) (bs cs : List B) → atoms_of atom (bs ++ cs)
    ≡ atoms_of atom bs ++ atoms_of atom cs
atoms_of-append atom [] cs = refl
atoms_of-append atom (b ∷ bs) cs = ap (with_atom (atom b)) (atoms_of-append atom bs cs) ∙ out (atom b)
  where
    out : (o : Option ℕ) → with_atom o (atoms_of atom bs ++ atoms_of atom cs) ≡ with_atom o (atoms_of atom bs)
        ++ atoms_of atom cs
    out None = refl
    out (Some n) = refl

abbrev pub table : List (List (Edge ℕ)) → List ℕ → Bool → TableData
table rows starts empty = record { rows = rows; starts = starts; empty = empty }

pub same_table : (r s : List (List (Edge ℕ))) (x y : List ℕ) (a b : Bool) → r ≡ s → x ≡ y → a ≡ b
    → table r x a ≡ table s y b
same_table r s x y a b p q e = ap (λ z. table z x a) p ∙ ap (λ z. table s z a) q ∙ ap (table s y) e

module _ (B : Type 0) (atom : B → Option ℕ) where
  abbrev num : Edge B → Edge ℕ
  num e = numbered_edge atom e

  -- how many rows there are
  count : (t : Table B) → length (listed atom t).rows ≡ t.size
  count t = rows_of-length (coded atom t) 0 t.size

  num-moved : (n : ℕ) (e : Edge B) → num (shifted_edge n e) ≡ changed (moved n) (num e)
  num-moved n e = same_edge _ _ _ _ _ _ refl (sym (picked-none e.accepts (shift n e.enters))) (and-true e.accepts)

  num-same : (e : Edge B) → num e ≡ changed (moved 0) (num e)
  num-same e =
      same_edge _ _ _ _ _ _ refl (sym (picked-none e.accepts (shift 0 e.enters) ∙ shift-zero e.enters))
      (and-true e.accepts)

  num-wanting : (b : B) (e : Edge B) → num (wanting b e) ≡ changed (wanting_also (atom b)) (num e)
  num-wanting b e =
      same_edge _ _ _ _ _ _ refl (sym (picked-none e.accepts (shift 0 e.enters) ∙ shift-zero e.enters))
      (and-true e.accepts)

  num-joined : (n : ℕ) (e f : Edge B) → num (joined_edges n e f) ≡ joined_data n (num e) (num f)
  num-joined n e f = same_edge _ _ _ _ _ _ (atoms_of-append atom e.wanted f.wanted) refl refl

  num-paired : (t u : Table B) (e f : Edge B) → num (paired_edges t u e f) ≡ paired_data t.size u.size (num e) (num f)
  num-paired t u e f = same_edge _ _ _ _ _ _ (atoms_of-append atom e.wanted f.wanted) refl refl

  num-coupled : (size : ℕ) (e f : Edge B) → num (coupled size e f) ≡ coupled size (num e) (num f)
  num-coupled size e f = same_edge _ _ _ _ _ _ (atoms_of-append atom e.wanted f.wanted) refl refl

  -- a row of moved edges
  row-moved : (n : ℕ) (es : List (Edge B)) → map num (map (shifted_edge n) es) ≡ map (changed (moved n)) (map num es)
  row-moved n es = map-square (shifted_edge n) num (changed (moved n)) num es (num-moved n)

  map-each : {A C : Type 0} (f g : A → C) (xs : List A) → ((x : A) → f x ≡ g x) → map f xs ≡ map g xs
  map-each f g [] each = refl
  map-each f g (x ∷ xs) each = ap (λ y. y ∷ map f xs) (each x) ∙ ap (λ ys. g x ∷ ys) (map-each f g xs each)

  map-map : {A C D : Type 0} (f : C → D) (g : A → C) (xs : List A) → map f (map g xs) ≡ map (λ x. f (g x)) xs
  map-map f g [] = refl
  map-map f g (x ∷ xs) = ap (λ ys. f (g x) ∷ ys) (map-map f g xs)

  row-same : (es : List (Edge B)) → map num es ≡ map (changed (moved 0)) (map num es)
  row-same es = map-each num (λ e. changed (moved 0) (num e)) es num-same ∙ sym (map-map (changed (moved 0)) num es)

  -- rows of a part, changed: those from p on, so many
  part : (row : ℕ → List (Edge ℕ)) (c d : ChangeData) (u : Table B) (p : ℕ) → c ≡ d
      → ((k : ℕ) → k < u.size → row (p + k) ≡ map (changed c) (coded atom u k)) →
      rows_from row p u.size ≡ change_all d (listed atom u).rows
  part row c d u p e same =
      rows_of-same row (λ k. map (changed c) (coded atom u k)) p 0 u.size (λ k below.
      let here : k ≡ 0 + k = omega arith in same k below ∙ ap (λ n. map (changed c) (coded atom u n)) here)
      ∙ rows_of-map (map (changed c)) (coded atom u) 0 u.size
      ∙ ap (λ x. change_all x (listed atom u).rows) e

  pub listed-any : (t u : Table B) → listed atom (any_table t u) ≡ either_data (listed atom t) (listed atom u)
  listed-any t u =
      let n = count t in
      let row : ℕ → List (Edge ℕ) = coded atom (any_table t u) in
      let start : 0 + t.size ≡ t.size = omega arith in
      same_table _ _ _ _ _ _
      (rows_of-append row 0 t.size u.size
      ∙ ap (λ k. rows_from row 0 t.size ++ rows_from row k u.size) start
      ∙ ap (λ xs. xs ++ rows_from row t.size u.size) (part row (moved 0) (moved 0) t 0 refl (λ k below.
      let here : 0 + k ≡ k = omega arith in
      ap row here ∙ (rw (lt-ltb k t.size below) (row-same (t.row k)))))
      ∙ ap (λ xs. change_all (moved 0) (listed atom t).rows ++ xs)
      (part row (moved t.size) (moved (length (listed atom t).rows)) u t.size (ap moved (sym n)) (λ k below.
      let back : t.size + k - t.size ≡ k = omega arith in
      rw (le-ltb (t.size + k) t.size (omega arith)) (ap (λ p. map num (map (shifted_edge t.size) (u.row p))) back
      ∙ row-moved t.size (u.row k)))))
      (ap (λ k. t.starts ++ shift k u.starts) (sym n))
      refl

  pub listed-under : (b : B) (t : Table B) → listed atom (under_table b t) ≡ during_data (atom b) (listed atom t)
  listed-under b t =
      same_table _ _ _ _ _ _
      (part (coded atom (under_table b t)) (wanting_also (atom b)) (wanting_also (atom b)) t 0 refl (λ k below.
      let here : 0 + k ≡ k = omega arith in
      ap (coded atom (under_table b t)) here ∙ map-square (wanting b) num (changed (wanting_also (atom b))) num
      (t.row k) (num-wanting b)))
      refl
      refl

  pub listed-tick : (b : B) → listed atom (tick_table b) ≡ tick_data (atom b)
  listed-tick b = refl

  onward-same : (t g u : Table B) → onward t g u ≡ onward_data (listed atom t) (listed atom g) (listed atom u)
  onward-same t g u =
      ap (λ k. shift k g.starts ++ picked_if g.empty (shift (k + g.size) u.starts)) (sym (count t))
      ∙ ap (λ k. shift (length (listed atom t).rows) g.starts ++ picked_if g.empty
      (shift (length (listed atom t).rows + k) u.starts)) (sym (count g))

  past-same : (t g : Table B) → t.size + g.size ≡ length (listed atom t).rows + length (listed atom g).rows
  past-same t g = ap (λ k. k + g.size) (sym (count t)) ∙ ap (λ k. length (listed atom t).rows + k) (sym (count g))

  -- the edges of the first positions
  firsts-listed : (k : ℕ) (u : Table B) (e : Edge ℕ) (qs : List ℕ) → ((q : ℕ) → HasNumber qs q → q < u.size) →
      map (joined_data k e) (map num (flat_map u.row qs))
      ≡ flat_map (λ q. map (joined_data k e) (edges_at (listed atom u).rows q)) qs
  firsts-listed k u e [] there = refl
  firsts-listed k u e (q ∷ qs) there =
      let here : 0 + q ≡ q = omega arith in
      let at : edges_at (listed atom u).rows q ≡ map num (u.row q) =
      row_at-rows (coded atom u) 0 u.size q (there q (inl refl)) ∙ ap (coded atom u) here in
      ap (map (joined_data k e)) (map-append num (u.row q) (flat_map u.row qs))
      ∙ map-append (joined_data k e) (map num (u.row q)) (map num (flat_map u.row qs))
      ∙ ap (λ xs. map (joined_data k e) xs ++ map (joined_data k e) (map num (flat_map u.row qs))) (sym at)
      ∙ ap (λ xs. map (joined_data k e) (edges_at (listed atom u).rows q) ++ xs)
      (firsts-listed k u e qs (λ p has. there p (inr has)))

  module _ (fuses follows : Bool) (t g u : Table B) (rising : IsRising u) where
    abbrev lead0 : ChangeData
    lead0 =
        record
        { wanted = None; by = 0; onward = picked_if follows (onward t g u); keeps = follows && (g.empty && u.empty) }

    abbrev cross0 : ChangeData
    cross0 = record { wanted = None; by = t.size; onward = shift (t.size + g.size) u.starts; keeps = u.empty }

    lead-is : lead0 ≡ leading_data follows (listed atom t) (listed atom g) (listed atom u)
    lead-is =
        ap (λ xs. record
        { wanted = None; by = 0; onward = picked_if follows xs; keeps = follows && (g.empty && u.empty) })
        (onward-same t g u)

    cross-is : cross0 ≡ crossing_data (listed atom t) (listed atom g) (listed atom u)
    cross-is =
        ap (λ k. record { wanted = None; by = k; onward = shift (t.size + g.size) u.starts; keeps = u.empty })
        (sym (count t))
        ∙ ap (λ k. record
        { wanted = None; by = length (listed atom t).rows; onward = shift k u.starts; keeps = u.empty })
        (past-same t g)

    num-leading : (e : Edge B) → num (leading follows t g u e) ≡ changed lead0 (num e)
    num-leading e =
        same_edge _ _ _ _ _ _ refl
        (ap (λ xs. xs ++ picked_if (e.accepts && follows) (onward t g u)) (sym (shift-zero e.enters))
        ∙ ap (λ xs. shift 0 e.enters ++ xs) (picked-both e.accepts follows (onward t g u)))
        refl

    num-fusing : (e : Edge B) → map num (fusing fuses t g u e)
        ≡ picked_if (e.accepts && fuses) (fused_data (t.size + g.size) (listed atom u) (num e))
    num-fusing e =
        map-picked num (e.accepts && fuses) (map (joined_edges (t.size + g.size) e) (flat_map u.row u.starts))
        ∙ ap (picked_if (e.accepts && fuses))
        (map-square (joined_edges (t.size + g.size) e) num (joined_data (t.size + g.size) (num e)) num
        (flat_map u.row u.starts) (num-joined (t.size + g.size) e)
        ∙ firsts-listed (t.size + g.size) u (num e) u.starts rising.starts)

    row-lead : (es : List (Edge B)) → map num (flat_map (λ e. leading follows t g u e ∷ fusing fuses t g u e) es)
        ≡ flat_map (lead_data fuses lead0 (t.size + g.size) (listed atom u)) (map num es)
    row-lead es =
        flat-square (λ e. leading follows t g u e ∷ fusing fuses t g u e) num
        (lead_data fuses lead0 (t.size + g.size) (listed atom u)) num es
        (λ e. ap (λ x. x ∷ map num (fusing fuses t g u e)) (num-leading e)
        ∙ ap (λ xs. changed lead0 (num e) ∷ xs) (num-fusing e))

    abbrev row : ℕ → List (Edge ℕ)
    row = coded atom (link_table fuses follows t g u)

    first-part : rows_from row 0 t.size
        ≡ map (flat_map
        (lead_data fuses (leading_data follows (listed atom t) (listed atom g) (listed atom u))
        (length (listed atom t).rows + length (listed atom g).rows) (listed atom u))) (listed atom t).rows
    first-part =
        rows_of-same row (λ k. flat_map (lead_data fuses lead0 (t.size + g.size) (listed atom u)) (coded atom t k)) 0 0
        t.size (λ k below.
        let here : 0 + k ≡ k = omega arith in
        ap row here
        ∙ (rw (lt-ltb k t.size below) (row-lead (t.row k)))
        ∙ ap (λ n. flat_map (lead_data fuses lead0 (t.size + g.size) (listed atom u)) (coded atom t n)) (sym here))
        ∙ rows_of-map (flat_map (lead_data fuses lead0 (t.size + g.size) (listed atom u))) (coded atom t) 0 t.size
        ∙ ap (λ c. map (flat_map (lead_data fuses c (t.size + g.size) (listed atom u))) (listed atom t).rows) lead-is
        ∙ ap (λ k.
        map (flat_map
        (lead_data fuses (leading_data follows (listed atom t) (listed atom g) (listed atom u)) k
        (listed atom u))) (listed atom t).rows) (past-same t g)

    between-part : rows_from row t.size g.size
        ≡ change_all (crossing_data (listed atom t) (listed atom g) (listed atom u)) (listed atom g).rows
    between-part =
        part row cross0 (crossing_data (listed atom t) (listed atom g) (listed atom u)) g t.size cross-is (λ k below.
        let back : t.size + k - t.size ≡ k = omega arith in
        rw (le-ltb (t.size + k) t.size (omega arith), lt-ltb (t.size + k) (t.size + g.size) (omega arith))
        (ap (λ p. map num (map (crossing t g u) (g.row p))) back
        ∙ map-square (crossing t g u) num (changed cross0) num (g.row k) (λ e. refl)))

    second-part : rows_from row (t.size + g.size) u.size
        ≡ change_all (moved (length (listed atom t).rows + length (listed atom g).rows)) (listed atom u).rows
    second-part =
        part row (moved (t.size + g.size)) (moved (length (listed atom t).rows + length (listed atom g).rows)) u
        (t.size + g.size) (ap moved (past-same t g)) (λ k below.
        let back : t.size + g.size + k - (t.size + g.size) ≡ k = omega arith in
        rw (
          le-ltb (t.size + g.size + k) t.size (omega arith),
          le-ltb (t.size + g.size + k) (t.size + g.size) (omega arith),
        )
        (ap (λ p. map num (map (shifted_edge (t.size + g.size)) (u.row p))) back
        ∙ row-moved (t.size + g.size) (u.row k)))

    abbrev front_rows : List (List (Edge ℕ))
    front_rows =
        map (flat_map
        (lead_data fuses (leading_data follows (listed atom t) (listed atom g) (listed atom u))
        (length (listed atom t).rows + length (listed atom g).rows) (listed atom u))) (listed atom t).rows
        ++ change_all (crossing_data (listed atom t) (listed atom g) (listed atom u)) (listed atom g).rows

    pub listed-link : listed atom (link_table fuses follows t g u) ≡ link_data fuses follows (listed atom t)
        (listed atom g) (listed atom u)
    listed-link =
        let a : 0 + (t.size + g.size) ≡ t.size + g.size = omega arith in
        let b : 0 + t.size ≡ t.size = omega arith in
        same_table _ _ _ _ _ _
        (rows_of-append row 0 (t.size + g.size) u.size
        ∙ ap (λ k. rows_from row 0 (t.size + g.size) ++ rows_from row k u.size) a
        ∙ ap (λ xs. xs ++ rows_from row (t.size + g.size) u.size)
        (rows_of-append row 0 t.size g.size
        ∙ ap (λ k. rows_from row 0 t.size ++ rows_from row k g.size) b
        ∙ ap (λ xs. xs ++ rows_from row t.size g.size) first-part
        ∙ ap (λ xs.
        map (flat_map
        (lead_data fuses (leading_data follows (listed atom t) (listed atom g) (listed atom u))
        (length (listed atom t).rows + length (listed atom g).rows) (listed atom u))) (listed atom t).rows ++ xs)
        between-part)
        ∙ ap (λ xs. front_rows ++ xs) second-part)
        (ap (λ xs. t.starts ++ picked_if (follows && t.empty) xs) (onward-same t g u))
        refl

  copies-same : (t : Table B) (first most : ℕ) → copies t first most ≡ copies_data (listed atom t) first most
  copies-same t first most =
      ap (λ n. flat_map (λ c. shift (c * n) t.starts)
      (numbers_from first (if t.empty then most - first else min 1 (most - first)))) (sym (count t))

  module _ (t : Table B) (least most : ℕ) where
    abbrev turn0 : ℕ → ChangeData
    turn0 c = record {
      wanted = None;
      by = c * t.size;
      onward = copies t (c + 1) most;
      keeps = nat_le least most && (nat_le least (c + 1) || t.empty);
    }

    turn-is : (c : ℕ) → turn0 c ≡ turn_data (listed atom t) least most c
    turn-is c =
        ap (λ n. record {
          wanted = None;
          by = c * n;
          onward = copies t (c + 1) most;
          keeps = nat_le least most && (nat_le least (c + 1) || t.empty);
        }) (sym (count t))
        ∙ ap (λ xs. record {
          wanted = None;
          by = c * length (listed atom t).rows;
          onward = xs;
          keeps = nat_le least most && (nat_le least (c + 1) || t.empty);
        }) (copies-same t (c + 1) most)

    turn-rows : (c : ℕ) → rows_from (λ k. map (changed (turn0 c)) (coded atom t k)) 0 t.size
        ≡ change_all (turn_data (listed atom t) least most c) (listed atom t).rows
    turn-rows c =
        rows_of-map (map (changed (turn0 c))) (coded atom t) 0 t.size
        ∙ ap (λ x. change_all x (listed atom t).rows) (turn-is c)

    pub listed-loop : listed atom (loop_table t least most) ≡ repeat_data (listed atom t) least most
    listed-loop =
        let zeros : 0 ≡ 0 * t.size = omega arith in
        let row : ℕ → List (Edge ℕ) = coded atom (loop_table t least most) in
        same_table _ _ _ _ _ _
        (ap (λ k. rows_from row k (most * t.size)) zeros
        ∙ rows_of-blocks row (λ c k. map (changed (turn0 c)) (coded atom t k)) t.size 0 most (λ c k low below.
        ap (λ d. map num (map (looping t least most d) (t.row ((c * t.size + k) % t.size))))
        (div-mul-add c t.size k below)
        ∙ ap (λ j. map num (map (looping t least most c) (t.row j))) (mod-mul-add c t.size k below)
        ∙ map-square (looping t least most c) num (changed (turn0 c)) num (t.row k) (λ e. refl))
        ∙ flat_map-each (λ c. rows_from (λ k. map (changed (turn0 c)) (coded atom t k)) 0 t.size)
        (λ c. change_all (turn_data (listed atom t) least most c) (listed atom t).rows) (numbers_from 0 most)
        turn-rows)
        (copies-same t 0 most)
        refl

  module _ (t u : Table B) where
    abbrev both_row : ℕ → List (Edge ℕ)
    both_row = coded atom (all_table t u)

    abbrev n0 : ℕ
    n0 = t.size

    abbrev m0 : ℕ
    m0 = u.size

    row-pair : (c k : ℕ) → map num (flat_map (λ e. map (paired_edges t u e) (u.row k)) (t.row c))
        ≡ pair_row n0 m0 (coded atom t c) (coded atom u k)
    row-pair c k =
        flat-square (λ e. map (paired_edges t u e) (u.row k)) num (λ e. map (paired_data n0 m0 e) (coded atom u k)) num
        (t.row c)
        (λ e. map-square (paired_edges t u e) num (paired_data n0 m0 (num e)) num (u.row k) (num-paired t u e))

    pairs-part : rows_from both_row 0 (n0 * m0) ≡ flat_map (λ es. map (pair_row n0 m0 es) (listed atom u).rows)
        (listed atom t).rows
    pairs-part =
        let zeros : 0 ≡ 0 * m0 = omega arith in
        ap (λ k. rows_from both_row k (n0 * m0)) zeros
        ∙ rows_of-blocks both_row (λ c k. pair_row n0 m0 (coded atom t c) (coded atom u k)) m0 0 n0 (λ c k low below.
        let next : c * m0 + m0 ≡ (c + 1) * m0 = omega arith in
        let up : (c + 1) * m0 ≤ n0 * m0 = mul-le-mul_right m0 (omega (arith, low)) in
        (rw (lt-ltb (c * m0 + k) (n0 * m0) (omega (arith, next, up, below))) refl)
        ∙ ap (λ j. map num (flat_map (λ e. map (paired_edges t u e) (u.row j)) (t.row ((c * m0 + k) / m0))))
        (mod-mul-add c m0 k below)
        ∙ ap (λ j. map num (flat_map (λ e. map (paired_edges t u e) (u.row k)) (t.row j))) (div-mul-add c m0 k below)
        ∙ row-pair c k)
        ∙ flat_map-each (λ c. rows_from (λ k. pair_row n0 m0 (coded atom t c) (coded atom u k)) 0 m0)
        (λ c. map (pair_row n0 m0 (coded atom t c)) (listed atom u).rows) (numbers_from 0 n0)
        (λ c. rows_of-map (pair_row n0 m0 (coded atom t c)) (coded atom u) 0 m0)
        ∙ sym (flat_map-view (λ es. map (pair_row n0 m0 es) (listed atom u).rows) (coded atom t) (numbers_from 0 n0))
        ∙ ap (flat_map (λ es. map (pair_row n0 m0 es) (listed atom u).rows)) (sym (rows_of-numbers (coded atom t) 0 n0))

    first-alone : rows_from both_row (n0 * m0) n0 ≡ change_all (moved (n0 * m0)) (listed atom t).rows
    first-alone = part both_row (moved (n0 * m0)) (moved (n0 * m0)) t (n0 * m0) refl (λ k below.
        let back : n0 * m0 + k - n0 * m0 ≡ k = omega arith in
        rw (le-ltb (n0 * m0 + k) (n0 * m0) (omega arith), lt-ltb (n0 * m0 + k) (n0 * m0 + n0) (omega arith))
        (ap (λ p. map num (map (shifted_edge (n0 * m0)) (t.row p))) back ∙ row-moved (n0 * m0) (t.row k)))

    second-alone : rows_from both_row (n0 * m0 + n0) m0 ≡ change_all (moved (n0 * m0 + n0)) (listed atom u).rows
    second-alone = part both_row (moved (n0 * m0 + n0)) (moved (n0 * m0 + n0)) u (n0 * m0 + n0) refl (λ k below.
        let back : n0 * m0 + n0 + k - (n0 * m0 + n0) ≡ k = omega arith in
        rw (le-ltb (n0 * m0 + n0 + k) (n0 * m0) (omega arith), le-ltb (n0 * m0 + n0 + k) (n0 * m0 + n0) (omega arith))
        (ap (λ p. map num (map (shifted_edge (n0 * m0 + n0)) (u.row p))) back ∙ row-moved (n0 * m0 + n0) (u.row k)))

    -- the table of both, where the tables have so many positions
    abbrev both_of : ℕ → ℕ → TableData
    both_of n m = table
        (flat_map (λ es. map (pair_row n m es) (listed atom u).rows) (listed atom t).rows
        ++ change_all (moved (n * m)) (listed atom t).rows
        ++ change_all (moved (n * m + n)) (listed atom u).rows)
        (pairs_data m t.starts u.starts
        ++ (picked_if u.empty (shift (n * m) t.starts) ++ picked_if t.empty (shift (n * m + n) u.starts)))
        (t.empty && u.empty)

    pub listed-all : listed atom (all_table t u) ≡ both_data (listed atom t) (listed atom u)
    listed-all =
        let a : 0 + (n0 * m0 + n0) ≡ n0 * m0 + n0 = omega arith in
        let b : 0 + n0 * m0 ≡ n0 * m0 = omega arith in
        same_table _ _ _ _ _ _
        (rows_of-append both_row 0 (n0 * m0 + n0) m0
        ∙ ap (λ k. rows_from both_row 0 (n0 * m0 + n0) ++ rows_from both_row k m0) a
        ∙ ap (λ xs. xs ++ rows_from both_row (n0 * m0 + n0) m0)
        (rows_of-append both_row 0 (n0 * m0) n0
        ∙ ap (λ k. rows_from both_row 0 (n0 * m0) ++ rows_from both_row k n0) b
        ∙ ap (λ xs. xs ++ rows_from both_row (n0 * m0) n0) pairs-part
        ∙ ap (λ xs. flat_map (λ es. map (pair_row n0 m0 es) (listed atom u).rows) (listed atom t).rows ++ xs)
        first-alone)
        ∙ ap (λ xs. (flat_map (λ es. map (pair_row n0 m0 es) (listed atom u).rows) (listed atom t).rows
        ++ change_all (moved (n0 * m0)) (listed atom t).rows) ++ xs) second-alone)
        refl
        refl
        ∙ ap (λ k. both_of k m0) (sym (count t))
        ∙ ap (both_of (length (listed atom t).rows)) (sym (count u))

    -- the pairs alone
    row-couple : (c k : ℕ) → map num (flat_map (λ e. map (coupled m0 e) (u.row k)) (t.row c))
        ≡ couple_row m0 (coded atom t c) (coded atom u k)
    row-couple c k =
        flat-square (λ e. map (coupled m0 e) (u.row k)) num (λ e. map (coupled m0 e) (coded atom u k)) num (t.row c)
        (λ e. map-square (coupled m0 e) num (coupled m0 (num e)) num (u.row k) (num-coupled m0 e))

    couples : rows_from (coded atom (pair_table t u)) 0 (n0 * m0)
        ≡ flat_map (λ es. map (couple_row m0 es) (listed atom u).rows) (listed atom t).rows
    couples =
        let zeros : 0 ≡ 0 * m0 = omega arith in
        ap (λ k. rows_from (coded atom (pair_table t u)) k (n0 * m0)) zeros
        ∙ rows_of-blocks (coded atom (pair_table t u)) (λ c k. couple_row m0 (coded atom t c) (coded atom u k)) m0 0 n0
        (λ c k low below.
        ap (λ j. map num (flat_map (λ e. map (coupled m0 e) (u.row j)) (t.row ((c * m0 + k) / m0))))
        (mod-mul-add c m0 k below)
        ∙ ap (λ j. map num (flat_map (λ e. map (coupled m0 e) (u.row k)) (t.row j))) (div-mul-add c m0 k below)
        ∙ row-couple c k)
        ∙ flat_map-each (λ c. rows_from (λ k. couple_row m0 (coded atom t c) (coded atom u k)) 0 m0)
        (λ c. map (couple_row m0 (coded atom t c)) (listed atom u).rows) (numbers_from 0 n0)
        (λ c. rows_of-map (couple_row m0 (coded atom t c)) (coded atom u) 0 m0)
        ∙ sym (flat_map-view (λ es. map (couple_row m0 es) (listed atom u).rows) (coded atom t) (numbers_from 0 n0))
        ∙ ap (flat_map (λ es. map (couple_row m0 es) (listed atom u).rows)) (sym (rows_of-numbers (coded atom t) 0 n0))

    pub listed-pair : listed atom (pair_table t u) ≡ pair_data (listed atom t) (listed atom u)
    listed-pair =
        same_table _ _ _ _ _ _ couples refl refl
        ∙ ap (λ k. table (flat_map (λ es. map (couple_row k es) (listed atom u).rows) (listed atom t).rows)
        (products k t.starts u.starts) (t.empty && u.empty)) (sym (count u))
