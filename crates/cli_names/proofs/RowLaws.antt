-- Rows and names along the declarations of a header.
use Rattle.std.proofs.Common.{◌≡◌, ℕ, zero, suc, ◌+◌, ◌-◌, ◌^◌, ◌<◌, ◌≤◌, min, Bool, true, false, cond, List, [], ◌∷◌}
use Rattle.std.proofs.Common.{◌++◌, length, get_or, drop, map, refl, sym, ap, ◌∙◌, arith, append_assoc}
use Rattle.std.proofs.lemmas.List.{append-nil}
use Rattle.vcd_reader.specs.Variables.{Named, paths_of, variable_named, is_place, names_from}
use Rattle.vcd_declarations.specs.Declarations.{Declaration, variable_of, range_of}
use Rattle.cli_names.specs.declared.filter.Filter.{Filter}
use Rattle.cli_names.specs.Filters.{is_asked}
use Rattle.cli_names.specs.Names.{names_next}
use Rattle.cli_names.specs.Rows.{RowData, path_told, row_with, row_told, rows_from, rows_told}
use Rattle.cli_names.proofs.NameLaws.{next-itself, after-itself}

-- a declaration's path is that of its variable
path-same : (d : Declaration) → (variable_of d).path ≡ path_told d
unfolding variable_of
path-same d = refl

path-at : (ds : List Declaration) (k : ℕ) (d : Declaration) (left : List Declaration) → drop k ds ≡ d ∷ left
    → get_or (paths_of (map variable_of ds)) k [] ≡ (variable_of d).path
path-at [] zero d left e = absurd cc
path-at [] (suc k) d left e = absurd cc
path-at (x ∷ xs) zero d left e =
    let same : x ≡ d = cc in ap (λ (y : Declaration). (variable_of y).path) same
path-at (x ∷ xs) (suc k) d left e = path-at xs k d left e

rest-at : (ds : List Declaration) (k : ℕ) (d : Declaration) (left : List Declaration) → drop k ds ≡ d ∷ left
    → (drop (suc k) ds ≡ left) × (k < length ds)
rest-at [] zero d left e = absurd cc
rest-at [] (suc k) d left e = absurd cc
rest-at (x ∷ xs) zero d left e = ((let same : xs ≡ left = cc in same), omega arith)
rest-at (x ∷ xs) (suc k) d left e = let r = rest-at xs k d left e in (r.0, (let lt = r.1 in omega arith))

none-at : (ds : List Declaration) (k : ℕ) → drop k ds ≡ [] → length ds ≤ k
none-at [] k e = omega arith
none-at (x ∷ xs) zero e = absurd cc
none-at (x ∷ xs) (suc k) e = let le = none-at xs k e in omega arith

-- what is known after some declarations of a header: those that are left, the names that are left,
-- the rows so far, and how many were seen
pub record IsAlong (f : Filter) (ds left : List Declaration) (names : List Named) (rows : List RowData) (total : ℕ)
    : Type 0 where
  pub place : ℕ
  pub rest : drop place ds ≡ left
  pub inside : place ≤ length ds
  pub named : names ≡ names_from (map variable_of ds) place (map variable_of left)
  pub told : rows ++ rows_from (map variable_of ds) f place left ≡ rows_told f ds
  pub counted : total ≡ min place (2 ^ 64 - 1)

pub along-start : (f : Filter) (ds left : List Declaration) (names : List Named) (rows : List RowData)
    → left ≡ ds → names ≡ names_from (map variable_of ds) 0 (map variable_of ds) → rows ≡ []
    → IsAlong f ds left names rows 0
unfolding rows_told
along-start f ds left names rows e n r =
    let vs = map variable_of ds in
    record {
      place = 0;
      rest = sym e;
      inside = omega arith;
      named = n ∙ ap (λ (x : List Declaration). names_from vs 0 (map variable_of x)) (sym e);
      told = ap (λ (x : List RowData). x ++ rows_from vs f 0 left) r ∙ ap (rows_from vs f 0) e;
      counted = omega arith;
    }

pub along-end : (f : Filter) (ds left : List Declaration) (names : List Named) (rows : List RowData) (total : ℕ)
    → IsAlong f ds left names rows total → left ≡ [] → (rows ≡ rows_told f ds) × (total ≡ min (length ds) (2 ^ 64 - 1))
unfolding rows_from
along-end f ds left names rows total a e =
    let vs = map variable_of ds in
    let le = none-at ds a.place (a.rest ∙ e) in
    let within = a.inside in
    let counted = a.counted in (
      sym (append-nil rows) ∙ ap (λ (x : List Declaration). rows ++ rows_from vs f a.place x) (sym e) ∙ a.told,
      omega arith,
    )

module _ (f : Filter) (ds : List Declaration) (d : Declaration) (later : List Declaration) (names : List Named)
    (rows : List RowData) (total : ℕ) (a : IsAlong f ds (d ∷ later) names rows total) where
  -- whether the next name is that of the declaration
  pub next-told : names_next names (path_told d)
      ≡ is_place a.place (variable_named (map variable_of ds) (path_told d))
  next-told =
      ap (λ (ns : List Named). names_next ns (path_told d)) a.named
      ∙ ap (names_next (names_from (map variable_of ds) a.place (map variable_of (d ∷ later)))) (sym (path-same d))
      ∙ next-itself (map variable_of ds) a.place (variable_of d) (map variable_of later)
      (path-at ds a.place d later a.rest)
      ∙ ap (λ (p : List ℕ). is_place a.place (variable_named (map variable_of ds) p)) (path-same d)

  -- the names after it
  names-after : (b : Bool) → b ≡ is_place a.place (variable_named (map variable_of ds) (path_told d))
      → cond b (drop 1 names) names ≡ names_from (map variable_of ds) (suc a.place) (map variable_of later)
  names-after b is =
      after b (is ∙ ap (λ (p : List ℕ). is_place a.place (variable_named (map variable_of ds) p)) (sym (path-same d)))
    where
      all : names ≡ cond (is_place a.place (variable_named (map variable_of ds) (variable_of d).path))
          (record { path = (variable_of d).path; width = (variable_of d).size }
          ∷ names_from (map variable_of ds) (suc a.place) (map variable_of later))
          (names_from (map variable_of ds) (suc a.place) (map variable_of later))
      all = a.named ∙ after-itself (map variable_of ds) a.place (variable_of d) (map variable_of later)

      after : (b : Bool) → b ≡ is_place a.place (variable_named (map variable_of ds) (variable_of d).path)
          → cond b (drop 1 names) names ≡ names_from (map variable_of ds) (suc a.place) (map variable_of later)
      after true e =
          let head : names ≡ record { path = (variable_of d).path; width = (variable_of d).size }
          ∷ names_from (map variable_of ds) (suc a.place) (map variable_of later) = all ∙ rw (← e) refl in
          ap (λ (ns : List Named). drop 1 ns) head
      after false e = all ∙ rw (← e) refl

  told-if : (b : Bool) → b ≡ is_asked f (path_told d)
      → rows_from (map variable_of ds) f a.place (d ∷ later)
      ≡ cond b (row_told (map variable_of ds) a.place d ∷ rows_from (map variable_of ds) f (suc a.place) later)
      (rows_from (map variable_of ds) f (suc a.place) later)
  unfolding rows_from
  told-if b e = rw e refl

  -- the declaration is not asked for
  pub along-skip : (b : Bool) → b ≡ is_place a.place (variable_named (map variable_of ds) (path_told d))
      → false ≡ is_asked f (path_told d)
      → IsAlong f ds later (cond b (drop 1 names) names) rows (min (total + 1) (2 ^ 64 - 1))
  along-skip b is out =
      let r = rest-at ds a.place d later a.rest in
      let lt = r.1 in
      let counted = a.counted in
      record {
        place = suc a.place;
        rest = r.0;
        inside = omega arith;
        named = names-after b is;
        told = ap (λ (x : List RowData). rows ++ x) (sym (told-if false out)) ∙ a.told;
        counted = omega arith;
      }

  -- the declaration is asked for, and this is its row
  pub along-push : (b : Bool) (row : RowData)
      → b ≡ is_place a.place (variable_named (map variable_of ds) (path_told d))
      → true ≡ is_asked f (path_told d)
      → row ≡ row_with (path_told d) (range_of d.fields.reference) d.fields b
      → IsAlong f ds later (cond b (drop 1 names) names) (rows ++ row ∷ []) (min (total + 1) (2 ^ 64 - 1))
  unfolding row_told
  along-push b row is in_ same =
      let r = rest-at ds a.place d later a.rest in
      let lt = r.1 in
      let counted = a.counted in
      let more = rows_from (map variable_of ds) f (suc a.place) later in
      let told : row ≡ row_told (map variable_of ds) a.place d =
      same ∙ ap (row_with (path_told d) (range_of d.fields.reference) d.fields) is in
      record {
        place = suc a.place;
        rest = r.0;
        inside = omega arith;
        named = names-after b is;
        told = append_assoc rows (row ∷ []) more ∙ ap (λ (x : RowData). rows ++ x ∷ more) told
            ∙ ap (λ (x : List RowData). rows ++ x) (sym (told-if true in_)) ∙ a.told;
        counted = omega arith;
      }

-- the same, as the code has it
pub along-same : (f : Filter) (ds left : List Declaration) (names names' : List Named) (rows rows' : List RowData)
    (total total' : ℕ) → names' ≡ names → rows' ≡ rows → total' ≡ total → IsAlong f ds left names rows total
    → IsAlong f ds left names' rows' total'
along-same f ds left names names' rows rows' total total' n r t a = record {
  place = a.place;
  rest = a.rest;
  inside = a.inside;
  named = n ∙ a.named;
  told = ap (λ (x : List RowData). x ++ rows_from (map variable_of ds) f a.place left) r ∙ a.told;
  counted = t ∙ a.counted;
}
