-- A sweep over places that makes the entries of those whose names have entries.
use Rattle.std.proofs.Common.{◌≡◌, ◌≢◌, ◌⊎◌, inl, inr, ℕ, suc, ◌+◌, ◌<◌, ◌≤◌, List, [], ◌∷◌, ◌++◌, true, length, set}
use Rattle.std.proofs.Common.{length-append, append-nil, Option, Some, slice_get, refl, sym, ap, subst, ◌∙◌, arith}
use Rattle.std.proofs.lemmas.List.{length-set, get_or-set_same, get_or-set_other}
use Rattle.std.proofs.lemmas.Option.{slice_get-get_or, slice_get_past}
use Rattle.std.proofs.lemmas.Bool.{cases_eq, cases_lt}
use Rattle.assertions.specs.declared.sequence.Boolean.{Boolean}
use Rattle.types.specs.declared.entry.Entry.{Entry}
use Rattle.types.specs.Drafts.{Draft, IsNumberIn, uses_at}
use Rattle.types.specs.Entries.{Bodies, HasEntry, IsEntryOf, IsEntryTable, is_entry, has_entry, LacksOne}
use Rattle.types.specs.Entries.{Accounts}
use Rattle.types.specs.Entries.{AllLack}
use Rattle.types.proofs.InLaws.{in_front, in_back, in_either, in_last}

pub record State (bodies : Bodies) (before : List (Option Entry)) (places : List ℕ) (table : List (Option Entry))
    (left still : List ℕ) : Type 0 where
  pub long : length table ≡ length before
  pub entries : IsEntryTable bodies before → IsEntryTable bodies table
  pub accounts : (p : ℕ) → p < length before → Accounts before places p → Accounts table (left ++ still) p
  pub fewer : length left + length still ≤ length places
  pub same : length left + length still ≡ length places → table ≡ before
  pub lacking : length left + length still ≡ length places → AllLack bodies table still

pub entry_of_body : (bodies : Bodies) (p : ℕ) (d : Draft Boolean) (e : Entry) → slice_get bodies p ≡ Some d
    → HasEntry bodies d e → IsEntryOf bodies p e
entry_of_body bodies p d e found h =
    record {
      meant = h.meant;
      depth = suc h.spells.0;
      named = rw found h.spells.1;
      entry = h.entry;
    }

got_same : {A : Type 0} (xs : List A) (q : ℕ) (y : A) → q < length xs → slice_get (set xs q y) q ≡ Some y
got_same {A} xs q y h =
    slice_get-get_or (set xs q y) q y (rw (length-set xs q y) h) ∙ ap Some (get_or-set_same xs q y y h)

got_other : {A : Type 0} (xs : List A) (p q : ℕ) (y : A) → p ≢ q → slice_get (set xs q y) p ≡ slice_get xs p
got_other {A} xs p q y n = by_place (cases_lt p (length xs))
  where
    by_place : (p < length xs) ⊎ (length xs ≤ p) → slice_get (set xs q y) p ≡ slice_get xs p
    by_place (inl h) =
        slice_get-get_or (set xs q y) p y (rw (length-set xs q y) h) ∙ ap Some (get_or-set_other xs q p y y n)
        ∙ sym (slice_get-get_or xs p y h)
    by_place (inr h) = slice_get_past (set xs q y) p (rw (length-set xs q y) h) ∙ sym (slice_get_past xs p h)

table_more : (bodies : Bodies) (table : List (Option Entry)) (q : ℕ) (e : Entry) → q < length table
    → IsEntryTable bodies table → IsEntryOf bodies q e → IsEntryTable bodies (set table q (Some e))
table_more bodies table q e h t made p f found = by_place (cases_eq p q)
  where
    by_place : (p ≡ q) ⊎ (p ≢ q) → IsEntryOf bodies p f
    by_place (inl same) =
        let there = subst (λ (x : ℕ). slice_get (set table q (Some e)) x ≡ Some (Some f)) same found in
        let both : Some (Some e) ≡ Some (Some f) = sym (got_same table q (Some e) h) ∙ there in
        let one : e ≡ f = cc in
        subst (λ (x : ℕ). IsEntryOf bodies x f) (sym same) (subst (λ (x : Entry). IsEntryOf bodies q x) one made)
    by_place (inr n) = t p f (sym (got_other table p q (Some e) n) ∙ found)

has_same : (table : List (Option Entry)) (q : ℕ) (e : Entry) → q < length table → has_entry (set table q (Some e)) q
    ≡ true
has_same table q e h = ap is_entry (got_same table q (Some e) h)

has_kept : (table : List (Option Entry)) (p q : ℕ) (e : Entry) → q < length table → has_entry table p ≡ true
    → has_entry (set table q (Some e)) p ≡ true
has_kept table p q e h there = by_place (cases_eq p q)
  where
    by_place : (p ≡ q) ⊎ (p ≢ q) → has_entry (set table q (Some e)) p ≡ true
    by_place (inl same) = subst (λ (x : ℕ). has_entry (set table q (Some e)) x ≡ true) (sym same) (has_same table q e h)
    by_place (inr n) = ap is_entry (got_other table p q (Some e) n) ∙ there

-- the steps of a sweep
pub start : (bodies : Bodies) (before : List (Option Entry)) (places : List ℕ)
    → State bodies before places before places []
start bodies before places =
    record {
      long = refl;
      entries = λ t. t;
      accounts = λ p h a. subst (λ (xs : List ℕ). Accounts before xs p) (sym (append-nil places)) a;
      fewer = omega arith;
      same = λ e. refl;
      lacking = λ e p i. elim i [ ];
    }

accounted_after : (table more : List (Option Entry)) (rest still : List ℕ) (p q : ℕ)
    → (has_entry table p ≡ true → has_entry more p ≡ true) → (p ≡ q → Accounts more (rest ++ still) p) →
    Accounts table ((rest ++ q ∷ []) ++ still) p → Accounts more (rest ++ still) p
accounted_after table more rest still p q keeps last (inl m) = inl (keeps m)
accounted_after table more rest still p q keeps last (inr i) = by_part (in_either p (rest ++ q ∷ []) still i)
  where
    by_last : IsNumberIn p rest ⊎ (p ≡ q) → Accounts more (rest ++ still) p
    by_last (inl r) = inr (in_front p rest still r)
    by_last (inr e) = last e

    by_part : IsNumberIn p (rest ++ q ∷ []) ⊎ IsNumberIn p still → Accounts more (rest ++ still) p
    by_part (inl f) = by_last (in_last p q rest f)
    by_part (inr s) = inr (in_back p rest still s)

pub make : (bodies : Bodies) (before : List (Option Entry)) (places : List ℕ) (table : List (Option Entry))
    (left rest still : List ℕ) (q : ℕ) (e : Entry) →
    left ≡ rest ++ q ∷ [] → q < length table → (IsEntryTable bodies table → IsEntryOf bodies q e) →
    State bodies before places table left still → State bodies before places (set table q (Some e)) rest still
make bodies before places table left rest still q e cut h made s =
    record {
      long = length-set table q (Some e) ∙ s.long;
      entries = λ b. table_more bodies table q e h (s.entries b) (made (s.entries b));
      accounts =
          λ p h2 a. accounted_after table (set table q (Some e)) rest still p q (has_kept table p q e h)
          (λ same.
          inl (subst (λ (x : ℕ). has_entry (set table q (Some e)) x ≡ true) (sym same) (has_same table q e h)))
          (subst (λ (xs : List ℕ). Accounts table (xs ++ still) p) cut (s.accounts p h2 a));
      fewer = omega (arith, s.fewer, shorter);
      same = λ same. absurd (too_few same);
      lacking = λ same. absurd (too_few same);
    }
  where
    shorter : length left ≡ length rest + 1
    shorter = ap length cut ∙ length-append rest (q ∷ [])

    too_few : length rest + length still ≡ length places → ⊥
    too_few same = omega (arith, s.fewer, same, shorter)

pub keep : (bodies : Bodies) (before : List (Option Entry)) (places : List ℕ) (table : List (Option Entry))
    (left rest still : List ℕ) (q : ℕ) →
    left ≡ rest ++ q ∷ [] → LacksOne table (uses_at bodies q) →
    State bodies before places table left still → State bodies before places table rest (still ++ q ∷ [])
keep bodies before places table left rest still q cut lacks s =
    record {
      long = s.long;
      entries = s.entries;
      accounts = λ p h a. kept p (s.accounts p h a);
      fewer = omega (arith, s.fewer, shorter, longer);
      same = λ same. s.same (omega (arith, same, shorter, longer));
      lacking = λ same p i. still_lacks p (s.lacking (omega (arith, same, shorter, longer))) (in_last p q still i);
    }
  where
    shorter : length left ≡ length rest + 1
    shorter = ap length cut ∙ length-append rest (q ∷ [])

    longer : length (still ++ q ∷ []) ≡ length still + 1
    longer = length-append still (q ∷ [])

    by_last : (p : ℕ) → IsNumberIn p rest ⊎ (p ≡ q) → IsNumberIn p (rest ++ (still ++ q ∷ []))
    by_last p (inl r) = in_front p rest (still ++ q ∷ []) r
    by_last p (inr same) = in_back p rest (still ++ q ∷ []) (in_back p still (q ∷ []) (inl same))

    by_part : (p : ℕ) → IsNumberIn p (rest ++ q ∷ []) ⊎ IsNumberIn p still → IsNumberIn p (rest ++ (still ++ q ∷ []))
    by_part p (inl f) = by_last p (in_last p q rest f)
    by_part p (inr i) = in_back p rest (still ++ q ∷ []) (in_front p still (q ∷ []) i)

    kept : (p : ℕ) → Accounts table (left ++ still) p → Accounts table (rest ++ (still ++ q ∷ [])) p
    kept p (inl m) = inl m
    kept p (inr i) =
        inr (by_part p (in_either p (rest ++ q ∷ []) still (subst (λ (xs : List ℕ). IsNumberIn p (xs ++ still)) cut i)))

    still_lacks : (p : ℕ) → AllLack bodies table still → IsNumberIn p still ⊎ (p ≡ q)
        → LacksOne table (uses_at bodies p)
    still_lacks p all (inl i) = all p i
    still_lacks p all (inr same) = subst (λ (x : ℕ). LacksOne table (uses_at bodies x)) (sym same) lacks

pub skip : (bodies : Bodies) (before : List (Option Entry)) (places : List ℕ) (table : List (Option Entry))
    (left rest still : List ℕ) (q : ℕ) →
    left ≡ rest ++ q ∷ [] → length table ≤ q →
    State bodies before places table left still → State bodies before places table rest still
skip bodies before places table left rest still q cut past s =
    record {
      long = s.long;
      entries = s.entries;
      accounts =
          λ p h a. accounted_after table table rest still p q (λ m. m) (λ same. absurd (outside p h same))
          (subst (λ (xs : List ℕ). Accounts table (xs ++ still) p) cut (s.accounts p h a));
      fewer = omega (arith, s.fewer, shorter);
      same = λ same. absurd (too_few same);
      lacking = λ same. absurd (too_few same);
    }
  where
    shorter : length left ≡ length rest + 1
    shorter = ap length cut ∙ length-append rest (q ∷ [])

    too_few : length rest + length still ≡ length places → ⊥
    too_few same = omega (arith, s.fewer, same, shorter)

    outside : (p : ℕ) → p < length before → p ≡ q → ⊥
    outside p h same = omega (arith, h, past, s.long, same)
