-- Paths that are listed, each once.
use Rattle.std.proofs.Common.{◌≡◌, ℕ, ◌+◌, ◌<◌, arith, Bool, true, false, List, [], ◌∷◌, ◌++◌, map, length, Some, None}
use Rattle.std.proofs.Common.{cond, if◌then◌else◌, String, string_bytes, Global, refl, sym, ap, ◌∙◌, IsTrue}
use Rattle.std.proofs.lemmas.List.{map-append, length-map}
use Rattle.std.proofs.lemmas.Bool.{and_parts}
use Rattle.std.specs.Prelude.{bytes_eq, position, ◌&&◌, ◌||◌, nat_lt, not}
use Rattle.std.specs.List.{list_any, position_or_len}
use Rattle.std.specs.String.{string_eq}
use Rattle.std.specs.Cmp.Lexicographic.{bytes_decides}
use Rattle.std.proofs.lemmas.List.Folds.{list_any-append}
use Rattle.std.proofs.lemmas.Bool.Decides.{nat_tests}
use Rattle.indexmap.specs.IndexSet.{insert_key}
use Rattle.types_names.specs.Columns.{is_listed, with_path, with_paths, all_listed, column_of, columns_of}
use Rattle.types_names.specs.Columns.{file_signals}
use Rattle.parser_grammar.specs.Trees.{ItemForm}
use Rattle.types_names.specs.Scopes.{Scope}

-- the keys of a set, as texts
any-texts : (ks : List (String Global)) (p : List ℕ) → list_any (bytes_eq p) (map string_bytes ks)
    ≡ list_any (λ (k : String Global). bytes_eq p (string_bytes k)) ks
any-texts [] p = refl
any-texts (k ∷ ks) p = ap (λ b. bytes_eq p (string_bytes k) || b) (any-texts ks p)

picks-first : {A : Type 0} {b : Bool} → b ≡ true → (x y : A) → (if b then x else y) ≡ x
picks-first h x y = rw h refl

picks-second : {A : Type 0} {b : Bool} → b ≡ false → (x y : A) → (if b then x else y) ≡ y
picks-second h x y = rw h refl

pub path-there : (ks : List (String Global)) (p : List ℕ)
    → list_any (λ (k : String Global). bytes_eq p (string_bytes k)) ks ≡ true → map string_bytes ks
    ≡ with_path (map string_bytes ks) p
path-there ks p there = sym (picks-first (any-texts ks p ∙ there) _ _)

pub path-new : (ks ns : List (String Global)) (k : String Global) (p : List ℕ) → string_bytes k ≡ p
    → list_any (λ (x : String Global). bytes_eq p (string_bytes x)) ks ≡ false → ns ≡ insert_key string_eq ks k →
    map string_bytes ns ≡ with_path (map string_bytes ks) p
path-new ks ns k p same absent inserted =
    let new : list_any (string_eq k) ks ≡ false =
    ap (λ (q : List ℕ). list_any (λ (x : String Global). bytes_eq q (string_bytes x)) ks) same ∙ absent in
    ap (map string_bytes) (inserted ∙ picks-second new _ _) ∙ map-append string_bytes ks (k ∷ [])
    ∙ ap (λ (q : List ℕ). map string_bytes ks ++ q ∷ []) same
    ∙ sym (picks-second (any-texts ks p ∙ absent) _ _)

place-map : (ks : List (String Global)) (p : List ℕ) → position_or_len (bytes_eq p) (map string_bytes ks)
    ≡ position_or_len (λ (k : String Global). bytes_eq p (string_bytes k)) ks
place-map [] p = refl
place-map (k ∷ ks) p = ap (λ n. cond (not (bytes_eq p (string_bytes k))) (1 + n) 0) (place-map ks p)

pub column-place : (ks : List (String Global)) (p : List ℕ) → column_of (map string_bytes ks) p
    ≡ position (λ (k : String Global). bytes_eq p (string_bytes k)) ks
column-place ks p =
    ap (λ n. cond (nat_lt n (length (map string_bytes ks))) (Some n) None) (place-map ks p)
    ∙ ap (λ m. cond (nat_lt (position_or_len (λ (k : String Global). bytes_eq p (string_bytes k)) ks) m)
    (Some (position_or_len (λ (k : String Global). bytes_eq p (string_bytes k)) ks)) None)
    (length-map ks string_bytes)

-- paths that are listed one by one
pub with_paths-append : (known ps qs : List (List ℕ)) → with_paths known (ps ++ qs)
    ≡ with_paths (with_paths known ps) qs
with_paths-append known [] qs = refl
with_paths-append known (p ∷ ps) qs = with_paths-append (with_path known p) ps qs

pub ruleset for_listing = (with_paths-append)

-- what is listed stays so, and what is added is listed
either-true : (a b : Bool) → a ≡ true → (a || b) ≡ true
either-true true b h = refl
either-true false b h = absurd cc

or-true : (a : Bool) → (a || true) ≡ true
or-true true = refl
or-true false = refl

both-true : (a b : Bool) → a ≡ true → b ≡ true → (a && b) ≡ true
both-true true b h k = k
both-true false b h k = absurd cc

is_listed-kept : (known : List (List ℕ)) (p q : List ℕ) → is_listed known q ≡ true → is_listed (with_path known p) q
    ≡ true
is_listed-kept known p q h = by (is_listed known p)
  where
    by : (b : Bool) → is_listed (if b then known else known ++ p ∷ []) q ≡ true
    by true = h
    by false = list_any-append (bytes_eq q) known (p ∷ []) ∙ either-true (is_listed known q) (is_listed (p ∷ []) q) h

is_listed-added : (known : List (List ℕ)) (p : List ℕ) → is_listed (with_path known p) p ≡ true
is_listed-added known p = by (is_listed known p) refl
  where
    by : (b : Bool) → is_listed known p ≡ b → is_listed (if b then known else known ++ p ∷ []) p ≡ true
    by true h = h
    by false h =
        list_any-append (bytes_eq p) known (p ∷ [])
        ∙ ap (λ b. is_listed known p || (b || false)) ((bytes_decides p p).1 refl) ∙ or-true (is_listed known p)

is_listed-kept_all : (known ps : List (List ℕ)) (q : List ℕ) → is_listed known q ≡ true
    → is_listed (with_paths known ps) q ≡ true
is_listed-kept_all known [] q h = h
is_listed-kept_all known (p ∷ ps) q h = is_listed-kept_all (with_path known p) ps q (is_listed-kept known p q h)

pub all_listed-kept : (known ps qs : List (List ℕ)) → all_listed known qs ≡ true → all_listed (with_paths known ps) qs
    ≡ true
all_listed-kept known ps [] h = refl
all_listed-kept known ps (q ∷ qs) h =
    let parts = and_parts (is_listed known q) (all_listed known qs) h in
    both-true (is_listed (with_paths known ps) q) (all_listed (with_paths known ps) qs)
    (is_listed-kept_all known ps q parts.0) (all_listed-kept known ps qs parts.1)

pub all_listed-added : (known ps : List (List ℕ)) → all_listed (with_paths known ps) ps ≡ true
all_listed-added known [] = refl
all_listed-added known (p ∷ ps) =
    both-true (is_listed (with_paths (with_path known p) ps) p) (all_listed (with_paths (with_path known p) ps) ps)
    (is_listed-kept_all (with_path known p) ps p (is_listed-added known p))
    (all_listed-added (with_path known p) ps)

-- both of two lists are listed where their join is
pub all_listed-append : (known ps qs : List (List ℕ)) → all_listed known (ps ++ qs)
    ≡ (all_listed known ps && all_listed known qs)
all_listed-append known [] qs = refl
all_listed-append known (p ∷ ps) qs =
    ap (λ b. is_listed known p && b) (all_listed-append known ps qs)
    ∙ sym (and-assoc (is_listed known p) (all_listed known ps) (all_listed known qs))
  where
    and-assoc : (a b c : Bool) → ((a && b) && c) ≡ (a && (b && c))
    and-assoc true b c = refl
    and-assoc false b c = refl

-- A text's columns have all signals that the text reads. With `all_listed-append` (`listed-parts`) it goes down to each
-- item, sequence and
-- expression, as no fault of a whole does by `no_faults-parts`.
pub columns-all : (s : Scope) (items : List ItemForm) → IsTrue (all_listed (columns_of s items) (file_signals s items))
columns-all s items = all_listed-added [] (file_signals s items)

pub listed-parts : (known ps qs : List (List ℕ)) → IsTrue (all_listed known (ps ++ qs)) → IsTrue (all_listed known ps)
    × IsTrue (all_listed known qs)
listed-parts known ps qs h =
    and_parts (all_listed known ps) (all_listed known qs) (sym (all_listed-append known ps qs) ∙ h)

-- a path that is listed has a place
place-below : (cs : List (List ℕ)) (p : List ℕ) → is_listed cs p ≡ true → position_or_len (bytes_eq p) cs < length cs
place-below [] p h = absurd cc
place-below (c ∷ cs) p h = by (bytes_eq p c) h (λ k. place-below cs p k)
  where
    by : (b : Bool) → (b || is_listed cs p) ≡ true
        → (is_listed cs p ≡ true → position_or_len (bytes_eq p) cs < length cs)
        → cond (not b) (1 + position_or_len (bytes_eq p) cs) 0 < length (c ∷ cs)
    by true e rest = omega arith
    by false e rest = let k = rest e in omega (arith, k)

below-true : (a b : ℕ) → a < b → nat_lt a b ≡ true
below-true a b h = grind (arith, nat_tests)

pub column-there : (cs : List (List ℕ)) (p : List ℕ) → is_listed cs p ≡ true → column_of cs p ≡ None → ⊥
column-there cs p h none =
    let e : nat_lt (position_or_len (bytes_eq p) cs) (length cs) ≡ true =
    below-true (position_or_len (bytes_eq p) cs) (length cs) (place-below cs p h) in
    let some : column_of cs p ≡ Some (position_or_len (bytes_eq p) cs) =
    ap (λ b. cond b (Some (position_or_len (bytes_eq p) cs)) None) e in
    absurd cc
