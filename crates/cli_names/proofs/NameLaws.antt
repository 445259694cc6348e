-- The names of a dump, along its variables.
use Rattle.std.proofs.Common.{◌≡◌, ◌⊎◌, ℕ, zero, suc, ◌<◌, ◌≤◌, Bool, true, false, cond, List, [], ◌∷◌, get_or}
use Rattle.std.proofs.Common.{Option, Some, None, refl, sym, ap, ◌∙◌, arith, inl, inr}
use Rattle.std.specs.Option.{option_map}
use Rattle.std.specs.Str.{bytes_eq}
use Rattle.std.proofs.lemmas.Bool.Decides.{eqb_tells}
use Rattle.std.proofs.lemmas.Slice.Eq.{bytes_eq-Decides}
use Rattle.vcd_reader.specs.Variables.{Declared, Named, place_of, paths_of, is_bindable, if_bindable, variable_named}
use Rattle.vcd_reader.specs.Variables.{is_place, names_from}
use Rattle.cli_names.specs.Names.{names_next}

-- a text's place among others
at-more : (b : Bool) (o : Option ℕ) (p : ℕ) → cond b (Some 0) (option_map suc o) ≡ Some p
    → ((b ≡ true) × (p ≡ 0)) ⊎ ((b ≡ false) × (q : ℕ) × (o ≡ Some q) × (p ≡ suc q))
at-more true o p e = inl (refl, (let h : p ≡ 0 = cc in h))
at-more false None p e = absurd cc
at-more false (Some q) p e = inr (refl, q, refl, (let h : p ≡ suc q = cc in h))

-- no earlier place has the text
earlier-other : (ts : List (List ℕ)) (text : List ℕ) (p k : ℕ) → place_of ts text ≡ Some p → k < p
    → get_or ts k [] ≡ text → ⊥
earlier-other [] text p k e lt is = cc
earlier-other (t ∷ ts) text p zero e lt is = elim (at-more (bytes_eq t text) (place_of ts text) p e) [
  | inl h ↦ (let z = h.1 in omega arith)
  | inr h ↦ (let same = (bytes_eq-Decides t text).1 is in let other = h.0 in cc)
]
earlier-other (t ∷ ts) text p (suc k) e lt is = elim (at-more (bytes_eq t text) (place_of ts text) p e) [
  | inl h ↦ (let z = h.1 in omega arith)
  | inr h ↦ (let more = h.3 in earlier-other ts text h.1 k h.2 (omega arith) is)
]

if-bound : (vs : List Declared) (o : Option ℕ) (p : ℕ) → if_bindable vs o ≡ Some p → o ≡ Some p
if-bound vs None p e = absurd cc
if-bound vs (Some v) p e = bound (is_bindable vs v) e
  where
    bound : (b : Bool) → cond b (Some v) None ≡ Some p → Some v ≡ Some p
    bound true h = h
    bound false h = absurd cc

named-place : (vs : List Declared) (path : List ℕ) (p : ℕ) → variable_named vs path ≡ Some p
    → place_of (paths_of vs) path ≡ Some p
unfolding variable_named
named-place vs path p e = if-bound vs (place_of (paths_of vs) path) p e

pub place-some : (k : ℕ) (o : Option ℕ) → is_place k o ≡ true → o ≡ Some k
place-some k None e = absurd cc
place-some k (Some n) e = elim (eqb_tells n k) [
  | inl h ↦ ap (λ (m : ℕ). Some m) h.1
  | inr h ↦ absurd (let other = h.0 in cc)
]

-- the first of later names is that of a later variable
record NamesLater (vs : List Declared) (k : ℕ) (path : List ℕ) : Type 0 where
  place : ℕ
  later : k ≤ place
  names : variable_named vs path ≡ Some place

later-if : (vs : List Declared) (k : ℕ) (w : Declared) (b : Bool) (ms : List Named) (n : Named) (ns : List Named)
    → is_place k (variable_named vs w.path) ≡ b
    → (ms ≡ n ∷ ns → NamesLater vs (suc k) n.path)
    → cond b (record { path = w.path; width = w.size } ∷ ms) ms ≡ n ∷ ns → NamesLater vs k n.path
later-if vs k w true ms n ns is more e =
    let path : n.path ≡ w.path =
    ap (λ (x : Named). x.path) (let h : n ≡ record { path = w.path; width = w.size } = cc in h) in
    record {
      place = k;
      later = omega arith;
      names = ap (variable_named vs) path ∙ place-some k (variable_named vs w.path) is;
    }
later-if vs k w false ms n ns is more e =
    let m = more e in record { place = m.place; later = (let l = m.later in omega arith); names = m.names }

names-later : (vs ws : List Declared) (k : ℕ) (n : Named) (ns : List Named) → names_from vs k ws ≡ n ∷ ns
    → NamesLater vs k n.path
unfolding names_from
names-later vs [] k n ns e = absurd cc
names-later vs (w ∷ ws) k n ns e =
    later-if vs k w (is_place k (variable_named vs w.path)) (names_from vs (suc k) ws) n ns refl
    (λ h. names-later vs ws (suc k) n ns h) e

-- no later name is that of the variable at an earlier place
other-next : (vs : List Declared) (k : ℕ) (path : List ℕ) (ns ms : List Named) → get_or (paths_of vs) k [] ≡ path
    → ns ≡ ms → ((n : Named) (rest : List Named) → ms ≡ n ∷ rest → NamesLater vs (suc k) n.path)
    → names_next ns path ≡ false
other-next vs k path [] ms at e later = refl
other-next vs k path (n ∷ ns) ms at e later = other (bytes_eq n.path path) refl
  where
    other : (b : Bool) → bytes_eq n.path path ≡ b → bytes_eq n.path path ≡ false
    other false h = h
    other true h =
        let l = later n ns (sym e) in
        let same : n.path ≡ path = (bytes_eq-Decides n.path path).0 h in
        let order = l.later in
        absurd (earlier-other (paths_of vs) n.path l.place k (named-place vs n.path l.place l.names) (omega arith)
        (at ∙ sym same))

next-if : (vs : List Declared) (k : ℕ) (v : Declared) (b : Bool) (ms : List Named) → get_or (paths_of vs) k [] ≡ v.path
    → ((n : Named) (rest : List Named) → ms ≡ n ∷ rest → NamesLater vs (suc k) n.path)
    → names_next (cond b (record { path = v.path; width = v.size } ∷ ms) ms) v.path ≡ b
next-if vs k v true ms at later = (bytes_eq-Decides v.path v.path).1 refl
next-if vs k v false ms at later = other-next vs k v.path ms ms at refl later

-- the next name is that of a variable exactly where its path names it
pub next-itself : (vs : List Declared) (k : ℕ) (v : Declared) (ws : List Declared)
    → get_or (paths_of vs) k [] ≡ v.path
    → names_next (names_from vs k (v ∷ ws)) v.path ≡ is_place k (variable_named vs v.path)
unfolding names_from
next-itself vs k v ws at =
    next-if vs k v (is_place k (variable_named vs v.path)) (names_from vs (suc k) ws) at
    (λ n rest e. names-later vs ws (suc k) n rest e)

-- the names after a variable
pub after-itself : (vs : List Declared) (k : ℕ) (v : Declared) (ws : List Declared)
    → names_from vs k (v ∷ ws)
    ≡ cond (is_place k (variable_named vs v.path)) (record { path = v.path; width = v.size } ∷ names_from vs (suc k) ws)
    (names_from vs (suc k) ws)
unfolding names_from
after-itself vs k v ws = refl
