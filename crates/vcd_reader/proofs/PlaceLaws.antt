-- First places of texts, and their table.
use Rattle.std.proofs.Common.{◌≡◌, ℕ, suc, ◌+◌, ◌^◌, ◌<◌, Bool, true, false, cond, List, [], ◌∷◌, ◌++◌, length, get_or}
use Rattle.std.proofs.Common.{take, map, Option, Some, None, refl, sym, ap, ◌∙◌, arith, inl, inr}
use Rattle.std.specs.Prelude.{is_some, nat_eq}
use Rattle.std.specs.Option.{option_map}
use Rattle.std.specs.HashMap as table
use Rattle.std.specs.Str.{bytes_eq}
use Rattle.std.proofs.lemmas.Slice.Eq.{bytes_eq-Decides}
use Rattle.vcd_reader.specs.declared.places.Places.{Places}
use Rattle.std.proofs.lemmas.List.{get_or-map, get_or_default, get_or_append_left, length-map, length-append}
use Rattle.std.proofs.lemmas.List.{map-append, take_more}
use Rattle.std.proofs.Math.Seq.{get_or-append_seam}
use Rattle.std.proofs.lemmas.Bool.{eq-eqb, cases_lt}
use Rattle.std.specs.Prelude.{slice_index}
use Rattle.vcd_reader.specs.declared.places.Part.{Part}
use Rattle.vcd_reader.specs.declared.places.Part.TheVariants.{Path, Code}
use Rattle.vcd_reader.specs.declared.scope.Scope.{Scope}
use Rattle.vcd_reader.specs.declared.variable.Variable.{Variable}
use Rattle.vcd_reader.specs.Variables.{path_of, place_of}
use Rattle.vcd_reader.specs.Keys.{key_of}
use Rattle.vcd_reader.specs.Scopes.{open_scopes}
use Rattle.vcd_reader.specs.Index.{place_in, own_in, text_in, texts_in, IsIndex}
use Rattle.vcd_reader.proofs.ScopeLaws.{opened-top}

at-cons : (t : List ℕ) (ts : List (List ℕ)) (text : List ℕ) (n : ℕ) (same : Bool) → (same ≡ true → t ≡ text)
    → (o : Option ℕ) → ((m : ℕ) → o ≡ Some m → (m < length ts) × (get_or ts m [] ≡ text))
    → cond same (Some 0) (option_map suc o) ≡ Some n → (n < length (t ∷ ts)) × (get_or (t ∷ ts) n [] ≡ text)
at-cons t ts text n true eq o rec e = let z : 0 ≡ n = cc in rw (← z) (omega arith, eq refl)
at-cons t ts text n false eq (Some m) rec e =
    let z : suc m ≡ n = cc in let r = rec m refl in rw (← z) (omega (arith, r.0), r.1)
at-cons t ts text n false eq None rec e = absurd cc

-- a text stands at its first place
pub place_of-at : (ts : List (List ℕ)) (text : List ℕ) (n : ℕ) → place_of ts text ≡ Some n → (n < length ts)
    × (get_or ts n [] ≡ text)
place_of-at [] text n e = absurd cc
place_of-at (t ∷ ts) text n e =
    at-cons t ts text n (bytes_eq t text) ((bytes_eq-Decides t text).0) (place_of ts text)
    (λ m h. place_of-at ts text m h) e

absent-at : (ts : List (List ℕ)) (p : Places) (text : List ℕ) → IsIndex ts p
    → is_some (table.get nat_eq p.hints (key_of text)) ≡ false → (o : Option ℕ) → place_of ts text ≡ o
    → place_of ts text ≡ None
absent-at ts p text index none None e = e
absent-at ts p text index none (Some n) e =
    let r = place_of-at ts text n e in
    let at : is_some (table.get nat_eq p.hints (key_of (get_or ts n []))) ≡ true = index.complete n r.0 in
    let some : is_some (table.get nat_eq p.hints (key_of text)) ≡ true = rw r.1 at at in
    absurd (cc (none, some))

pub absent : (ts : List (List ℕ)) (p : Places) (text : List ℕ) → IsIndex ts p
    → is_some (table.get nat_eq p.hints (key_of text)) ≡ false → None ≡ place_of ts text
absent ts p text index none = sym (absent-at ts p text index none (place_of ts text) refl)

pub known : (part : Part) (ss : List Scope) (vs : List Variable) (p : Places) (text : List ℕ) (i first : ℕ)
    (v : Variable) → IsIndex (texts_in part ss vs) p → i < length vs → first ≡ get_or p.firsts.items i first
    → v ≡ get_or vs i v → bytes_eq (text_in part ss v) text ≡ true → Some first ≡ place_of (texts_in part ss vs) text
known part ss vs p text i first v index lt at is same =
    let e : text_in part ss v ≡ text = (bytes_eq-Decides (text_in part ss v) text).0 same in
    let long : i < length (texts_in part ss vs) = rw length-map lt in
    let item : get_or (texts_in part ss vs) i [] ≡ text =
    get_or-map (text_in part ss) vs i v [] lt ∙ ap (text_in part ss) (sym is) ∙ e in
    ap (λ (n : ℕ). Some n)
    (at ∙ get_or_default p.firsts.items i first 0
    (let long_of : length (texts_in part ss vs) ≡ length vs = rw length-map refl in
    let short : length p.firsts.items ≡ length vs = index.long ∙ long_of in omega arith)) ∙ index.first i long
    ∙ ap (place_of (texts_in part ss vs)) item

kept-cons : (t x : List ℕ) (ts us : List (List ℕ)) (same : Bool) (o p : Option ℕ) (n : ℕ)
    → ((m : ℕ) → o ≡ Some m → p ≡ Some m) → cond same (Some 0) (option_map suc o) ≡ Some n
    → cond same (Some 0) (option_map suc p) ≡ Some n
kept-cons t x ts us true o p n rec e = e
kept-cons t x ts us false (Some m) p n rec e = rw (rec m refl) e
kept-cons t x ts us false None p n rec e = absurd cc

-- a place stays when more texts follow
place-kept : (ts us : List (List ℕ)) (x : List ℕ) (n : ℕ) → place_of ts x ≡ Some n → place_of (ts ++ us) x ≡ Some n
place-kept [] us x n e = absurd cc
place-kept (t ∷ ts) us x n e =
    kept-cons t x ts us (bytes_eq t x) (place_of ts x) (place_of (ts ++ us) x) n (λ m h. place-kept ts us x m h) e

new-cons : (t : List ℕ) (same : Bool) (o p : Option ℕ) (n : ℕ) → (o ≡ None → p ≡ Some n)
    → cond same (Some 0) (option_map suc o) ≡ None → cond same (Some 0) (option_map suc p) ≡ Some (suc n)
new-cons t true o p n rec e = absurd cc
new-cons t false None p n rec e = rw (rec refl) refl
new-cons t false (Some m) p n rec e = absurd cc

-- a new text stands at the end
place-new : (ts : List (List ℕ)) (x : List ℕ) → place_of ts x ≡ None → place_of (ts ++ x ∷ []) x ≡ Some (length ts)
place-new [] x e = let same : bytes_eq x x ≡ true = (bytes_eq-Decides x x).1 refl in rw same refl
place-new (t ∷ ts) x e =
    new-cons t (bytes_eq t x) (place_of ts x) (place_of (ts ++ x ∷ []) x) (length ts) (λ h. place-new ts x h) e

pub place-known : (ts : List (List ℕ)) (t : List ℕ) (n : ℕ) → Some n ≡ place_of ts t
    → Some n ≡ place_of (ts ++ t ∷ []) t
place-known ts t n e = sym (place-kept ts (t ∷ []) t n (sym e))

pub place-fresh : (ts : List (List ℕ)) (t : List ℕ) (n : ℕ) → None ≡ place_of ts t → n ≡ length ts
    → Some n ≡ place_of (ts ++ t ∷ []) t
place-fresh ts t n e is = rw is (sym (place-new ts t (sym e)))

pub texts-more : (part : Part) (ss : List Scope) (vs : List Variable) (i : ℕ) (v : Variable) → i < length vs
    → v ≡ get_or vs i v → texts_in part ss (take (i + 1) vs) ≡ texts_in part ss (take i vs) ++ text_in part ss v ∷ []
texts-more part ss vs i v lt is =
    ap (map (text_in part ss)) (take_more vs i v lt ∙ ap (λ (x : Variable). take i vs ++ x ∷ []) (sym is))
    ∙ map-append (text_in part ss) (take i vs) (v ∷ [])

some-cond : (b : Bool) (n : ℕ) (o : Option ℕ) → is_some o ≡ true → is_some (cond b (Some n) o) ≡ true
some-cond true n o h = refl
some-cond false n o h = h

-- one more text
module _ (ts : List (List ℕ)) (t : List ℕ) (p q : Places) (first key place : ℕ) (index : IsIndex ts p)
    (room : length ts < 2 ^ 32) (items : q.firsts.items ≡ p.firsts.items ++ first ∷ [])
    (here : Some first ≡ place_of (ts ++ t ∷ []) t)
    (is_key : key ≡ key_of t)
    (hints : (k : ℕ) → table.get nat_eq q.hints k ≡ cond (nat_eq key k) (Some place) (table.get nat_eq p.hints k))
  where
    one-more : length (ts ++ t ∷ []) ≡ length ts + 1
    one-more = length-append ts (t ∷ [])

    firsts-more : length (p.firsts.items ++ first ∷ []) ≡ length p.firsts.items + 1
    firsts-more = length-append p.firsts.items (first ∷ [])

    first-at : (i : ℕ) → i < length (ts ++ t ∷ []) → Some (slice_index q.firsts.items i)
        ≡ place_of (ts ++ t ∷ []) (get_or (ts ++ t ∷ []) i [])
    first-at i lt = elim (cases_lt i (length ts)) [
      | inl less ↦
          let a : get_or (ts ++ t ∷ []) i [] ≡ get_or ts i [] = get_or_append_left ts (t ∷ []) [] i less in
          let b : get_or (p.firsts.items ++ first ∷ []) i 0 ≡ get_or p.firsts.items i 0 =
          get_or_append_left p.firsts.items (first ∷ []) 0 i (omega (arith, index.long)) in
          rw (items, a, b)
          (sym (place-kept ts (t ∷ []) (get_or ts i []) (get_or p.firsts.items i 0) (sym (index.first i less))))
      | inr more ↦
          let at : i ≡ length ts = omega (arith, one-more) in
          let a : get_or (ts ++ t ∷ []) (length ts) [] ≡ t = get_or-append_seam ts t [] [] in
          let b : get_or (p.firsts.items ++ first ∷ []) (length ts) 0 ≡ first =
          ap (λ (n : ℕ). get_or (p.firsts.items ++ first ∷ []) n 0) (sym index.long)
          ∙ get_or-append_seam p.firsts.items first [] 0 in
          rw (items, at, a, b) here
    ]

    complete-at : (i : ℕ) → i < length (ts ++ t ∷ [])
        → is_some (table.get nat_eq q.hints (key_of (get_or (ts ++ t ∷ []) i []))) ≡ true
    complete-at i lt = rw hints (elim (cases_lt i (length ts)) [
      | inl less ↦
          let a : get_or (ts ++ t ∷ []) i [] ≡ get_or ts i [] = get_or_append_left ts (t ∷ []) [] i less in
          rw a (some-cond (nat_eq key (key_of (get_or ts i []))) place
          (table.get nat_eq p.hints (key_of (get_or ts i []))) (index.complete i less))
      | inr more ↦
          let at : i ≡ length ts = omega (arith, one-more) in
          let a : get_or (ts ++ t ∷ []) (length ts) [] ≡ t = get_or-append_seam ts t [] [] in
          let k : nat_eq key (key_of t) ≡ true = eq-eqb key (key_of t) is_key in
          rw (at, a, k) refl
    ])

    pub index-more : IsIndex (ts ++ t ∷ []) q
    index-more =
        record {
          fits = omega (arith, one-more);
          long = rw items (omega (arith, one-more, firsts-more, index.long));
          first = first-at;
          complete = complete-at;
        }

pub inside : (part : Part) (ss : List Scope) (vs : List Variable) (text : List ℕ) (n : ℕ)
    → Some n ≡ place_of (texts_in part ss vs) text → n < length vs
inside part ss vs text n e =
    let long : length (texts_in part ss vs) ≡ length vs = rw length-map refl in
    let r = place_of-at (texts_in part ss vs) text n (sym e) in omega (arith, r.0)

-- a text from its own part
pub text-parts : (part : Part) (ss : List Scope) (v : Variable)
    → path_of (open_scopes ss (place_in part v)) (own_in part v) ≡ text_in part ss v
text-parts Path ss v = refl
text-parts Code ss v = ap (λ (xs : List (List ℕ)). path_of xs v.code.items) (opened-top ss)
