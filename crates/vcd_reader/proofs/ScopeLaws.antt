-- Scopes in memory.
use Rattle.std.proofs.Common.{◌≡◌, ℕ, suc, ◌+◌, ◌-◌, ◌*◌, ◌%◌, ◌^◌, ◌<◌, ◌≤◌, Bool, true, false, List, [], ◌∷◌, ◌++◌}
use Rattle.std.proofs.Common.{length, get_or, take, drop, eqb, append_assoc, add-one, refl, sym, ap, ◌∙◌, subst, arith}
use Rattle.std.proofs.Common.{◌⊎◌, inl, inr}
use Rattle.std.specs.List.{flat_map}
use Rattle.std.specs.Str.{bytes_eq}
use Rattle.std.proofs.lemmas.Bool.{cases_lt}
use Rattle.std.proofs.lemmas.Bool.Decides.{eqb_tells}
use Rattle.std.proofs.lemmas.List.{append-nil, append_cancel_left, append_cancel_right, length-append}
use Rattle.std.proofs.lemmas.List.{get_or_append_left, take_at, drop_at, take-append-drop, take_more}
use Rattle.std.proofs.lemmas.List.{get_or-reverse, length-reverse}
use Rattle.std.specs.Prelude.{reverse}
use Rattle.std.proofs.lemmas.Grind.{flat_map-append}
use Rattle.std.proofs.lemmas.Slice.Eq.{bytes_eq-Decides}
use Rattle.std.proofs.Math.Seq.{get_or-append_seam, drop-cons}
use Rattle.std.proofs.Math.ListN.{get_or-eq_default}
use Rattle.vcd_reader.specs.declared.scope.Scope.{Scope}
use Rattle.vcd_reader.specs.Header.{outer_scopes}
use Rattle.vcd_reader.specs.Keys.{key_from, key_of}
use Rattle.vcd_reader.specs.Scopes.{name_in, open_scopes_from, open_scopes, front_of, IsNode, IsTree}

opened_from-append : (known : List (List (List ℕ))) (ss ts : List Scope) → open_scopes_from known (ss ++ ts)
    ≡ open_scopes_from (open_scopes_from known ss) ts
unfolding open_scopes_from
opened_from-append known [] ts = refl
opened_from-append known (s ∷ ss) ts =
    opened_from-append (known ++ (get_or known s.parent [] ++ name_in s ∷ []) ∷ []) ss ts

length-opened_from : (known : List (List (List ℕ))) (ss : List Scope) → length (open_scopes_from known ss)
    ≡ length known + length ss
unfolding open_scopes_from
length-opened_from known [] = omega arith
length-opened_from known (s ∷ ss) =
    let one : length (known ++ (get_or known s.parent [] ++ name_in s ∷ []) ∷ []) ≡ length known + 1 =
    length-append known ((get_or known s.parent [] ++ name_in s ∷ []) ∷ []) in
    let rest = length-opened_from (known ++ (get_or known s.parent [] ++ name_in s ∷ []) ∷ []) ss in
    omega (arith, one, rest)

kept_from : (known : List (List (List ℕ))) (ss : List Scope) (i : ℕ) → i < length known
    → get_or (open_scopes_from known ss) i [] ≡ get_or known i []
unfolding open_scopes_from
kept_from known [] i lt = refl
kept_from known (s ∷ ss) i lt =
    let one : length (known ++ (get_or known s.parent [] ++ name_in s ∷ []) ∷ []) ≡ length known + 1 =
    length-append known ((get_or known s.parent [] ++ name_in s ∷ []) ∷ []) in
    kept_from (known ++ (get_or known s.parent [] ++ name_in s ∷ []) ∷ []) ss i (omega (arith, one))
    ∙ get_or_append_left known ((get_or known s.parent [] ++ name_in s ∷ []) ∷ []) [] i lt

pub opened-top : (ss : List Scope) → open_scopes ss 0 ≡ []
unfolding open_scopes
opened-top ss = kept_from ([] ∷ []) ss 0 (omega arith)

pub opened-outside : (ss : List Scope) (place : ℕ) → length ss < place → open_scopes ss place ≡ []
unfolding open_scopes
opened-outside ss place lt =
    get_or-eq_default (open_scopes_from ([] ∷ []) ss) [] (omega (arith, length-opened_from ([] ∷ []) ss))

-- what is open at a place stays so when more scopes follow
pub opened-kept : (ss more : List Scope) (place : ℕ) → place ≤ length ss → open_scopes (ss ++ more) place
    ≡ open_scopes ss place
unfolding open_scopes
opened-kept ss more place le =
    rw (opened_from-append ([] ∷ []) ss more)
    (kept_from (open_scopes_from ([] ∷ []) ss) more place (omega (arith, length-opened_from ([] ∷ []) ss)))

pub opened-new : (ss : List Scope) (s : Scope) → open_scopes (ss ++ s ∷ []) (suc (length ss)) ≡ open_scopes ss s.parent
    ++ name_in s ∷ []
unfolding open_scopes open_scopes_from
opened-new ss s =
    let table = open_scopes_from ([] ∷ []) ss in
    let long : length table ≡ suc (length ss) = omega (arith, length-opened_from ([] ∷ []) ss) in
    rw (opened_from-append ([] ∷ []) ss (s ∷ []))
    (ap (λ (n : ℕ). get_or (table ++ (get_or table s.parent [] ++ name_in s ∷ []) ∷ []) n []) (sym long)
    ∙ get_or-append_seam table (get_or table s.parent [] ++ name_in s ∷ []) [] [])

abbrev dotted : List ℕ → List ℕ
dotted s = s ++ 46 ∷ []

node-kept : (ss more : List Scope) (place : ℕ) (s : Scope) → place ≤ length ss → IsNode ss place s
    → IsNode (ss ++ more) place s
node-kept ss more place s le n =
    let here = opened-kept ss more place le in
    let outside = opened-kept ss more s.parent (omega (arith, n.below)) in
    let first = opened-kept ss more s.first (omega (arith, n.lower)) in
    record {
      below = n.below;
      opens = here ∙ n.opens ∙ ap (λ (xs : List (List ℕ)). xs ++ name_in s ∷ []) (sym outside);
      keyed = n.keyed ∙ ap (λ (xs : List (List ℕ)). key_of (flat_map dotted xs)) (sym here);
      lower = n.lower;
      same =
          ap (λ (xs : List (List ℕ)). flat_map dotted xs) first ∙ n.same
          ∙ ap (λ (xs : List (List ℕ)). flat_map dotted xs) (sym here);
    }

pub tree-none : IsTree []
tree-none = record { node = λ i s lt is. absurd (omega arith) }

pub tree-more : (ss : List Scope) (s : Scope) → IsTree ss → IsNode (ss ++ s ∷ []) (suc (length ss)) s
    → IsTree (ss ++ s ∷ [])
tree-more ss s tree new = record {
  node = λ i t lt is. elim (cases_lt i (length ss)) [
    | inl less ↦ node-kept ss (s ∷ []) (suc i) t (omega arith)
        (tree.node i t less (is ∙ get_or_append_left ss (s ∷ []) t i less))
    | inr more ↦
        let one : length (ss ++ s ∷ []) ≡ length ss + 1 = length-append ss (s ∷ []) in
        let at : i ≡ length ss = omega (arith, one) in
        let same : t ≡ s = is ∙ ap (λ (n : ℕ). get_or (ss ++ s ∷ []) n t) at ∙ get_or-append_seam ss s [] t in
        subst (λ (x : Scope). IsNode (ss ++ s ∷ []) (suc i) x) (sym same)
        (subst (λ (n : ℕ). IsNode (ss ++ s ∷ []) (suc n) s) (sym at) new)
  ];
}

-- the front inside a scope
pub front-in : (ss : List Scope) (place : ℕ) (s : Scope) → s.front.items ≡ dotted (name_in s) → IsNode ss place s
    → front_of ss place ≡ front_of ss s.parent ++ s.front.items
front-in ss place s dot n =
    ap (flat_map dotted) n.opens ∙ flat_map-append dotted (open_scopes ss s.parent) (name_in s ∷ [])
    ∙ ap (λ (xs : List ℕ). front_of ss s.parent ++ xs) (append-nil (dotted (name_in s)) ∙ sym dot)

-- the scopes around a place
pub outer-more : (xs : List (List ℕ)) (x : List ℕ) → outer_scopes (xs ++ x ∷ []) ≡ xs
outer-more xs x =
    let one : length (xs ++ x ∷ []) ≡ length xs + 1 = length-append xs (x ∷ []) in
    take_at xs (x ∷ []) (length (xs ++ x ∷ []) - 1) (omega arith)

pub key-behind : (n : ℕ) (xs ys : List ℕ) → key_from n (xs ++ ys) ≡ key_from (key_from n xs) ys
unfolding key_from
key-behind n [] ys = refl
key-behind n (x ∷ xs) ys = key-behind ((n * 1099511628211 % 2 ^ 64 + x) % 2 ^ 64) xs ys

-- tests of two texts that say the same
both : (a b c d : List ℕ) → (a ≡ b → c ≡ d) → (c ≡ d → a ≡ b) → (s t : Bool) → bytes_eq a b ≡ s → bytes_eq c d ≡ t
    → s ≡ t
both a b c d f g true true p q = refl
both a b c d f g false false p q = refl
both a b c d f g true false p q =
    let e = (bytes_eq-Decides c d).1 (f ((bytes_eq-Decides a b).0 p)) in absurd (cc (q, e))
both a b c d f g false true p q =
    let e = (bytes_eq-Decides a b).1 (g ((bytes_eq-Decides c d).0 q)) in absurd (cc (p, e))

same-tests : (a b c d : List ℕ) → (a ≡ b → c ≡ d) → (c ≡ d → a ≡ b) → bytes_eq a b ≡ bytes_eq c d
same-tests a b c d f g = both a b c d f g (bytes_eq a b) (bytes_eq c d) refl refl

no-test : (a b : List ℕ) → (t : Bool) → bytes_eq a b ≡ t → (a ≡ b → true ≡ false) → t ≡ false
no-test a b false e never = refl
no-test a b true e never = never ((bytes_eq-Decides a b).0 e)

-- fronts that are one text
pub same-front : (xs ys s t : List ℕ) → xs ≡ ys → bytes_eq (xs ++ s) (ys ++ t) ≡ bytes_eq s t
same-front xs ys s t e =
    same-tests (xs ++ s) (ys ++ t) s t (λ h. append_cancel_left xs s t (h ∙ ap (λ (zs : List ℕ). zs ++ t) (sym e)))
    (λ h. ap (λ (zs : List ℕ). zs ++ s) e ∙ ap (λ (zs : List ℕ). ys ++ zs) h)

-- the same end on both sides
pub same-end : (xs ys s t u v : List ℕ) → u ≡ v → bytes_eq (xs ++ (s ++ u)) (ys ++ (t ++ v))
    ≡ bytes_eq (xs ++ s) (ys ++ t)
same-end xs ys s t u v e = same-tests (xs ++ (s ++ u)) (ys ++ (t ++ v)) (xs ++ s) (ys ++ t)
    (λ h. append_cancel_right (xs ++ s) (ys ++ t) u (append_assoc xs s u ∙ h ∙ sym (append_assoc ys t v)
    ∙ ap (λ (zs : List ℕ). (ys ++ t) ++ zs) (sym e)))
    (λ h. sym (append_assoc xs s u) ∙ ap (λ (zs : List ℕ). zs ++ u) h ∙ ap (λ (zs : List ℕ). (ys ++ t) ++ zs) e
    ∙ append_assoc ys t v)

last-part : (xs ys u v : List ℕ) → length u ≡ length v → xs ++ u ≡ ys ++ v → u ≡ v
last-part xs ys u v long e =
    let a : length (xs ++ u) ≡ length xs + length u = length-append xs u in
    let b : length (ys ++ v) ≡ length ys + length v = length-append ys v in
    let c : length (xs ++ u) ≡ length (ys ++ v) = ap (λ (zs : List ℕ). length zs) e in
    let d : length ys ≡ length xs = omega arith in
    sym (drop_at xs u (length xs) refl) ∙ ap (λ (zs : List ℕ). drop (length xs) zs) e ∙ drop_at ys v (length xs) d

-- ends of one length that differ
pub other-end : (xs ys s t u v : List ℕ) → length u ≡ length v → bytes_eq u v ≡ false
    → bytes_eq (xs ++ (s ++ u)) (ys ++ (t ++ v)) ≡ false
other-end xs ys s t u v long e =
    no-test (xs ++ (s ++ u)) (ys ++ (t ++ v)) (bytes_eq (xs ++ (s ++ u)) (ys ++ (t ++ v))) refl
    (λ h. let same : u ≡ v =
    last-part (xs ++ s) (ys ++ t) u v long (append_assoc xs s u ∙ h ∙ sym (append_assoc ys t v)) in
    let yes : bytes_eq u v ≡ true = (bytes_eq-Decides u v).1 same in cc (yes, e))

pub common-same : (xs ys a b : List ℕ) (m n : ℕ) → bytes_eq (drop m a) (drop n b) ≡ true → bytes_eq (xs ++ a) (ys ++ b)
    ≡ bytes_eq (xs ++ take m a) (ys ++ take n b)
common-same xs ys a b m n e =
    ap (λ (zs : List ℕ). bytes_eq (xs ++ zs) (ys ++ b)) (sym (take-append-drop m a))
    ∙ ap (λ (zs : List ℕ). bytes_eq (xs ++ (take m a ++ drop m a)) (ys ++ zs)) (sym (take-append-drop n b))
    ∙ same-end xs ys (take m a) (take n b) (drop m a) (drop n b) ((bytes_eq-Decides (drop m a) (drop n b)).0 e)

pub common-none : (xs ys a b : List ℕ) (m n : ℕ) → length (drop m a) ≡ length (drop n b)
    → bytes_eq (drop m a) (drop n b) ≡ false → bytes_eq (xs ++ a) (ys ++ b) ≡ false
common-none xs ys a b m n long e =
    ap (λ (zs : List ℕ). bytes_eq (xs ++ zs) (ys ++ b)) (sym (take-append-drop m a))
    ∙ ap (λ (zs : List ℕ). bytes_eq (xs ++ (take m a ++ drop m a)) (ys ++ zs)) (sym (take-append-drop n b))
    ∙ other-end xs ys (take m a) (take n b) (drop m a) (drop n b) long e

nil-front : (xs ys : List ℕ) → xs ++ ys ≡ [] → xs ≡ []
nil-front [] ys e = refl
nil-front (x ∷ xs) ys e = absurd cc

-- a front inside a scope is not empty
pub front-some : (ss : List Scope) (place : ℕ) (s : Scope) → s.front.items ≡ dotted (name_in s) → IsNode ss place s
    → front_of ss place ≡ [] → ⊥
front-some ss place s dot n e =
    let whole : front_of ss s.parent ++ s.front.items ≡ [] = sym (front-in ss place s dot n) ∙ e in
    let a : length (front_of ss s.parent ++ s.front.items) ≡ length (front_of ss s.parent) + length s.front.items =
    length-append (front_of ss s.parent) s.front.items in
    let b : length s.front.items ≡ length (name_in s) + 1 =
    ap (λ (xs : List ℕ). length xs) dot ∙ length-append (name_in s) (46 ∷ []) in
    let c : length (front_of ss s.parent ++ s.front.items) ≡ 0 = ap (λ (xs : List ℕ). length xs) whole in
    omega arith

-- a name of which nothing is left, in a scope
pub expand : (ss : List Scope) (place : ℕ) (s : Scope) (rest : List ℕ) → rest ≡ [] → s.front.items ≡ dotted (name_in s)
    → IsNode ss place s → front_of ss place ++ rest ≡ front_of ss s.parent ++ s.front.items
expand ss place s rest none dot n =
    ap (λ (xs : List ℕ). front_of ss place ++ xs) none ∙ append-nil (front_of ss place) ∙ front-in ss place s dot n

-- a path of which nothing is left, and one in a scope
pub no-left : (ss : List Scope) (left_at right_at left_first right_first : ℕ) (left right : List ℕ)
    → open_scopes ss left_at ≡ [] → left ≡ [] → (front_of ss left_at ≡ [] → left_first ≡ 0)
    → (front_of ss right_at ≡ [] → right_first ≡ 0)
    → (left_first ≡ right_first → ⊥) → bytes_eq (front_of ss left_at ++ left) (front_of ss right_at ++ right) ≡ false
no-left ss left_at right_at left_first right_first left right top none f g differ =
    no-test (front_of ss left_at ++ left) (front_of ss right_at ++ right)
    (bytes_eq (front_of ss left_at ++ left) (front_of ss right_at ++ right)) refl
    (λ h.
    let nil : front_of ss left_at ≡ [] = ap (flat_map dotted) top in
    let whole : front_of ss right_at ++ right ≡ [] = sym h ∙ ap (λ (xs : List ℕ). xs ++ left) nil ∙ none in
    absurd (differ (f nil ∙ sym (g (nil-front (front_of ss right_at) right whole)))))

pub no-right : (ss : List Scope) (left_at right_at left_first right_first : ℕ) (left right : List ℕ)
    → open_scopes ss right_at ≡ [] → right ≡ [] → (front_of ss left_at ≡ [] → left_first ≡ 0)
    → (front_of ss right_at ≡ [] → right_first ≡ 0)
    → (left_first ≡ right_first → ⊥) → bytes_eq (front_of ss left_at ++ left) (front_of ss right_at ++ right) ≡ false
no-right ss left_at right_at left_first right_first left right top none f g differ =
    no-test (front_of ss left_at ++ left) (front_of ss right_at ++ right)
    (bytes_eq (front_of ss left_at ++ left) (front_of ss right_at ++ right)) refl
    (λ h.
    let nil : front_of ss right_at ≡ [] = ap (flat_map dotted) top in
    let whole : front_of ss left_at ++ left ≡ [] = h ∙ ap (λ (xs : List ℕ). xs ++ right) nil ∙ none in
    absurd (differ (f (nil-front (front_of ss left_at) left whole) ∙ sym (g nil))))

length-none : (xs : List ℕ) → length xs ≡ 0 → xs ≡ []
length-none [] e = refl
length-none (x ∷ xs) e = absurd (omega arith)

-- what a test for emptiness says
pub empty-is : (xs : List ℕ) → true ≡ eqb (length xs) 0 → xs ≡ []
empty-is xs e = elim (eqb_tells (length xs) 0) [ inl p ↦ length-none xs p.1 | inr p ↦ absurd (let q = p.0 in cc) ]

pub empty-not : (xs : List ℕ) → false ≡ eqb (length xs) 0 → xs ≡ [] → ⊥
empty-not [] e h = cc
empty-not (x ∷ xs) e h = cc

pub key_from-step : (n : ℕ) (ds : List ℕ) (i : ℕ) → i < length ds → key_from n (drop i ds)
    ≡ key_from ((n * 1099511628211 % 2 ^ 64 + get_or ds i 0) % 2 ^ 64) (drop (i + 1) ds)
unfolding key_from
key_from-step n ds i lt = rw (drop-cons ds i 0 lt, add-one) refl

-- the key where no scope is open
pub key-top : (ss : List Scope) (place : ℕ) → open_scopes ss place ≡ [] → 0 ≡ key_of (front_of ss place)
unfolding key_from
key-top ss place top = ap (λ (xs : List (List ℕ)). key_of (flat_map dotted xs)) (sym top)

-- the name before the dot
pub name-dotted : (front name : List ℕ) → front ≡ name ++ 46 ∷ [] → take (length front - 1) front ≡ name
name-dotted front name e =
    let long : length front ≡ length name + 1 = ap (λ (xs : List ℕ). length xs) e ∙ length-append name (46 ∷ []) in
    ap (λ (xs : List ℕ). take (length front - 1) xs) e ∙ take_at name (46 ∷ []) (length front - 1) (omega arith)

pub dotted-again : (front name : List ℕ) → front ≡ name ++ 46 ∷ [] → front ≡ take (length front - 1) front ++ 46 ∷ []
dotted-again front name e = e ∙ ap (λ (xs : List ℕ). xs ++ 46 ∷ []) (sym (name-dotted front name e))

front-new : (ss : List Scope) (s : Scope) → s.parent ≤ length ss → s.front.items ≡ dotted (name_in s)
    → front_of (ss ++ s ∷ []) (suc (length ss)) ≡ front_of ss s.parent ++ s.front.items
front-new ss s le dot =
    ap (flat_map dotted) (opened-new ss s) ∙ flat_map-append dotted (open_scopes ss s.parent) (name_in s ∷ [])
    ∙ ap (λ (xs : List ℕ). front_of ss s.parent ++ xs) (append-nil (dotted (name_in s)) ∙ sym dot)

same-new : (ss : List Scope) (s : Scope) → s.parent ≤ length ss → s.front.items ≡ dotted (name_in s)
    → (s.first ≡ suc (length ss))
    ⊎ ((s.first ≤ length ss) × (front_of ss s.first ≡ front_of ss s.parent ++ s.front.items))
    → (s.first ≤ suc (length ss)) × (front_of (ss ++ s ∷ []) s.first ≡ front_of (ss ++ s ∷ []) (suc (length ss)))
same-new ss s le dot (inl e) = (omega arith, ap (front_of (ss ++ s ∷ [])) e)
same-new ss s le dot (inr p) = (
  omega (arith, p.0),
  ap (flat_map dotted) (opened-kept ss (s ∷ []) s.first p.0) ∙ p.1 ∙ sym (front-new ss s le dot),
)

-- one more scope
pub tree-new : (ss : List Scope) (s : Scope) → IsTree ss → s.parent ≤ length ss → s.front.items ≡ dotted (name_in s)
    → s.key ≡ key_from (key_of (front_of ss s.parent)) s.front.items
    → (s.first ≡ suc (length ss))
    ⊎ ((s.first ≤ length ss) × (front_of ss s.first ≡ front_of ss s.parent ++ s.front.items))
    → IsTree (ss ++ s ∷ [])
tree-new ss s tree le dot key first =
    let same = same-new ss s le dot first in
    tree-more ss s tree (record {
      below = omega arith;
      opens =
          opened-new ss s
          ∙ ap (λ (xs : List (List ℕ)). xs ++ name_in s ∷ []) (sym (opened-kept ss (s ∷ []) s.parent le));
      keyed = key ∙ sym (key-behind 0 (front_of ss s.parent) s.front.items) ∙ ap key_of (sym (front-new ss s le dot));
      lower = same.0;
      same = same.1;
    })

-- the place of the scope that a hint names
pub first-found : (ss : List Scope) (hint parent : ℕ) (s : Scope) (text front : List ℕ)
    → s.front.items ≡ dotted (name_in s) → IsNode ss hint s → hint ≤ length ss → text ≡ s.front.items
    → bytes_eq (front_of ss s.parent ++ text) (front_of ss parent ++ front) ≡ true
    → (s.first ≤ length ss) × (front_of ss s.first ≡ front_of ss parent ++ front)
first-found ss hint parent s text front dot n le is same = (
  omega (arith, n.lower),
  n.same ∙ front-in ss hint s dot n ∙ ap (λ (xs : List ℕ). front_of ss s.parent ++ xs) (sym is)
      ∙ (bytes_eq-Decides (front_of ss s.parent ++ text) (front_of ss parent ++ front)).0 same,
)

first-at : (ss : List Scope) (s : Scope) (last : ℕ) → last ≡ length ss → (s.first ≡ last + 1)
    ⊎ ((s.first ≤ length ss) × (front_of ss s.first ≡ front_of ss s.parent ++ s.front.items))
    → (s.first ≡ suc (length ss))
    ⊎ ((s.first ≤ length ss) × (front_of ss s.first ≡ front_of ss s.parent ++ s.front.items))
first-at ss s last long (inl e) = inl (omega arith)
first-at ss s last long (inr p) = inr p

pub tree-pushed : (ss new : List Scope) (s : Scope) (last : ℕ) → new ≡ ss ++ s ∷ [] → last ≡ length ss → IsTree ss
    → s.parent ≤ length ss → s.key ≡ key_from (key_of (front_of ss s.parent)) s.front.items
    → (s.first ≡ last + 1) ⊎ ((s.first ≤ length ss) × (front_of ss s.first ≡ front_of ss s.parent ++ s.front.items))
    → IsTree new
tree-pushed ss new s last is long tree le key first =
    subst (λ (xs : List Scope). IsTree xs) (sym is)
    (tree-new ss s tree le s.dotted key (first-at ss s last long first))

pub opened-pushed : (ss new : List Scope) (s : Scope) (last : ℕ) (name : List ℕ) → new ≡ ss ++ s ∷ [] → last ≡ length ss
    → name_in s ≡ name → open_scopes new (last + 1) ≡ open_scopes ss s.parent ++ name ∷ []
opened-pushed ss new s last name is long same =
    let at : last + 1 ≡ suc (length ss) = omega arith in
    ap (λ (xs : List Scope). open_scopes xs (last + 1)) is ∙ ap (open_scopes (ss ++ s ∷ [])) at ∙ opened-new ss s
    ∙ ap (λ (xs : List ℕ). open_scopes ss s.parent ++ xs ∷ []) same

-- one more byte of a text after a path, from the text's end
pub reversed-more : (start path new text : List ℕ) (i : ℕ) → i < length text → path ≡ start ++ take i (reverse text)
    → new ≡ path ++ get_or text (length text - 1 - i) 0 ∷ [] → new ≡ start ++ take (i + 1) (reverse text)
reversed-more start path new text i below before is =
    let fits : i < length (reverse text) = omega (arith, length-reverse text) in
    is ∙ ap (λ (l : List ℕ). l ++ get_or text (length text - 1 - i) 0 ∷ []) before
    ∙ append_assoc start (take i (reverse text)) (get_or text (length text - 1 - i) 0 ∷ [])
    ∙ ap (λ (l : List ℕ). start ++ l)
    (ap (λ (b : ℕ). take i (reverse text) ++ b ∷ []) (sym (get_or-reverse text i 0 below))
    ∙ sym (take_more (reverse text) i 0 fits))
