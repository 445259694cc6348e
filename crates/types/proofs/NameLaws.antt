-- Names that are known.
use Rattle.std.proofs.Common.{◌≡◌, ℕ, List, [], ◌∷◌, ◌++◌, Bool, true, false, not, ◌||◌, cond, Option, Some, String}
use Rattle.std.proofs.Common.{string_bytes, Global, refl, sym, ap, ◌∙◌, ◌≤◌, ◌+◌, arith}
use Rattle.std.specs.Prelude.{bytes_eq, if◌then◌else◌}
use Rattle.std.specs.BTreeSet.{BTreeSet, Updates, contains_text}
use Rattle.std.specs.String.{string_cmp}
use Rattle.std.specs.Cmp.Lexicographic.{nat_list_eq_equiv}
use Rattle.std.proofs.lemmas.List.Folds.{list_any-append}
use Rattle.std.proofs.lemmas.Map.Text.{btree_set_updates_text}
use Rattle.types_names.specs.Faults.{earlier, least}
use Rattle.types_names.proofs.FaultLaws.{earlier-assoc}
use Rattle.types.specs.Texts.{is_among, repeated_names, assertions_after}
use Rattle.parser_grammar.specs.Trees.{ItemForm, counter, declaration, assertion}

pub not_is : (b c : Bool) → not b ≡ c → b ≡ not c
not_is true c h = ap not h
not_is false c h = ap not h

-- a name more is known
abbrev pub with_name : (List ℕ → Bool) → List ℕ → List ℕ → Bool
with_name known name q = cond (bytes_eq name q) true (known q)

-- what is repeated, by a test of what is known
abbrev pub repeated_by : (List ℕ → Bool) → List (List ℕ × ℕ) → List ℕ
repeated_by known [] = []
repeated_by known (n ∷ names) =
    if known n.0 then n.1 ∷ repeated_by known names else repeated_by (with_name known n.0) names

same_test : (f g : List ℕ → Bool) → ((q : List ℕ) → f q ≡ g q) → f ≡ g
same_test f g h = λ j q. h q j

or_else : (a b : Bool) → cond b true a ≡ a || (b || false)
or_else true true = refl
or_else true false = refl
or_else false true = refl
or_else false false = refl

with_last : (known : List (List ℕ)) (name q : List ℕ)
    → with_name (is_among known) name q ≡ is_among (known ++ name ∷ []) q
with_last known name q =
    or_else (is_among known q) (bytes_eq name q)
    ∙ ap (λ (b : Bool). is_among known q || (b || false)) (nat_list_eq_equiv.symm name q)
    ∙ sym (list_any-append (bytes_eq q) known (name ∷ []))

if_both : {A : Type 0} (b : Bool) (x y u v : A) → x ≡ u → y ≡ v
    → (if b then x else y) ≡ (if b then u else v)
if_both true x y u v p q = p
if_both false x y u v p q = q

-- the same as among names that are listed
by_list : (known : List (List ℕ)) (names : List (List ℕ × ℕ))
    → repeated_by (is_among known) names ≡ repeated_names known names
by_list known [] = refl
by_list known (n ∷ names) =
    if_both (is_among known n.0) _ _ _ _
    (ap (λ (ns : List ℕ). n.1 ∷ ns) (by_list known names))
    (ap (λ (f : List ℕ → Bool). repeated_by f names)
    (same_test _ (is_among (known ++ n.0 ∷ [])) (with_last known n.0))
    ∙ by_list (known ++ n.0 ∷ []) names)

-- at first no name is known
pub none_known : (f : List ℕ → Bool) (names : List (List ℕ × ℕ)) → ((q : List ℕ) → f q ≡ false)
    → repeated_by f names ≡ repeated_names [] names
none_known f names h =
    ap (λ (g : List ℕ → Bool). repeated_by g names) (same_test f (is_among []) h) ∙ by_list [] names

-- what is repeated from a name on, by whether it is known
abbrev repeated_first : Bool → (List ℕ → Bool) → List ℕ × ℕ → List (List ℕ × ℕ) → List ℕ
repeated_first b known n names =
    if b then n.1 ∷ repeated_by known names else repeated_by (with_name known n.0) names

by_first : (known : List ℕ → Bool) (n : List ℕ × ℕ) (names : List (List ℕ × ℕ)) (fault : Option ℕ)
    (b : Bool) → known n.0 ≡ b
    → earlier fault (least (repeated_by known (n ∷ names)))
    ≡ earlier fault (least (repeated_first b known n names))
by_first known n names fault b h =
    ap (λ (c : Bool). earlier fault (least (repeated_first c known n names))) h

-- one more name, that is known
pub known_step :
    (known more : BTreeSet (String Global)) (name : String Global) (n : List ℕ × ℕ)
    (names : List (List ℕ × ℕ)) (fault next total : Option ℕ) → string_bytes name ≡ n.0
    → contains_text known (string_bytes name) ≡ true → more.keys ≡ known.keys
    → next ≡ earlier fault (Some n.1)
    → earlier fault (least (repeated_by (contains_text known) (n ∷ names))) ≡ total
    → earlier next (least (repeated_by (contains_text more) names)) ≡ total
known_step known more name n names fault next total text there same is h =
    ap (λ (f : List ℕ → Bool). earlier next (least (repeated_by f names)))
    (same_test (contains_text more) (contains_text known) (λ q. rw same refl))
    ∙ ap (λ (o : Option ℕ). earlier o (least (repeated_by (contains_text known) names))) is
    ∙ earlier-assoc fault (Some n.1) (least (repeated_by (contains_text known) names))
    ∙ sym (by_first (contains_text known) n names fault true
    (ap (contains_text known) (sym text) ∙ there))
    ∙ h

-- and one that is new
pub new_step :
    (known more : BTreeSet (String Global)) (name : String Global) (n : List ℕ × ℕ)
    (names : List (List ℕ × ℕ)) (fault total : Option ℕ) → string_bytes name ≡ n.0
    → contains_text known (string_bytes name) ≡ false → Updates string_cmp known more name true
    → earlier fault (least (repeated_by (contains_text known) (n ∷ names))) ≡ total
    → earlier fault (least (repeated_by (contains_text more) names)) ≡ total
new_step known more name n names fault total text absent put h =
    let added : contains_text more ≡ with_name (contains_text known) n.0 =
    same_test (contains_text more) (with_name (contains_text known) n.0)
    (λ q. btree_set_updates_text (string_bytes name) known more true put q
    ∙ ap (λ (t : List ℕ). with_name (contains_text known) t q) text) in
    ap (λ (f : List ℕ → Bool). earlier fault (least (repeated_by f names))) added
    ∙ sym (by_first (contains_text known) n names fault false
    (ap (contains_text known) (sym text) ∙ absent))
    ∙ h

pub after_most : (before i : ℕ) (x : ItemForm) → before ≤ i → assertions_after before x ≤ i + 1
after_most before i (counter c) h = omega (arith, h)
after_most before i (declaration d) h = omega (arith, h)
after_most before i (assertion a) h = omega (arith, h)
