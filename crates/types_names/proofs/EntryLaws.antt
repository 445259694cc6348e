-- Look-ups in maps whose keys are texts.
use Rattle.std.proofs.Common.{◌≡◌, ℕ, Bool, true, false, cond, List, [], ◌∷◌, Option, Some, None, is_some}
use Rattle.std.proofs.Common.{option_map, String, string_bytes, Global, refl, sym, ap, ◌∙◌}
use Rattle.std.specs.Prelude.{bytes_eq}
use Rattle.std.specs.String.{string_cmp}
use Rattle.std.specs.BTreeMap.{BTreeMap, Updates, get_by_text}
use Rattle.std.specs.Cmp.Lexicographic.{bytes_decides, nat_list_eq_equiv}
use Rattle.std.proofs.lemmas.Map.Text.{btree_map_updates_text}
use Rattle.types_names.specs.Scopes.{look_up}
use Rattle.types_names.specs.Entries.{first_of}

is_some-map : {A B : Type 0} (f : A → B) (o : Option A) → is_some (option_map f o) ≡ is_some o
is_some-map f None = refl
is_some-map f (Some a) = refl

cond-map : {A B : Type 0} (f : A → B) (b : Bool) (x : A) (o : Option A) → option_map f (cond b (Some x) o)
    ≡ cond b (Some (f x)) (option_map f o)
cond-map f true x o = refl
cond-map f false x o = refl

-- a name that is there stays, and a new one is put behind those that are there
stays-first : {V : Type 0} (o : Option V) (b : Bool) (v : V) → (b ≡ true → is_some o ≡ true)
    → o ≡ first_of o (cond b (Some v) None)
stays-first (Some a) b v h = refl
stays-first None true v h = absurd (let e = h refl in cc)
stays-first None false v h = refl

put-first : {V : Type 0} (o : Option V) (b : Bool) (v : V) → (b ≡ true → is_some o ≡ false)
    → cond b (Some v) o ≡ first_of o (cond b (Some v) None)
put-first (Some a) true v h = absurd (let e = h refl in cc)
put-first (Some a) false v h = refl
put-first None b v h = refl

-- what a map has of each text, before a name is added and after it, unless it is there
module _ {X V : Type 0} (f : X → V) (m : BTreeMap (String Global) X) (name : List ℕ) where
  abbrev found : BTreeMap (String Global) X → List ℕ → Option V
  found n q = option_map f (get_by_text n q)

  at-name : (q : List ℕ) → bytes_eq q name ≡ true → is_some (found m q) ≡ is_some (get_by_text m name)
  at-name q e =
      ap (λ (p : List ℕ). is_some (found m p)) ((bytes_decides q name).0 e)
      ∙ is_some-map f (get_by_text m name)

  pub found-stays : (v : V) → is_some (get_by_text m name) ≡ true → (q : List ℕ) → found m q
      ≡ first_of (found m q) (look_up ((name, v) ∷ []) q)
  found-stays v there q = stays-first (found m q) (bytes_eq q name) v (λ e. at-name q e ∙ there)

  pub found-grows : (n : BTreeMap (String Global) X) (k : String Global) (x : X) → string_bytes k ≡ name
      → is_some (get_by_text m name) ≡ false → Updates string_cmp m n k (Some x) → (q : List ℕ) → found n q
      ≡ first_of (found m q) (look_up ((name, f x) ∷ []) q)
  found-grows n k x same absent updates q =
      ap (option_map f) (btree_map_updates_text (string_bytes k) m n (Some x) updates q)
      ∙ cond-map f (bytes_eq (string_bytes k) q) x (get_by_text m q)
      ∙ ap (λ (b : Bool). cond b (Some (f x)) (found m q))
      (ap (λ (p : List ℕ). bytes_eq p q) same ∙ nat_list_eq_equiv.symm name q)
      ∙ put-first (found m q) (bytes_eq q name) (f x) (λ e. at-name q e ∙ absent)

-- the first of several
pub first-first : {V : Type 0} (a b c : Option V) → first_of (first_of a b) c ≡ first_of a (first_of b c)
first-first None b c = refl
first-first (Some a) b c = refl

pub first-none : {V : Type 0} (a : Option V) → first_of a None ≡ a
first-none None = refl
first-none (Some a) = refl

first-cond : {V : Type 0} (b : Bool) (v : V) (o : Option V) → first_of (cond b (Some v) None) o ≡ cond b (Some v) o
first-cond true v o = refl
first-cond false v o = refl

-- a turn of a loop that adds a name, unless it is there: what is left decides
pub left-step : {V : Type 0} (found grown : List ℕ → Option V) (name : List ℕ) (v : V)
    (left more : List (List ℕ × V)) (all : List ℕ → Option V)
    → ((q : List ℕ) → grown q ≡ first_of (found q) (look_up ((name, v) ∷ []) q)) → left ≡ (name, v) ∷ more
    → ((q : List ℕ) → first_of (found q) (look_up left q) ≡ all q) → (q : List ℕ)
    → first_of (grown q) (look_up more q) ≡ all q
left-step {V} found grown name v left more all is begins h q =
    ap (λ (o : Option V). first_of o (look_up more q)) (is q)
    ∙ first-first (found q) (cond (bytes_eq q name) (Some v) None) (look_up more q)
    ∙ ap (first_of (found q)) (first-cond (bytes_eq q name) v (look_up more q))
    ∙ ap (λ (gs : List (List ℕ × V)). first_of (found q) (look_up gs q)) (sym begins)
    ∙ h q

pub left-end : {V : Type 0} (found : List ℕ → Option V) (left : List (List ℕ × V)) (all : List ℕ → Option V)
    → left ≡ [] → ((q : List ℕ) → first_of (found q) (look_up left q) ≡ all q) → (q : List ℕ) → found q ≡ all q
left-end {V} found left all none h q =
    sym (first-none (found q))
    ∙ ap (λ (gs : List (List ℕ × V)). first_of (found q) (look_up gs q)) (sym none)
    ∙ h q

-- what agrees at each text is one
pub same-found : {V : Type 0} (f g : List ℕ → Option V) → ((q : List ℕ) → f q ≡ g q) → f ≡ g
same-found f g h = λ j q. h q j
