-- The refusals of a text, as far as a loop has come.
use Rattle.std.proofs.Common.{◌≡◌, ◌≤◌, ◌<◌, ◌++◌, ◌∷◌, [], ◌+◌, ℕ, List, map, length, Some, None, String, string_bytes}
use Rattle.std.proofs.Common.{sym, ap, ◌∙◌, subst, refl}
use Rattle.std.proofs.lemmas.List.{map_push, length_push}
use Rattle.std.specs.declared.alloc.Global.{Global}
use Rattle.diagnostics.specs.declared.front.Refusal.{Refusal}
use Rattle.diagnostics.specs.Items.{start_of, stop_of}
use Rattle.diagnostics.specs.Linted.{Refusing, AreRefusals, HasStood, IsTold, more, none, by_itself, beside}
use Rattle.diagnostics.specs.Linted.{without, without_item}

-- the bytes of refusals
abbrev pub places : List Refusal → List ℕ
places rs = map (λ (r : Refusal). r.at) rs

-- no refusal
pub begun : (by : Refusing) (ends text left : List ℕ) (rs : List Refusal) → rs ≡ []
    → left ≡ text → AreRefusals by ends text (places rs) left
begun by ends text left rs empty same =
    subst (λ (xs : List Refusal). AreRefusals by ends text (places xs) left) (sym empty)
    (subst (λ (l : List ℕ). AreRefusals by ends text [] l) (sym same) none)

-- one that is told, with its place
told-next : (by : Refusing) (ends text left next : List ℕ) (rs all : List Refusal) (r : Refusal)
    → AreRefusals by ends text (places rs ++ r.at ∷ []) left → all ≡ rs ++ r ∷ [] → next ≡ left
    → AreRefusals by ends text (places all) next
told-next by ends text left next rs all r are pushed same =
    let told : places rs ++ r.at ∷ [] ≡ places all =
    sym (ap places pushed ∙ map_push (λ (x : Refusal). x.at) rs r) in
    subst (λ (ps : List ℕ). AreRefusals by ends text ps next) told
    (subst (λ (l : List ℕ). AreRefusals by ends text (places rs ++ r.at ∷ []) l) (sym same) are)

-- one refusal more
pub told-more : (by : Refusing) (ends text left next : List ℕ) (rs all : List Refusal) (r : Refusal)
    → AreRefusals by ends text (places rs) left → by.refuses left r.at
    → all ≡ rs ++ r ∷ [] → next ≡ without left ends r.at → AreRefusals by ends text (places all) next
told-more by ends text left next rs all r before refused pushed blanked =
    told-next by ends text (without left ends r.at) next rs all r (more before refused) pushed blanked

-- one that is refused alone
pub told-alone : (by : Refusing) (ends text left next : List ℕ) (rs all : List Refusal) (r : Refusal) (item : ℕ)
    → AreRefusals by ends text (places rs) left
    → by.alone (start_of ends item) (stop_of (length text) ends item) r.at
    → all ≡ rs ++ r ∷ [] → next ≡ without_item left ends item → AreRefusals by ends text (places all) next
told-alone by ends text left next rs all r item before refused pushed blanked =
    told-next by ends text (without_item left ends item) next rs all r (by_itself item before refused) pushed blanked

-- one that stood there before
pub told-beside : (by : Refusing) (ends text left next : List ℕ) (rs all : List Refusal) (r : Refusal) (item : ℕ)
    → AreRefusals by ends text (places rs) left → HasStood by ends text r.at
    → start_of ends item ≤ r.at → r.at < stop_of (length text) ends item
    → all ≡ rs ++ r ∷ [] → next ≡ without_item left ends item → AreRefusals by ends text (places all) next
told-beside by ends text left next rs all r item before stood low high pushed blanked =
    told-next by ends text (without_item left ends item) next rs all r
    (beside item stood.are stood.stands low high before) pushed blanked

-- none is refused
pub told-none : (by : Refusing) (ends text : List ℕ) (rs : List Refusal)
    (rest : String Global) → rs ≡ [] → string_bytes rest ≡ text → IsTold by ends text (places rs) (Some rest)
told-none by ends text rs rest empty same =
    record { left = text; are = begun by ends text text rs empty refl; same = same }

-- one refusal more, after which nothing is left
pub told-last : (by : Refusing) (ends text left : List ℕ) (rs all : List Refusal) (r : Refusal)
    → AreRefusals by ends text (places rs) left → by.refuses left r.at
    → all ≡ rs ++ r ∷ [] → IsTold by ends text (places all) None
told-last by ends text left rs all r before refused pushed =
    record {
      left = without left ends r.at;
      are = told-more by ends text left (without left ends r.at) rs all r before refused pushed refl;
      same = tt;
    }

-- how many there are then
pub length-more : (rs all : List Refusal) (r : Refusal) → all ≡ rs ++ r ∷ [] → length all ≡ length rs + 1
length-more rs all r pushed = ap (λ (xs : List Refusal). length xs) pushed ∙ length_push rs r
