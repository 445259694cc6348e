-- The variables of a header, their paths and the numbers of their codes.
use Rattle.std.specs.Prelude.{ℕ, suc, ◌==◌, List, [], ◌∷◌, ◌++◌, Bool, false, not, ◌&&◌, ◌||◌, map}
use Rattle.std.specs.Prelude.{Option, Some, None, unwrap_or, if◌then◌else◌, get_or, codes, nat_le}
use Rattle.std.specs.Option.{option_map}
use Rattle.std.specs.List.{flat_map}
use Rattle.std.specs.Str.{bytes_eq}

-- a code is of bytes ! to ~
abbrev pub is_code_byte : ℕ → Bool
is_code_byte b = nat_le 33 b && nat_le b 126

-- a variable that the header declares
pub record Declared : Type 0 where
  pub path : List ℕ
  pub code : List ℕ
  pub size : ℕ
  pub bindable : Bool

-- the open scopes, the outermost first, and the name, joined by dots
abbrev pub path_of : List (List ℕ) → List ℕ → List ℕ
path_of scopes name = flat_map (λ s. s ++ 46 ∷ []) scopes ++ name

-- the types whose values are no vectors of digits
abbrev pub has_no_digits : List ℕ → Bool
has_no_digits type =
    bytes_eq type (codes "real") || bytes_eq type (codes "realtime")
    || bytes_eq type (codes "string") || bytes_eq type (codes "event")

-- whether a variable of that type and size can be bound
abbrev pub can_bind : List ℕ → ℕ → Bool
can_bind type size = nat_le 1 size && nat_le size 128 && not (has_no_digits type)

abbrev pub codes_of : List Declared → List (List ℕ)
codes_of vs = map (λ v. v.code) vs

abbrev pub paths_of : List Declared → List (List ℕ)
paths_of vs = map (λ v. v.path) vs

-- the first place of a text
abbrev pub place_of : List (List ℕ) → List ℕ → Option ℕ
place_of [] text = None
place_of (t ∷ ts) text = if bytes_eq t text then Some 0 else option_map suc (place_of ts text)

-- a variable that the header does not have
abbrev pub no_variable : Declared
no_variable = record { path = []; code = []; size = 0; bindable = false }

abbrev pub variable_at_place : List Declared → ℕ → Declared
variable_at_place vs v = get_or vs v no_variable

-- the number of the code of the variable at the place v: the place of the first variable with that
-- code
unfoldable pub code_number : List Declared → ℕ → ℕ
code_number vs v = unwrap_or (place_of (codes_of vs) (variable_at_place vs v).code) 0

unfoldable pub size_of : List Declared → ℕ → ℕ
size_of vs v = (variable_at_place vs v).size

-- whether the header has a variable at the place v that can be bound
unfoldable pub is_bindable : List Declared → ℕ → Bool
is_bindable vs v = (variable_at_place vs v).bindable

abbrev pub if_bindable : List Declared → Option ℕ → Option ℕ
if_bindable vs None = None
if_bindable vs (Some v) = if is_bindable vs v then Some v else None

-- the place of the variable that the path names: of equal paths the first stands, and none where
-- that one can't be bound
unfoldable pub variable_named : List Declared → List ℕ → Option ℕ
variable_named vs path = if_bindable vs (place_of (paths_of vs) path)

-- a path that can be bound, with its width
pub record Named : Type 0 where
  pub path : List ℕ
  pub width : ℕ

abbrev pub is_place : ℕ → Option ℕ → Bool
is_place k None = false
is_place k (Some n) = n == k

-- the paths of those variables from the place k on that their own path names
unfoldable pub names_from : List Declared → ℕ → List Declared → List Named
names_from all k [] = []
names_from all k (v ∷ vs) =
    if is_place k (variable_named all v.path)
    then record { path = v.path; width = v.size } ∷ names_from all (suc k) vs
    else names_from all (suc k) vs

-- the paths that can be bound, with their widths, in the header's order
unfoldable pub names_of : List Declared → List Named
names_of vs = names_from vs 0 vs
