-- What is left of a path where . and nothing between slashes are taken off, and .. with the part
-- before it. No folder is looked at.
use Rattle.std.specs.Prelude.{ℕ, ◌-◌, List, [], ◌∷◌, ◌++◌, Bool, false, not, ◌||◌, ◌==◌, codes}
use Rattle.std.specs.Prelude.{if◌then◌else◌, length, take, slice_get}
use Rattle.std.specs.List.{fold, flat_map, slice_split}
use Rattle.std.specs.Option.{option_map_or}
use Rattle.std.specs.Str.{bytes_eq}

-- the path begins at the root
abbrev pub is_rooted : List ℕ → Bool
is_rooted [] = false
is_rooted (b ∷ bs) = b == 47

-- what stands between slashes
abbrev pub parts_of : List ℕ → List (List ℕ)
parts_of path = slice_split (λ b. b == 47) path

-- a part that leads nowhere
abbrev pub is_idle : List ℕ → Bool
is_idle part = bytes_eq part [] || bytes_eq part (codes ".")

-- .. leads back over the last part, if there is one that isn't .. itself
abbrev pub ends_in_name : List (List ℕ) → Bool
ends_in_name parts =
    option_map_or (λ p. not (bytes_eq p (codes ".."))) (slice_get parts (length parts - 1)) false

-- the parts after a .. : above the root is the root
abbrev pub one_back : Bool → List (List ℕ) → List (List ℕ)
one_back rooted parts =
    if ends_in_name parts then take (length parts - 1) parts
    else (if rooted then parts
    else parts ++ codes ".." ∷ [])

-- the parts after one more
unfoldable pub after_part : Bool → List (List ℕ) → List ℕ → List (List ℕ)
after_part rooted parts part =
    if is_idle part then parts
    else (if bytes_eq part (codes "..") then one_back rooted parts
    else parts ++ part ∷ [])

-- the parts that are left
abbrev pub plain_parts : List ℕ → List (List ℕ)
plain_parts path = fold (after_part (is_rooted path)) [] (parts_of path)

-- the path of those, each with a slash after it
unfoldable pub plain_path : List ℕ → List ℕ
plain_path path =
    (if is_rooted path then codes "/" else [])
    ++ flat_map (λ p. p ++ 47 ∷ []) (plain_parts path)

-- two paths of which the same is left
unfoldable pub is_alike : List ℕ → List ℕ → Bool
is_alike path other = bytes_eq (plain_path path) (plain_path other)
