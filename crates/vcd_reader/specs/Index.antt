-- A table of the places of texts.
use Rattle.std.specs.Prelude.{◌≡◌, ℕ, ◌^◌, ◌<◌, ◌≤◌, List, [], length, map, get_or, Some, true}
use Rattle.std.specs.Prelude.{is_some, nat_eq, slice_index}
use Rattle.std.specs.HashMap as table
use Rattle.vcd_reader.specs.declared.scope.Scope.{Scope}
use Rattle.vcd_reader.specs.declared.variable.Variable.{Variable}
use Rattle.vcd_reader.specs.declared.places.Part.{Part}
use Rattle.vcd_reader.specs.declared.places.Part.TheVariants.{Path, Code}
use Rattle.vcd_reader.specs.declared.places.Places.{Places}
use Rattle.vcd_reader.specs.Variables.{path_of, place_of}
use Rattle.vcd_reader.specs.Keys.{key_of}
use Rattle.vcd_reader.specs.Scopes.{open_scopes}

-- where the own part of a text stands
abbrev pub place_in : Part → Variable → ℕ
place_in Path v = v.scope
place_in Code v = 0

-- the own part of a text
abbrev pub own_in : Part → Variable → List ℕ
own_in Path v = v.name.items
own_in Code v = v.code.items

abbrev pub text_in : Part → List Scope → Variable → List ℕ
text_in Path ss v = path_of (open_scopes ss v.scope) v.name.items
text_in Code ss v = v.code.items

abbrev pub texts_in : Part → List Scope → List Variable → List (List ℕ)
texts_in part ss vs = map (text_in part ss) vs

abbrev pub codes_in : List Variable → List (List ℕ)
codes_in vs = map (λ v. v.code.items) vs

-- the table has the first place of each text, and a hint at the key of each
pub record IsIndex (texts : List (List ℕ)) (p : Places) : Type 0 where
  pub fits : length texts ≤ 2 ^ 32
  pub long : length p.firsts.items ≡ length texts
  pub first : (i : ℕ) → i < length texts
      → Some (slice_index p.firsts.items i) ≡ place_of texts (get_or texts i [])
  pub complete : (i : ℕ) → i < length texts
      → is_some (table.get nat_eq p.hints (key_of (get_or texts i []))) ≡ true
