-- What the code's names, scopes and columns stand for.
use Rattle.std.specs.Prelude.{ℕ, List, map, Option, Some, option_map, String, string_bytes}
use Rattle.std.specs.declared.alloc.Global.{Global}
use Rattle.std.specs.BTreeMap.{BTreeMap, get_by_text}
use Rattle.types_names.specs.declared.own.Own.{Own}
use Rattle.types_names.specs.declared.declared.OwnName.{OwnName}
use Rattle.types_names.specs.declared.names.Names.{Names}
use Rattle.types_names.specs.declared.paths.Paths.{Paths}
use Rattle.types_names.specs.declared.paths.Paths.TheVariants.{Any, Listed}
use Rattle.types_names.specs.declared.scope.Scope.{Scope}
use Rattle.types_names.specs.declared.signal_paths.SignalPaths.{SignalPaths}
use Rattle.types_names.specs.Scopes as scopes

-- the width of each path of a list
unfoldable pub widths_of : Names → List ℕ → Option ℕ
widths_of n path = option_map (λ w. w.bits) (get_by_text n.widths path)

-- the width that each path has, if it can be read as a signal
abbrev pub widths_in : Paths → List ℕ → Option ℕ
widths_in Any path = Some 1
widths_in (Listed names) path = widths_of names path

-- what each name of a text stands for
unfoldable pub own_in : BTreeMap (String Global) OwnName → List ℕ → Option Own
own_in m name = option_map (λ d. d.own) (get_by_text m name)

abbrev pub scope_of : Scope → scopes.Scope
scope_of s = record { own = own_in s.own; dump = widths_in s.paths }

-- the paths of the columns, in their order
abbrev pub columns_in : SignalPaths → List (List ℕ)
columns_in c = map string_bytes c.paths.keys
