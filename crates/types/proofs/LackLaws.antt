-- A part that lacks an entry.
use Rattle.std.proofs.Common.{◌≡◌, ℕ, List, [], ◌∷◌, ◌++◌, Option, false, refl, inl}
use Rattle.types.specs.declared.entry.Entry.{Entry}
use Rattle.types.specs.Entries.{LacksOne, has_entry}
use Rattle.types.proofs.InLaws.{in_front, in_back}

pub lacks_name : (table : List (Option Entry)) (p : ℕ) → has_entry table p ≡ false → LacksOne table (p ∷ [])
lacks_name table p h = record { place = p; used = inl refl; lacking = h }

pub lacks_first : (table : List (Option Entry)) (us vs : List ℕ) → LacksOne table us → LacksOne table (us ++ vs)
lacks_first table us vs l = record { place = l.place; used = in_front l.place us vs l.used; lacking = l.lacking }

pub lacks_second : (table : List (Option Entry)) (us vs : List ℕ) → LacksOne table vs → LacksOne table (us ++ vs)
lacks_second table us vs l = record { place = l.place; used = in_back l.place us vs l.used; lacking = l.lacking }
