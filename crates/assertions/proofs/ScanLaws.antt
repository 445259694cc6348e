-- Scans for the next counter.
use Rattle.std.proofs.Common.{◌≡◌, ◌<◌, ◌≤◌, ℕ, ◌+◌, false, true, Bool, List, length, slice_get, get_or, Some, arith}
use Rattle.std.proofs.Common.{inl, inr, sym, ap, subst, ◌∙◌, refl}
use Rattle.std.proofs.lemmas.Bool.{cases_lt}
use Rattle.std.proofs.lemmas.Option.{slice_get_within, slice_get_read, get_or_from_slice_get}
use Rattle.expressions.specs.declared.name.Name.{Name}
use Rattle.assertions.specs.Reads.{waits}
use Rattle.assertions.specs.Scans.{NoneFrom, IsNext}

-- no name waits, of those from one place up to another
abbrev pub NoneTo : List Bool → ℕ → ℕ → List Name → Type 0
NoneTo done from at names =
    (k : ℕ) (other : Name) → from ≤ k → k < at → slice_get names k ≡ Some other → waits done other ≡ false

pub none-at-first : (done : List Bool) (from : ℕ) (names : List Name) → NoneTo done from from names
none-at-first done from names k other past below is = absurd (omega (arith, past, below))

pub none-further : (done : List Bool) (from at : ℕ) (names : List Name) (name : Name) → at < length names
    → name ≡ get_or names at name →
    waits done name ≡ false → NoneTo done from at names → NoneTo done from (at + 1) names
none-further done from at names name inside is off before k other past below found =
    elim (cases_lt k at) [
      | inl lt ↦ before k other past lt found
      | inr ge ↦
          let same : k ≡ at = omega (arith, ge, below) in
          subst (λ n. waits done n ≡ false) (is ∙ sym (ap (λ j. get_or names j name) same)
          ∙ get_or_from_slice_get names k other name found) off
    ]

pub next-found : (done : List Bool) (from at : ℕ) (names : List Name) (name : Name) → from ≤ at → at < length names
    → name ≡ get_or names at name →
    true ≡ waits done name → NoneTo done from at names → IsNext done from names at
next-found done from at names name past inside is on before = record {
  name = name;
  is = slice_get_read names (length names) at name refl inside is;
  past = past;
  inside = inside;
  waiting = sym on;
  none = before;
}

pub none-left : (done : List Bool) (from at : ℕ) (names : List Name) → length names ≤ at → NoneTo done from at names
    → NoneFrom done from names
none-left done from at names end before k name past found =
    before k name past (omega (arith, end, slice_get_within names k name found)) found
