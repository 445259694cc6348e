-- The rows of a dump fit the widths of their variables.
use Rattle.std.proofs.Common.{
  ◌≡◌,
  inl,
  inr,
  ℕ,
  zero,
  suc,
  ◌%◌,
  ◌^◌,
  ◌<◌,
  ◌≤◌,
  List,
  [],
  ◌∷◌,
  map,
  Option,
  Some,
  None,
  sym,
  ◌∙◌,
  subst,
  arith,
  pow_pos,
}
use Rattle.std.proofs.Props.{props}
use Rattle.std.specs.Prelude.{slice_index}
use Rattle.std.proofs.Math.Nat.{mod-lt}
use Rattle.std.proofs.Math.Pow.{pow_mono}
use Rattle.std.proofs.lemmas.Bool.{cases_lt}
use Rattle.std.proofs.lemmas.List.{length-map}
use Rattle.vcd_reader.specs.Numbers.{bits_value}
use Rattle.vcd_reader.specs.Values.{
  value_or_zero,
  value_at,
  digits_value,
  last_digits,
  changes_before,
}
use Rattle.vcd_reader.specs.Variables.{size_of, code_number}
use Rattle.vcd_reader.specs.Dump.{Contents}
use Rattle.vcd_reader.proofs.ValueLaws.{digits}
use Rattle.cycle_window.specs.Ticks.{sample, row_of}
use Rattle.machine_checked.specs.Values.{AreValues}

-- a value of 128 bits at most fits its variable
value-fits : (size : ℕ) (o : Option (List ℕ)) → value_or_zero size o < 2 ^ 128
    → value_or_zero size o < 2 ^ size
value-fits size None low = pow_pos size
value-fits size (Some ds) low =
    elim (cases_lt 128 size) [
      | inl wide ↦
          let narrow : 128 ≤ size = omega arith in
          let most : 2 ^ 128 ≤ 2 ^ size = pow_mono narrow in
          omega arith
      | inr narrow ↦
          let is : digits_value size ds ≡ bits_value ds % 2 ^ size = digits size ds narrow in
          let cut : bits_value ds % 2 ^ size < 2 ^ size = mod-lt (bits_value ds) (pow_pos size) in
          omega arith
    ]

sample-fits : (c : Contents) (k v : ℕ) → sample c k v < 2 ^ 128
    → sample c k v < 2 ^ size_of c.variables v
unfolding value_at
sample-fits c k v low =
    value-fits (size_of c.variables v)
    (last_digits (code_number c.variables v) (changes_before c.steps k)) low

each-fits : (c : Contents) (k : ℕ) (vs : List ℕ) →
    ((i : ℕ) → slice_index (map (sample c k) vs) i < 2 ^ 128) →
    (i : ℕ) → slice_index (map (sample c k) vs) i < 2 ^ slice_index (map (size_of c.variables) vs) i
each-fits c k [] low i = pow_pos 0
each-fits c k (v ∷ vs) low zero = sample-fits c k v (low zero)
each-fits c k (v ∷ vs) low (suc i) = each-fits c k vs (λ j. low (suc j)) i

-- a row of machine numbers is a row of the variables' widths
pub row-values : (c : Contents) (k : ℕ) (vs row widths : List ℕ) → row ≡ row_of c vs k
    → map (size_of c.variables) vs ≡ widths → ((i : ℕ) → slice_index row i < 2 ^ 128)
    → AreValues widths row
unfolding row_of
row-values c k vs row widths is wide low =
    subst (λ (ws : List ℕ). AreValues ws row) wide
    (subst (AreValues (map (size_of c.variables) vs)) (sym is)
    (record {
      long = length-map vs (sample c k) ∙ sym (length-map vs (size_of c.variables));
      fits = each-fits c k vs (λ i. subst (λ (r : List ℕ). slice_index r i < 2 ^ 128) is (low i));
    }))

-- whether values fit is no more than a fact
pub values-prop : (widths values : List ℕ) → IsProp (AreValues widths values)
values-prop widths values = hlevel props
