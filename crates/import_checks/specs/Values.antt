-- What stands at a place of an opening, and where its values are true (IEEE 1800-2017, 11.4).
use Rattle.std.specs.Prelude.{◌≡◌, ℕ, ◌==◌, Bool, true, false, not, ◌&&◌, ◌||◌, Some, slice_get}
use Rattle.import_trees.specs.declared.expression.Number.{Number}
use Rattle.import_trees.specs.declared.operator.Prefix.TheVariants as prefixes
use Rattle.import_trees.specs.declared.operator.Infix.TheVariants as infixes
use Rattle.import_elaboration.specs.declared.opener.Parts.{Parts}
use Rattle.import_elaboration.specs.declared.part.Part.{Part}
use Rattle.import_elaboration.specs.declared.part.PartId.{PartId}
use Rattle.import_elaboration.specs.declared.part.PartNode.{PartNode}
use Rattle.import_elaboration.specs.declared.value.Value.{Value}
use Rattle.import_elaboration.specs.declared.value.Value.TheVariants as values
use Rattle.import_elaboration.specs.declared.value.ValueId.{ValueId}
use Rattle.import_elaboration.specs.declared.value.ValueNode.{ValueNode}
use Rattle.import_properties.specs.declared.condition.Condition.{Condition}
use Rattle.import_properties.specs.declared.condition.Condition.TheVariants.{One, Zero}
use Rattle.import_properties.specs.Conditions.{value_of}

-- This part stands at the place.
pub record IsPart (o : Parts) (id : PartId) (part : Part) : Type 0 where
  pub node : PartNode
  pub stands : slice_get o.parts.items id.0 ≡ Some node
  pub is : node.part ≡ part

-- This value stands at the place.
pub record IsValue (o : Parts) (id : ValueId) (value : Value) : Type 0 where
  pub node : ValueNode
  pub stands : slice_get o.values.items id.0 ≡ Some node
  pub is : node.value ≡ value

-- By its operator it is a negation.
pub record IsNegation (o : Parts) (id : ValueId) : Type 0 where
  pub operand : ValueId
  pub is : IsValue o id (values.Prefix prefixes.Not operand)

-- the constant that is always so
abbrev pub constant : Bool → Condition
constant true = One
constant false = Zero

-- both true, or both false
abbrev pub are_alike : Bool → Bool → Bool
are_alike a b = (a && b) || (not a && not b)

-- A value is true at a tick where it isn't 0. Which ones are is not known here, but for the
-- operators
-- that join booleans, and for constants (11.4.7, 11.4.5, 5.7.1). Two negations are a bit wide each,
-- so they are equal where both are true or both are false.
pub record Respects (o : Parts) (leaves : ℕ → ℕ → Bool) : Type 0 where
  pub negations : (v e : ValueId) (k : ℕ) → IsValue o v (values.Prefix prefixes.Not e)
      → leaves v.0 k ≡ not (leaves e.0 k)
  pub conjunctions : (v d e : ValueId) (k : ℕ) → IsValue o v (values.Infix infixes.And d e)
      → leaves v.0 k ≡ (leaves d.0 k && leaves e.0 k)
  pub disjunctions : (v d e : ValueId) (k : ℕ) → IsValue o v (values.Infix infixes.Or d e)
      → leaves v.0 k ≡ (leaves d.0 k || leaves e.0 k)
  pub equalities : (v d e x y : ValueId) (k : ℕ) → IsValue o v (values.Infix infixes.Equal d e)
      → IsValue o d (values.Prefix prefixes.Not x) → IsValue o e (values.Prefix prefixes.Not y)
      → leaves v.0 k ≡ are_alike (leaves d.0 k) (leaves e.0 k)
  pub inequalities : (v d e x y : ValueId) (k : ℕ)
      → IsValue o v (values.Infix infixes.NotEqual d e)
      → IsValue o d (values.Prefix prefixes.Not x) → IsValue o e (values.Prefix prefixes.Not y)
      → leaves v.0 k ≡ not (are_alike (leaves d.0 k) (leaves e.0 k))
  pub numbers : (v : ValueId) (number : Number) (k : ℕ) → IsValue o v (values.Number number)
      → number.unknown ≡ 0 → leaves v.0 k ≡ not (number.value == 0)
  pub fills : (v : ValueId) (bit : Bool) (k : ℕ) → IsValue o v (values.Fill bit)
      → leaves v.0 k ≡ bit

-- The condition is true where the value is, on every trace.
pub record IsTruth (o : Parts) (v : ValueId) (b : Condition) : Type 0 where
  pub same : (leaves : ℕ → ℕ → Bool) (k : ℕ) → Respects o leaves
      → value_of leaves b k ≡ leaves v.0 k
