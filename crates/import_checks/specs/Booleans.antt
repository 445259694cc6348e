-- Parts that ask for one boolean at one tick (IEEE 1800-2017, 16.7, 16.9 and 16.12).
use Rattle.std.specs.Prelude.{◌≡◌, ℕ, Bool, not, ◌&&◌, ◌||◌, Option}
use Rattle.import_elaboration.specs.declared.opener.Parts.{Parts}
use Rattle.import_elaboration.specs.declared.part.Part.{Part}
use Rattle.import_elaboration.specs.declared.part.Part.TheVariants as part
use Rattle.import_elaboration.specs.declared.part.Assignments.{Assignments}
use Rattle.import_elaboration.specs.declared.part.Count.{Count}
use Rattle.import_elaboration.specs.declared.part.PartId.{PartId}
use Rattle.import_elaboration.specs.declared.value.ValueId.{ValueId}
use Rattle.import_properties.specs.declared.condition.Condition.{Condition}
use Rattle.import_properties.specs.Conditions.{value_of, negation}
use Rattle.import_checks.specs.declared.joint.Joint.{Joint}
use Rattle.import_checks.specs.declared.joint.Joint.TheVariants.{Both, Either, Implying, Alike}
use Rattle.import_checks.specs.Counts.{IsCount}
use Rattle.import_checks.specs.Values.{IsPart, IsTruth, Respects, are_alike}

-- what two booleans are joined to
abbrev pub joined : Joint → Bool → Bool → Bool
joined Both a b = a && b
joined Either a b = a || b
joined Implying a b = not a || b
joined Alike a b = are_alike a b

-- The two sides of a part, and how they are joined where they are booleans: of sequences (16.9.5 to
-- 16.9.7), and of properties (16.12.4, 16.12.5, 16.12.8).
pub data IsJoined : Part → Joint → PartId → PartId → Type 0 where
  by_and : (p q : PartId) → IsJoined (part.And p q) Both p q
  by_intersect : (p q : PartId) → IsJoined (part.Intersect p q) Both p q
  by_or : (p q : PartId) → IsJoined (part.Or p q) Either p q
  by_implies : (p q : PartId) → IsJoined (part.Implies p q) Implying p q
  by_iff : (p q : PartId) → IsJoined (part.Iff p q) Alike p q

-- b is true where c and d are, joined so, on every trace
pub record JoinsTo (o : Parts) (joint : Joint) (c d b : Condition) : Type 0 where
  pub same : (leaves : ℕ → ℕ → Bool) (k : ℕ) → Respects o leaves
      → value_of leaves b k ≡ joined joint (value_of leaves c k) (value_of leaves d k)

-- The part asks for this boolean at one tick.
pub data IsBoolean (o : Parts) (bound : Option ℕ) : PartId → Condition → Type 0 where
  -- b (16.7)
  is_value : {id : PartId} {v : ValueId} {b : Condition} → IsPart o id (part.Boolean v)
      → IsTruth o v b → IsBoolean o bound id b
  -- strong(b) and weak(b) (16.12.2)
  is_strong_boolean : {id p : PartId} {b : Condition} → IsPart o id (part.Strength p)
      → IsBoolean o bound p b
      → IsBoolean o bound id b
  -- not b (16.12.3)
  is_not_boolean : {id p : PartId} {b : Condition} → IsPart o id (part.Not p)
      → IsBoolean o bound p (negation b) → IsBoolean o bound id b
  -- b and c, b or c, b implies c, b iff c
  is_joined : {id p q : PartId} {form : Part} {joint : Joint} {b c d : Condition} → IsPart o id form
      → IsJoined form joint p q → IsBoolean o bound p c → IsBoolean o bound q d
      → JoinsTo o joint c d b
      → IsBoolean o bound id b
  -- b[*1] (16.9.2)
  is_boolean_once : {id p : PartId} {count : Count} {b : Condition}
      → IsPart o id (part.Repeat p count)
      → IsCount bound count 1 1 → IsBoolean o bound p b → IsBoolean o bound id b
  -- first_match(b) (16.9.8)
  is_first_boolean : {id p : PartId} {b : Condition} → IsPart o id (part.FirstMatch p)
      → IsBoolean o bound p b
      → IsBoolean o bound id b
  -- (b, x = e) (16.10)
  is_assigned_boolean : {id p : PartId} {list : Assignments} {b : Condition}
      → IsPart o id (part.Assigned p list) → IsBoolean o bound p b → IsBoolean o bound id b
