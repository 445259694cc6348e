-- Booleans that values are, and that they join.
use Rattle.std.proofs.Common.{◌≡◌, ℕ, Bool, true, false, refl, sym, ap, ◌∙◌}
use Rattle.std.specs.Prelude.{◌==◌, not, ◌&&◌, ◌||◌, Option, Some, None, IfSome}
use Rattle.import_trees.specs.declared.expression.Number.{Number}
use Rattle.import_trees.specs.declared.operator.Prefix.TheVariants as prefixes
use Rattle.import_trees.specs.declared.operator.Infix.TheVariants as infixes
use Rattle.import_elaboration.specs.declared.opener.Parts.{Parts}
use Rattle.import_elaboration.specs.declared.value.Value.TheVariants as values
use Rattle.import_elaboration.specs.declared.value.ValueId.{ValueId}
use Rattle.import_properties.specs.declared.condition.Condition.{Condition}
use Rattle.import_properties.specs.declared.condition.Condition.TheVariants.{One, Zero, Leaf, Negated}
use Rattle.import_properties.specs.Conditions.{value_of, negation}
use Rattle.import_checks.specs.declared.joint.Joint.TheVariants.{Both, Either, Implying, Alike}
use Rattle.import_checks.specs.Values.{IsValue, IsTruth, IsNegation, constant, are_alike}
use Rattle.import_checks.specs.Booleans.{JoinsTo}

not-not : (b : Bool) → not (not b) ≡ b
not-not true = refl
not-not false = refl

-- a negation is true where its boolean is false
pub negation-value : (leaves : ℕ → ℕ → Bool) (b : Condition) (k : ℕ)
    → value_of leaves (negation b) k ≡ not (value_of leaves b k)
negation-value leaves One k = refl
negation-value leaves Zero k = refl
negation-value leaves (Leaf p) k = refl
negation-value leaves (Negated p) k = sym (not-not (leaves p k))

constant-value : (leaves : ℕ → ℕ → Bool) (b : Bool) (k : ℕ) → value_of leaves (constant b) k ≡ b
constant-value leaves true k = refl
constant-value leaves false k = refl

-- what a value is

pub truth_leaf : (o : Parts) (v : ValueId) → IsTruth o v (Leaf v.0)
truth_leaf o v = record { same = λ leaves k ok. refl }

pub truth_not : (o : Parts) (v e : ValueId) (b : Condition) → IsValue o v (values.Prefix prefixes.Not e)
    → IsTruth o e b → IsTruth o v (negation b)
truth_not o v e b is inside = record {
  same = λ leaves k ok.
      negation-value leaves b k ∙ ap not (inside.same leaves k ok) ∙ sym (ok.negations v e k is);
}

pub truth_number : (o : Parts) (v : ValueId) (n : Number) → IsValue o v (values.Number n) → n.unknown ≡ 0
    → IsTruth o v (constant (not (n.value == 0)))
truth_number o v n is known = record {
  same = λ leaves k ok.
      constant-value leaves (not (n.value == 0)) k ∙ sym (ok.numbers v n k is known);
}

pub truth_fill : (o : Parts) (v : ValueId) (bit : Bool) → IsValue o v (values.Fill bit) → IsTruth o v (constant bit)
truth_fill o v bit is = record { same = λ leaves k ok. constant-value leaves bit k ∙ sym (ok.fills v bit k is) }

-- what two are joined to

two : (f : Bool → Bool → Bool) (a b c d : Bool) → a ≡ c → b ≡ d → f a b ≡ f c d
two f a b c d p q = ap (λ x. f x b) p ∙ ap (f c) q

pub joins_both : (o : Parts) (v d e : ValueId) (b c : Condition) → IsValue o v (values.Infix infixes.And d e)
    → IsTruth o d b → IsTruth o e c → JoinsTo o Both b c (Leaf v.0)
joins_both o v d e b c is one other = record {
  same = λ leaves k ok.
      ok.conjunctions v d e k is
      ∙ two (λ x y. x && y) _ _ _ _ (sym (one.same leaves k ok)) (sym (other.same leaves k ok));
}

pub joins_either : (o : Parts) (v d e : ValueId) (b c : Condition) → IsValue o v (values.Infix infixes.Or d e)
    → IsTruth o d b → IsTruth o e c → JoinsTo o Either b c (Leaf v.0)
joins_either o v d e b c is one other = record {
  same = λ leaves k ok.
      ok.disjunctions v d e k is
      ∙ two (λ x y. x || y) _ _ _ _ (sym (one.same leaves k ok)) (sym (other.same leaves k ok));
}

pub joins_alike : (o : Parts) (v d e : ValueId) (b c : Condition) → IsValue o v (values.Infix infixes.Equal d e)
    → IsNegation o d → IsNegation o e → IsTruth o d b → IsTruth o e c → JoinsTo o Alike b c (Leaf v.0)
joins_alike o v d e b c is first second one other = record {
  same = λ leaves k ok.
      ok.equalities v d e first.operand second.operand k is first.is second.is
      ∙ two are_alike _ _ _ _ (sym (one.same leaves k ok)) (sym (other.same leaves k ok));
}

not-alike : (a b : Bool) → not (are_alike a b) ≡ are_alike a (not b)
not-alike true true = refl
not-alike true false = refl
not-alike false true = refl
not-alike false false = refl

pub joins_unlike : (o : Parts) (v d e : ValueId) (b c : Condition) → IsValue o v (values.Infix infixes.NotEqual d e)
    → IsNegation o d → IsNegation o e → IsTruth o d b → IsTruth o e c → JoinsTo o Alike b (negation c) (Leaf v.0)
joins_unlike o v d e b c is first second one other = record {
  same = λ leaves k ok.
      ok.inequalities v d e first.operand second.operand k is first.is second.is
      ∙ not-alike (leaves d.0 k) (leaves e.0 k)
      ∙ two are_alike _ _ _ _ (sym (one.same leaves k ok))
      (ap not (sym (other.same leaves k ok)) ∙ sym (negation-value leaves c k));
}

pub joins_implying : (o : Parts) (b c w : Condition) → JoinsTo o Either b c w → JoinsTo o Implying (negation b) c w
joins_implying o b c w is = record {
  same = λ leaves k ok.
      is.same leaves k ok
      ∙ ap (λ x. x || value_of leaves c k)
      (sym (ap not (negation-value leaves b k) ∙ not-not (value_of leaves b k)));
}

alike-nots : (a b : Bool) → are_alike a b ≡ are_alike (not a) (not b)
alike-nots true true = refl
alike-nots true false = refl
alike-nots false true = refl
alike-nots false false = refl

-- of both negations the same is said
pub joins_nots : (o : Parts) (b c w : Condition) → JoinsTo o Alike b c w → JoinsTo o Alike (negation b) (negation c) w
joins_nots o b c w is = record {
  same = λ leaves k ok.
      is.same leaves k ok ∙ alike-nots (value_of leaves b k) (value_of leaves c k)
      ∙ two are_alike _ _ _ _ (sym (negation-value leaves b k)) (sym (negation-value leaves c k));
}

-- the same of two that may not be found
pub joins_alike_some : (o : Parts) (v d e : ValueId) (r : Option (Condition × Condition))
    → IsValue o v (values.Infix infixes.Equal d e) → IsNegation o d → IsNegation o e
    → IfSome r (λ x. IsTruth o d x.0) → IfSome r (λ x. IsTruth o e x.1)
    → IfSome r (λ x. JoinsTo o Alike x.0 x.1 (Leaf v.0))
joins_alike_some o v d e None is first second one other = other
joins_alike_some o v d e (Some x) is first second one other = joins_alike o v d e x.0 x.1 is first second one other
