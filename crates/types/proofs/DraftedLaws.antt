-- What was read stays so when the list of expressions grows.
use Rattle.std.proofs.Common.{ℕ, List, Option, Some, None}
use Rattle.parser_grammar.specs.Trees.{Tree, PropertyForm, plain, implication}
use Rattle.expressions.specs.declared.expr.Expr.{Expr}
use Rattle.assertions.specs.declared.sequence.Boolean.{Boolean}
use Rattle.assertions.specs.declared.sequence.Boolean.TheVariants.{Listed}
use Rattle.types.specs.Drafts.{Draft}
use Rattle.types_names.specs.Scopes.{Scope}
use Rattle.types.specs.Placed.{ExtendsPlaces}
use Rattle.types.specs.Suites.{ReadsAntecedent, ReadsConsequent}
use Rattle.types.specs.Suites.{IsDisabledBy}
use Rattle.types.specs.Drafted.{IsDraftedAssertion}
use Rattle.types.specs.declared.drafted_assertion.DraftedAssertion.{DraftedAssertion}
use Rattle.types.proofs.ReadingLaws.{reads_grows, atom_grows}
use Rattle.parser_grammar.specs.Trees as trees

module _ (s : Scope) (cs : List (List ℕ)) (now next : List Expr) (more : ExtendsPlaces now next) where
  pub antecedent_grows : (p : PropertyForm) (d : Draft Boolean) → ReadsAntecedent s cs now p d
      → ReadsAntecedent s cs next p d
  antecedent_grows (plain q) d h = h
  antecedent_grows (implication word a t c) d h = (h.0, reads_grows s cs now next more a h.0 h.1, h.2)

  pub consequent_grows : (p : PropertyForm) (d : Draft Boolean) → ReadsConsequent s cs now p d
      → ReadsConsequent s cs next p d
  consequent_grows (plain q) d h = reads_grows s cs now next more q d h
  consequent_grows (implication word a t c) d h = reads_grows s cs now next more c d h

  pub disabled_grows : (t : Option Tree) (p : Option ℕ) → IsDisabledBy s cs now t p → IsDisabledBy s cs next t p
  disabled_grows None None h = h
  disabled_grows None (Some p) h = h
  disabled_grows (Some t) None h = h
  disabled_grows (Some t) (Some p) h = atom_grows s cs now next more t (Listed p) h

  pub drafted_grows : (before : ℕ) (a : trees.AssertionForm) (m : DraftedAssertion)
      → IsDraftedAssertion s cs now before a m → IsDraftedAssertion s cs next before a m
  drafted_grows before a m h =
      record {
        name = h.name;
        first = h.first;
        antecedent = antecedent_grows a.property _ h.antecedent;
        consequent = consequent_grows a.property _ h.consequent;
        antecedent_at = h.antecedent_at;
        consequent_at = h.consequent_at;
        disabling = disabled_grows a.disable m.disabling h.disabling;
      }
