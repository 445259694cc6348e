-- Assertions whose names are resolved, one by one.
use Rattle.std.proofs.Common.{◌≡◌, ℕ, ◌+◌, ◌<◌, List, [], ◌∷◌, ◌++◌, length, Some, sym, subst, arith}
use Rattle.std.proofs.lemmas.List.{append-nil}
use Rattle.parser_grammar.specs.Trees as trees
use Rattle.parser_grammar.specs.Trees.{Tree, PropertyForm, plain, implication}
use Rattle.expressions.specs.declared.expr.Expr.{Expr}
use Rattle.parser_grammar.specs.declared.operator.Implication.{Implication}
use Rattle.parser_grammar.specs.declared.operator.Implication.TheVariants.{Overlapped, NonOverlapped}
use Rattle.assertions.specs.declared.sequence.Boolean.{Boolean}
use Rattle.types.specs.Drafts.{Draft, IsNumberIn, uses}
use Rattle.types_names.specs.Scopes.{Scope, sequence_named}
use Rattle.types.specs.declared.resolved.Resolved.{Resolved}
use Rattle.types.specs.Placed.{ExtendsPlaces}
use Rattle.types.specs.Suites.{before_by, ReadsAntecedent, ReadsConsequent}
use Rattle.types.specs.Resolved.{IsResolved, AreResolved}
use Rattle.types.proofs.OutlineLaws.{reads_below}
use Rattle.types.proofs.DraftedLaws.{antecedent_grows, consequent_grows, disabled_grows}

-- the names in a side are those of named sequences
before_uses : (k : Implication) (r : Draft Boolean) (q : ℕ) → IsNumberIn q (uses (before_by k r))
    → IsNumberIn q (uses r)
before_uses Overlapped r q i = i
before_uses NonOverlapped r q i = subst (λ (ps : List ℕ). IsNumberIn q ps) (append-nil (uses r)) i

module _ (s : Scope) (cs : List (List ℕ)) (e : List Expr) (n : ℕ)
    (below : (t : Tree) (p : ℕ) → sequence_named s t ≡ Some p → p < n) where
  pub antecedent_below : (p : PropertyForm) (d : Draft Boolean) → ReadsAntecedent s cs e p d → (q : ℕ)
      → IsNumberIn q (uses d)
      → q < n
  antecedent_below (plain x) d h q i = let none = subst
      (λ (y : Draft Boolean). IsNumberIn q (uses y)) h i in elim none [ ]
  antecedent_below (implication word a k c) d h q i =
      reads_below s cs e n below a h.0 h.1 q
      (before_uses k h.0 q (subst (λ (y : Draft Boolean). IsNumberIn q (uses y)) h.2 i))

  pub consequent_below : (p : PropertyForm) (d : Draft Boolean) → ReadsConsequent s cs e p d → (q : ℕ)
      → IsNumberIn q (uses d)
      → q < n
  consequent_below (plain x) d h q i = reads_below s cs e n below x d h q i
  consequent_below (implication word a t c) d h q i = reads_below s cs e n below c d h q i

module _ (s : Scope) (cs : List (List ℕ)) (bodies : List (Draft Boolean)) (now next : List Expr)
    (more : ExtendsPlaces now next) where
  resolved_grows : (before : ℕ) (a : trees.AssertionForm) (m : Resolved) → IsResolved s cs now bodies before a m
      → IsResolved s cs next bodies before a m
  resolved_grows before a m h =
      record {
        antecedent = h.antecedent;
        consequent = h.consequent;
        name = h.name;
        first = h.first;
        reads_antecedent = antecedent_grows s cs now next more a.property h.antecedent h.reads_antecedent;
        reads_consequent = consequent_grows s cs now next more a.property h.consequent h.reads_consequent;
        antecedent_entry = h.antecedent_entry;
        consequent_entry = h.consequent_entry;
        antecedent_at = h.antecedent_at;
        consequent_at = h.consequent_at;
        disabling = disabled_grows s cs now next more a.disable m.disabling h.disabling;
      }

  pub resolved_stay : (us : List trees.AssertionForm) (ms : List Resolved) (before : ℕ)
      → AreResolved s cs now bodies before us ms → AreResolved s cs next bodies before us ms
  resolved_stay [] [] before h = h
  resolved_stay [] (m ∷ ms) before h = elim h [ ]
  resolved_stay (a ∷ us) [] before h = elim h [ ]
  resolved_stay (a ∷ us) (m ∷ ms) before h = (resolved_grows before a m h.0, resolved_stay us ms (before + 1) h.1)

  one_more : (us : List trees.AssertionForm) (ms : List Resolved) (before : ℕ) (a : trees.AssertionForm) (m : Resolved)
      → AreResolved s cs now bodies before us ms →
      IsResolved s cs next bodies (before + length ms) a m
      → AreResolved s cs next bodies before (us ++ a ∷ []) (ms ++ m ∷ [])
  one_more [] [] before a m h one = (subst (λ (b : ℕ). IsResolved s cs next bodies b a m) (omega arith) one, tt)
  one_more [] (x ∷ ms) before a m h one = elim h [ ]
  one_more (y ∷ us) [] before a m h one = elim h [ ]
  one_more (y ∷ us) (x ∷ ms) before a m h one = (
    resolved_grows before y x h.0,
    one_more us ms (before + 1) a m h.1
        (subst (λ (b : ℕ). IsResolved s cs next bodies b a m) (omega arith) one),
  )

  -- one more, after those that were made
  pub resolved_more : (us : List trees.AssertionForm) (ms after : List Resolved) (place : ℕ) (a : trees.AssertionForm)
      (m : Resolved) → place ≡ length ms → after ≡ ms ++ m ∷ [] → IsResolved s cs next bodies place a m →
      AreResolved s cs now bodies 0 us ms → AreResolved s cs next bodies 0 (us ++ a ∷ []) after
  resolved_more us ms after place a m at pushed one h =
      subst (λ (xs : List Resolved). AreResolved s cs next bodies 0 (us ++ a ∷ []) xs) (sym pushed)
      (one_more us ms 0 a m h (subst (λ (b : ℕ). IsResolved s cs next bodies b a m) (omega (arith, at)) one))
