-- Moved trees mean, and moved sequences say, what they did.
use Rattle.std.proofs.Common.{◌≡◌, ℕ, List, [], ◌∷◌, ◌++◌, map, Option, Some, None, refl, sym, ap, ◌∙◌, subst}
use Rattle.std.specs.Prelude.{codes}
use Rattle.std.specs.List.{flat_map}
use Rattle.lexer.specs.declared.token.Token.{Token}
use Rattle.parser_grammar.specs.declared.bound.Select.{Select}
use Rattle.parser_grammar.specs.declared.operator.Junction.{Junction}
use Rattle.parser_grammar.specs.Trees.{Tree, number, path, concatenation, past, call, unary, chain, choice, Links, end}
use Rattle.parser_grammar.specs.Trees.{link}
use Rattle.parser_grammar.specs.Trees.{Parts, no_part, part, SequenceForm, boolean, repeated, late, delayed, throughout}
use Rattle.parser_grammar.specs.Trees.{joined, Steps, no_step, step, Others, no_other, other}
use Rattle.expressions.specs.declared.expr.Expr.{Expr}
use Rattle.expressions.specs.Terms.{Term}
use Rattle.assertions.specs.declared.sequence.Boolean.{Boolean}
use Rattle.types.specs.Drafts.{Draft}
use Rattle.types_names.specs.Scopes.{Scope, path_text, meaning_by, meaning, meaning_place, sequence_named}
use Rattle.types_names.specs.Columns.{path_signals, signals, link_signals, part_signals, sequence_signals}
use Rattle.types_names.specs.Columns.{step_signals, other_signals, column_of}
use Rattle.types_names.specs.Meanings.{IsReference, Means, Chains, Joins, JoinsMore}
use Rattle.types.specs.Readings.{IsBooleanOf, ReadsBoolean, Reads, ReadsSteps, ReadsOthers}
use Rattle.laws_one_report.proofs.MovedTrees.{moved, moved_tree, moved_links, moved_parts, moved_sequence, moved_steps}
use Rattle.laws_one_report.proofs.MovedTrees.{moved_others}

-- joined lists
pub both_same : {A : Type 0} (a b c d : List A) → a ≡ b → c ≡ d → a ++ c ≡ b ++ d
both_same {A = A} a b c d h k = ap (λ (x : List A). x ++ c) h ∙ ap (λ (x : List A). b ++ x) k

module _ (lies : ℕ → ℕ × ℕ) where
  -- paths
  words-moved : (ws : List Token) → flat_map (λ (w : Token). codes "." ++ w.text.now) (map (moved lies) ws)
      ≡ flat_map (λ (w : Token). codes "." ++ w.text.now) ws
  words-moved [] = refl
  words-moved (w ∷ ws) = ap (λ (x : List ℕ). (codes "." ++ w.text.now) ++ x) (words-moved ws)

  pub path_text-moved : (ws : List Token) → path_text (map (moved lies) ws) ≡ path_text ws
  path_text-moved [] = refl
  path_text-moved (w ∷ ws) = ap (λ (x : List ℕ). w.text.now ++ x) (words-moved ws)

  module _ (s : Scope) where
    pub meaning-moved : (ws : List Token) → meaning s (map (moved lies) ws) ≡ meaning s ws
    meaning-moved ws = ap (λ (p : List ℕ). meaning_by (s.own p) (s.dump p)) (path_text-moved ws)

    pub named-moved : (t : Tree) → sequence_named s (moved_tree lies t) ≡ sequence_named s t
    unfolding moved_tree
    named-moved (number n t) = refl
    named-moved (path [] x) = refl
    named-moved (path (w ∷ []) None) = ap meaning_place (meaning-moved (w ∷ []))
    named-moved (path (w ∷ []) (Some x)) = refl
    named-moved (path (w ∷ v ∷ ws) x) = refl
    named-moved (concatenation t e parts) = refl
    named-moved (past t e n) = refl
    named-moved (call f t e) = refl
    named-moved (unary op t e) = refl
    named-moved (chain e links) = refl
    named-moved (choice c a b) = refl

    -- the signals that are read
    mutual
      unfolding moved_tree signals

      pub signals-moved : (t : Tree) → signals s (moved_tree lies t) ≡ signals s t
      signals-moved (number n t) = refl
      signals-moved (path words x) =
          ap (λ (p : List ℕ). path_signals p (meaning_by (s.own p) (s.dump p))) (path_text-moved words)
      signals-moved (concatenation t e parts) =
          both_same (signals s (moved_tree lies e)) (signals s e) (part_signals s (moved_parts lies parts))
          (part_signals s parts) (signals-moved e) (part_signals-moved parts)
      signals-moved (past t e n) = signals-moved e
      signals-moved (call f t e) = signals-moved e
      signals-moved (unary op t e) = signals-moved e
      signals-moved (chain e links) =
          both_same (signals s (moved_tree lies e)) (signals s e) (link_signals s (moved_links lies links))
          (link_signals s links) (signals-moved e) (link_signals-moved links)
      signals-moved (choice c a b) =
          both_same (signals s (moved_tree lies c)) (signals s c)
          (signals s (moved_tree lies a) ++ signals s (moved_tree lies b)) (signals s a ++ signals s b)
          (signals-moved c)
          (both_same (signals s (moved_tree lies a)) (signals s a) (signals s (moved_tree lies b)) (signals s b)
          (signals-moved a) (signals-moved b))

      link_signals-moved : (links : Links) → link_signals s (moved_links lies links) ≡ link_signals s links
      link_signals-moved end = refl
      link_signals-moved (link op e links) =
          both_same (signals s (moved_tree lies e)) (signals s e) (link_signals s (moved_links lies links))
          (link_signals s links) (signals-moved e) (link_signals-moved links)

      part_signals-moved : (parts : Parts) → part_signals s (moved_parts lies parts) ≡ part_signals s parts
      part_signals-moved no_part = refl
      part_signals-moved (part e parts) =
          both_same (signals s (moved_tree lies e)) (signals s e) (part_signals s (moved_parts lies parts))
          (part_signals s parts) (signals-moved e) (part_signals-moved parts)

    mutual
      unfolding moved_sequence sequence_signals

      pub sequence_signals-moved : (q : SequenceForm) → sequence_signals s (moved_sequence lies q)
          ≡ sequence_signals s q
      sequence_signals-moved (boolean e) = signals-moved e
      sequence_signals-moved (repeated q n) = sequence_signals-moved q
      sequence_signals-moved (late t n q) = sequence_signals-moved q
      sequence_signals-moved (delayed q steps) =
          both_same (sequence_signals s (moved_sequence lies q)) (sequence_signals s q)
          (step_signals s (moved_steps lies steps)) (step_signals s steps) (sequence_signals-moved q)
          (step_signals-moved steps)
      sequence_signals-moved (throughout e q) =
          both_same (signals s (moved_tree lies e)) (signals s e) (sequence_signals s (moved_sequence lies q))
          (sequence_signals s q) (signals-moved e) (sequence_signals-moved q)
      sequence_signals-moved (joined j q others) =
          both_same (sequence_signals s (moved_sequence lies q)) (sequence_signals s q)
          (other_signals s (moved_others lies others)) (other_signals s others) (sequence_signals-moved q)
          (other_signals-moved others)

      step_signals-moved : (steps : Steps) → step_signals s (moved_steps lies steps) ≡ step_signals s steps
      step_signals-moved no_step = refl
      step_signals-moved (step n q steps) =
          both_same (sequence_signals s (moved_sequence lies q)) (sequence_signals s q)
          (step_signals s (moved_steps lies steps)) (step_signals s steps) (sequence_signals-moved q)
          (step_signals-moved steps)

      other_signals-moved : (others : Others) → other_signals s (moved_others lies others) ≡ other_signals s others
      other_signals-moved no_other = refl
      other_signals-moved (other q others) =
          both_same (sequence_signals s (moved_sequence lies q)) (sequence_signals s q)
          (other_signals s (moved_others lies others)) (other_signals s others) (sequence_signals-moved q)
          (other_signals-moved others)

    module _ (cs : List (List ℕ)) where
      read-moved : (words : List Token) (x : Option Select) (e : Term)
          → IsReference (meaning s words) (column_of cs (path_text words)) x e
          → IsReference (meaning s (map (moved lies) words)) (column_of cs (path_text (map (moved lies) words))) x e
      read-moved words x e h =
          subst (λ (p : List ℕ). IsReference (meaning_by (s.own p) (s.dump p)) (column_of cs p) x e)
          (sym (path_text-moved words)) h

      -- what an expression means
      mutual
        unfolding moved_tree Means

        pub means-moved : (t : Tree) (e : Term) → Means s cs t e → Means s cs (moved_tree lies t) e
        means-moved (number n t) e h = record { bits = h.bits; width = h.width; value = h.value; is = h.is }
        means-moved (path words x) e h = read-moved words x e h
        means-moved (concatenation t d parts) e h = (h.0, means-moved d h.0 h.1, joins-moved parts h.0 e h.2)
        means-moved (past t d n) e h = (h.0, means-moved d h.0 h.1, h.2)
        means-moved (call f t d) e h = (h.0, means-moved d h.0 h.1, h.2)
        means-moved (unary op t d) e h = (h.0, means-moved d h.0 h.1, h.2)
        means-moved (chain d links) e h = (h.0, means-moved d h.0 h.1, chains-moved links h.0 e h.2)
        means-moved (choice d x y) e h =
            (h.0, h.1, h.2, means-moved d h.0 h.3, means-moved x h.1 h.4, means-moved y h.2 h.5, h.6)

        chains-moved : (links : Links) (a e : Term) → Chains s cs a links e → Chains s cs a (moved_links lies links) e
        chains-moved end a e h = h
        chains-moved (link op d links) a e h = (h.0, means-moved d h.0 h.1, chains-moved links _ e h.2)

        joins-moved : (parts : Parts) (a e : Term) → Joins s cs a parts e → Joins s cs a (moved_parts lies parts) e
        joins-moved no_part a e h = h
        joins-moved (part d parts) a e h = (h.0, means-moved d h.0 h.1, joins_more-moved parts _ e h.2)

        joins_more-moved : (parts : Parts) (a e : Term) → JoinsMore s cs a parts e
            → JoinsMore s cs a (moved_parts lies parts) e
        joins_more-moved no_part a e h = h
        joins_more-moved (part d parts) a e h = (h.0, means-moved d h.0 h.1, joins_more-moved parts _ e h.2)

      module _ (bs : List Expr) where
        pub atom-moved : (t : Tree) (b : Boolean) → IsBooleanOf s cs bs t b → IsBooleanOf s cs bs (moved_tree lies t) b
        atom-moved t b h =
            record {
              place = h.place;
              expression = h.expression;
              is = h.is;
              found = h.found;
              means = means-moved t _ h.means;
            }

        boolean_by : (o : Option ℕ) (t : Tree) (d : Draft Boolean) → ReadsBoolean s cs bs o t d
            → ReadsBoolean s cs bs o (moved_tree lies t) d
        boolean_by (Some p) t d h = h
        boolean_by None t d h = (h.0, atom-moved t h.0 h.1, h.2)

        boolean-moved : (t : Tree) (d : Draft Boolean) → ReadsBoolean s cs bs (sequence_named s t) t d
            → ReadsBoolean s cs bs (sequence_named s (moved_tree lies t)) (moved_tree lies t) d
        boolean-moved t d h =
            subst (λ (o : Option ℕ). ReadsBoolean s cs bs o (moved_tree lies t) d) (sym (named-moved t))
            (boolean_by (sequence_named s t) t d h)

        -- what a sequence says
        mutual
          unfolding moved_sequence Reads

          pub reads-moved : (q : SequenceForm) (d : Draft Boolean) → Reads s cs bs q d
              → Reads s cs bs (moved_sequence lies q) d
          reads-moved (boolean t) d h = boolean-moved t d h
          reads-moved (repeated q n) d h = (h.0, reads-moved q h.0 h.1, h.2)
          reads-moved (late t n q) d h = (h.0, reads-moved q h.0 h.1, h.2)
          reads-moved (delayed q steps) d h = (h.0, reads-moved q h.0 h.1, steps-moved h.0 steps d h.2)
          reads-moved (throughout t q) d h = (h.0, h.1, atom-moved t h.0 h.2, reads-moved q h.1 h.3, h.4)
          reads-moved (joined j q others) d h = (h.0, reads-moved q h.0 h.1, others-moved j h.0 others d h.2)

          steps-moved : (a : Draft Boolean) (steps : Steps) (d : Draft Boolean) → ReadsSteps s cs bs a steps d
              → ReadsSteps s cs bs a (moved_steps lies steps) d
          steps-moved a no_step d h = h
          steps-moved a (step n q steps) d h = (h.0, reads-moved q h.0 h.1, steps-moved _ steps d h.2)

          others-moved : (j : Junction) (a : Draft Boolean) (others : Others) (d : Draft Boolean)
              → ReadsOthers s cs bs j a others d → ReadsOthers s cs bs j a (moved_others lies others) d
          others-moved j a no_other d h = h
          others-moved j a (other q others) d h = (h.0, reads-moved q h.0 h.1, others-moved j _ others d h.2)
