-- Trees whose tokens lie elsewhere in memory: the same kinds, places and texts.
use Rattle.std.proofs.Common.{ℕ, map, Option, Some, None}
use Rattle.lexer.specs.declared.token.Token.{Token}
use Rattle.parser_grammar.specs.Trees.{Tree, number, path, concatenation, past, call, unary, chain, choice, Links, end}
use Rattle.parser_grammar.specs.Trees.{link}
use Rattle.parser_grammar.specs.Trees.{Parts, no_part, part, SequenceForm, boolean, repeated, late, delayed, throughout}
use Rattle.parser_grammar.specs.Trees.{joined, Steps, no_step, step, Others, no_other, other, PropertyForm, plain}
use Rattle.parser_grammar.specs.Trees.{implication}
use Rattle.parser_grammar.specs.Trees.{CounterForm, DeclarationForm, AssertionForm, ItemForm, counter, declaration}
use Rattle.parser_grammar.specs.Trees.{assertion}

-- by the byte at which a token stands, where its text is to lie
module _ (lies : ℕ → ℕ × ℕ) where
  abbrev pub moved : Token → Token
  moved t = record { kind = t.kind; at = t.at; text = record { ref_ptr = lies t.at; now = t.text.now } }

  abbrev pub moved_option : Option Token → Option Token
  moved_option None = None
  moved_option (Some t) = Some (moved t)

  unfoldable mutual
    pub moved_tree : Tree → Tree
    moved_tree (number n t) = number n (moved t)
    moved_tree (path words x) = path (map moved words) x
    moved_tree (concatenation t e parts) = concatenation (moved t) (moved_tree e) (moved_parts parts)
    moved_tree (past t e n) = past (moved t) (moved_tree e) n
    moved_tree (call f t e) = call f (moved t) (moved_tree e)
    moved_tree (unary op t e) = unary op (moved t) (moved_tree e)
    moved_tree (chain e links) = chain (moved_tree e) (moved_links links)
    moved_tree (choice c a b) = choice (moved_tree c) (moved_tree a) (moved_tree b)

    pub moved_links : Links → Links
    moved_links end = end
    moved_links (link op e links) = link op (moved_tree e) (moved_links links)

    pub moved_parts : Parts → Parts
    moved_parts no_part = no_part
    moved_parts (part e parts) = part (moved_tree e) (moved_parts parts)

  unfoldable mutual
    pub moved_sequence : SequenceForm → SequenceForm
    moved_sequence (boolean e) = boolean (moved_tree e)
    moved_sequence (repeated q n) = repeated (moved_sequence q) n
    moved_sequence (late t n q) = late (moved t) n (moved_sequence q)
    moved_sequence (delayed q steps) = delayed (moved_sequence q) (moved_steps steps)
    moved_sequence (throughout e q) = throughout (moved_tree e) (moved_sequence q)
    moved_sequence (joined j q others) = joined j (moved_sequence q) (moved_others others)

    pub moved_steps : Steps → Steps
    moved_steps no_step = no_step
    moved_steps (step n q steps) = step n (moved_sequence q) (moved_steps steps)

    pub moved_others : Others → Others
    moved_others no_other = no_other
    moved_others (other q others) = other (moved_sequence q) (moved_others others)

  abbrev pub moved_property : PropertyForm → PropertyForm
  moved_property (plain q) = plain (moved_sequence q)
  moved_property (implication word a i c) =
      implication (moved_option word) (moved_sequence a) i (moved_sequence c)

  abbrev pub moved_condition : Option Tree → Option Tree
  moved_condition None = None
  moved_condition (Some e) = Some (moved_tree e)

  abbrev pub moved_rule : Option (Tree × Tree) → Option (Tree × Tree)
  moved_rule None = None
  moved_rule (Some p) = Some (moved_tree p.0, moved_tree p.1)

  abbrev pub moved_counter : CounterForm → CounterForm
  moved_counter c = record {
    name = moved c.name;
    width = c.width;
    clear = moved_condition c.clear;
    load = moved_rule c.load;
    add = moved_rule c.add;
    sub = moved_rule c.sub;
  }

  abbrev pub moved_declaration : DeclarationForm → DeclarationForm
  moved_declaration d = record { name = moved d.name; body = moved_sequence d.body }

  abbrev pub moved_assertion : AssertionForm → AssertionForm
  moved_assertion a = record {
    label = moved_option a.label;
    verb = moved a.verb;
    clock = map moved a.clock;
    disable = moved_condition a.disable;
    property = moved_property a.property;
  }

  abbrev pub moved_item : ItemForm → ItemForm
  moved_item (counter c) = counter (moved_counter c)
  moved_item (declaration d) = declaration (moved_declaration d)
  moved_item (assertion a) = assertion (moved_assertion a)
