-- What a text reads over a dump, it reads over one that has every path.
use Rattle.std.proofs.Common.{◌≡◌, ℕ, Bool, true, false, List, [], ◌∷◌, ◌++◌, Option, Some, None, refl, ◌∙◌, IsTrue}
use Rattle.std.specs.Prelude.{◌&&◌}
use Rattle.parser_grammar.specs.Trees.{Tree, number, path, concatenation, past, call, unary, chain, choice}
use Rattle.parser_grammar.specs.Trees.{Links, end, link, Parts, no_part, part, SequenceForm, boolean, repeated, late}
use Rattle.parser_grammar.specs.Trees.{delayed}
use Rattle.parser_grammar.specs.Trees.{throughout, joined, Steps, no_step, step, Others, no_other, other}
use Rattle.parser_grammar.specs.Trees.{PropertyForm, plain, implication, ItemForm, counter, declaration, assertion}
use Rattle.types_names.specs.declared.own.Own.{Own}
use Rattle.types_names.specs.Scopes.{Scope, meaning_by, path_text, look_up, owns}
use Rattle.types_names.specs.Columns.{path_signals, signals, link_signals, part_signals, sequence_signals}
use Rattle.types_names.specs.Columns.{step_signals}
use Rattle.types_names.specs.Columns.{other_signals, property_signals, optional_signals, clause_signals}
use Rattle.types_names.specs.Columns.{item_signals}
use Rattle.types_names.specs.Columns.{file_signals, all_listed}
use Rattle.types_names.specs.Asked.{whole_scope, scope_over_any, asked}
use Rattle.types_names.proofs.ColumnLaws.{all_listed-append, listed-parts, columns-all}

both : (a b : Bool) → a ≡ true → b ≡ true → (a && b) ≡ true
both true b h k = k
both false b h k = absurd cc

module _ (known : List (List ℕ)) where
  abbrev AreListed : List (List ℕ) → Type 0
  AreListed ps = IsTrue (all_listed known ps)

  -- where two lists are listed, their join is
  listed-join : (ps qs : List (List ℕ)) → AreListed ps → AreListed qs → AreListed (ps ++ qs)
  listed-join ps qs h k = all_listed-append known ps qs ∙ both (all_listed known ps) (all_listed known qs) h k

  -- two parts of what is listed, each with what it is more than
  parts : (ps qs xs ys : List (List ℕ)) → (AreListed xs → AreListed ps) → (AreListed ys → AreListed qs)
      → AreListed (xs ++ ys) → AreListed (ps ++ qs)
  parts ps qs xs ys f g h =
      let two = listed-parts known xs ys h in
      listed-join ps qs (f two.0) (g two.1)

  module _ (own : List ℕ → Option Own) (widths : List ℕ → Option ℕ) where
    -- over some widths, and over any path
    abbrev some_scope : Scope
    some_scope = record { own = own; dump = widths }

    abbrev any_scope : Scope
    any_scope = record { own = own; dump = λ p. Some 1 }

    path-read : (p : List ℕ) (o : Option Own) (w : Option ℕ) → AreListed (path_signals p (meaning_by o (Some 1)))
        → AreListed (path_signals p (meaning_by o w))
    path-read p (Some o) w h = refl
    path-read p None None h = refl
    path-read p None (Some w) h = h

    mutual
      unfolding signals

      tree-read : (t : Tree) → AreListed (signals any_scope t) → AreListed (signals some_scope t)
      tree-read (number n t) h = refl
      tree-read (path words x) h =
          path-read (path_text words) (own (path_text words)) (widths (path_text words)) h
      tree-read (concatenation t e more) h =
          parts (signals some_scope e) (part_signals some_scope more) (signals any_scope e)
          (part_signals any_scope more) (tree-read e) (parts-read more) h
      tree-read (past t e n) h = tree-read e h
      tree-read (call f t e) h = tree-read e h
      tree-read (unary op t e) h = tree-read e h
      tree-read (chain e links) h =
          parts (signals some_scope e) (link_signals some_scope links) (signals any_scope e)
          (link_signals any_scope links) (tree-read e) (links-read links) h
      tree-read (choice c x y) h =
          parts (signals some_scope c) (signals some_scope x ++ signals some_scope y) (signals any_scope c)
          (signals any_scope x ++ signals any_scope y) (tree-read c)
          (parts (signals some_scope x) (signals some_scope y) (signals any_scope x) (signals any_scope y)
          (tree-read x) (tree-read y)) h

      links-read : (links : Links) → AreListed (link_signals any_scope links)
          → AreListed (link_signals some_scope links)
      links-read end h = refl
      links-read (link op e links) h =
          parts (signals some_scope e) (link_signals some_scope links) (signals any_scope e)
          (link_signals any_scope links) (tree-read e) (links-read links) h

      parts-read : (more : Parts) → AreListed (part_signals any_scope more) → AreListed (part_signals some_scope more)
      parts-read no_part h = refl
      parts-read (part e more) h =
          parts (signals some_scope e) (part_signals some_scope more) (signals any_scope e)
          (part_signals any_scope more) (tree-read e) (parts-read more) h

    mutual
      unfolding sequence_signals

      sequence-read : (q : SequenceForm) → AreListed (sequence_signals any_scope q)
          → AreListed (sequence_signals some_scope q)
      sequence-read (boolean e) h = tree-read e h
      sequence-read (repeated q n) h = sequence-read q h
      sequence-read (late t n q) h = sequence-read q h
      sequence-read (delayed q steps) h =
          parts (sequence_signals some_scope q) (step_signals some_scope steps) (sequence_signals any_scope q)
          (step_signals any_scope steps) (sequence-read q) (steps-read steps) h
      sequence-read (throughout e q) h =
          parts (signals some_scope e) (sequence_signals some_scope q) (signals any_scope e)
          (sequence_signals any_scope q) (tree-read e) (sequence-read q) h
      sequence-read (joined j q others) h =
          parts (sequence_signals some_scope q) (other_signals some_scope others) (sequence_signals any_scope q)
          (other_signals any_scope others) (sequence-read q) (others-read others) h

      steps-read : (steps : Steps) → AreListed (step_signals any_scope steps)
          → AreListed (step_signals some_scope steps)
      steps-read no_step h = refl
      steps-read (step n q steps) h =
          parts (sequence_signals some_scope q) (step_signals some_scope steps) (sequence_signals any_scope q)
          (step_signals any_scope steps) (sequence-read q) (steps-read steps) h

      others-read : (others : Others) → AreListed (other_signals any_scope others)
          → AreListed (other_signals some_scope others)
      others-read no_other h = refl
      others-read (other q others) h =
          parts (sequence_signals some_scope q) (other_signals some_scope others) (sequence_signals any_scope q)
          (other_signals any_scope others) (sequence-read q) (others-read others) h

    property-read : (p : PropertyForm) → AreListed (property_signals any_scope p)
        → AreListed (property_signals some_scope p)
    property-read (plain q) h = sequence-read q h
    property-read (implication word a t c) h =
        parts (sequence_signals some_scope a) (sequence_signals some_scope c) (sequence_signals any_scope a)
        (sequence_signals any_scope c) (sequence-read a) (sequence-read c) h

    optional-read : (o : Option Tree) → AreListed (optional_signals any_scope o)
        → AreListed (optional_signals some_scope o)
    optional-read None h = refl
    optional-read (Some e) h = tree-read e h

    clause-read : (o : Option (Tree × Tree)) → AreListed (clause_signals any_scope o)
        → AreListed (clause_signals some_scope o)
    clause-read None h = refl
    clause-read (Some p) h =
        parts (signals some_scope p.0) (signals some_scope p.1) (signals any_scope p.0) (signals any_scope p.1)
        (tree-read p.0) (tree-read p.1) h

    item-read : (i : ItemForm) → AreListed (item_signals any_scope i) → AreListed (item_signals some_scope i)
    item-read (counter c) h =
        parts (optional_signals some_scope c.clear) _ (optional_signals any_scope c.clear) _ (optional-read c.clear)
        (parts (clause_signals some_scope c.load) _ (clause_signals any_scope c.load) _ (clause-read c.load)
        (parts (clause_signals some_scope c.add) (clause_signals some_scope c.sub) (clause_signals any_scope c.add)
        (clause_signals any_scope c.sub) (clause-read c.add) (clause-read c.sub))) h
    item-read (declaration d) h = sequence-read d.body h
    item-read (assertion a) h =
        parts (optional_signals some_scope a.disable) (property_signals some_scope a.property)
        (optional_signals any_scope a.disable) (property_signals any_scope a.property) (optional-read a.disable)
        (property-read a.property) h

    file-read : (items : List ItemForm) → AreListed (file_signals any_scope items)
        → AreListed (file_signals some_scope items)
    file-read [] h = refl
    file-read (i ∷ items) h =
        parts (item_signals some_scope i) (file_signals some_scope items) (item_signals any_scope i)
        (file_signals any_scope items) (item-read i) (file-read items) h

-- so what a text reads is asked for
pub reads-asked : (items : List ItemForm) (widths : List ℕ → Option ℕ)
    → IsTrue (all_listed (asked items) (file_signals (whole_scope items widths) items))
reads-asked items widths =
    file-read (asked items) (look_up (owns items)) widths items (columns-all (scope_over_any items) items)
