-- The terms that trees stand for, and the widths that trees keep.
use Rattle.std.specs.Prelude.{◌≡◌, IsTrue, ℕ, ◌==◌, nat_le, max, ◌&&◌, Bool, true, false, List, []}
use Rattle.std.specs.Prelude.{◌∷◌}
use Rattle.expressions.specs.declared.node.Node.{Node}
use Rattle.expressions.specs.declared.node.Node.TheOpen.{Node-F}
use Rattle.expressions.specs.declared.node.Node.TheFolds.{fold-Node}
use Rattle.expressions.specs.Terms.{Term, constant, named, slice, group, concat, inverse, reduce}
use Rattle.expressions.specs.Terms.{combine, shift, compare, connect, choose, past, change}
use Rattle.expressions.specs.Terms.{width_of}

-- what a tree stands for, and whether each of its nodes keeps the width of what it stands for
pub record Seen : Type 0 where
  pub term : Term
  pub is_typed : Bool

-- operators are applied from the left (11.3.2)
abbrev pub chain_term : {O : Type 0} → (O → Term → Term → Term) → Term → List (O × Seen) → Term
chain_term make first [] = first
chain_term make first (s ∷ rest) = chain_term make (make s.0 first s.1.term) rest

abbrev pub concatenation_term : Term → List Seen → Term
concatenation_term first [] = first
concatenation_term first (part ∷ rest) = concatenation_term (concat first part.term) rest

abbrev pub all_typed : {O : Type 0} → List (O × Seen) → Bool
all_typed [] = true
all_typed (s ∷ rest) = s.1.is_typed && all_typed rest

abbrev pub all_parts_typed : List Seen → Bool
all_parts_typed [] = true
all_parts_typed (part ∷ rest) = part.is_typed && all_parts_typed rest

-- the width of the first comparison of a chain, and 0 where there is none
abbrev pub width_compared : {O : Type 0} → Term → List (O × Seen) → ℕ
width_compared first [] = 0
width_compared first (s ∷ rest) = max (width_of first) (width_of s.1.term)

abbrev pub has_some : {O : Type 0} → List (O × Seen) → Bool
has_some [] = false
has_some (s ∷ rest) = true

abbrev pub has_part : List Seen → Bool
has_part [] = false
has_part (part ∷ rest) = true

-- a width that is kept, of 1 to 128 bits
abbrev pub keeps : ℕ → ℕ → Bool
keeps kept width = (kept == width) && nat_le 1 width && nat_le width 128

-- a node of one operand, and one of a chain of operators, that keep their widths
abbrev pub kept_one : (Term → Term) → ℕ → Seen → Seen
kept_one make kept e =
    record { term = make e.term; is_typed = e.is_typed && keeps kept (width_of (make e.term)) }

abbrev pub kept_chain : {O : Type 0} → (O → Term → Term → Term) → ℕ → Seen → List (O × Seen) → Seen
kept_chain make kept first steps =
    record {
      term = chain_term make first.term steps;
      is_typed =
          first.is_typed && all_typed steps && keeps kept
          (width_of (chain_term make first.term steps));
    }

-- a node, from what is seen of its parts
abbrev pub seen_step : Node-F Seen → Seen
seen_step (Node-F.Constant bits) = record { term = constant bits; is_typed = true }
seen_step (Node-F.Name name) = record { term = named name; is_typed = true }
seen_step (Node-F.Slice part) = record { term = slice part; is_typed = true }
seen_step (Node-F.Group kept e) = kept_one group kept e.value
seen_step (Node-F.Concat kept first parts) =
    record {
      term = concatenation_term first.value.term parts.items;
      is_typed =
          first.value.is_typed && all_parts_typed parts.items && has_part parts.items
          && keeps kept (width_of (concatenation_term first.value.term parts.items));
    }
seen_step (Node-F.Complement kept e) = kept_one inverse kept e.value
seen_step (Node-F.Reduce op e) =
    record { term = reduce op e.value.term; is_typed = e.value.is_typed }
seen_step (Node-F.Arithmetic kept first steps) = kept_chain combine kept first.value steps.items
seen_step (Node-F.Shift kept first steps) = kept_chain shift kept first.value steps.items
seen_step (Node-F.Compare kept first steps) =
    record {
      term = chain_term compare first.value.term steps.items;
      is_typed =
          first.value.is_typed && all_typed steps.items
          && keeps kept (width_compared first.value.term steps.items);
    }
seen_step (Node-F.Connect first steps) =
    record {
      term = chain_term connect first.value.term steps.items;
      is_typed = first.value.is_typed && all_typed steps.items && has_some steps.items;
    }
seen_step (Node-F.Choose kept c a b) =
    record {
      term = choose c.value.term a.value.term b.value.term;
      is_typed =
          c.value.is_typed && a.value.is_typed && b.value.is_typed
          && keeps kept (max (width_of a.value.term) (width_of b.value.term));
    }
seen_step (Node-F.Past kept e ticks) = kept_one (λ d. past d ticks) kept e.value
seen_step (Node-F.Change op e) =
    record { term = change op e.value.term; is_typed = e.value.is_typed }

abbrev pub seen_node : Node → Seen
seen_node = fold-Node Seen seen_step

-- the term that a tree stands for
abbrev pub node_term : Node → Term
node_term node = (seen_node node).term

-- Each node keeps its width, which is 1 to 128.
abbrev pub is_typed : Node → Bool
is_typed node = (seen_node node).is_typed

-- an operator with what is seen of its operand
abbrev pub step_of : {O : Type 0} → O × Node → O × Seen
step_of s = (s.0, seen_node s.1)

-- the tree of a term, each node with its width
pub record IsTree (meant : Term) (node : Node) : Type 0 where
  pub term : node_term node ≡ meant
  pub typed : IsTrue (is_typed node)
