-- What a typed node says of its parts.
use Rattle.std.proofs.Common.{◌≡◌, ℕ, ◌≤◌, max, true, List, map, Vec, Box, Global, sym, ap, ◌∙◌, arith, IsTrue}
use Rattle.std.specs.Prelude.{◌==◌, nat_le, ◌&&◌}
use Rattle.std.proofs.lemmas.Bool.{and_parts, eqb-true, leb-true}
use Rattle.expressions.specs.declared.operator.Arithmetic.{Arithmetic}
use Rattle.expressions.specs.declared.operator.Shift.{Shift}
use Rattle.expressions.specs.declared.operator.Comparison.{Comparison}
use Rattle.expressions.specs.declared.operator.Connective.{Connective}
use Rattle.expressions.specs.declared.operator.Reduction.{Reduction}
use Rattle.expressions.specs.declared.operator.Change.{Change}
use Rattle.expressions.specs.declared.node.Node.{Node}
use Rattle.expressions.specs.declared.node.Node.TheOpen.{Node-F}
use Rattle.expressions.specs.declared.node.Node.TheFolds.{fold-roll-Node}
use Rattle.expressions.specs.declared.node.Node.TheVariants.{Group, Concat, Complement, Reduce, Arithmetic as Sums}
use Rattle.expressions.specs.declared.node.Node.TheVariants.{Shift as Shifts, Compare, Connect, Choose, Past}
use Rattle.expressions.specs.declared.node.Node.TheVariants.{Change as Changes, rolls-Group, rolls-Concat}
use Rattle.expressions.specs.declared.node.Node.TheVariants.{rolls-Complement, rolls-Reduce, rolls-Arithmetic}
use Rattle.expressions.specs.declared.node.Node.TheVariants.{rolls-Shift, rolls-Compare, rolls-Connect, rolls-Choose}
use Rattle.expressions.specs.declared.node.Node.TheVariants.{rolls-Past, rolls-Change}
use Rattle.expressions.specs.Terms.{Term, group, inverse, reduce, combine, shift, compare, connect, choose, past}
use Rattle.expressions.specs.Terms.{change, width_of}
use Rattle.expressions.specs.Nodes.{Seen, chain_term, concatenation_term, all_typed, all_parts_typed, width_compared}
use Rattle.expressions.specs.Nodes.{has_some, has_part, keeps, kept_one, kept_chain, seen_step, seen_node, node_term}
use Rattle.expressions.specs.Nodes.{is_typed, step_of}
use Rattle.expressions.specs.Chains.{total_of}
use Rattle.expressions.proofs.Chains.{width-compared, width-connected, width-joined, some_compared, first_compared}

-- a kept width
pub record Kept (kept width : ℕ) : Type 0 where
  pub is : kept ≡ width
  pub some_bits : 1 ≤ kept
  pub at_most_128 : kept ≤ 128

pub kept_parts : (kept width : ℕ) → keeps kept width ≡ true → Kept kept width
kept_parts kept width h =
    let p = and_parts ((kept == width) && nat_le 1 width) (nat_le width 128) h in
    let q = and_parts (kept == width) (nat_le 1 width) p.0 in
    let e = eqb-true kept width q.0 in
    record {
      is = e;
      some_bits = omega (arith, leb-true 1 width q.1);
      at_most_128 = omega (arith, leb-true width 128 p.1);
    }

-- a node of one operand
pub record IsOne (make : Term → Term) (kept : ℕ) (node e : Node) : Type 0 where
  pub term : node_term node ≡ make (node_term e)
  pub typed : IsTrue (is_typed e)
  pub width : Kept kept (width_of (make (node_term e)))

one_parts : (make : Term → Term) (kept : ℕ) (node e : Node) → seen_node node ≡ kept_one make kept (seen_node e)
    → IsTrue (is_typed node) → IsOne make kept node e
one_parts make kept node e same typed =
    let p =
    and_parts (is_typed e) (keeps kept (width_of (make (node_term e)))) (sym (ap (λ (s : Seen). s.is_typed) same)
    ∙ typed) in
    record {
      term = ap (λ (s : Seen). s.term) same;
      typed = p.0;
      width = kept_parts kept (width_of (make (node_term e))) p.1;
    }

pub opens_group : (node : Node) (kept : ℕ) (e : Box Node Global) → node ≡ Group kept e → IsTrue (is_typed node)
    → IsOne group kept node e.value
opens_group node kept e is typed =
    one_parts group kept node e.value (ap seen_node is ∙ ap seen_node (sym (rolls-Group kept e))
    ∙ fold-roll-Node Seen seen_step (Node-F.Group kept e)) typed

pub opens_complement : (node : Node) (kept : ℕ) (e : Box Node Global) → node ≡ Complement kept e
    → IsTrue (is_typed node) → IsOne inverse kept node e.value
opens_complement node kept e is typed =
    one_parts inverse kept node e.value (ap seen_node is ∙ ap seen_node (sym (rolls-Complement kept e))
    ∙ fold-roll-Node Seen seen_step (Node-F.Complement kept e)) typed

pub opens_past : (node : Node) (kept : ℕ) (e : Box Node Global) (ticks : ℕ) → node ≡ Past kept e ticks
    → IsTrue (is_typed node) →
    IsOne (λ d. past d ticks) kept node e.value
opens_past node kept e ticks is typed =
    one_parts (λ d. past d ticks) kept node e.value (ap seen_node is ∙ ap seen_node (sym (rolls-Past kept e ticks))
    ∙ fold-roll-Node Seen seen_step (Node-F.Past kept e ticks)) typed

-- a node of one operand that has one bit
pub record IsBit (make : Term → Term) (node e : Node) : Type 0 where
  pub term : node_term node ≡ make (node_term e)
  pub typed : IsTrue (is_typed e)

pub opens_reduce : (node : Node) (op : Reduction) (e : Box Node Global) → node ≡ Reduce op e → IsTrue (is_typed node)
    → IsBit (reduce op) node e.value
opens_reduce node op e is typed =
    let same : seen_node node ≡ record { term = reduce op (node_term e.value); is_typed = is_typed e.value } =
    ap seen_node is ∙ ap seen_node (sym (rolls-Reduce op e)) ∙ fold-roll-Node Seen seen_step (Node-F.Reduce op e) in
    record { term = ap (λ (s : Seen). s.term) same; typed = sym (ap (λ (s : Seen). s.is_typed) same) ∙ typed }

pub opens_change : (node : Node) (op : Change) (e : Box Node Global) → node ≡ Changes op e → IsTrue (is_typed node)
    → IsBit (change op) node e.value
opens_change node op e is typed =
    let same : seen_node node ≡ record { term = change op (node_term e.value); is_typed = is_typed e.value } =
    ap seen_node is ∙ ap seen_node (sym (rolls-Change op e)) ∙ fold-roll-Node Seen seen_step (Node-F.Change op e) in
    record { term = ap (λ (s : Seen). s.term) same; typed = sym (ap (λ (s : Seen). s.is_typed) same) ∙ typed }

-- a chain of operators
pub record IsChain (O : Type 0) (make : O → Term → Term → Term) (node first : Node) (steps : List (O × Seen)) : Type 0
  where
    pub term : node_term node ≡ chain_term make (node_term first) steps
    pub first_typed : IsTrue (is_typed first)
    pub steps_typed : IsTrue (all_typed steps)

pub record IsKeptChain (O : Type 0) (make : O → Term → Term → Term) (kept : ℕ) (node first : Node)
    (steps : List (O × Seen)) : Type 0 where
  pub chain : IsChain O make node first steps
  pub width : Kept kept (width_of (chain_term make (node_term first) steps))

chain_parts : (O : Type 0) (make : O → Term → Term → Term) (kept : ℕ) (node first : Node) (steps : List (O × Seen)) →
    seen_node node ≡ kept_chain make kept (seen_node first) steps → IsTrue (is_typed node)
    → IsKeptChain O make kept node first steps
chain_parts O make kept node first steps same typed =
    let w = width_of (chain_term make (node_term first) steps) in
    let p =
    and_parts (is_typed first && all_typed steps) (keeps kept w) (sym (ap (λ (s : Seen). s.is_typed) same)
    ∙ typed) in
    let q = and_parts (is_typed first) (all_typed steps) p.0 in
    record {
      chain = record { term = ap (λ (s : Seen). s.term) same; first_typed = q.0; steps_typed = q.1 };
      width = kept_parts kept w p.1;
    }

pub opens_sums : (node : Node) (kept : ℕ) (first : Box Node Global) (steps : Vec (Arithmetic × Node) Global)
    → node ≡ Sums kept first steps → IsTrue (is_typed node) →
    IsKeptChain Arithmetic combine kept node first.value (map step_of steps.items)
opens_sums node kept first steps is typed =
    chain_parts Arithmetic combine kept node first.value (map step_of steps.items)
    (ap seen_node is ∙ ap seen_node (sym (rolls-Arithmetic kept first steps))
    ∙ fold-roll-Node Seen seen_step (Node-F.Arithmetic kept first steps)) typed

pub opens_shifts : (node : Node) (kept : ℕ) (first : Box Node Global) (steps : Vec (Shift × Node) Global)
    → node ≡ Shifts kept first steps → IsTrue (is_typed node) →
    IsKeptChain Shift shift kept node first.value (map step_of steps.items)
opens_shifts node kept first steps is typed =
    chain_parts Shift shift kept node first.value (map step_of steps.items)
    (ap seen_node is ∙ ap seen_node (sym (rolls-Shift kept first steps))
    ∙ fold-roll-Node Seen seen_step (Node-F.Shift kept first steps)) typed

-- comparisons, with the width of the first
pub record IsComparison (kept : ℕ) (node first : Node) (steps : List (Comparison × Seen)) : Type 0 where
  pub chain : IsChain Comparison compare node first steps
  pub keeping : IsTrue (keeps kept (width_compared (node_term first) steps))
  pub width : Kept kept (width_compared (node_term first) steps)
  pub first_narrow : width_of (node_term first) ≤ kept
  pub some : IsTrue (has_some steps)
  pub one : width_of (node_term node) ≡ 1

pub opens_compare : (node : Node) (kept : ℕ) (first : Box Node Global) (steps : Vec (Comparison × Node) Global)
    → node ≡ Compare kept first steps → IsTrue (is_typed node) →
    IsComparison kept node first.value (map step_of steps.items)
opens_compare node kept first steps is typed =
    let all = map step_of steps.items in
    let w = width_compared (node_term first.value) all in
    let same : seen_node node
    ≡ record {
      term = chain_term compare (node_term first.value) all;
      is_typed = is_typed first.value && all_typed all && keeps kept w;
    } =
    ap seen_node is ∙ ap seen_node (sym (rolls-Compare kept first steps))
    ∙ fold-roll-Node Seen seen_step (Node-F.Compare kept first steps) in
    let p =
    and_parts (is_typed first.value && all_typed all) (keeps kept w) (sym (ap (λ (s : Seen). s.is_typed) same)
    ∙ typed) in
    let q = and_parts (is_typed first.value) (all_typed all) p.0 in
    let width = kept_parts kept w p.1 in
    let some : 1 ≤ width_compared (node_term first.value) all = omega (arith, width.is, width.some_bits) in
    record {
      chain = record { term = ap (λ (s : Seen). s.term) same; first_typed = q.0; steps_typed = q.1 };
      keeping = p.1;
      width = width;
      first_narrow = omega (arith, width.is, first_compared (node_term first.value) all some);
      some = some_compared (node_term first.value) all some;
      one = ap (λ (s : Seen). width_of s.term) same ∙ width-compared (node_term first.value) all some;
    }

-- connectives
pub record IsConnection (node first : Node) (steps : List (Connective × Seen)) : Type 0 where
  pub chain : IsChain Connective connect node first steps
  pub some : IsTrue (has_some steps)
  pub one : width_of (node_term node) ≡ 1

pub opens_connect : (node : Node) (first : Box Node Global) (steps : Vec (Connective × Node) Global)
    → node ≡ Connect first steps → IsTrue (is_typed node) →
    IsConnection node first.value (map step_of steps.items)
opens_connect node first steps is typed =
    let all = map step_of steps.items in
    let same : seen_node node
    ≡ record {
      term = chain_term connect (node_term first.value) all;
      is_typed = is_typed first.value && all_typed all && has_some all;
    } =
    ap seen_node is ∙ ap seen_node (sym (rolls-Connect first steps))
    ∙ fold-roll-Node Seen seen_step (Node-F.Connect first steps) in
    let p =
    and_parts (is_typed first.value && all_typed all) (has_some all) (sym (ap (λ (s : Seen). s.is_typed) same)
    ∙ typed) in
    let q = and_parts (is_typed first.value) (all_typed all) p.0 in
    record {
      chain = record { term = ap (λ (s : Seen). s.term) same; first_typed = q.0; steps_typed = q.1 };
      some = p.1;
      one = ap (λ (s : Seen). width_of s.term) same ∙ width-connected (node_term first.value) all p.1;
    }

-- parts side by side
pub record IsJoined (kept : ℕ) (node first : Node) (parts : List Seen) : Type 0 where
  pub term : node_term node ≡ concatenation_term (node_term first) parts
  pub first_typed : IsTrue (is_typed first)
  pub parts_typed : IsTrue (all_parts_typed parts)
  pub some : IsTrue (has_part parts)
  pub width : Kept kept (width_of (concatenation_term (node_term first) parts))
  pub total : total_of (width_of (node_term first)) parts ≡ width_of (node_term node)

pub opens_concat : (node : Node) (kept : ℕ) (first : Box Node Global) (parts : Vec Node Global)
    → node ≡ Concat kept first parts → IsTrue (is_typed node) →
    IsJoined kept node first.value (map seen_node parts.items)
opens_concat node kept first parts is typed =
    let all = map seen_node parts.items in
    let w = width_of (concatenation_term (node_term first.value) all) in
    let same : seen_node node
    ≡ record {
      term = concatenation_term (node_term first.value) all;
      is_typed = is_typed first.value && all_parts_typed all && has_part all && keeps kept w;
    } =
    ap seen_node is ∙ ap seen_node (sym (rolls-Concat kept first parts))
    ∙ fold-roll-Node Seen seen_step (Node-F.Concat kept first parts) in
    let p =
    and_parts (is_typed first.value && all_parts_typed all && has_part all) (keeps kept w)
    (sym (ap (λ (s : Seen). s.is_typed) same) ∙ typed) in
    let q = and_parts (is_typed first.value && all_parts_typed all) (has_part all) p.0 in
    let r = and_parts (is_typed first.value) (all_parts_typed all) q.0 in
    record {
      term = ap (λ (s : Seen). s.term) same;
      first_typed = r.0;
      parts_typed = r.1;
      some = q.1;
      width = kept_parts kept w p.1;
      total =
          sym (ap (λ (s : Seen). width_of s.term) same ∙ width-joined (node_term first.value) all);
    }

-- a choice
pub record IsChoice (kept : ℕ) (node c a b : Node) : Type 0 where
  pub term : node_term node ≡ choose (node_term c) (node_term a) (node_term b)
  pub condition_typed : IsTrue (is_typed c)
  pub first_typed : IsTrue (is_typed a)
  pub second_typed : IsTrue (is_typed b)
  pub width : Kept kept (max (width_of (node_term a)) (width_of (node_term b)))

pub opens_choose : (node : Node) (kept : ℕ) (c a b : Box Node Global) → node ≡ Choose kept c a b
    → IsTrue (is_typed node) → IsChoice kept node c.value a.value b.value
opens_choose node kept c a b is typed =
    let w = max (width_of (node_term a.value)) (width_of (node_term b.value)) in
    let same : seen_node node
    ≡ record {
      term = choose (node_term c.value) (node_term a.value) (node_term b.value);
      is_typed = is_typed c.value && is_typed a.value && is_typed b.value && keeps kept w;
    } =
    ap seen_node is ∙ ap seen_node (sym (rolls-Choose kept c a b))
    ∙ fold-roll-Node Seen seen_step (Node-F.Choose kept c a b) in
    let p =
    and_parts (is_typed c.value && is_typed a.value && is_typed b.value) (keeps kept w)
    (sym (ap (λ (s : Seen). s.is_typed) same) ∙ typed) in
    let q = and_parts (is_typed c.value && is_typed a.value) (is_typed b.value) p.0 in
    let r = and_parts (is_typed c.value) (is_typed a.value) q.0 in
    record {
      term = ap (λ (s : Seen). s.term) same;
      condition_typed = r.0;
      first_typed = r.1;
      second_typed = q.1;
      width = kept_parts kept w p.1;
    }
