-- The names of nodes, by those of their parts.
use Rattle.std.proofs.Common.{ℕ, ◌≡◌, List, [], ◌∷◌, ◌++◌, map, Vec, Box, Global, sym, ap, ◌∙◌, refl, OnOk, Result}
use Rattle.std.proofs.lemmas.List.{append_assoc, append-nil}
use Rattle.std.proofs.lemmas.Result.{on_ok_weaker}
use Rattle.expressions.specs.declared.operator.Arithmetic.{Arithmetic}
use Rattle.expressions.specs.declared.operator.Shift.{Shift}
use Rattle.expressions.specs.declared.operator.Comparison.{Comparison}
use Rattle.expressions.specs.declared.operator.Connective.{Connective}
use Rattle.expressions.specs.declared.name.Name.{Name}
use Rattle.expressions.specs.declared.node.Node.{Node}
use Rattle.expressions.specs.declared.node.Node.TheOpen.{Node-F}
use Rattle.expressions.specs.declared.node.Node.TheFolds.{fold-roll-Node}
use Rattle.expressions.specs.declared.node.Node.TheVariants.{Concat, Arithmetic as Sums, Shift as Shifts, Compare}
use Rattle.expressions.specs.declared.node.Node.TheVariants.{Connect, Choose}
use Rattle.expressions.specs.declared.node.Node.TheVariants.{rolls-Concat, rolls-Arithmetic, rolls-Shift, rolls-Compare}
use Rattle.expressions.specs.declared.node.Node.TheVariants.{rolls-Connect, rolls-Choose}
use Rattle.expressions.specs.Terms.{Term, concat, combine, shift, compare, connect}
use Rattle.expressions.specs.Nodes.{Seen, chain_term, concatenation_term, seen_step, seen_node, node_term, step_of}
use Rattle.assertions.specs.Names.{names_in, operand_names, part_names}

-- an operator has the names of both operands
abbrev pub Joins : {O : Type 0} → (O → Term → Term → Term) → Type 0
Joins {O} make = (op : O) (a b : Term) → names_in (make op a b) ≡ names_in a ++ names_in b

pub chain-names : {O : Type 0} (make : O → Term → Term → Term) → Joins make → (first : Term) (steps : List (O × Seen)) →
    names_in (chain_term make first steps) ≡ names_in first ++ operand_names steps
chain-names make joins first [] = sym (append-nil (names_in first))
chain-names make joins first (s ∷ rest) =
    chain-names make joins (make s.0 first s.1.term) rest
    ∙ ap (λ ns. ns ++ operand_names rest) (joins s.0 first s.1.term)
    ∙ append_assoc (names_in first) (names_in s.1.term) (operand_names rest)

pub parts-names : (first : Term) (parts : List Seen) →
    names_in (concatenation_term first parts) ≡ names_in first ++ part_names parts
parts-names first [] = sym (append-nil (names_in first))
parts-names first (part ∷ rest) =
    parts-names (concat first part.term) rest
    ∙ append_assoc (names_in first) (names_in part.term) (part_names rest)

pub sums-names : (node : Node) (kept : ℕ) (first : Box Node Global) (steps : Vec (Arithmetic × Node) Global)
    → node ≡ Sums kept first steps →
    names_in (node_term node) ≡ names_in (node_term first.value) ++ operand_names (map step_of steps.items)
sums-names node kept first steps is =
    ap (λ (s : Seen). names_in s.term) (ap seen_node is ∙ ap seen_node (sym (rolls-Arithmetic kept first steps))
    ∙ fold-roll-Node Seen seen_step (Node-F.Arithmetic kept first steps))
    ∙ chain-names combine (λ op a b. refl) (node_term first.value) (map step_of steps.items)

pub shifts-names : (node : Node) (kept : ℕ) (first : Box Node Global) (steps : Vec (Shift × Node) Global)
    → node ≡ Shifts kept first steps →
    names_in (node_term node) ≡ names_in (node_term first.value) ++ operand_names (map step_of steps.items)
shifts-names node kept first steps is =
    ap (λ (s : Seen). names_in s.term) (ap seen_node is ∙ ap seen_node (sym (rolls-Shift kept first steps))
    ∙ fold-roll-Node Seen seen_step (Node-F.Shift kept first steps))
    ∙ chain-names shift (λ op a b. refl) (node_term first.value) (map step_of steps.items)

pub compared-names : (node : Node) (kept : ℕ) (first : Box Node Global) (steps : Vec (Comparison × Node) Global)
    → node ≡ Compare kept first steps →
    names_in (node_term node) ≡ names_in (node_term first.value) ++ operand_names (map step_of steps.items)
compared-names node kept first steps is =
    ap (λ (s : Seen). names_in s.term) (ap seen_node is ∙ ap seen_node (sym (rolls-Compare kept first steps))
    ∙ fold-roll-Node Seen seen_step (Node-F.Compare kept first steps))
    ∙ chain-names compare (λ op a b. refl) (node_term first.value) (map step_of steps.items)

pub connected-names : (node : Node) (first : Box Node Global) (steps : Vec (Connective × Node) Global)
    → node ≡ Connect first steps →
    names_in (node_term node) ≡ names_in (node_term first.value) ++ operand_names (map step_of steps.items)
connected-names node first steps is =
    ap (λ (s : Seen). names_in s.term) (ap seen_node is ∙ ap seen_node (sym (rolls-Connect first steps))
    ∙ fold-roll-Node Seen seen_step (Node-F.Connect first steps))
    ∙ chain-names connect (λ op a b. refl) (node_term first.value) (map step_of steps.items)

pub joined-names : (node : Node) (kept : ℕ) (first : Box Node Global) (parts : Vec Node Global)
    → node ≡ Concat kept first parts →
    names_in (node_term node) ≡ names_in (node_term first.value) ++ part_names (map seen_node parts.items)
joined-names node kept first parts is =
    ap (λ (s : Seen). names_in s.term) (ap seen_node is ∙ ap seen_node (sym (rolls-Concat kept first parts))
    ∙ fold-roll-Node Seen seen_step (Node-F.Concat kept first parts))
    ∙ parts-names (node_term first.value) (map seen_node parts.items)

pub chosen-names : (node : Node) (kept : ℕ) (c a b : Box Node Global) → node ≡ Choose kept c a b →
    names_in (node_term node) ≡ names_in (node_term c.value)
    ++ (names_in (node_term a.value) ++ names_in (node_term b.value))
chosen-names node kept c a b is =
    ap (λ (s : Seen). names_in s.term) (ap seen_node is ∙ ap seen_node (sym (rolls-Choose kept c a b))
    ∙ fold-roll-Node Seen seen_step (Node-F.Choose kept c a b))

-- names after those of the first part
pub behind-first : {T E : Type 0} (r : Result T E) (old first mid rest whole new : List Name) → mid ≡ old ++ first
    → whole ≡ first ++ rest →
    OnOk r (new ≡ mid ++ rest) → OnOk r (new ≡ old ++ whole)
behind-first r old first mid rest whole new added is =
    on_ok_weaker r (λ e. e ∙ ap (λ ns. ns ++ rest) added ∙ append_assoc old first rest ∙ ap (λ ns. old ++ ns) (sym is))

-- the same of three parts
pub behind-two : {T E : Type 0} (r : Result T E) (old first mid second more third whole new : List Name)
    → mid ≡ old ++ first → more ≡ mid ++ second →
    whole ≡ first ++ (second ++ third) → OnOk r (new ≡ more ++ third) → OnOk r (new ≡ old ++ whole)
behind-two r old first mid second more third whole new added then is h =
    behind-first r old first mid (second ++ third) whole new added is
    (behind-first r mid second more third (second ++ third) new then refl h)
