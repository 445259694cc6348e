-- How far chains of operators look back.
use Rattle.std.proofs.Common.{◌≡◌, ℕ, List, [], ◌∷◌, max, ap, arith}
use Rattle.expressions.specs.declared.node.Node.{Node}
use Rattle.expressions.specs.Terms.{Term, concat}
use Rattle.expressions.specs.Nodes.{Seen, chain_term, concatenation_term, node_term}
use Rattle.report_explained.specs.Reach.{reach_of, reach_of_operands, reach_of_parts}

-- an operator looks as far back as both operands
abbrev pub Joins : {O : Type 0} → (O → Term → Term → Term) → Type 0
Joins {O} make = (op : O) (a b : Term) → reach_of (make op a b) ≡ max (reach_of a) (reach_of b)

chain_reach : {O : Type 0} (make : O → Term → Term → Term) → Joins make → (first : Term) (steps : List (O × Seen))
    → reach_of (chain_term make first steps) ≡ max (reach_of first) (reach_of_operands steps)
chain_reach make joins first [] = omega arith
chain_reach make joins first (s ∷ rest) =
    let all = chain_reach make joins (make s.0 first s.1.term) rest in
    let one = joins s.0 first s.1.term in
    omega (arith, all, one)

parts_reach : (first : Term) (parts : List Seen)
    → reach_of (concatenation_term first parts) ≡ max (reach_of first) (reach_of_parts parts)
parts_reach first [] = omega arith
parts_reach first (part ∷ rest) =
    let all = parts_reach (concat first part.term) rest in
    omega (arith, all)

-- what was found of the first operand and of the others
pub chain_found : {O : Type 0} (make : O → Term → Term → Term) → Joins make → (n : Node) (e : Term)
    (steps : List (O × Seen)) (r a b : ℕ) → node_term n ≡ chain_term make e steps → r ≡ max a b → a ≡ reach_of e
    → b ≡ reach_of_operands steps → r ≡ reach_of (node_term n)
chain_found make joins n e steps r a b same most first others =
    let whole = ap reach_of same in
    let all = chain_reach make joins e steps in
    omega (arith, whole, all, most, first, others)

pub parts_found : (n : Node) (e : Term) (parts : List Seen) (r a b : ℕ) → node_term n ≡ concatenation_term e parts
    → r ≡ max a b → a ≡ reach_of e → b ≡ reach_of_parts parts → r ≡ reach_of (node_term n)
parts_found n e parts r a b same most first others =
    let whole = ap reach_of same in
    let all = parts_reach e parts in
    omega (arith, whole, all, most, first, others)
