-- How the nodes of a block form a list of live nodes and one of free nodes. Both ends of the list
-- of live nodes are linked to node 0, which holds no record.
use Rattle.std.specs.Prelude.{◌≡◌, ℕ, zero, suc, ◌+◌, ◌-◌, ◌<◌, ◌≤◌, ◌⊎◌, List, [], ◌∷◌, length}
use Rattle.std.specs.Prelude.{Option, Some, None}
use Rattle.attempt_pool.specs.declared.node.Node.{Node}
use Rattle.attempt_pool.specs.Nodes.{next_at, prev_at, item_at}
use Rattle.attempt_pool.specs.Pooled.{Pooled, pooled}

-- one of the list
unfoldable pub Has : ℕ → List ℕ → Type 0
Has place [] = ⊥
Has place (x ∷ xs) = (place ≡ x) ⊎ Has place xs

-- no two of the list are equal
unfoldable pub Apart : List ℕ → Type 0
Apart [] = Unit {0}
Apart (x ∷ xs) = (Has x xs → ⊥) × Apart xs

-- from a on, each is linked to the one after it and back, and the last to z
unfoldable pub Linked : (ℕ → ℕ) → (ℕ → ℕ) → ℕ → List ℕ → ℕ → Type 0
Linked next prev a [] z = (next a ≡ z) × (prev z ≡ a)
Linked next prev a (x ∷ xs) z = (next a ≡ x) × (prev x ≡ a) × Linked next prev x xs z

-- a is the first, and each is linked to the one after it
unfoldable pub Chained : (ℕ → ℕ) → ℕ → List ℕ → Type 0
Chained next a [] = Unit {0}
Chained next a (x ∷ xs) = (a ≡ x) × Chained next (next x) xs

module _ {T : Type 0} where
  -- a record under its slot, before others; a node with no record adds none
  abbrev pub paired : ℕ → Option T → List (ℕ × T) → List (ℕ × T)
  paired place None rest = rest
  paired place (Some x) rest = (place, x) ∷ rest

  -- each place of the list with the record that its node holds
  unfoldable pub records : List (Node T) → List ℕ → List (ℕ × T)
  records nodes [] = []
  records nodes (place ∷ places) = paired place (item_at nodes place) (records nodes places)

  -- so many places along the links, from a on
  unfoldable pub walked : List (Node T) → ℕ → ℕ → List ℕ
  walked nodes zero a = []
  walked nodes (suc n) a = a ∷ walked nodes n (next_at nodes a)

  -- what the fields of a pool stand for
  unfoldable pub pool_of : List (Node T) → ℕ → Pooled T
  pool_of nodes len =
      pooled (length nodes - 1) (records nodes (walked nodes len (next_at nodes 0)))

  -- each of the list is a place after node 0
  abbrev pub Inside : List (Node T) → List ℕ → Type 0
  Inside nodes places = (p : ℕ) → Has p places → (0 < p) × (p < length nodes)

  -- each of the list holds a record
  abbrev pub Holding : List (Node T) → List ℕ → Type 0
  Holding nodes places = (p : ℕ) → Has p places → (x : T) × (item_at nodes p ≡ Some x)

  -- the live nodes and the free ones are all nodes but node 0, each once
  pub record IsPool (nodes : List (Node T)) (free len : ℕ) : Type 0 where
    pub live : List ℕ
    pub spare : List ℕ
    pub linked : Linked (next_at nodes) (prev_at nodes) 0 live 0
    pub chained : Chained (next_at nodes) free spare
    pub live_apart : Apart live
    pub spare_apart : Apart spare
    pub disjoint : (p : ℕ) → Has p live → Has p spare → ⊥
    pub live_inside : Inside nodes live
    pub spare_inside : Inside nodes spare
    pub holding : Holding nodes live
    pub all : length live + length spare + 1 ≡ length nodes
    pub counted : len ≡ length live
    pub small : length nodes ≤ 1025
