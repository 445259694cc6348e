-- The nodes of a block, by their places.
use Rattle.std.specs.Prelude.{◌≡◌, ℕ, suc, ◌+◌, ◌<◌, ◌≤◌, List, length, get_or, slice_set, Option}
use Rattle.std.specs.Prelude.{Some, None}
use Rattle.attempt_pool.specs.declared.node.Node.{Node}

module _ {T : Type 0} where
  -- what stands for a node where there is none
  abbrev pub no_node : Node T
  no_node = record { prev = 0; next = 0; item = None }

  abbrev pub node_at : List (Node T) → ℕ → Node T
  node_at nodes place = get_or nodes place no_node

  unfoldable pub next_at : List (Node T) → ℕ → ℕ
  next_at nodes place = (node_at nodes place).next

  unfoldable pub prev_at : List (Node T) → ℕ → ℕ
  prev_at nodes place = (node_at nodes place).prev

  unfoldable pub item_at : List (Node T) → ℕ → Option T
  item_at nodes place = (node_at nodes place).item

  -- the nodes with one of them changed
  unfoldable pub with_next : List (Node T) → ℕ → ℕ → List (Node T)
  with_next nodes place next = slice_set nodes place (record (node_at nodes place) { next = next })

  unfoldable pub with_prev : List (Node T) → ℕ → ℕ → List (Node T)
  with_prev nodes place prev = slice_set nodes place (record (node_at nodes place) { prev = prev })

  unfoldable pub with_item : List (Node T) → ℕ → T → List (Node T)
  with_item nodes place x =
      slice_set nodes place (record (node_at nodes place) { item = Some x })

  -- node 0 is linked to itself, and each of the others to the one after it
  pub record AreFresh (cap : ℕ) (nodes : List (Node T)) : Type 0 where
    pub all : length nodes ≡ cap + 1
    pub first : (next_at nodes 0 ≡ 0) × (prev_at nodes 0 ≡ 0)
    pub others : (place : ℕ) → 0 < place → place ≤ cap → next_at nodes place ≡ suc place
