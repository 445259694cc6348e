-- Reading a block after a write.
use Rattle.std.proofs.Common.{◌≡◌, ◌≢◌, ℕ, ◌+◌, ◌-◌, ◌<◌, List, [], ◌∷◌, ◌++◌, length, get_or}
use Rattle.std.proofs.Common.{slice_set, Some, refl, sym, ap, ◌∙◌, arith, length-append, length-set}
use Rattle.std.proofs.Common.{◌⊎◌, inl, inr}
use Rattle.std.proofs.lemmas.List.{get_or-set_same, get_or-set_other, get_or_append_left}
use Rattle.std.proofs.lemmas.List.{get_or-append_right}
use Rattle.std.proofs.lemmas.Bool.Decides.{eqb_tells}
use Rattle.attempt_pool.specs.declared.node.Node.{Node}
use Rattle.attempt_pool.specs.Nodes.{no_node, node_at, next_at, prev_at, item_at, with_next}
use Rattle.attempt_pool.specs.Nodes.{with_prev, with_item, AreFresh}

pub which : (a b : ℕ) → (a ≡ b) ⊎ (a ≢ b)
which a b = elim (eqb_tells a b) [ inl h ↦ inl h.1 | inr h ↦ inr h.1 ]

the_gap : (n : ℕ) → n + 1 - (n + 1) ≡ 0
the_gap n = omega arith

module _ {T : Type 0} where
  pub next-with_next : (ns : List (Node T)) (i k : ℕ) → i < length ns
      → next_at (with_next ns i k) i ≡ k
  unfolding next_at with_next
  next-with_next ns i k lt = ap (λ (n : Node T). n.next) (get_or-set_same ns i _ no_node lt)

  pub next-with_next_other : (ns : List (Node T)) (i k j : ℕ) → j ≢ i
      → next_at (with_next ns i k) j ≡ next_at ns j
  unfolding next_at with_next
  next-with_next_other ns i k j ne = ap (λ (n : Node T). n.next)
      (get_or-set_other ns i j _ no_node ne)

  pub prev-with_prev : (ns : List (Node T)) (i k : ℕ) → i < length ns
      → prev_at (with_prev ns i k) i ≡ k
  unfolding prev_at with_prev
  prev-with_prev ns i k lt = ap (λ (n : Node T). n.prev) (get_or-set_same ns i _ no_node lt)

  pub prev-with_prev_other : (ns : List (Node T)) (i k j : ℕ) → j ≢ i
      → prev_at (with_prev ns i k) j ≡ prev_at ns j
  unfolding prev_at with_prev
  prev-with_prev_other ns i k j ne = ap (λ (n : Node T). n.prev)
      (get_or-set_other ns i j _ no_node ne)

  pub item-with_item : (ns : List (Node T)) (i : ℕ) (x : T) → i < length ns
      → item_at (with_item ns i x) i ≡ Some x
  unfolding item_at with_item
  item-with_item ns i x lt = ap (λ (n : Node T). n.item) (get_or-set_same ns i _ no_node lt)

  pub item-with_item_other : (ns : List (Node T)) (i : ℕ) (x : T) (j : ℕ) → j ≢ i
      → item_at (with_item ns i x) j ≡ item_at ns j
  unfolding item_at with_item
  item-with_item_other ns i x j ne = ap (λ (n : Node T). n.item)
      (get_or-set_other ns i j _ no_node ne)

  -- what a write of another field leaves
  same_field : {X : Type 0} (f : Node T → X) (ns : List (Node T)) (i : ℕ) (n : Node T)
      → i < length ns → f n ≡ f (node_at ns i) → (j : ℕ)
      → f (node_at (slice_set ns i n) j) ≡ f (node_at ns j)
  same_field f ns i n lt e j = elim (which j i) [
    | inl is ↦ ap (λ (m : ℕ). f (node_at (slice_set ns i n) m)) is
        ∙ ap f (get_or-set_same ns i n no_node lt) ∙ e ∙ ap (λ (m : ℕ). f (node_at ns m)) (sym is)
    | inr ne ↦ ap f (get_or-set_other ns i j n no_node ne)
  ]

  pub prev-with_next : (ns : List (Node T)) (i k : ℕ) → i < length ns → (j : ℕ)
      → prev_at (with_next ns i k) j ≡ prev_at ns j
  unfolding prev_at with_next
  prev-with_next ns i k lt = same_field (λ (n : Node T). n.prev) ns i _ lt refl

  pub item-with_next : (ns : List (Node T)) (i k : ℕ) → i < length ns → (j : ℕ)
      → item_at (with_next ns i k) j ≡ item_at ns j
  unfolding item_at with_next
  item-with_next ns i k lt = same_field (λ (n : Node T). n.item) ns i _ lt refl

  pub next-with_prev : (ns : List (Node T)) (i k : ℕ) → i < length ns → (j : ℕ)
      → next_at (with_prev ns i k) j ≡ next_at ns j
  unfolding next_at with_prev
  next-with_prev ns i k lt = same_field (λ (n : Node T). n.next) ns i _ lt refl

  pub item-with_prev : (ns : List (Node T)) (i k : ℕ) → i < length ns → (j : ℕ)
      → item_at (with_prev ns i k) j ≡ item_at ns j
  unfolding item_at with_prev
  item-with_prev ns i k lt = same_field (λ (n : Node T). n.item) ns i _ lt refl

  pub next-with_item : (ns : List (Node T)) (i : ℕ) (x : T) → i < length ns → (j : ℕ)
      → next_at (with_item ns i x) j ≡ next_at ns j
  unfolding next_at with_item
  next-with_item ns i x lt = same_field (λ (n : Node T). n.next) ns i _ lt refl

  pub prev-with_item : (ns : List (Node T)) (i : ℕ) (x : T) → i < length ns → (j : ℕ)
      → prev_at (with_item ns i x) j ≡ prev_at ns j
  unfolding prev_at with_item
  prev-with_item ns i x lt = same_field (λ (n : Node T). n.prev) ns i _ lt refl

  pub length-with_next : (ns : List (Node T)) (i k : ℕ) → length (with_next ns i k) ≡ length ns
  unfolding with_next
  length-with_next ns i k = length-set ns i (record (node_at ns i) { next = k })

  pub length-with_prev : (ns : List (Node T)) (i k : ℕ) → length (with_prev ns i k) ≡ length ns
  unfolding with_prev
  length-with_prev ns i k = length-set ns i (record (node_at ns i) { prev = k })

  pub length-with_item : (ns : List (Node T)) (i : ℕ) (x : T)
      → length (with_item ns i x) ≡ length ns
  unfolding with_item
  length-with_item ns i x = length-set ns i (record (node_at ns i) { item = Some x })

  pub fresh_first : (n : Node T) → n.prev ≡ 0 → n.next ≡ 0 → AreFresh 0 (n ∷ [])
  unfolding next_at prev_at
  fresh_first n p q = record {
    all = refl;
    first = (q, p);
    others =
        λ k lt le. absurd (omega arith);
  }

  -- one more node, linked to the place after it
  pub fresh_more : (cap : ℕ) (ns : List (Node T)) (n : Node T) → AreFresh cap ns → n.next ≡ cap + 2
      → AreFresh (cap + 1) (ns ++ n ∷ [])
  unfolding next_at prev_at
  fresh_more cap ns n h e =
      let long = h.all in let whole = length-append ns (n ∷ []) in
      record {
        all = omega arith;
        first = (
          ap (λ (m : Node T). m.next) (get_or_append_left ns (n ∷ []) no_node 0
              (omega arith)) ∙ h.first.0,
          ap (λ (m : Node T). m.prev)
              (get_or_append_left ns (n ∷ []) no_node 0 (omega arith)) ∙ h.first.1,
        );
        others = λ k lt le. elim (which k (cap + 1)) [
          | inl is ↦ ap (λ (m : Node T). m.next)
              (ap (λ (i : ℕ). get_or (ns ++ n ∷ []) i no_node) is
              ∙ get_or-append_right ns (n ∷ []) (cap + 1) (cap + 1) no_node long (omega arith)
              ∙ ap (λ (i : ℕ). get_or (n ∷ []) i no_node) (the_gap cap)) ∙ e ∙ omega arith
          | inr ne ↦ ap (λ (m : Node T). m.next)
              (get_or_append_left ns (n ∷ []) no_node k (omega arith)) ∙ h.others k lt (omega arith)
        ];
      }
