-- Nodes in a block whose places are all filled but for the spare ones: reading and writing one, and filling the block.
use Rattle.std.proofs.Common.{◌≡◌, ℕ, zero, suc, ◌+◌, ◌-◌, ◌<◌, ◌≤◌, List, [], ◌∷◌, ◌++◌}
use Rattle.std.proofs.Common.{map, length, drop, length-append}
use Rattle.std.proofs.Common.{get_or, set, slice_set, replicate, Option, Some, None, refl, sym, ap}
use Rattle.std.proofs.Common.{◌∙◌, subst, arith, inl, inr, length-set}
use Rattle.std.proofs.lemmas.List.{get_or-set_same, get_or-set_other, get_or-map, map-set}
use Rattle.std.proofs.lemmas.List.{length-map, length-replicate, set-append_left, drop-set-lt}
use Rattle.std.proofs.lemmas.List.{drop-replicate, get_or_append_left}
use Rattle.raw_places.specs.Ownership.{IsHeld}
use Rattle.attempt_pool.specs.declared.node.Node.{Node}
use Rattle.raw_places.specs.Filled.{values_of, spare, IsFilled}
use Rattle.attempt_pool.specs.Nodes.{no_node, node_at, next_at, prev_at, item_at}
use Rattle.attempt_pool.specs.Nodes.{with_next, with_prev, with_item, AreFresh}
use Rattle.attempt_pool.proofs.NodeLaws.{which}

some_is : {X : Type 0} {x y : X} → Some x ≡ Some y → x ≡ y
some_is e = cc

next_is : (k n : ℕ) → k ≡ n → n + 1 ≡ suc k
next_is k n e = omega arith

module _ {X : Type 0} where
  values_of-map : (xs : List X) → values_of (map Some xs ++ spare) ≡ xs
  unfolding values_of
  values_of-map [] = refl
  values_of-map (x ∷ xs) = ap (λ l. x ∷ l) (values_of-map xs)

  filled_from : (count : ℕ) (places : List (Option X)) → drop count places ≡ spare
      → ((k : ℕ) → k < count → IsHeld places k) → places ≡ map Some (values_of places) ++ spare
  unfolding values_of
  filled_from zero places e h = e ∙ sym (ap (λ l. map Some (values_of l) ++ spare) e)
  filled_from (suc count) [] e h =
      let on = h 0 (omega arith) in let no : None ≡ Some on.0 = on.1 in cc
  filled_from (suc count) (None ∷ places) e h =
      let on = h 0 (omega arith) in let no : None ≡ Some on.0 = on.1 in cc
  filled_from (suc count) (Some x ∷ places) e h =
      ap (λ l. Some x ∷ l) (filled_from count places e (λ k lt. h (suc k) (omega arith)))

  module _ (places : List (Option X)) (count : ℕ) (h : IsFilled places count) where
    length-values_of : length (values_of places) ≡ count
    length-values_of =
        let long = h.long in
        let parts = length-append (map Some (values_of places)) spare in
        omega (arith, long, ap length h.all, parts, length-map (values_of places) Some)

    module _ (k : ℕ) (lt : k < length (values_of places)) where
      inside : k < length (map Some (values_of places))
      inside = omega (arith, lt, length-map (values_of places) Some)

      value_at : (d : X) → get_or places k None ≡ Some (get_or (values_of places) k d)
      value_at d = ap (λ l. get_or l k None) h.all
          ∙ get_or_append_left (map Some (values_of places)) spare None k inside
          ∙ get_or-map Some (values_of places) k d None lt

      set_value : (x : X)
          → set places k (Some x) ≡ map Some (set (values_of places) k x) ++ spare
      set_value x = ap (λ l. set l k (Some x)) h.all
          ∙ set-append_left (map Some (values_of places)) spare k (Some x) inside
          ∙ ap (λ l. l ++ spare) (sym (map-set Some (values_of places) k x))

      values_of-set : (x : X) → values_of (set places k (Some x)) ≡ set (values_of places) k x
      values_of-set x = ap values_of (set_value x) ∙ values_of-map (set (values_of places) k x)

      set_filled : (x : X) → IsFilled (slice_set places k (Some x)) count
      set_filled x = record {
        long = length-set places k (Some x) ∙ h.long;
        all = set_value x ∙ ap (λ l. map Some l ++ spare) (sym (values_of-set x));
      }

module _ {T : Type 0} where
  -- `now` is what a contract sees of the places
  module _ (places : List (Option (Node T))) (count : ℕ) (h : IsFilled places count)
      (now : List (Node T)) (v : values_of places ≡ now) where
    pub count_is : count ≡ length now
    count_is = sym (length-values_of places count h) ∙ ap length v

    module _ (k : ℕ) (lt : k < length now) where
      within : k < length (values_of places)
      within = subst (λ (l : List (Node T)). k < length l) (sym v) lt

      pub readable : IsHeld places k
      readable = (get_or (values_of places) k no_node, value_at places count h k within no_node)

      pub still_filled : (n : Node T) → IsFilled (slice_set places k (Some n)) count
      still_filled n = set_filled places count h k within n

      module _ (n : Node T) (read : get_or places k None ≡ Some n) where
        node_shown : n ≡ node_at now k
        node_shown = some_is (sym read ∙ value_at places count h k within no_node)
            ∙ ap (λ l. node_at l k) v

        pub next_shown : n.next ≡ next_at now k
        unfolding next_at
        next_shown = ap (λ (m : Node T). m.next) node_shown

        pub prev_shown : n.prev ≡ prev_at now k
        unfolding prev_at
        prev_shown = ap (λ (m : Node T). m.prev) node_shown

        pub item_shown : n.item ≡ item_at now k
        unfolding item_at
        item_shown = ap (λ (m : Node T). m.item) node_shown

        written : (f : Node T → Node T)
            → values_of (set places k (Some (f n))) ≡ set now k (f (node_at now k))
        written f = values_of-set places count h k within (f n)
            ∙ (λ i. set (v i) k (f (node_shown i)))

        pub next_written : (j : ℕ)
            → values_of (slice_set places k (Some (record n { next = j }))) ≡ with_next now k j
        unfolding with_next
        next_written j = written (λ m. record m { next = j })

        pub prev_written : (j : ℕ)
            → values_of (slice_set places k (Some (record n { prev = j }))) ≡ with_prev now k j
        unfolding with_prev
        prev_written j = written (λ m. record m { prev = j })

        pub item_written : (x : T)
            → values_of (slice_set places k (Some (record n { item = Some x }))) ≡ with_item now k x
        unfolding with_item
        item_written x = written (λ m. record m { item = Some x })

  -- the node that is written at a place at first
  abbrev pub free_node : ℕ → Node T
  free_node next = record { prev = 0; next = next; item = None }

  -- the places up to this one hold fresh nodes, and the spare ones none
  pub record Filling (places : List (Option (Node T))) (count place : ℕ) : Type 0 where
    pub long : length places ≡ count + 2
    pub spared : drop count places ≡ spare
    pub first : get_or places 0 None ≡ Some no_node
    pub others : (k : ℕ) → 0 < k → k < place → get_or places k None ≡ Some (free_node (suc k))

  pub filling_first : (old new : List (Option (Node T))) (count : ℕ) → 0 < count
      → old ≡ replicate (count + 2) None → new ≡ slice_set old 0 (Some no_node)
      → Filling new count 1
  filling_first old new count lt e f =
      let none : Option (Node T) = None in
      let long : length old ≡ count + 2 = ap length e ∙ length-replicate (count + 2) none in
      let left : count + 2 - count ≡ 2 = omega arith in
      record {
        long = ap length f ∙ length-set old 0 (Some no_node) ∙ long;
        spared = ap (drop count) f ∙ drop-set-lt count old 0 (Some no_node) lt
            ∙ ap (drop count) e ∙ drop-replicate count (count + 2) none
            ∙ ap (λ n. replicate n none) left;
        first = ap (λ l. get_or l 0 None) f
            ∙ get_or-set_same old 0 (Some no_node) None (omega arith);
        others = λ k l r. absurd (omega arith);
      }

  pub filling_more : (old new : List (Option (Node T))) (count place : ℕ) → 1 ≤ place
      → place < count → Filling old count place
      → new ≡ slice_set old place (Some (free_node (place + 1))) → Filling new count (place + 1)
  filling_more old new count place low lt h f =
      let long = h.long in let node = Some (free_node (place + 1)) in
      record {
        long = ap length f ∙ length-set old place node ∙ long;
        spared = ap (drop count) f ∙ drop-set-lt count old place node lt ∙ h.spared;
        first = ap (λ l. get_or l 0 None) f
            ∙ get_or-set_other old place 0 node None (λ z. omega arith) ∙ h.first;
        others = λ k l r. elim (which k place) [
          | inl is ↦ ap (λ l. get_or l k None) f
              ∙ ap (λ (i : ℕ). get_or (slice_set old place node) i None) is
              ∙ get_or-set_same old place node None (omega arith)
              ∙ ap (λ (i : ℕ). Some (free_node i)) (next_is k place is)
          | inr ne ↦ ap (λ l. get_or l k None) f
              ∙ get_or-set_other old place k node None ne ∙ h.others k l (omega arith)
        ];
      }

  pub filling_all : (places : List (Option (Node T))) (count place : ℕ) → count ≤ place
      → Filling places count place → IsFilled places count
  filling_all places count place le h = let long = h.long in record {
    long = long;
    all = filled_from count places h.spared (λ k lt. elim (which k 0) [
      | inl z ↦ (no_node, ap (λ (i : ℕ). get_or places i None) z ∙ h.first)
      | inr ne ↦ (free_node (suc k), h.others k (omega arith) (omega arith))
    ]);
  }

  pub filling_fresh : (places : List (Option (Node T))) (cap place : ℕ) → cap + 1 ≤ place
      → Filling places (cap + 1) place → AreFresh cap (values_of places)
  unfolding next_at prev_at
  filling_fresh places cap place le h =
      let whole = filling_all places (cap + 1) place le h in
      let all : length (values_of places) ≡ cap + 1 = length-values_of places (cap + 1) whole in
      let shown : (k : ℕ) (n : Node T) → k < cap + 1 → get_or places k None ≡ Some n
      → node_at (values_of places) k ≡ n =
      λ k n lt e. some_is (sym (value_at places (cap + 1) whole k (omega arith) no_node) ∙ e) in
      let first = shown 0 no_node (omega arith) h.first in
      record {
        all = all;
        first = (ap (λ (n : Node T). n.next) first, ap (λ (n : Node T). n.prev) first);
        others = λ k l r. ap (λ (n : Node T). n.next)
            (shown k (free_node (suc k)) (omega arith) (h.others k l (omega arith)));
      }
