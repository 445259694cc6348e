-- What a contract sees of live nodes.
use Rattle.std.proofs.Common.{◌≡◌, ◌≢◌, ℕ, suc, ◌<◌, List, [], ◌∷◌, ◌++◌, length, Option, Some}
use Rattle.std.proofs.Common.{None, refl, sym, ap, ◌∙◌, subst, arith, inl, inr}
use Rattle.std.proofs.lemmas.Bool.Decides.{eqb_tells}
use Rattle.std.specs.Prelude.{eqb, nat_eq, true, false, cond, IsSome}
use Rattle.std.specs.List.{IsDistinct, AllByRecursion}
use Rattle.std.specs.Map.{lookup, set_value, remove_entry, keys_of}
use Rattle.attempt_pool.specs.declared.node.Node.{Node}
use Rattle.attempt_pool.specs.Nodes.{next_at, item_at}
use Rattle.attempt_pool.specs.Pooled.{first_slot, slot_after}
use Rattle.attempt_pool.specs.Lists.{Has, Apart, Linked, paired, records, walked, Holding}
use Rattle.attempt_pool.proofs.ListLaws.{has_past, without, without_here, without_past}

absurd_at : {P : Type 0} → false ≡ true → P
absurd_at e = cc

-- a place, or none at node 0
abbrev pub place_of : ℕ → Option ℕ
place_of k = cond (eqb k 0) None (Some k)

pub place_of-none : (k : ℕ) → k ≡ 0 → place_of k ≡ None
place_of-none k e = elim (eqb_tells k 0) [
  | inl h ↦ ap (λ b. cond b None (Some k)) h.0
  | inr h ↦
      absurd (h.1 e)
]

pub place_of-some : (k : ℕ) → k ≢ 0 → place_of k ≡ Some k
place_of-some k ne = elim (eqb_tells k 0) [
  | inl h ↦ absurd (ne h.1)
  | inr h ↦
      ap (λ b. cond b None (Some k)) h.0
]

-- the head of a list, or z
abbrev pub head_or : ℕ → List ℕ → ℕ
head_or z [] = z
head_or z (x ∷ xs) = x

module _ {T : Type 0} where
  pub records-cons : (ns : List (Node T)) (s : ℕ) (x : T) (ss : List ℕ) → item_at ns s ≡ Some x
      → records ns (s ∷ ss) ≡ (s, x) ∷ records ns ss
  unfolding records
  records-cons ns s x ss e = ap (λ o. paired s o (records ns ss)) e

  pub records_same : (ns ms : List (Node T)) (ss : List ℕ)
      → ((s : ℕ) → Has s ss → item_at ms s ≡ item_at ns s) → records ms ss ≡ records ns ss
  unfolding records Has
  records_same ns ms [] h = refl
  records_same ns ms (s ∷ ss) h =
      (λ i. paired s (h s (inl refl) i) (records_same ns ms ss (λ j m. h j (inr m)) i))

  pub records-push : (ns : List (Node T)) (ss : List ℕ) (s : ℕ) (x : T) → Holding ns ss
      → item_at ns s ≡ Some x → records ns (ss ++ s ∷ []) ≡ records ns ss ++ (s, x) ∷ []
  unfolding records Has
  records-push ns [] s x h e = records-cons ns s x [] e
  records-push ns (t ∷ ss) s x h e =
      let y = h t (inl refl) in
      records-cons ns t y.0 (ss ++ s ∷ []) y.1
      ∙ ap (λ l. (t, y.0) ∷ l) (records-push ns ss s x (λ j m. h j (inr m)) e)
      ∙ ap (λ l. l ++ (s, x) ∷ []) (sym (records-cons ns t y.0 ss y.1))

  pub length-records : (ns : List (Node T)) (ss : List ℕ) → Holding ns ss
      → length (records ns ss) ≡ length ss
  unfolding records Has
  length-records ns [] h = refl
  length-records ns (s ∷ ss) h = let y = h s (inl refl) in
      ap length (records-cons ns s y.0 ss y.1) ∙ ap suc (length-records ns ss (λ j m. h j (inr m)))

  pub keys-records : (ns : List (Node T)) (ss : List ℕ) → Holding ns ss
      → keys_of (records ns ss) ≡ ss
  unfolding records Has
  keys-records ns [] h = refl
  keys-records ns (s ∷ ss) h = let y = h s (inl refl) in
      ap keys_of (records-cons ns s y.0 ss y.1)
      ∙ ap (λ l. s ∷ l) (keys-records ns ss (λ j m. h j (inr m)))

  module _ (s : ℕ) where
    pub lookup-records : (ns : List (Node T)) (ss : List ℕ) → Holding ns ss → Has s ss
        → lookup (nat_eq s) (records ns ss) ≡ item_at ns s
    unfolding records Has
    lookup-records ns [] h m = absurd m
    lookup-records ns (x ∷ ss) h m = let y = h x (inl refl) in
        ap (lookup (nat_eq s)) (records-cons ns x y.0 ss y.1) ∙ elim (eqb_tells s x) [
          | inl e ↦ ap (λ b. cond b (Some y.0) (lookup (nat_eq s) (records ns ss))) e.0 ∙ sym y.1
              ∙ ap (item_at ns) (sym e.1)
          | inr e ↦ ap (λ b. cond b (Some y.0) (lookup (nat_eq s) (records ns ss))) e.0
              ∙ lookup-records ns ss (λ j k. h j (inr k)) (has_past s x ss e.1 m)
        ]

    pub lookup-records_none : (ns : List (Node T)) (ss : List ℕ) → Holding ns ss → (Has s ss → ⊥)
        → lookup (nat_eq s) (records ns ss) ≡ None
    unfolding records Has
    lookup-records_none ns [] h n = refl
    lookup-records_none ns (x ∷ ss) h n = let y = h x (inl refl) in
        ap (lookup (nat_eq s)) (records-cons ns x y.0 ss y.1) ∙ elim (eqb_tells s x) [
          | inl e ↦ absurd (n (inl e.1))
          | inr e ↦ ap (λ b. cond b (Some y.0) (lookup (nat_eq s) (records ns ss))) e.0
              ∙ lookup-records_none ns ss (λ j k. h j (inr k)) (λ k. n (inr k))
        ]

    -- what is found is one of the list
    pub has_found : (ns : List (Node T)) (ss : List ℕ) → Holding ns ss
        → IsSome (lookup (nat_eq s) (records ns ss)) → Has s ss
    unfolding records Has
    has_found ns [] h f = absurd_at f
    has_found ns (x ∷ ss) h f = elim (eqb_tells s x) [
      | inl e ↦ inl e.1
      | inr e ↦ let y = h x (inl refl) in
          inr (has_found ns ss (λ j k. h j (inr k))
          (subst IsSome (ap (lookup (nat_eq s)) (records-cons ns x y.0 ss y.1)
          ∙ ap (λ b. cond b (Some y.0) (lookup (nat_eq s) (records ns ss))) e.0) f))
    ]

    pub records-without : (ns : List (Node T)) (ss : List ℕ) → Holding ns ss
        → records ns (without s ss) ≡ remove_entry (nat_eq s) (records ns ss)
    unfolding records Has without
    records-without ns [] h = refl
    records-without ns (x ∷ ss) h = let y = h x (inl refl) in let all =
        ap (remove_entry (nat_eq s)) (records-cons ns x y.0 ss y.1) in elim (eqb_tells s x) [
          | inl e ↦ ap (records ns) (without_here s x ss e.1)
              ∙ ap (λ b. cond b (records ns ss) ((x, y.0) ∷ remove_entry (nat_eq s) (records ns ss)))
              (sym e.0) ∙ sym all
          | inr e ↦ ap (records ns) (without_past s x ss e.1)
              ∙ records-cons ns x y.0 (without s ss) y.1
              ∙ ap (λ l. (x, y.0) ∷ l) (records-without ns ss (λ j k. h j (inr k)))
              ∙ ap (λ b. cond b (records ns ss) ((x, y.0) ∷ remove_entry (nat_eq s) (records ns ss)))
              (sym e.0) ∙ sym all
        ]

    pub records-set : (ns ms : List (Node T)) (v : T) (ss : List ℕ) → Holding ns ss → Apart ss
        → item_at ms s ≡ Some v → ((j : ℕ) → j ≢ s → item_at ms j ≡ item_at ns j)
        → records ms ss ≡ set_value (nat_eq s) (records ns ss) v
    unfolding records Has Apart
    records-set ns ms v [] h d is others = refl
    records-set ns ms v (x ∷ ss) h d is others = let y = h x (inl refl) in let all =
        ap (λ l. set_value (nat_eq s) l v) (records-cons ns x y.0 ss y.1) in
        let rest = set_value (nat_eq s) (records ns ss) v in elim (eqb_tells s x) [
          | inl e ↦ records-cons ms x v ss (ap (item_at ms) (sym e.1) ∙ is)
              ∙ ap (λ l. (x, v) ∷ l) (records_same ns ms ss
              (λ j k. others j (λ w. d.0 (subst (λ (i : ℕ). Has i ss) (w ∙ e.1) k))))
              ∙ ap (λ b. cond b ((x, v) ∷ records ns ss) ((x, y.0) ∷ rest)) (sym e.0) ∙ sym all
          | inr e ↦ records-cons ms x y.0 ss (others x (λ w. e.1 (sym w)) ∙ y.1)
              ∙ ap (λ l. (x, y.0) ∷ l) (records-set ns ms v ss (λ j k. h j (inr k)) d.1 is others)
              ∙ ap (λ b. cond b ((x, v) ∷ records ns ss) ((x, y.0) ∷ rest)) (sym e.0) ∙ sym all
        ]

    pub first-records : (ns : List (Node T)) (P : ℕ → ℕ) (a : ℕ) (ss : List ℕ) → Holding ns ss
        → ((j : ℕ) → Has j ss → 0 < j) → Linked (next_at ns) P a ss 0
        → first_slot (records ns ss) ≡ place_of (next_at ns a)
    unfolding records Has Linked
    first-records ns P a [] h i l = sym (place_of-none (next_at ns a) l.0)
    first-records ns P a (x ∷ ss) h i l = let y = h x (inl refl) in let pos = i x (inl refl) in
        let e = l.0 in
        ap first_slot (records-cons ns x y.0 ss y.1) ∙ ap Some (sym e)
        ∙ sym (place_of-some (next_at ns a) (λ w. omega arith))

    pub after-records : (ns : List (Node T)) (P : ℕ → ℕ) (a : ℕ) (ss : List ℕ) → Holding ns ss
        → ((j : ℕ) → Has j ss → 0 < j) → Linked (next_at ns) P a ss 0
        → Has s ss → slot_after s (records ns ss) ≡ place_of (next_at ns s)
    unfolding records Has Linked
    after-records ns P a [] h i l m = absurd m
    after-records ns P a (x ∷ ss) h i l m =
        let y = h x (inl refl) in let all = ap (slot_after s) (records-cons ns x y.0 ss y.1) in
        let R = records ns ss in
        all ∙ elim (eqb_tells s x) [
          | inl e ↦ ap (λ b. cond b (first_slot R) (slot_after s R)) e.0
              ∙ first-records ns P x ss (λ j k. h j (inr k)) (λ j k. i j (inr k)) l.2
              ∙ ap (λ (k : ℕ). place_of (next_at ns k)) (sym e.1)
          | inr e ↦ ap (λ b. cond b (first_slot R) (slot_after s R)) e.0
              ∙ after-records ns P x ss (λ j k. h j (inr k)) (λ j k. i j (inr k)) l.2
              (has_past s x ss e.1 m)
        ]

  pub walked-linked : (ns : List (Node T)) (P : ℕ → ℕ) (a : ℕ) (ss : List ℕ) (z : ℕ)
      → Linked (next_at ns) P a ss z → walked ns (length ss) (next_at ns a) ≡ ss
  unfolding walked Linked
  walked-linked ns P a [] z l = refl
  walked-linked ns P a (x ∷ ss) z l =
      (λ i. l.0 i ∷ (ap (λ (k : ℕ). walked ns (length ss) (next_at ns k)) l.0
      ∙ walked-linked ns P x ss z l.2) i)

none_equal : (x : ℕ) (xs : List ℕ) → (Has x xs → ⊥) → AllByRecursion (λ y. nat_eq x y ≡ false) xs
unfolding Has
none_equal x [] n = tt
none_equal x (y ∷ xs) n = (
  elim (eqb_tells x y) [ inl e ↦ absurd (n (inl e.1)) | inr e ↦ e.0 ],
  none_equal x xs (λ k. n (inr k)),
)

pub distinct : (xs : List ℕ) → Apart xs → IsDistinct nat_eq xs
unfolding Apart IsDistinct
distinct [] a = tt
distinct (x ∷ xs) a = (none_equal x xs a.0, distinct xs a.1)
