-- What each call makes of the fields of a pool.
use Rattle.std.proofs.Common.{◌≡◌, ◌≢◌, ℕ, zero, suc, ◌+◌, ◌-◌, ◌<◌, ◌≤◌, List, [], ◌∷◌, ◌++◌}
use Rattle.std.proofs.Common.{length, Some, None, refl, sym, ap, ◌∙◌, subst, arith, length-append}
use Rattle.std.proofs.Common.{◌⊎◌, inl, inr}
use Rattle.std.specs.Prelude.{nat_eq, IsSome}
use Rattle.std.specs.List.{IsDistinct}
use Rattle.std.specs.Map.{lookup, set_value, remove_entry, keys_of}
use Rattle.attempt_pool.specs.declared.node.Node.{Node}
use Rattle.attempt_pool.specs.Nodes.{next_at, prev_at, item_at, with_next, with_prev, with_item}
use Rattle.attempt_pool.specs.Nodes.{AreFresh}
use Rattle.attempt_pool.specs.Pooled.{Pooled, pooled, first_slot, slot_after}
use Rattle.attempt_pool.specs.Lists.{Has, Apart, Linked, Chained, records, walked, pool_of, Holding}
use Rattle.attempt_pool.specs.Lists.{Inside, IsPool}
use Rattle.attempt_pool.proofs.NodeLaws.{which, next-with_next, next-with_next_other}
use Rattle.attempt_pool.proofs.NodeLaws.{prev-with_prev, prev-with_prev_other, item-with_item}
use Rattle.attempt_pool.proofs.NodeLaws.{item-with_item_other, prev-with_next, item-with_next}
use Rattle.attempt_pool.proofs.NodeLaws.{next-with_prev, item-with_prev, next-with_item}
use Rattle.attempt_pool.proofs.NodeLaws.{prev-with_item, length-with_next, length-with_prev}
use Rattle.attempt_pool.proofs.NodeLaws.{length-with_item}
use Rattle.attempt_pool.proofs.ListLaws.{has_along, has_head, has_first, has_later, has-push}
use Rattle.attempt_pool.proofs.ListLaws.{apart_rest, apart-push, apart_front, without, has-without}
use Rattle.attempt_pool.proofs.ListLaws.{gone, apart-without, length-without}
use Rattle.attempt_pool.proofs.LinkLaws.{next_of-in, prev_of-in, last-in, linked_same, Unlinks}
use Rattle.attempt_pool.proofs.LinkLaws.{unlinked, prev_other, Appends, appended, chained_same}
use Rattle.attempt_pool.proofs.LinkLaws.{chained_front, chained_rest}
use Rattle.attempt_pool.proofs.RecordLaws.{place_of, records_same, records-push, length-records}
use Rattle.attempt_pool.proofs.RecordLaws.{keys-records, lookup-records, lookup-records_none}
use Rattle.attempt_pool.proofs.RecordLaws.{has_found, records-without, records-set, first-records}
use Rattle.attempt_pool.proofs.RecordLaws.{after-records, walked-linked, distinct}

-- the places from a on
unfoldable pub places : ℕ → ℕ → List ℕ
places zero a = []
places (suc n) a = a ∷ places n (suc a)

has-places : (n a j : ℕ) → Has j (places n a) → (a ≤ j) × (j < a + n)
unfolding Has places
has-places zero a j h = absurd h
has-places (suc n) a j (inl e) = (omega arith, omega arith)
has-places (suc n) a j (inr h) = let on = has-places n (suc a) j h in (omega arith, omega arith)

apart-places : (n a : ℕ) → Apart (places n a)
unfolding Apart places
apart-places zero a = tt
apart-places (suc n) a = (
  λ h. let on = has-places n (suc a) a h in
      absurd (omega arith),
  apart-places n (suc a),
)

length-places : (n a : ℕ) → length (places n a) ≡ n
unfolding places
length-places zero a = refl
length-places (suc n) a = ap suc (length-places n (suc a))

chained-places : (next : ℕ → ℕ) (n a : ℕ) → ((k : ℕ) → a ≤ k → k < a + n → next k ≡ suc k)
    → Chained next a (places n a)
unfolding Chained places
chained-places next zero a h = tt
chained-places next (suc n) a h = (
  refl,
  subst (λ (k : ℕ). Chained next k (places n (suc a)))
      (sym (h a (omega arith) (omega arith))) (chained-places next n (suc a)
      (λ k l r. h k (omega arith) (omega arith))),
)

count_back : (n cap : ℕ) → n ≡ cap + 1 → n - 1 ≡ cap
count_back n cap e = omega arith

some_none : {X : Type 0} {x : X} → Some x ≡ None → ⊥
some_none e = cc

module _ {T : Type 0} where
  pub fresh_pool : (ns : List (Node T)) (cap : ℕ) → cap ≤ 1024 → AreFresh cap ns
      → IsPool ns 1 0 × (pool_of ns 0 ≡ pooled cap [])
  unfolding Linked Has Apart pool_of walked records
  fresh_pool ns cap le h =
      let all = h.all in (
        record {
          live = [];
          spare = places cap 1;
          linked = h.first;
          chained = chained-places (next_at ns) cap 1
              (λ k l r. h.others k (omega arith) (omega arith));
          live_apart = tt;
          spare_apart = apart-places cap 1;
          disjoint = λ s m _. m;
          live_inside = λ s m. absurd m;
          spare_inside = λ s m. let on = has-places cap 1 s m in (omega arith, omega arith);
          holding = λ s m. absurd m;
          all = omega (arith, length-places cap 1);
          counted = refl;
          small = omega arith;
        },
        ap (λ (k : ℕ). pooled k []) (count_back (length ns) cap all),
      )

  seen' : (ns : List (Node T)) (free len : ℕ) (h : IsPool ns free len)
      → pool_of ns len ≡ pooled (length ns - 1) (records ns h.live)
  unfolding pool_of
  seen' ns free len h = ap (λ l. pooled (length ns - 1) (records ns l))
      (ap (λ (k : ℕ). walked ns k (next_at ns 0)) h.counted
      ∙ walked-linked ns (prev_at ns) 0 h.live 0 h.linked)

  module _ (ns : List (Node T)) (free len : ℕ) (h : IsPool ns free len) where
    -- what a contract sees
    pub seen : pool_of ns len ≡ pooled (length ns - 1) (records ns h.live)
    seen = seen' ns free len h

    pub live_seen : (pool_of ns len).live ≡ records ns h.live
    live_seen = ap (λ (p : Pooled T). p.live) seen

    pub cap_seen : (pool_of ns len).cap ≡ length ns - 1
    cap_seen = ap (λ (p : Pooled T). p.cap) seen

    pub count_seen : length (pool_of ns len).live ≡ len
    count_seen = ap length live_seen ∙ length-records ns h.live h.holding ∙ sym h.counted

    pub bound_seen : length (pool_of ns len).live ≤ (pool_of ns len).cap
    bound_seen = let all = h.all in let c = h.counted in omega (arith, count_seen, cap_seen)

    pub distinct_seen : IsDistinct nat_eq (keys_of (pool_of ns len).live)
    distinct_seen = subst (IsDistinct nat_eq)
        (sym (ap keys_of live_seen ∙ keys-records ns h.live h.holding))
        (distinct h.live h.live_apart)

    not_zero : Has 0 h.live → ⊥
    not_zero m = let on = h.live_inside 0 m in omega arith

    zero_apart : Apart (0 ∷ h.live)
    unfolding Apart
    zero_apart = (not_zero, h.live_apart)

    positive : (s : ℕ) → Has s h.live → 0 < s
    positive s m = (h.live_inside s m).0

    -- what follows node 0 or a live node is within the block
    within : (s : ℕ) → Has s h.live ⊎ (s ≡ 0) → s < length ns
    within s (inl m) = (h.live_inside s m).1
    within s (inr e) = let all = h.all in omega arith

    within_first : (s : ℕ) → Has s (0 ∷ h.live) → s < length ns
    unfolding Has
    within_first s (inl e) = within s (inr e)
    within_first s (inr m) = within s (inl m)

    seen_as : (ms : List (Node T)) (free' len' : ℕ) (h' : IsPool ms free' len')
        (live : List (ℕ × T)) → records ms h'.live ≡ live → length ms ≡ length ns
        → pool_of ms len' ≡ pooled (pool_of ns len).cap live
    seen_as ms free' len' h' live e long = seen' ms free' len' h'
        ∙ (λ i. pooled ((ap (λ (k : ℕ). k - 1) long ∙ sym cap_seen) i) (e i))

    inside_along : (ms : List (Node T)) (ss : List ℕ) → length ms ≡ length ns → Inside ns ss
        → Inside ms ss
    inside_along ms ss long i j m = let on = i j m in
        (on.0, subst (λ (k : ℕ). j < k) (sym long) on.1)

    -- no free node is node 0 or live
    spare_not : (s : ℕ) → Has s (0 ∷ h.live) → Has s h.spare → ⊥
    unfolding Has
    spare_not s (inl e) m = let on = h.spare_inside s m in absurd (omega arith)
    spare_not s (inr k) m = h.disjoint s k m

    pub first_seen : first_slot (pool_of ns len).live ≡ place_of (next_at ns 0)
    first_seen = ap first_slot live_seen ∙ first-records 0 ns (prev_at ns) 0 h.live h.holding
        positive h.linked

    module _ (s : ℕ) (found : IsSome (lookup (nat_eq s) (pool_of ns len).live)) where
      pub is_live : Has s h.live
      is_live = has_found s ns h.live h.holding
          (subst (λ l. IsSome (lookup (nat_eq s) l)) live_seen found)

      pub live_within : s < length ns
      live_within = within s (inl is_live)

      pub item_seen : lookup (nat_eq s) (pool_of ns len).live ≡ item_at ns s
      item_seen = ap (lookup (nat_eq s)) live_seen ∙ lookup-records s ns h.live h.holding is_live

      pub after_seen : slot_after s (pool_of ns len).live ≡ place_of (next_at ns s)
      after_seen = ap (slot_after s) live_seen
          ∙ after-records s ns (prev_at ns) 0 h.live h.holding positive h.linked is_live

      pub next_within : next_at ns s < length ns
      next_within = within (next_at ns s) (next_of-in (next_at ns) (prev_at ns) 0 h.live 0 s
          h.linked is_live)

      pub prev_within : prev_at ns s < length ns
      prev_within = within_first (prev_at ns s)
          (prev_of-in (next_at ns) (prev_at ns) 0 h.live 0 s h.linked is_live)

      pub some_live : 0 < len
      some_live = let c = h.counted in omega (arith, length-without s h.live is_live)

      spare_not_first : Has (prev_at ns s) h.spare → ⊥
      spare_not_first m = spare_not (prev_at ns s)
          (prev_of-in (next_at ns) (prev_at ns) 0 h.live 0 s h.linked is_live) m

      prev_apart : prev_at ns s ≢ s
      prev_apart = prev_other (next_at ns) (prev_at ns) 0 h.live 0 s h.linked zero_apart is_live

      -- another record is put in
      pub reset : (x : T) → IsPool (with_item ns s x) free
          len × (pool_of (with_item ns s x) len ≡ pooled (pool_of ns len).cap
          (set_value (nat_eq s) (pool_of ns len).live x))
      reset x =
          let ms = with_item ns s x in let lt = live_within in
          let n : (j : ℕ) → next_at ms j ≡ next_at ns j = next-with_item ns s x lt in
          let p : (j : ℕ) → prev_at ms j ≡ prev_at ns j = prev-with_item ns s x lt in
          let long : length ms ≡ length ns = length-with_item ns s x in
          let is = item-with_item ns s x lt in
          let others : (j : ℕ) → j ≢ s → item_at ms j ≡ item_at ns j =
          item-with_item_other ns s x in
          let h' : IsPool ms free len = record {
            live = h.live;
            spare = h.spare;
            linked = linked_same (next_at ns) (prev_at ns) (next_at ms) (prev_at ms) 0 h.live 0
                h.linked (λ j _. n j) (λ j _. p j);
            chained = chained_same (next_at ns) (next_at ms) free h.spare h.chained (λ j _. n j);
            live_apart = h.live_apart;
            spare_apart = h.spare_apart;
            disjoint = h.disjoint;
            live_inside = inside_along ms h.live long h.live_inside;
            spare_inside = inside_along ms h.spare long h.spare_inside;
            holding = λ j m. elim (which j s) [
              | inl e ↦ (x, ap (item_at ms) e ∙ is)
              | inr ne ↦ let y = h.holding j m in (y.0, others j ne ∙ y.1)
            ];
            all = h.all ∙ sym long;
            counted = h.counted;
            small = subst (λ (k : ℕ). k ≤ 1025) (sym long) h.small;
          } in (
            h',
            seen_as ms free len h' _ (records-set s ns ms x h.live h.holding h.live_apart is
                others ∙ ap (λ l. set_value (nat_eq s) l x) (sym live_seen)) long,
          )

      -- the record is taken out
      abbrev pub retired_nodes : List (Node T)
      retired_nodes = with_next (with_prev (with_next ns (prev_at ns s) (next_at ns s))
          (next_at ns s) (prev_at ns s)) s free

      pub retired : IsPool retired_nodes s (len - 1) × (pool_of retired_nodes (len - 1) ≡ pooled
          (pool_of ns len).cap (remove_entry (nat_eq s) (pool_of ns len).live))
      retired =
          let a = prev_at ns s in let b = next_at ns s in
          let m1 = with_next ns a b in let m2 = with_prev m1 b a in let ms = with_next m2 s free in
          let la = prev_within in let lb = next_within in let ls = live_within in
          let long1 : length m1 ≡ length ns = length-with_next ns a b in
          let long2 : length m2 ≡ length ns = length-with_prev m1 b a ∙ long1 in
          let long : length ms ≡ length ns = length-with_next m2 s free ∙ long2 in
          let lb1 : b < length m1 = subst (λ (k : ℕ). b < k) (sym long1) lb in
          let ls2 : s < length m2 = subst (λ (k : ℕ). s < k) (sym long2) ls in
          let apart : a ≢ s = prev_apart in
          let u : Unlinks (next_at ns) (prev_at ns) (next_at ms) (prev_at ms) s = record {
            skip_next = next-with_next_other m2 s free a apart ∙ next-with_prev m1 b a lb1 a
                ∙ next-with_next ns a b la;
            skip_prev = prev-with_next m2 s free ls2 b ∙ prev-with_prev m1 b a lb1;
            same_next = λ j na ne. next-with_next_other m2 s free j ne
                ∙ next-with_prev m1 b a lb1 j ∙ next-with_next_other ns a b j na;
            same_prev = λ j nb. prev-with_next m2 s free ls2 j ∙ prev-with_prev_other m1 b a j nb
                ∙ prev-with_next ns a b la j;
          } in
          let freed : next_at ms s ≡ free = next-with_next m2 s free ls2 in
          let item : (j : ℕ) → item_at ms j ≡ item_at ns j = λ j. item-with_next m2 s free ls2 j
          ∙ item-with_prev m1 b a lb1 j ∙ item-with_next ns a b la j in
          let fewer : length (without s h.live) + 1 ≡ length h.live =
          length-without s h.live is_live in
          let h' : IsPool ms s (len - 1) = record {
            live = without s h.live;
            spare = s ∷ h.spare;
            linked = unlinked (next_at ns) (prev_at ns) (next_at ms) (prev_at ms) 0 h.live 0 s
                h.linked zero_apart not_zero is_live u;
            chained = chained_front (next_at ms) s free h.spare freed
                (chained_same (next_at ns) (next_at ms) free h.spare h.chained
                (λ j m. u.same_next j (λ e. spare_not_first (has_along j a h.spare e m))
                (λ e. h.disjoint s is_live (has_along j s h.spare e m))));
            live_apart = apart-without s h.live h.live_apart;
            spare_apart = apart_front s h.spare (h.disjoint s is_live) h.spare_apart;
            disjoint = λ j m k. elim (has_head j s h.spare k) [
              | inl e ↦ gone s h.live h.live_apart (has_along j s (without s h.live) e m)
              | inr w ↦ h.disjoint j (has-without j s h.live m) w
            ];
            live_inside = inside_along ms (without s h.live) long
                (λ j m. h.live_inside j (has-without j s h.live m));
            spare_inside = inside_along ms (s ∷ h.spare) long
                (λ j m. elim (has_head j s h.spare m) [
                  | inl e ↦ let on = h.live_inside s is_live in (
                    subst (λ (k : ℕ). 0 < k) (sym e) on.0,
                    subst (λ (k : ℕ). k < length ns) (sym e) on.1,
                  )
                  | inr w ↦ h.spare_inside j w
                ]);
            holding = λ j m. let y = h.holding j (has-without j s h.live m) in (y.0, item j ∙ y.1);
            all = let all = h.all in omega arith;
            counted = let c = h.counted in omega arith;
            small = subst (λ (k : ℕ). k ≤ 1025) (sym long) h.small;
          } in (
            h',
            seen_as ms s (len - 1) h' _ (records_same ns ms (without s h.live) (λ j _. item j)
                ∙ records-without s ns h.live h.holding
                ∙ ap (remove_entry (nat_eq s)) (sym live_seen)) long,
          )

    -- the first free node and those after it
    record Next : Type 0 where
      pub rest : List ℕ
      pub is : h.spare ≡ free ∷ rest

    next_from : (xs : List ℕ) → 0 < length xs → Chained (next_at ns) free xs
        → (rest : List ℕ) × (xs ≡ free ∷ rest)
    next_from [] lt k = absurd (omega arith)
    next_from (x ∷ xs) lt k =
        (xs, ap (λ (y : ℕ). y ∷ xs) (sym (chained_rest (next_at ns) free x xs k).0))

    module _ (room : length (pool_of ns len).live < (pool_of ns len).cap) where
      some_spare : 0 < length h.spare
      some_spare = let all = h.all in let c = h.counted in omega (arith, count_seen, cap_seen)

      next_free : Next
      next_free = let on = next_from h.spare some_spare h.chained in
          record { rest = on.0; is = on.1 }

      is_spare : Has free h.spare
      is_spare = subst (Has free) (sym next_free.is) (has_first free next_free.rest)

      pub free_within : free < length ns
      free_within = (h.spare_inside free is_spare).1

      pub zero_within : 0 < length ns
      zero_within = let all = h.all in omega arith

      pub last_within : prev_at ns 0 < length ns
      last_within = within_first (prev_at ns 0)
          (last-in (next_at ns) (prev_at ns) 0 h.live 0 h.linked)

      pub fresh_seen : lookup (nat_eq free) (pool_of ns len).live ≡ None
      fresh_seen = ap (lookup (nat_eq free)) live_seen
          ∙ lookup-records_none free ns h.live h.holding (λ m. h.disjoint free m is_spare)

      pub length_room : length h.live + 1 < 1025
      length_room = let all = h.all in let small = h.small in omega (arith, some_spare)

      -- a record comes in after the others
      abbrev pub opened_nodes : T → List (Node T)
      opened_nodes x = with_prev
          (with_next (with_next (with_prev (with_item ns free x) free (prev_at ns 0)) free 0)
          (prev_at ns 0) free) 0 free

      pub opened : (x : T) → IsPool (opened_nodes x) (next_at ns free)
          (len + 1) × (pool_of (opened_nodes x) (len + 1) ≡ pooled (pool_of ns len).cap
          ((pool_of ns len).live ++ (free, x) ∷ []))
      opened x =
          let r = next_free.rest in let e = next_free.is in let f = free in let a = prev_at ns 0 in
          let m1 = with_item ns f x in let m2 = with_prev m1 f a in let m3 = with_next m2 f 0 in
          let m4 = with_next m3 a f in let ms = with_prev m4 0 f in
          let l1 : length m1 ≡ length ns = length-with_item ns f x in
          let l2 : length m2 ≡ length ns = length-with_prev m1 f a ∙ l1 in
          let l3 : length m3 ≡ length ns = length-with_next m2 f 0 ∙ l2 in
          let l4 : length m4 ≡ length ns = length-with_next m3 a f ∙ l3 in
          let long : length ms ≡ length ns = length-with_prev m4 0 f ∙ l4 in
          let f0 = free_within in
          let f1 : f < length m1 = subst (λ (k : ℕ). f < k) (sym l1) f0 in
          let f2 : f < length m2 = subst (λ (k : ℕ). f < k) (sym l2) f0 in
          let a3 : a < length m3 = subst (λ (k : ℕ). a < k) (sym l3) last_within in
          let z4 : 0 < length m4 = subst (λ (k : ℕ). 0 < k) (sym l4) zero_within in
          let not_first : Has f (0 ∷ h.live) → ⊥ = λ m. spare_not f m is_spare in
          let last : Has a (0 ∷ h.live) = last-in (next_at ns) (prev_at ns) 0 h.live 0 h.linked in
          let fa : f ≢ a = λ w. not_first (has_along a f (0 ∷ h.live) (sym w) last) in
          let fz : f ≢ 0 = λ w. not_first (has_along 0 f (0 ∷ h.live) (sym w) (has_first 0 h.live))
          in
          let next : (j : ℕ) → next_at ms j ≡ next_at m4 j = next-with_prev m4 0 f z4 in
          let next2 : (j : ℕ) → next_at m2 j ≡ next_at ns j = λ j. next-with_prev m1 f a f1 j
          ∙ next-with_item ns f x f0 j in
          let prev4 : (j : ℕ) → prev_at m4 j ≡ prev_at m2 j = λ j. prev-with_next m3 a f a3 j
          ∙ prev-with_next m2 f 0 f2 j in
          let item : (j : ℕ) → item_at ms j ≡ item_at m1 j = λ j. item-with_prev m4 0 f z4 j
          ∙ item-with_next m3 a f a3 j ∙ item-with_next m2 f 0 f2 j
          ∙ item-with_prev m1 f a f1 j in
          let is : item_at ms f ≡ Some x = item f ∙ item-with_item ns f x f0 in
          let others : (j : ℕ) → j ≢ f → item_at ms j ≡ item_at ns j =
          λ j ne. item j ∙ item-with_item_other ns f x j ne in
          let u : Appends (next_at ns) (prev_at ns) (next_at ms) (prev_at ms) f 0 = record {
            new_next = next a ∙ next-with_next m3 a f a3;
            new_prev = prev-with_prev m4 0 f z4;
            its_next = next f ∙ next-with_next_other m3 a f f fa ∙ next-with_next m2 f 0 f2;
            its_prev = prev-with_prev_other m4 0 f f fz ∙ prev4 f ∙ prev-with_prev m1 f a f1;
            same_next = λ j na nf. next j ∙ next-with_next_other m3 a f j na
                ∙ next-with_next_other m2 f 0 j nf ∙ next2 j;
            same_prev = λ j nz nf. prev-with_prev_other m4 0 f j nz ∙ prev4 j
                ∙ prev-with_prev_other m1 f a j nf ∙ prev-with_item ns f x f0 j;
          } in
          let spares : Apart (f ∷ r) = subst Apart e h.spare_apart in
          let split = apart_rest f r spares in
          let of_rest : (j : ℕ) → Has j r → Has j h.spare =
          λ j m. subst (Has j) (sym e) (has_later j f r m) in
          let rest_chain = (chained_rest (next_at ns) f f r
          (subst (Chained (next_at ns) f) e h.chained)).1 in
          let not_live : (j : ℕ) → Has j h.live → j ≢ f =
          λ j m w. h.disjoint f (has_along j f h.live w m) is_spare in
          let still : Holding ms h.live = λ j m. let y = h.holding j m in
          (y.0, others j (not_live j m) ∙ y.1) in
          let h' : IsPool ms (next_at ns f) (len + 1) = record {
            live = h.live ++ f ∷ [];
            spare = r;
            linked = appended (next_at ns) (prev_at ns) (next_at ms) (prev_at ms) 0 h.live 0 f
                h.linked zero_apart not_zero not_first u;
            chained = chained_same (next_at ns) (next_at ms) (next_at ns f) r rest_chain
                (λ j m. u.same_next j (λ w. spare_not a last
                (has_along j a h.spare w (of_rest j m))) (λ w. split.0 (has_along j f r w m)));
            live_apart = apart-push h.live f h.live_apart (λ m. h.disjoint f m is_spare);
            spare_apart = split.1;
            disjoint = λ j m k. elim (has-push j f h.live m) [
              | inl w ↦ h.disjoint j w (of_rest j k)
              | inr w ↦ split.0 (has_along j f r w k)
            ];
            live_inside = inside_along ms (h.live ++ f ∷ []) long
                (λ j m. elim (has-push j f h.live m) [
                  | inl w ↦ h.live_inside j w
                  | inr w ↦ h.spare_inside j (has_along f j h.spare (sym w) is_spare)
                ]);
            spare_inside = inside_along ms r long (λ j m. h.spare_inside j (of_rest j m));
            holding = λ j m. elim (has-push j f h.live m) [
              | inl w ↦ still j w
              | inr w ↦ (x, ap (item_at ms) w ∙ is)
            ];
            all = let all = h.all in omega (arith, length-append h.live (f ∷ []), ap length e);
            counted = let c = h.counted in omega (arith, length-append h.live (f ∷ []));
            small = subst (λ (k : ℕ). k ≤ 1025) (sym long) h.small;
          } in (
            h',
            seen_as ms (next_at ns f) (len + 1) h' _ (records-push ms h.live f x still is
                ∙ ap (λ l. l ++ (f, x) ∷ []) (records_same ns ms h.live
                (λ j m. others j (not_live j m)) ∙ sym live_seen)) long,
          )

  -- the same at what a call is given: q is what the contract sees, and t the slot
  module _ (ns : List (Node T)) (free len : ℕ) (h : IsPool ns free len) (q : Pooled T)
      (v : pool_of ns len ≡ q) where
    pub some_nodes : 0 < length ns
    some_nodes = let all = h.all in omega arith

    pub cap_given : length ns - 1 ≡ q.cap
    cap_given = sym (cap_seen ns free len h) ∙ ap (λ (p : Pooled T). p.cap) v

    pub count_given : len ≡ length q.live
    count_given = sym (count_seen ns free len h) ∙ ap (λ (p : Pooled T). length p.live) v

    pub bound_given : length q.live ≤ q.cap
    bound_given = subst (λ (p : Pooled T). length p.live ≤ p.cap) v (bound_seen ns free len h)

    pub distinct_given : IsDistinct nat_eq (keys_of q.live)
    distinct_given = subst (λ (p : Pooled T). IsDistinct nat_eq (keys_of p.live)) v
        (distinct_seen ns free len h)

    pub first_given : first_slot q.live ≡ place_of (next_at ns 0)
    first_given = ap (λ (p : Pooled T). first_slot p.live) (sym v) ∙ first_seen ns free len h

    module _ (s t : ℕ) (e : s ≡ t) (given : IsSome (lookup (nat_eq t) q.live)) where
      found : IsSome (lookup (nat_eq s) (pool_of ns len).live)
      found = subst (λ (p : Pooled T). IsSome (lookup (nat_eq s) p.live)) (sym v)
          (subst (λ (k : ℕ). IsSome (lookup (nat_eq k) q.live)) (sym e) given)

      pub slot_within : s < length ns
      slot_within = live_within ns free len h s found

      pub after_given : slot_after t q.live ≡ place_of (next_at ns s)
      after_given = (λ i. slot_after (sym e i) (sym v i).live) ∙ after_seen ns free len h s found

      pub item_given : lookup (nat_eq t) q.live ≡ item_at ns s
      item_given = (λ i. lookup (nat_eq (sym e i)) (sym v i).live) ∙ item_seen ns free len h s found

      pub never_empty : item_at ns s ≡ None → ⊥
      never_empty none = let y = h.holding s (is_live ns free len h s found) in
          some_none (sym y.1 ∙ none)

      pub reset_given : (x : T) (ms : List (Node T)) → ms ≡ with_item ns s x
          → IsPool ms free len × (pool_of ms len ≡ pooled q.cap (set_value (nat_eq t) q.live x))
      reset_given x ms em =
          let on = reset ns free len h s found x in (
            subst (λ (m : List (Node T)). IsPool m free len) (sym em) on.0,
            ap (λ (m : List (Node T)). pool_of m len) em ∙ on.1
                ∙ (λ i. pooled (v i).cap (set_value (nat_eq (e i)) (v i).live x)),
          )

      pub nonempty : 0 < len
      nonempty = some_live ns free len h s found

      module _ (a b : ℕ) (ea : a ≡ prev_at ns s) (eb : b ≡ next_at ns s) where
        pub before_within : a < length ns
        before_within = subst (λ (k : ℕ). k < length ns) (sym ea)
            (prev_within ns free len h s found)

        module _ (m1 : List (Node T)) (e1 : m1 ≡ with_next ns a b) where
          long1 : length m1 ≡ length ns
          long1 = ap length e1 ∙ length-with_next ns a b

          pub behind_within : b < length m1
          behind_within = let lt = next_within ns free len h s found in omega (arith, long1)

          module _ (m2 : List (Node T)) (e2 : m2 ≡ with_prev m1 b a) where
            pub retired_within : s < length m2
            retired_within = let lt = slot_within in
                omega (arith, long1, ap length e2 ∙ length-with_prev m1 b a)

            pub retired_given : (m3 : List (Node T)) → m3 ≡ with_next m2 s free
                → IsPool m3 s (len - 1) × (pool_of m3 (len - 1) ≡ pooled q.cap
                (remove_entry (nat_eq t) q.live))
            retired_given m3 e3 =
                let on = retired ns free len h s found in
                let em = e3 ∙ ap (λ (m : List (Node T)). with_next m s free) (e2
                ∙ (λ i. with_prev ((e1 ∙ (λ j. with_next ns (ea j) (eb j))) i) (eb i) (ea i)))
                in (
                  subst (λ (m : List (Node T)). IsPool m s (len - 1)) (sym em) on.0,
                  ap (λ (m : List (Node T)). pool_of m (len - 1)) em ∙ on.1
                      ∙ (λ i. pooled (v i).cap (remove_entry (nat_eq (e i)) (v i).live)),
                )

    module _ (room : length q.live < q.cap) where
      spacious : length (pool_of ns len).live < (pool_of ns len).cap
      spacious = subst (λ (p : Pooled T). length p.live < p.cap) (sym v) room

      pub place_within : free < length ns
      place_within = free_within ns free len h spacious

      pub origin_within : 0 < length ns
      origin_within = zero_within ns free len h spacious

      pub fresh_given : lookup (nat_eq free) q.live ≡ None
      fresh_given = ap (λ (p : Pooled T). lookup (nat_eq free) p.live) (sym v)
          ∙ fresh_seen ns free len h spacious

      module _ (x : T) (a : ℕ) (ea : a ≡ prev_at ns 0) (m1 : List (Node T))
          (e1 : m1 ≡ with_item ns free x) where
        pub filled_within : free < length m1
        filled_within = let lt = place_within in
            omega (arith, ap length e1 ∙ length-with_item ns free x)

        module _ (m2 : List (Node T)) (e2 : m2 ≡ with_prev m1 free a) where
          long2 : length m2 ≡ length ns
          long2 = ap length e2 ∙ length-with_prev m1 free a ∙ ap length e1
              ∙ length-with_item ns free x

          pub linked_within : free < length m2
          linked_within = let lt = place_within in omega (arith, long2)

          module _ (m3 : List (Node T)) (e3 : m3 ≡ with_next m2 free 0) where
            pub last_place_within : a < length m3
            last_place_within = let lt = last_within ns free len h spacious in
                omega (arith, ea, long2, ap length e3 ∙ length-with_next m2 free 0)

            module _ (m4 : List (Node T)) (e4 : m4 ≡ with_next m3 a free) where
              pub origin_still : 0 < length m4
              origin_still = let lt = origin_within in
                  omega (
                    arith,
                    long2,
                    ap length e3 ∙ length-with_next m2 free 0,
                    ap length e4
                        ∙ length-with_next m3 a free,
                  )

              pub opened_given : (m5 : List (Node T)) → m5 ≡ with_prev m4 0 free → (k : ℕ)
                  → k ≡ next_at ns free
                  → IsPool m5 k (len + 1) × (pool_of m5 (len + 1) ≡ pooled q.cap
                  (q.live ++ (free, x) ∷ []))
              opened_given m5 e5 k ek =
                  let on = opened ns free len h spacious x in
                  let em2 = e2 ∙ (λ i. with_prev (e1 i) free (ea i)) in
                  let em3 = e3 ∙ ap (λ (m : List (Node T)). with_next m free 0) em2 in
                  let em4 = e4 ∙ (λ i. with_next (em3 i) (ea i) free) in
                  let em = e5 ∙ ap (λ (m : List (Node T)). with_prev m 0 free) em4 in (
                    subst (λ (m : List (Node T)). IsPool m k (len + 1)) (sym em)
                        (subst (λ (j : ℕ). IsPool (opened_nodes ns free len h spacious x) j
                        (len + 1)) (sym ek) on.0),
                    ap (λ (m : List (Node T)). pool_of m (len + 1)) em ∙ on.1
                        ∙ (λ i. pooled (v i).cap ((v i).live ++ (free, x) ∷ [])),
                  )
