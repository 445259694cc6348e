-- What is reached, form by form.
use Rattle.std.proofs.Common.{◌≡◌, inl, inr, ℕ, zero, suc, ◌+◌, ◌-◌, ◌<◌, ◌≤◌, max, Bool, true, false, ◌&&◌, ◌||◌, List}
use Rattle.std.proofs.Common.{[], length, refl, sym, subst, ap, ◌∙◌, arith, nat_le}
use Rattle.std.specs.Prelude.{IsTrue, ◌==◌}
use Rattle.std.proofs.lemmas.Bool.{or_cases, or_left, or_right, and_parts, and_from, both_ways, eqb-true, eq-eqb}
use Rattle.std.proofs.lemmas.Bool.{le-leb, leb-true}
use Rattle.assertions.specs.Quantifiers.{some_in, each_in}
use Rattle.assertions.proofs.Quantifiers.{some_in-found, some_in-true, some_in-same, some_in-end, some_in-snoc}
use Rattle.assertions.specs.Segments.{Seq, either, both, during, times, chain, Matches, is_match}
use Rattle.assertions.specs.Written.{after, later, one_of}
use Rattle.assertions.proofs.Segments.{Matches-forward, is_match-Matches, Matches-is_match}
use Rattle.assertions.proofs.RangeLaws.{one_of-found, one_of-matches, after-found, after-matches, later-found}
use Rattle.assertions.proofs.RangeLaws.{later-matches}
use Rattle.judging.specs.Tables.{marks, row_at, has_link, reached_from, passes_behind, IsRelation}
use Rattle.judging.proofs.RowLaws.{same_truth, get_or_past, marked_within}

-- the same test in other words
pub in_words : (test other : ℕ → ℕ → Bool) (starts : List Bool) (rows : List (List Bool)) → IsRelation test starts rows
    → ((i j : ℕ) → IsTrue (marks starts i) → j < length starts → test i j ≡ other i j) → IsRelation other starts rows
in_words test other starts rows h same =
    record { each = λ i j marked inside. h.each i j marked inside ∙ same i j marked inside }

-- Where no start is marked, nothing is said.
pub no_starts : (test : ℕ → ℕ → Bool) (starts : List Bool) (rows : List (List Bool))
    → some_in 0 (length starts) (marks starts) ≡ false → IsRelation test starts rows
no_starts test starts rows off =
    record {
      each = λ i j marked inside. absurd
          (both_ways _ off
          (some_in-true 0 (length starts) (marks starts) i (omega arith) (marked_within starts i marked)
          marked));
    }

-- from the places of a table
join_law : (test : ℕ → ℕ → Bool) (starts next : List Bool) (front rests : List (List Bool)) (gap bound i j : ℕ)
    → bound + gap ≡ j + 1
    → length next ≡ length starts → ((m : ℕ) → m < length starts → IsTrue (has_link front i m) → IsTrue (marks next m))
    → IsRelation test next rests → j < length starts
    → reached_from front rests gap i j ≡ some_in 0 bound (λ m. has_link front i m && test m j)
join_law test starts next front rests gap bound i j fits long goes rest inside = same_truth _ _
    (λ h.
    let f =
    some_in-found 0 (length (row_at front i)) (λ m. marks (row_at front i) m
    && (nat_le (m + gap) j && has_link rests m j)) h in
    let p = and_parts (has_link front i f.0) (nat_le (f.0 + gap) j && has_link rests f.0 j) f.3 in
    let q = and_parts (nat_le (f.0 + gap) j) (has_link rests f.0 j) p.1 in
    let le : f.0 + gap ≤ j = leb-true (f.0 + gap) j q.0 in
    let passes : IsTrue (test f.0 j) = sym (rest.each f.0 j (goes f.0 (omega arith) p.0) (omega arith)) ∙ q.1 in
    some_in-true 0 bound (λ m. has_link front i m && test m j) f.0 (omega arith) (omega arith)
    (and_from _ _ p.0 passes))
    (λ h.
    let f = some_in-found 0 bound (λ m. has_link front i m && test m j) h in
    let p = and_parts (has_link front i f.0) (test f.0 j) f.3 in
    let below : f.0 < bound = f.2 in
    let linked : IsTrue (has_link rests f.0 j) = rest.each f.0 j (goes f.0 (omega arith) p.0) (omega arith) ∙ p.1 in
    some_in-true 0 (length (row_at front i))
    (λ m. marks (row_at front i) m && (nat_le (m + gap) j && has_link rests m j))
    f.0 (omega arith) (marked_within (row_at front i) f.0 p.0)
    (and_from _ _ p.0 (and_from _ _ (le-leb (f.0 + gap) j (omega arith)) linked)))

pub behind_law : (test : ℕ → ℕ → Bool) (starts next : List Bool) (moved shared rests rows : List (List Bool))
    → length next ≡ length starts
    → ((i j : ℕ) → IsTrue (marks starts i) → j < length starts → IsTrue (has_link moved i j) → IsTrue (marks next j))
    → ((i j : ℕ) → IsTrue (marks starts i) → j < length starts → IsTrue (has_link shared i j) → IsTrue (marks next j))
    → IsRelation test next rests → IsRelation (λ i j. reached_from moved rests 0 i j || reached_from shared rests 1 i j)
    starts rows → IsRelation (passes_behind moved shared test) starts rows
behind_law test starts next moved shared rests rows long by_moved by_shared rest all =
    in_words _ (passes_behind moved shared test) starts rows all
    (λ i j marked inside.
    let apart =
    join_law test starts next moved rests 0 (j + 1) i j (omega arith) long
    (λ m below linked. by_moved i m marked below linked) rest inside in
    let together =
    join_law test starts next shared rests 1 j i j (omega arith) long
    (λ m below linked. by_shared i m marked below linked) rest inside in
    ap (λ b. b || reached_from shared rests 1 i j) apart
    ∙ ap (λ b. some_in 0 (j + 1) (λ m. has_link moved i m && test m j) || b) together)

-- nothing is linked in no rows
pub no_links : (i j : ℕ) → has_link [] i j ≡ false
no_links i j =
    ap (λ (row : List Bool). marks row j) (get_or_past [] [] i (omega arith)) ∙ get_or_past [] false j (omega arith)

chain_forward : (test : ℕ → ℕ → Bool) (n i j : ℕ) → IsTrue (chain test n i j) → i ≤ j
chain_forward test zero i j h = omega (arith, eqb-true i j h)
chain_forward test (suc n) i j h =
    let f = some_in-found i (j + 1) (λ m. chain test n i m && test m j) h in omega (arith, f.1, f.2)

pub chain_same : (test other : ℕ → ℕ → Bool) (bound : ℕ) → ((i j : ℕ) → i < bound → j < bound → test i j ≡ other i j)
    → (n i j : ℕ) → j < bound → chain test n i j ≡ chain other n i j
chain_same test other bound same zero i j below = refl
chain_same test other bound same (suc n) i j below =
    some_in-same i (j + 1) (λ m. chain test n i m && test m j) (λ m. chain other n i m && other m j)
    (λ m from under. ap (λ b. b && test m j) (chain_same test other bound same n i m (omega arith))
    ∙ ap (λ b. chain other n i m && b) (same m j (omega arith) below))

-- so many steps, and what was gathered so far
pub record IsRepeated (bodies : List (List Bool)) (starts : List Bool) (least count : ℕ) (last all : List (List Bool)) :
    Type 0 where
  pub lasts : IsRelation (λ i j. chain (has_link bodies) count i j) starts last
  pub gathered : IsRelation (λ i j. some_in least (count + 1) (λ k. chain (has_link bodies) k i j)) starts all

pub repeated_first : (bodies : List (List Bool)) (starts : List Bool) (least : ℕ) (last all : List (List Bool))
    → IsRelation (λ i j. (j == i) && true) starts last → IsRelation (λ i j. (j == i) && (least == 0)) starts all
    → IsRepeated bodies starts least 0 last all
repeated_first bodies starts least last all one here = record {
  lasts = in_words _ (λ i j. chain (has_link bodies) 0 i j) starts last one
      (λ i j marked inside. same_truth _ _
      (λ h. let p = and_parts (j == i) true h in eq-eqb i j (sym (eqb-true j i p.0)))
      (λ h. and_from (j == i) true (eq-eqb j i (sym (eqb-true i j h))) refl));
  gathered = in_words _ (λ i j. some_in least (0 + 1) (λ k. chain (has_link bodies) k i j)) starts all here
      (λ i j marked inside. same_truth _ _
      (λ h.
      let p = and_parts (j == i) (least == 0) h in
      some_in-true least (0 + 1) (λ k. chain (has_link bodies) k i j) 0 (omega (arith, eqb-true least 0 p.1))
      (omega arith)
      (eq-eqb i j (sym (eqb-true j i p.0))))
      (λ h.
      let f = some_in-found least (0 + 1) (λ k. chain (has_link bodies) k i j) h in
      let none : f.0 ≡ 0 = omega (arith, f.2) in
      let same : i ≡ j = eqb-true i j (subst (λ n. IsTrue (chain (has_link bodies) n i j)) none f.3) in
      and_from (j == i) (least == 0) (eq-eqb j i (sym same)) (eq-eqb least 0 (omega (arith, f.1)))));
}

-- one step more
step_more : (bodies : List (List Bool)) (starts : List Bool) (count : ℕ) (last next : List (List Bool))
    → IsRelation (λ i j. chain (has_link bodies) count i j) starts last
    → IsRelation (reached_from last bodies 0) starts next
    → IsRelation (λ i j. chain (has_link bodies) (count + 1) i j) starts next
step_more bodies starts count last next so_far step =
    let e : suc count ≡ count + 1 = omega arith in
    subst (λ n. IsRelation (λ i j. chain (has_link bodies) n i j) starts next) e
    (in_words _ (λ i j. chain (has_link bodies) (suc count) i j) starts next step
    (λ i j marked inside. same_truth _ _
    (λ h.
    let f =
    some_in-found 0 (length (row_at last i))
    (λ m. marks (row_at last i) m && (nat_le (m + 0) j && has_link bodies m j)) h in
    let p = and_parts (has_link last i f.0) (nat_le (f.0 + 0) j && has_link bodies f.0 j) f.3 in
    let q = and_parts (nat_le (f.0 + 0) j) (has_link bodies f.0 j) p.1 in
    let le : f.0 + 0 ≤ j = leb-true (f.0 + 0) j q.0 in
    let before : IsTrue (chain (has_link bodies) count i f.0) = sym (so_far.each i f.0 marked (omega arith)) ∙ p.0 in
    some_in-true i (j + 1) (λ m. chain (has_link bodies) count i m && has_link bodies m j) f.0
    (chain_forward (has_link bodies) count i f.0 before) (omega arith) (and_from _ _ before q.1))
    (λ h.
    let f = some_in-found i (j + 1) (λ m. chain (has_link bodies) count i m && has_link bodies m j) h in
    let p = and_parts (chain (has_link bodies) count i f.0) (has_link bodies f.0 j) f.3 in
    let below : f.0 < j + 1 = f.2 in
    let before : IsTrue (has_link last i f.0) = so_far.each i f.0 marked (omega arith) ∙ p.0 in
    some_in-true 0 (length (row_at last i))
    (λ m. marks (row_at last i) m && (nat_le (m + 0) j && has_link bodies m j)) f.0
    (omega arith) (marked_within (row_at last i) f.0 before)
    (and_from _ _ before (and_from _ _ (le-leb (f.0 + 0) j (omega arith)) p.1)))))

pub repeated_skip : (bodies : List (List Bool)) (starts : List Bool) (least count : ℕ)
    (last all next : List (List Bool)) → count + 1 < least → IsRepeated bodies starts least count last all
    → IsRelation (reached_from last bodies 0) starts next → IsRepeated bodies starts least (count + 1) next all
repeated_skip bodies starts least count last all next few so_far step = record {
  lasts = step_more bodies starts count last next so_far.lasts step;
  gathered =
      in_words _ (λ i j. some_in least (count + 1 + 1) (λ k. chain (has_link bodies) k i j)) starts all so_far.gathered
      (λ i j marked inside. some_in-end least (count + 1) _ (omega arith)
      ∙ sym (some_in-end least (count + 1 + 1) _ (omega arith)));
}

pub repeated_more : (bodies : List (List Bool)) (starts : List Bool) (least count : ℕ)
    (last all next new : List (List Bool)) → least ≤ count + 1 → IsRepeated bodies starts least count last all
    → IsRelation (reached_from last bodies 0) starts next
    → IsRelation (λ i j. has_link all i j || has_link next i j) starts new
    → IsRepeated bodies starts least (count + 1) next new
repeated_more bodies starts least count last all next new enough so_far step merged =
    let lasts = step_more bodies starts count last next so_far.lasts step in
    record {
      lasts = lasts;
      gathered = in_words _
          (λ i j. some_in least (count + 1 + 1) (λ k. chain (has_link bodies) k i j)) starts new merged
          (λ i j marked inside.
          let p : ℕ → Bool = λ k. chain (has_link bodies) k i j in
          ap (λ b. b || has_link next i j) (so_far.gathered.each i j marked inside)
          ∙ ap (λ b. some_in least (count + 1) p || b) (lasts.each i j marked inside)
          ∙ sym (some_in-snoc least (count + 1) p enough));
    }

module _ (B : Type 0) (holds : B → ℕ → Bool) where
  pub or_law : (r s : Seq B) (starts : List Bool) (ones others rows : List (List Bool))
      → IsRelation (is_match holds r) starts ones → IsRelation (is_match holds s) starts others
      → IsRelation (λ i j. has_link ones i j || has_link others i j) starts rows
      → IsRelation (is_match holds (either r s)) starts rows
  or_law r s starts ones others rows one other all =
      in_words _ (is_match holds (either r s)) starts rows all
      (λ i j marked inside. ap (λ b. b || has_link others i j) (one.each i j marked inside)
      ∙ ap (λ b. is_match holds r i j || b) (other.each i j marked inside))

  pub during_law : (b : B) (r : Seq B) (starts : List Bool) (bodies rows : List (List Bool))
      → IsRelation (is_match holds r) starts bodies
      → IsRelation (λ i j. has_link bodies i j && each_in i j (holds b)) starts rows
      → IsRelation (is_match holds (during b r)) starts rows
  during_law b r starts bodies rows body all =
      in_words _ (is_match holds (during b r)) starts rows all
      (λ i j marked inside. ap (λ p. p && each_in i j (holds b)) (body.each i j marked inside))

  -- where it has ended
  ended : (r : Seq B) (starts : List Bool) (rows : List (List Bool)) (i j : ℕ)
      → IsRelation (is_match holds r) starts rows → IsTrue (marks starts i) → j < length starts
      → some_in 0 (j + 1) (has_link rows i) ≡ some_in i (j + 1) (λ k. is_match holds r i k)
  ended r starts rows i j rel marked inside = same_truth _ _
      (λ h.
      let f = some_in-found 0 (j + 1) (has_link rows i) h in
      let below : f.0 < j + 1 = f.2 in
      let m : IsTrue (is_match holds r i f.0) = sym (rel.each i f.0 marked (omega arith)) ∙ f.3 in
      some_in-true i (j + 1) (λ k. is_match holds r i k) f.0
      (Matches-forward B holds r i f.0 (is_match-Matches B holds r i f.0 m)) below m)
      (λ h.
      let f = some_in-found i (j + 1) (λ k. is_match holds r i k) h in
      let below : f.0 < j + 1 = f.2 in
      some_in-true 0 (j + 1) (has_link rows i) f.0 (omega arith) below (rel.each i f.0 marked (omega arith) ∙ f.3))

  pub and_law : (r s : Seq B) (starts : List Bool) (ones others rows : List (List Bool))
      → IsRelation (is_match holds r) starts ones → IsRelation (is_match holds s) starts others
      → IsRelation (λ i j. (has_link ones i j && some_in 0 (j + 1) (has_link others i))
      || (some_in 0 (j + 1) (has_link ones i) && has_link others i j)) starts rows
      → IsRelation (is_match holds (both r s)) starts rows
  and_law r s starts ones others rows one other all =
      in_words _ (is_match holds (both r s)) starts rows all
      (λ i j marked inside.
      let ones_ended = ended r starts ones i j one marked inside in
      let others_ended = ended s starts others i j other marked inside in
      ap (λ b. (b && some_in 0 (j + 1) (has_link others i)) ||
      (some_in 0 (j + 1) (has_link ones i) && has_link others i j))
      (one.each i j marked inside)
      ∙ ap (λ b. (is_match holds r i j && b) ||
      (some_in 0 (j + 1) (has_link ones i) && has_link others i j)) others_ended
      ∙ ap (λ b. (is_match holds r i j && some_in i (j + 1) (λ k. is_match holds s i k)) || (b && has_link others i j))
      ones_ended
      ∙ ap (λ b. (is_match holds r i j && some_in i (j + 1) (λ k. is_match holds s i k))
      || (some_in i (j + 1) (λ k. is_match holds r i k) && b)) (other.each i j marked inside))

  pub repeat_law : (r : Seq B) (least most : ℕ) (starts every : List Bool) (bodies rows : List (List Bool))
      → length every ≡ length starts → ((k : ℕ) → k < length starts → IsTrue (marks every k))
      → IsRelation (is_match holds r) every bodies
      → IsRelation (λ i j. some_in least (most + 1) (λ k. chain (has_link bodies) k i j)) starts rows
      → IsRelation (is_match holds (times r least most)) starts rows
  repeat_law r least most starts every bodies rows long all_marked body all =
      in_words _ (is_match holds (times r least most)) starts rows all
      (λ i j marked inside.
      some_in-same least (most + 1) (λ k. chain (has_link bodies) k i j) (λ k. chain (is_match holds r) k i j)
      (λ k from below. chain_same (has_link bodies) (is_match holds r) (length starts)
      (λ a b a_in b_in. body.each a b (all_marked a a_in) (omega arith)) k i j inside))

  module _ (b : B) (true_one : (k : ℕ) → IsTrue (holds b k)) where
    -- the places so far after
    abbrev pub lies_moved : List (List Bool) → ℕ → ℕ → ℕ → ℕ → Bool
    lies_moved fronts least end i j = some_in least end (λ gap. nat_le gap j && has_link fronts i (j - gap))

    pub delay_law : (r s : Seq B) (least most : ℕ) (starts : List Bool) (fronts moved shared rows : List (List Bool))
        → IsRelation (is_match holds r) starts fronts
        → IsRelation (lies_moved fronts (least - 1) (max least most)) starts moved
        → IsRelation (λ i j. (least == 0) && (nat_le i j && has_link fronts i (j + 1))) starts shared
        → IsRelation (passes_behind moved shared (is_match holds s)) starts rows
        → IsRelation (is_match holds (one_of least (most - least) (after b r s))) starts rows
    delay_law r s least most starts fronts moved shared rows front by_moved by_shared all =
        in_words _ (is_match holds (one_of least (most - least) (after b r s))) starts rows all
        (λ i j marked inside. same_truth _ _
        (λ h. elim
        (or_cases (some_in 0 (j + 1) (λ m. has_link moved i m && is_match holds s m j))
        (some_in 0 j (λ m. has_link shared i m && is_match holds s m j)) h) [
          | inl apart ↦
              let f = some_in-found 0 (j + 1) (λ m. has_link moved i m && is_match holds s m j) apart in
              let below : f.0 < j + 1 = f.2 in
              let p = and_parts (has_link moved i f.0) (is_match holds s f.0 j) f.3 in
              let g =
              some_in-found (least - 1) (max least most) (λ gap. nat_le gap f.0 && has_link fronts i (f.0 - gap))
              (sym (by_moved.each i f.0 marked (omega arith)) ∙ p.0) in
              let from : least - 1 ≤ g.0 = g.1 in
              let under : g.0 < max least most = g.2 in
              let q = and_parts (nat_le g.0 f.0) (has_link fronts i (f.0 - g.0)) g.3 in
              let le : g.0 ≤ f.0 = leb-true g.0 f.0 q.0 in
              let first =
              is_match-Matches B holds r i (f.0 - g.0) (sym (front.each i (f.0 - g.0) marked (omega arith)) ∙ q.1)
              in
              let e : f.0 ≡ f.0 - g.0 + (g.0 + 1 - 1) = omega arith in
              let second = subst (λ m. Matches holds s m j) e (is_match-Matches B holds s f.0 j p.1) in
              Matches-is_match B holds (one_of least (most - least) (after b r s)) i j
              (one_of-matches B holds (after b r s) least (most - least) i j (g.0 + 1) (omega arith) (omega arith)
              (after-matches B holds b true_one r s (g.0 + 1) i (f.0 - g.0) j (omega arith) first second))
          | inr together ↦
              let f = some_in-found 0 j (λ m. has_link shared i m && is_match holds s m j) together in
              let below : f.0 < j = f.2 in
              let p = and_parts (has_link shared i f.0) (is_match holds s f.0 j) f.3 in
              let q =
              and_parts (least == 0) (nat_le i f.0 && has_link fronts i (f.0 + 1))
              (sym (by_shared.each i f.0 marked (omega arith)) ∙ p.0) in
              let t = and_parts (nat_le i f.0) (has_link fronts i (f.0 + 1)) q.1 in
              let first =
              is_match-Matches B holds r i (f.0 + 1) (sym (front.each i (f.0 + 1) marked (omega arith)) ∙ t.1) in
              Matches-is_match B holds (one_of least (most - least) (after b r s)) i j
              (one_of-matches B holds (after b r s) least (most - least) i j 0 (omega (arith, eqb-true least 0 q.0))
              (omega arith)
              (f.0, leb-true i f.0 t.0, below, first, is_match-Matches B holds s f.0 j p.1))
        ])
        (λ h.
        let f =
        one_of-found B holds (after b r s) least (most - least) i j
        (is_match-Matches B holds (one_of least (most - least) (after b r s)) i j h) in
        delayed r s least most starts fronts moved shared front by_moved by_shared i j marked inside f.0 f.1
        (omega (arith, f.2)) f.3))
      where
        delayed : (r s : Seq B) (least most : ℕ) (starts : List Bool) (fronts moved shared : List (List Bool))
            → IsRelation (is_match holds r) starts fronts
            → IsRelation (lies_moved fronts (least - 1) (max least most)) starts moved
            → IsRelation (λ i j. (least == 0) && (nat_le i j && has_link fronts i (j + 1))) starts shared
            → (i j : ℕ) → IsTrue (marks starts i) → j < length starts → (k : ℕ) → least ≤ k → k ≤ max least most
            → Matches holds (after b r s k) i j
            → IsTrue (passes_behind moved shared (is_match holds s) i j)
        delayed r s least most starts fronts moved shared front by_moved by_shared i j marked inside zero from within
            h =
            let linked : IsTrue (has_link fronts i (h.0 + 1)) =
            front.each i (h.0 + 1) marked (omega (arith, h.2)) ∙ Matches-is_match B holds r i (h.0 + 1) h.3 in
            let here : IsTrue (has_link shared i h.0) = by_shared.each i h.0 marked (omega (arith, h.2))
            ∙ and_from (least == 0) (nat_le i h.0 && has_link fronts i (h.0 + 1)) (eq-eqb least 0 (omega arith))
            (and_from (nat_le i h.0) (has_link fronts i (h.0 + 1)) (le-leb i h.0 h.1) linked) in
            or_right (some_in 0 (j + 1) (λ m. has_link moved i m && is_match holds s m j))
            (some_in 0 j (λ m. has_link shared i m && is_match holds s m j))
            (some_in-true 0 j (λ m. has_link shared i m && is_match holds s m j) h.0 (omega arith) h.2
            (and_from _ _ here (Matches-is_match B holds s h.0 j h.4)))
        delayed r s least most starts fronts moved shared front by_moved by_shared i j marked inside (suc n) from within
            h =
            let g = after-found B holds b r s (suc n) i j (omega arith) h in
            let place : ℕ = g.0 + (suc n - 1) in
            let ends : place ≤ j = Matches-forward B holds s place j g.2 in
            let e : g.0 ≡ place - n = omega arith in
            let linked : IsTrue (has_link fronts i (place - n)) =
            subst (λ m. IsTrue (has_link fronts i m)) e (front.each i g.0 marked (omega arith)
            ∙ Matches-is_match B holds r i g.0 g.1) in
            let here : IsTrue (has_link moved i place) = by_moved.each i place marked (omega arith)
            ∙ some_in-true (least - 1) (max least most) (λ gap. nat_le gap place && has_link fronts i (place - gap)) n
            (omega arith) (omega arith) (and_from _ _ (le-leb n place (omega arith)) linked) in
            or_left (some_in 0 (j + 1) (λ m. has_link moved i m && is_match holds s m j))
            (some_in 0 j (λ m. has_link shared i m && is_match holds s m j))
            (some_in-true 0 (j + 1) (λ m. has_link moved i m && is_match holds s m j) place (omega arith) (omega arith)
            (and_from _ _ here (Matches-is_match B holds s place j g.2)))

    pub lead_law : (s : Seq B) (least most : ℕ) (starts : List Bool) (here moved none rows : List (List Bool))
        → IsRelation (λ i j. (j == i) && true) starts here
        → IsRelation (lies_moved here least (max least most + 1)) starts moved → none ≡ []
        → IsRelation (passes_behind moved none (is_match holds s)) starts rows
        → IsRelation (is_match holds (one_of least (most - least) (later b s))) starts rows
    lead_law s least most starts here moved none rows same by_moved nothing all =
        in_words _ (is_match holds (one_of least (most - least) (later b s))) starts rows all
        (λ i j marked inside. same_truth _ _
        (λ h. elim
        (or_cases (some_in 0 (j + 1) (λ m. has_link moved i m && is_match holds s m j))
        (some_in 0 j (λ m. has_link none i m && is_match holds s m j)) h) [
          | inl apart ↦
              let f = some_in-found 0 (j + 1) (λ m. has_link moved i m && is_match holds s m j) apart in
              let below : f.0 < j + 1 = f.2 in
              let p = and_parts (has_link moved i f.0) (is_match holds s f.0 j) f.3 in
              let g =
              some_in-found least (max least most + 1) (λ gap. nat_le gap f.0 && has_link here i (f.0 - gap))
              (sym (by_moved.each i f.0 marked (omega arith)) ∙ p.0) in
              let from : least ≤ g.0 = g.1 in
              let under : g.0 < max least most + 1 = g.2 in
              let q = and_parts (nat_le g.0 f.0) (has_link here i (f.0 - g.0)) g.3 in
              let le : g.0 ≤ f.0 = leb-true g.0 f.0 q.0 in
              let t = and_parts (f.0 - g.0 == i) true (sym (same.each i (f.0 - g.0) marked (omega arith)) ∙ q.1) in
              let e : f.0 ≡ i + g.0 = omega (arith, eqb-true (f.0 - g.0) i t.0) in
              let second = subst (λ m. Matches holds s m j) e (is_match-Matches B holds s f.0 j p.1) in
              Matches-is_match B holds (one_of least (most - least) (later b s)) i j
              (one_of-matches B holds (later b s) least (most - least) i j g.0 from (omega arith)
              (later-matches B holds b true_one s g.0 i j second))
          | inr together ↦
              let f = some_in-found 0 j (λ m. has_link none i m && is_match holds s m j) together in
              let p = and_parts (has_link none i f.0) (is_match holds s f.0 j) f.3 in
              absurd (both_ways _ (ap (λ (rows : List (List Bool)). has_link rows i f.0) nothing ∙ no_links i f.0) p.0)
        ])
        (λ h.
        let f =
        one_of-found B holds (later b s) least (most - least) i j
        (is_match-Matches B holds (one_of least (most - least) (later b s)) i j h) in
        let k : ℕ = f.0 in
        let from : least ≤ k = f.1 in
        let within : k ≤ least + (most - least) = f.2 in
        let second = later-found B holds b s k i j f.3 in
        let place : ℕ = i + k in
        let ends : place ≤ j = Matches-forward B holds s place j second in
        let linked : IsTrue (has_link here i (place - k)) =
        same.each i (place - k) marked (omega arith)
        ∙ and_from (place - k == i) true (eq-eqb (place - k) i (omega arith)) refl in
        let goes : IsTrue (has_link moved i place) = by_moved.each i place marked (omega arith)
        ∙ some_in-true least (max least most + 1) (λ gap. nat_le gap place && has_link here i (place - gap)) k from
        (omega arith) (and_from _ _ (le-leb k place (omega arith)) linked) in
        or_left (some_in 0 (j + 1) (λ m. has_link moved i m && is_match holds s m j))
        (some_in 0 j (λ m. has_link none i m && is_match holds s m j))
        (some_in-true 0 (j + 1) (λ m. has_link moved i m && is_match holds s m j) place (omega arith) (omega arith)
        (and_from _ _ goes (Matches-is_match B holds s place j second)))))
