-- Each step of a pass keeps the rule of the bench.
use Rattle.std.proofs.Common.{◌≡◌, ◌≢◌, ◌⊎◌, ℕ, zero, suc, ◌+◌, ◌-◌, ◌<◌, ◌≤◌, true, false, true≢false, List, [], ◌∷◌}
use Rattle.std.proofs.Common.{◌++◌, map, length, set, sym, refl, ap, ◌∙◌, subst, inl, inr, ⊎_elim, append_assoc}
use Rattle.std.proofs.Common.{arith, length-append, All, Option, Some}
use Rattle.std.proofs.lemmas.List.Elements.{All-push, All-head, All-tail, All-pop, All-same, All-nil}
use mathlib.Core.Option.{some, some-injective, some-ne-none}
use lib.ListN.{get_elem?}
use Rattle.crossbeam_queue.specs.Fifo.{Pushes, Pops, Forks, Merges, Learns}
use Rattle.crossbeam_queue.proofs.Lists.{at_set, at_snoc}
use Rattle.workers_bench.specs.declared.numbered.Numbered.{Numbered}
use Rattle.workers_bench.specs.declared.passes.Round.{Round}
use Rattle.workers_bench.specs.declared.passes.Hand.{Hand}
use Rattle.workers_bench.specs.Hands.{whole, total, NumbersRiseFrom, end_after, NumbersRise, monitor_number, numbers}
use Rattle.workers_bench.specs.Hands.{hand}
use Rattle.workers_bench.specs.Hands.{with_put}
use Rattle.workers_bench.specs.Hands.{with_taken}
use Rattle.workers_bench.specs.Hands.{hands_joined, no_round, fresh, idle, Fits, AllFit, Kept, LeavesTaken, TakesOne}
use Rattle.workers_bench.specs.Hands.{IsOfRound}

-- ---- sums

pub total-append : {X : Type 0} (f : X → ℕ) (xs ys : List X) → total f (xs ++ ys) ≡ total f xs + total f ys
total-append f [] ys = omega arith
total-append f (x ∷ xs) ys = omega (arith, total-append f xs ys)

-- after a change of one
total_set : {X : Type 0} (f : X → ℕ) (xs : List X) (i : ℕ) (v w : X) → get_elem? xs i ≡ some v
    → total f (set xs i w) + f v ≡ total f xs + f w
total_set f [] i v w e = absurd (some-ne-none v (sym e))
total_set f (x ∷ xs) zero v w e = omega (arith, ap f (some-injective x v e))
total_set f (x ∷ xs) (suc i) v w e = omega (arith, total_set f xs i v w e)

one_of : {X : Type 0} (f : X → ℕ) (xs : List X) (i : ℕ) (v : X) → get_elem? xs i ≡ some v → f v ≤ total f xs
one_of f [] i v e = absurd (some-ne-none v (sym e))
one_of f (x ∷ xs) zero v e = omega (arith, ap f (some-injective x v e))
one_of f (x ∷ xs) (suc i) v e = omega (arith, one_of f xs i v e)

two_of : {X : Type 0} (f : X → ℕ) (xs : List X) (i j : ℕ) (v u : X) → j ≢ i → get_elem? xs i ≡ some v → get_elem? xs j
    ≡ some u → f v + f u ≤ total f xs
two_of f [] i j v u apart e h = absurd (some-ne-none v (sym e))
two_of f (x ∷ xs) zero zero v u apart e h = absurd (apart refl)
two_of f (x ∷ xs) zero (suc j) v u apart e h = omega (arith, ap f (some-injective x v e), one_of f xs j u h)
two_of f (x ∷ xs) (suc i) zero v u apart e h = omega (arith, ap f (some-injective x u h), one_of f xs i v e)
two_of f (x ∷ xs) (suc i) (suc j) v u apart e h = omega (arith, two_of f xs i j v u (λ same. apart (ap suc same)) e h)

-- ---- rising numbers

rises_push : (low : ℕ) (xs : List ℕ) (x : ℕ) → NumbersRiseFrom low xs → end_after low xs ≤ x
    → NumbersRiseFrom low (xs ++ x ∷ [])
rises_push low [] x h above = (above, tt)
rises_push low (y ∷ ys) x h above = (h.0, rises_push (y + 1) ys x h.1 above)

pub end_push : (low : ℕ) (xs : List ℕ) (x : ℕ) → end_after low (xs ++ x ∷ []) ≡ x + 1
end_push low [] x = refl
end_push low (y ∷ ys) x = end_push (y + 1) ys x

rises_after : (low : ℕ) (xs ys : List ℕ) → NumbersRiseFrom low (xs ++ ys) → NumbersRiseFrom (end_after low xs) ys
rises_after low [] ys h = h
rises_after low (x ∷ xs) ys h = rises_after (x + 1) xs ys h.1

numbers_push : (gone : List ℕ) (items : List Numbered) (x : Numbered) → gone ++ numbers (items ++ x ∷ [])
    ≡ (gone ++ numbers items) ++ x.number ∷ []
numbers_push [] [] x = refl
numbers_push [] (y ∷ ys) x = ap (λ l. y.number ∷ l) (numbers_push [] ys x)
numbers_push (g ∷ gs) items x = ap (λ l. g ∷ l) (numbers_push gs items x)

length_numbers : (gone : List ℕ) (items : List Numbered) → length (gone ++ numbers items) ≡ length gone + length items
length_numbers [] [] = refl
length_numbers [] (y ∷ ys) = omega (arith, length_numbers [] ys)
length_numbers (g ∷ gs) items = omega (arith, length_numbers gs items)

-- ---- all passes

at_end : (l : List Hand) (a b : Hand) (j : ℕ) → get_elem? l j ≢ some b → get_elem? (l ++ a ∷ []) j ≡ some b
    → (j ≡ length l) × (a ≡ b)
at_end [] a b zero n e = (refl, some-injective a b e)
at_end [] a b (suc j) n e = absurd (some-ne-none b (sym e))
at_end (x ∷ xs) a b zero n e = absurd (n e)
at_end (x ∷ xs) a b (suc j) n e = let r = at_end xs a b j n e in (ap suc r.0, r.1)

all_set : (F : ℕ → Hand → Type 0) (views : List Hand) (pass : ℕ) (w : Hand) → F pass w
    → ((j : ℕ) (u : Hand) → j ≢ pass → get_elem? views j ≡ some u → F j u) → AllFit F (set views pass w)
all_set F views pass w mine others j u e =
    ⊎_elim (λ (x : (j ≡ pass) × (w ≡ u)). subst (λ (y : ℕ × Hand). F y.0 y.1) (λ i. (sym x.0 i, x.1 i)) mine)
    (λ (x : (j ≢ pass) × (get_elem? views j ≡ some u)). others j u x.0 x.1) (at_set views pass j w u e)

-- whatever the number of the new pass
all_more : (F : ℕ → Hand → Type 0) (views : List Hand) (w : Hand) → ((j : ℕ) → F j w) → AllFit F views
    → AllFit F (views ++ w ∷ [])
all_more F views w mine others j u e =
    ⊎_elim (λ x. others j u x) (λ (is : w ≡ u). subst (F j) is (mine j)) (at_snoc views w u j e)

not_false : {A : Type 0} (b : _) → b ≡ true → b ≡ false → A
not_false b t f = absurd (true≢false (sym t ∙ f))

-- ---- the steps

pub begins : Kept [] (fresh whole true no_round ∷ [])
begins = record {
  round = no_round;
  gone = [];
  putter = 0;
  rises = tt;
  of_job = λ k d below. absurd (omega arith);
  parts = refl;
  taken = λ h. refl;
  fits = λ pass v at. let is = at_end [] (fresh whole true no_round) v pass (λ h. some-ne-none v (sym h)) at in
      subst (λ (y : ℕ × Hand). Fits no_round [] [] 0 y.0 y.1) (λ i. (sym is.0 i, is.1 i))
      record {
        idle = λ _. refl;
        same_round = λ _. refl;
        rises = λ _. (tt, omega arith);
        may_put = λ _.
            (refl, refl);
      };
}

pub puts : (n pass : ℕ) (v : Hand) (x : Numbered) → 0 < v.parts → v.puts ≡ true → IsOfRound v.round x
    → end_after 0 v.put ≤ x.number
    → Pushes Kept n pass v x (λ w. w ≡ with_put v x.number)
puts n pass v x part may of_job order items views room k at =
    let w : Hand = with_put v x.number in
    let mine = k.fits pass v at in
    let all : List ℕ = k.gone ++ numbers items in
    let grown : k.gone ++ numbers (items ++ x ∷ []) ≡ all ++ x.number ∷ [] = numbers_push k.gone items x in
    let put_is : v.put ≡ all = (mine.may_put may).1 in
    let above : end_after 0 all ≤ x.number = subst (λ l. end_after 0 l ≤ x.number) put_is order in (
      w,
      record {
        round = k.round;
        gone = k.gone;
        putter = k.putter;
        rises = subst NumbersRise (sym grown) (rises_push 0 all x.number k.rises above);
        of_job = All-push (IsOfRound k.round) items x k.of_job
            (subst (λ (r : Option Round). IsOfRound r x) (mine.same_round part) of_job);
        parts = let s = total_set (λ (u : Hand). u.parts) views pass v w at in let p = k.parts in omega arith;
        taken = λ h. let s = total_set (λ (u : Hand). total h u.taken) views pass v w at in let t =
            k.taken h in omega arith;
        fits = all_set (Fits k.round k.gone (k.gone ++ numbers (items ++ x ∷ [])) k.putter) views pass w
            record {
              idle = mine.idle;
              same_round = mine.same_round;
              rises = mine.rises;
              may_put = λ _.
                  ((mine.may_put may).0, ap (λ l. l ++ x.number ∷ []) put_is ∙ sym grown);
            }
            (λ j u other e. let theirs = k.fits j u e in record {
              idle = theirs.idle;
              same_round = theirs.same_round;
              rises = theirs.rises;
              may_put = λ p. absurd (other ((theirs.may_put p).0 ∙ sym (mine.may_put may).0));
            });
      },
      refl,
    )

pub takes : (pass : ℕ) (v : Hand) → 0 < v.parts → Pops Kept pass v (TakesOne v)
takes pass v part x items views k at =
    let w : Hand = with_taken v x.number in
    let mine = k.fits pass v at in
    let gone : List ℕ = k.gone ++ x.number ∷ [] in
    let same : gone ++ numbers items ≡ k.gone ++ numbers (x ∷ items) =
    append_assoc k.gone (x.number ∷ []) (numbers items) in
    let above : end_after 0 k.gone ≤ x.number = (rises_after 0 k.gone (numbers (x ∷ items)) k.rises).0 in
    let ended : end_after 0 gone ≡ x.number + 1 = end_push 0 k.gone x.number in
    let rising : v.puts ≡ false → NumbersRise w.taken × (end_after 0 w.taken ≤ end_after 0 gone) =
    (λ p. let r = mine.rises p in
    (rises_push 0 v.taken x.number r.0 (omega (arith, r.1)), omega (arith, end_push 0 v.taken x.number))) in (
      w,
      record {
        round = k.round;
        gone = gone;
        putter = k.putter;
        rises = subst NumbersRise (sym same) k.rises;
        of_job = All-tail (IsOfRound k.round) x items k.of_job;
        parts = let s = total_set (λ (u : Hand). u.parts) views pass v w at in let p = k.parts in omega arith;
        taken = λ h. let s = total_set (λ (u : Hand). total h u.taken) views pass v w at in let t = k.taken h in
            let a = total-append h v.taken (x.number ∷ []) in let b =
            total-append h k.gone (x.number ∷ []) in omega arith;
        fits = all_set (Fits k.round gone (gone ++ numbers items) k.putter) views pass w
            record {
              idle = λ none. absurd (omega arith);
              same_round = mine.same_round;
              rises = rising;
              may_put = λ p.
                  ((mine.may_put p).0, (mine.may_put p).1 ∙ sym same);
            }
            (λ j u other e. let theirs = k.fits j u e in record {
              idle = theirs.idle;
              same_round = theirs.same_round;
              rises = λ p. let r = theirs.rises p in (r.0, omega (arith, r.1));
              may_put = λ p. ((theirs.may_put p).0, (theirs.may_put p).1 ∙ sym same);
            });
      },
      (
        refl,
        subst (λ (r : Option Round). IsOfRound r x) (sym (mine.same_round part))
            (All-head (IsOfRound k.round) x items k.of_job),
        λ p. (rising p).0,
      ),
    )

pub deals : (pass : ℕ) (v : Hand) (r : Option Round) → 1 < v.parts → v.puts ≡ true → v.put ≡ [] → v.taken ≡ []
    → (v.parts ≡ whole) ⊎ (v.round ≡ r)
    → Forks Kept pass v (fresh (v.parts - 1) true r) (fresh 1 false r)
deals pass v r some_parts may put taken first items views k at =
    let left : Hand = fresh (v.parts - 1) true r in let right : Hand = fresh 1 false r in
    let mine = k.fits pass v at in
    let all : List ℕ = k.gone ++ numbers items in
    let vs : List Hand = set views pass left in
    let none : all ≡ [] = sym (mine.may_put may).1 ∙ put in
    let empty : length items ≡ 0 = omega (arith, length_numbers k.gone items, ap length none) in
    let F : ℕ → Hand → Type 0 = Fits r k.gone all k.putter in
    let old : AllFit F vs = all_set F views pass left
    record {
      idle = λ _. refl;
      same_round = λ _. refl;
      rises = λ p. not_false true refl p;
      may_put = λ _.
          ((mine.may_put may).0, sym none);
    }
    (λ j u other e. let theirs = k.fits j u e in record {
      idle = theirs.idle;
      same_round = λ p. ⊎_elim (λ (is : v.parts
          ≡ whole). absurd (let both = two_of (λ (y : Hand). y.parts) views pass j v u other at e in let t =
          k.parts in omega arith))
          (λ (is : v.round ≡ r). theirs.same_round p ∙ (sym (mine.same_round (omega arith)) ∙ is)) first;
      rises = theirs.rises;
      may_put = λ p. absurd (other ((theirs.may_put p).0 ∙ sym (mine.may_put may).0));
    }) in
    record {
      round = r;
      gone = k.gone;
      putter = k.putter;
      rises = k.rises;
      of_job = λ i d below. absurd (omega arith);
      parts = let s = total_set (λ (u : Hand). u.parts) views pass v left at in let p = k.parts in let a =
          total-append (λ (u : Hand). u.parts) vs (right ∷ []) in omega arith;
      taken = λ h. let s = total_set (λ (u : Hand). total h u.taken) views pass v left at in let t =
          k.taken h in let a = total-append (λ (u : Hand). total h u.taken) vs (right ∷ []) in
          let e = ap (total h) taken in omega arith;
      fits = all_more F vs right
          (λ j. record {
            idle = λ _. refl;
            same_round = λ _. refl;
            rises = λ _.
                (tt, omega arith);
            may_put = λ p. not_false false p refl;
          }) old;
    }

pub merges : (pass : ℕ) (v : Hand) (other : ℕ) (u : Hand) → v.puts ≡ true → 0 < v.parts
    → Merges Kept pass v other u (hands_joined v u) idle
merges pass v other u may part items views k at two at' =
    let both : Hand = hands_joined v u in
    let mine = k.fits pass v at in
    let vs : List Hand = set views pass both in
    let F : ℕ → Hand → Type 0 = Fits k.round k.gone (k.gone ++ numbers items) k.putter in
    let Now : ℕ → Hand → Type 0 = λ j y. j ≢ other → F j y in
    let now : AllFit Now vs = all_set Now views pass both
    (λ _. record {
      idle = λ none. absurd
          (omega arith);
      same_round = λ _. mine.same_round part;
      rises = λ p. not_false v.puts may p;
      may_put =
          mine.may_put;
    })
    (λ j y _ e apart. k.fits j y e) in
    record {
      round = k.round;
      gone = k.gone;
      putter = k.putter;
      rises = k.rises;
      of_job = k.of_job;
      parts = let s = total_set (λ (y : Hand). y.parts) views pass v both at in let t =
          total_set (λ (y : Hand). y.parts) vs other u idle at' in let p = k.parts in omega arith;
      taken = λ h. let s = total_set (λ (y : Hand). total h y.taken) views pass v both at in let t =
          total_set (λ (y : Hand). total h y.taken) vs other u idle at' in let p = k.taken h in
          let a = total-append h v.taken u.taken in omega arith;
      fits = all_set F vs other idle record {
        idle = λ _. refl;
        same_round = λ p. absurd (omega arith);
        rises = λ _.
            (tt, omega arith);
        may_put = λ p. not_false false p refl;
      }
          (λ j y apart e. now j y e apart);
    }

pub room : (pass : ℕ) (v : Hand) → v.puts ≡ true → Learns Kept pass v (λ items. length items ≤ length v.put)
room pass v may items views k at =
    omega (arith, length_numbers k.gone items, ap length ((k.fits pass v at).may_put may).1)

-- the rest are passes with no part
none_of : (f : Hand → ℕ) (views : List Hand) → total (λ (v : Hand). v.parts) views ≡ 0
    → AllFit (λ _ u. u.parts ≡ 0 → f u ≡ 0) views → total f views ≡ 0
none_of f [] none idles = refl
none_of f (x ∷ xs) none idles =
    omega (arith, none_of f xs (omega arith) (λ j u e. idles (suc j) u e), idles 0 x refl (omega arith))

alone : (f : Hand → ℕ) (views : List Hand) (pass : ℕ) (v : Hand) → total (λ (v : Hand). v.parts) views ≡ v.parts
    → AllFit (λ _ u. u.parts ≡ 0 → f u ≡ 0) views
    → get_elem? views pass ≡ some v → total f views ≡ f v
alone f [] pass v all idles e = absurd (some-ne-none v (sym e))
alone f (x ∷ xs) zero v all idles e =
    let is = some-injective x v e in
    omega (arith, ap f is, none_of f xs (omega (arith, ap (λ (u : Hand). u.parts) is)) (λ j u h. idles (suc j) u h))
alone f (x ∷ xs) (suc pass) v all idles e =
    let more = one_of (λ (u : Hand). u.parts) xs pass v e in
    omega (arith, alone f xs pass v (omega arith) (λ j u h. idles (suc j) u h) e, idles 0 x refl (omega arith))

pub leaves : (pass : ℕ) (v : Hand) → v.puts ≡ true → v.parts ≡ whole → Learns Kept pass v (LeavesTaken v)
leaves pass v may all items views k at = (
  k.gone,
  ((k.fits pass v at).may_put may).1,
  λ h. sym (alone (λ (u : Hand). total h u.taken) views pass v (k.parts
      ∙ sym all) (λ j u e none. ap (total h) ((k.fits j u e).idle none)) at) ∙ k.taken h,
)

-- what is left over, weighed
pub left_over : (v : Hand) (items : List Numbered) → LeavesTaken v items → (h : ℕ → ℕ) → total h v.put
    ≡ total h v.taken + total h (numbers items)
left_over v items l h = ap (total h) l.1 ∙ omega (arith, total-append h l.0 (numbers items), l.2 h)

one_each : (items : List Numbered) → total (λ _. 1) (numbers items) ≡ length items
one_each [] = refl
one_each (x ∷ xs) = omega (arith, one_each xs)

-- how many are left over
pub left_count : (v : Hand) (items : List Numbered) → LeavesTaken v items → total (λ _. 1) v.put
    ≡ total (λ _. 1) v.taken + length items
left_count v items l = omega (arith, left_over v items l (λ _. 1), one_each items)

-- where as many were taken as were put, what was taken weighs what was put
pub none_left : (v : Hand) (items : List Numbered) → LeavesTaken v items → total (λ _. 1) v.put ≡ total (λ _. 1) v.taken
    → (h : ℕ → ℕ) → total h v.put ≡ total h v.taken
none_left v [] l same h = omega (arith, left_over v [] l h)
none_left v (x ∷ xs) l same h = absurd (omega (arith, left_count v (x ∷ xs) l))

pub total_push : {X : Type 0} (f : X → ℕ) (xs ys : List X) (x : X) → ys ≡ xs ++ x ∷ [] → total f ys ≡ total f xs + f x
total_push f xs ys x is = ap (total f) is ∙ omega (arith, total-append f xs (x ∷ []))

pub weigh_pushed : (h : ℕ → ℕ) (xs ys : List Numbered) (x : Numbered) → ys ≡ xs ++ x ∷ [] → total h (numbers ys)
    ≡ total h (numbers xs) + h x.number
weigh_pushed h xs ys x is =
    ap (λ l. total h (numbers l)) is
    ∙ (ap (total h) (numbers_push [] xs x) ∙ total_push h (numbers xs) (numbers xs ++ x.number ∷ []) x.number refl)

pub all_popped : {X : Type 0} (P : X → Type 0) (xs ys : List X) (x : X) → xs ≡ ys ++ x ∷ [] → All P xs → All P ys × P x
all_popped P xs ys x is all = All-pop P xs ys (Some x) is all

pub all_pushed : {X : Type 0} (P : X → Type 0) (xs ys : List X) (x : X) → ys ≡ xs ++ x ∷ [] → All P xs → P x → All P ys
all_pushed P xs ys x is all new = All-same P ys (xs ++ x ∷ []) is (All-push P xs x all new)

pub none_fail : {X : Type 0} (P : X → Type 0) (xs : List X) → xs ≡ [] → All P xs
none_fail P xs is = All-same P xs [] is (All-nil P)

numbers-append : (xs ys : List Numbered) → numbers (xs ++ ys) ≡ numbers xs ++ numbers ys
numbers-append [] ys = refl
numbers-append (x ∷ xs) ys = ap (λ l. x.number ∷ l) (numbers-append xs ys)

-- of monitors whose numbers rise, the next stands above those before it
pub next_rises : (all ys rest : List Numbered) (m : Numbered) → NumbersRise (numbers all) → ys ++ m ∷ rest ≡ all
    → end_after 0 (numbers ys) ≤ m.number
next_rises all ys rest m rises is =
    (rises_after 0 (numbers ys) (numbers (m ∷ rest)) (subst NumbersRise (ap numbers (sym is)
    ∙ numbers-append ys (m ∷ rest)) rises)).0
