-- What the workers of a round own.
use Rattle.std.proofs.Common.{
  ◌≡◌,
  ℕ,
  zero,
  suc,
  ◌+◌,
  ◌<◌,
  ◌≤◌,
  List,
  [],
  ◌∷◌,
  length,
  map,
  Some,
  Bool,
  true,
  false,
  cond,
  refl,
  sym,
  ap,
  ◌∙◌,
  subst,
  arith,
}
use Rattle.std.specs.Prelude.{slice_get, slice_set, ◌==◌}
use Rattle.std.specs.List.{range_with_len}
use Rattle.std.proofs.lemmas.List.{length-set}
use Rattle.std.proofs.lemmas.Option.{slice_get_within}
use Rattle.workers_core.proofs.CorePartLaws.{each-set}
use Rattle.laws_headline.specs.Steps.{owned_from, owned_by, owned_lists}
use Rattle.laws_headline.specs.Rounds.{AreOwners}
use Rattle.laws_headline.specs.Owners.{AreRisingFrom, AreRising, total, AreDealt}
use Rattle.laws_headline.proofs.ListLaws.{written, unwritten, mapped}

-- rising numbers rise from less, too
rises-low : (low high : ℕ) (xs : List ℕ) → low ≤ high → AreRisingFrom high xs → AreRisingFrom low xs
rises-low low high [] le h = tt
rises-low low high (x ∷ xs) le h = (omega (arith, le, h.0), h.1)

-- the number in front, where the test holds
abbrev pub front : Bool → ℕ → List ℕ → List ℕ
front b x xs = cond b (x ∷ xs) xs

front-rises : (b : Bool) (x : ℕ) (xs : List ℕ) → AreRisingFrom (x + 1) xs → AreRisingFrom x (front b x xs)
front-rises true x xs h = (omega arith, h)
front-rises false x xs h = rises-low x (x + 1) xs (omega arith) h

owned-rises : (owners : List ℕ) (low w : ℕ) → AreRisingFrom low (owned_from low owners w)
owned-rises [] low w = tt
owned-rises (v ∷ owners) low w =
    front-rises (v == w) low (owned_from (low + 1) owners w) (owned-rises owners (low + 1) w)

-- the lists E of so many workers from a on, where v has x in front
abbrev weighed : (ℕ → ℕ) → (ℕ → List ℕ) → ℕ → ℕ → ℕ
weighed h E a n = total (total h) (map E (range_with_len a n))

abbrev pub fronted : (ℕ → List ℕ) → ℕ → ℕ → ℕ → List ℕ
fronted E v x w = front (v == w) x (E w)

-- v is none of them
weighed-out : (h : ℕ → ℕ) (E : ℕ → List ℕ) (v x a n : ℕ) → v < a
    → weighed h (fronted E v x) a n ≡ weighed h E a n
weighed-out h E v x a zero lt = refl
weighed-out h E v x a (suc n) lt =
    let no : (v == a) ≡ false = grind (arith, lt) in
    ap (λ (b : Bool). total h (front b x (E a)) + weighed h (fronted E v x) (a + 1) n) no
    ∙ ap (λ (k : ℕ). total h (E a) + k) (weighed-out h E v x (a + 1) n (omega (arith, lt)))

weighed-step : (h : ℕ → ℕ) (E : ℕ → List ℕ) (v x a n : ℕ) (b : Bool) → (v == a) ≡ b →
    a ≤ v → v < a + suc n →
    (a + 1 ≤ v → v < (a + 1) + n →
    weighed h (fronted E v x) (a + 1) n ≡ h x + weighed h E (a + 1) n) →
    total h (front b x (E a)) + weighed h (fronted E v x) (a + 1) n
    ≡ h x + (total h (E a) + weighed h E (a + 1) n)
weighed-step h E v x a n true is le lt next =
    let here : v ≡ a = grind (arith, is) in
    let rest = weighed-out h E v x (a + 1) n (omega (arith, here)) in
    omega (arith, rest)
weighed-step h E v x a n false is le lt next =
    let other : (v ≡ a → ⊥) = grind (arith, is) in
    let rest = next (omega (arith, le, other)) (omega (arith, lt)) in
    omega (arith, rest)

-- v is one of them
weighed-in : (h : ℕ → ℕ) (E : ℕ → List ℕ) (v x a n : ℕ) → a ≤ v → v < a + n
    → weighed h (fronted E v x) a n ≡ h x + weighed h E a n
weighed-in h E v x a zero le lt = absurd (omega (arith, le, lt))
weighed-in h E v x a (suc n) le lt =
    let all : (b : Bool) → (v == a) ≡ b
    → total h (front b x (E a)) + weighed h (fronted E v x) (a + 1) n
    ≡ h x + (total h (E a) + weighed h E (a + 1) n) = λ b is.
    weighed-step h E v x a n b is le lt (λ more less. weighed-in h E v x (a + 1) n more less) in
    all (v == a) refl

weighed-none : (h : ℕ → ℕ) (a n : ℕ) → weighed h (λ w. []) a n ≡ 0
weighed-none h a zero = refl
weighed-none h a (suc n) = let rest = weighed-none h (a + 1) n in omega (arith, rest)

weighed-all : (h : ℕ → ℕ) (n : ℕ) (owners : List ℕ) (low : ℕ)
    → ((i w : ℕ) → slice_get owners i ≡ Some w → w < n)
    → weighed h (λ w. owned_from low owners w) 0 n ≡ total h (range_with_len low (length owners))
weighed-all h n [] low known = weighed-none h 0 n
weighed-all h n (v ∷ owners) low known =
    weighed-in h (λ w. owned_from (low + 1) owners w) v low 0 n (omega arith)
    (omega (arith, known 0 v refl))
    ∙ ap (λ (k : ℕ). h low + k)
    (weighed-all h n owners (low + 1) (λ i w is. known (suc i) w is))

pub owners-are-dealt : (monitors crew : ℕ) (owners : List ℕ) → AreOwners monitors crew owners
    → AreDealt monitors (owned_lists owners crew)
owners-are-dealt monitors crew owners o =
    record {
      rise = λ w xs is.
          let r = mapped (owned_by owners) (range_with_len 0 crew) w xs is in
          subst AreRising r.same (owned-rises owners 0 r.of);
      all = λ h.
          weighed-all h crew owners 0 o.known
          ∙ ap (λ (n : ℕ). total h (range_with_len 0 n)) o.each;
    }

-- each of lists rises
abbrev AllRise : ℕ → List (List ℕ) → Type 0
AllRise low lists = (w : ℕ) (xs : List ℕ) → slice_get lists w ≡ Some xs → AreRisingFrom low xs

-- how often a number is there
abbrev pub only : ℕ → ℕ → ℕ
only low x = cond (x == low) 1 0

pub only-above : (low : ℕ) (xs : List ℕ) → AreRisingFrom (low + 1) xs → total (only low) xs ≡ 0
only-above low [] h = refl
only-above low (x ∷ xs) h =
    let no : (x == low) ≡ false = grind (arith, h.0) in
    let none : only low x ≡ 0 = ap (λ (b : Bool). cond {A = ℕ} b 1 0) no in
    let rest = only-above low xs (rises-low (low + 1) (x + 1) xs (omega (arith, h.0)) h.1) in
    omega (arith, none, rest)

pub range-rises : (a n : ℕ) → AreRisingFrom a (range_with_len a n)
range-rises a zero = tt
range-rises a (suc n) = (omega arith, range-rises (a + 1) n)

-- those that rise from low, and don't have it, rise from the next
rises-more : (low : ℕ) (xs : List ℕ) → AreRisingFrom low xs → total (only low) xs ≡ 0
    → AreRisingFrom (low + 1) xs
rises-more low [] h none = tt
rises-more low (x ∷ xs) h none =
    let other : (x ≡ low → ⊥) = λ is.
    let yes : (x == low) ≡ true = grind (arith, is) in
    let one : only low x ≡ 1 = ap (λ (b : Bool). cond {A = ℕ} b 1 0) yes in
    absurd (omega (arith, one, none)) in
    (omega (arith, h.0, other), h.1)

-- a list that has it in front
record HasFront (low : ℕ) (lists : List (List ℕ)) : Type 0 where
  at : ℕ
  rest : List ℕ
  is : slice_get lists at ≡ Some (low ∷ rest)

later : (low : ℕ) (xs : List ℕ) (lists : List (List ℕ)) → HasFront low lists
    → HasFront low (xs ∷ lists)
later low xs lists f = record { at = suc f.at; rest = f.rest; is = f.is }

front-step : (low x : ℕ) (xs : List ℕ) (lists : List (List ℕ)) (b : Bool) → (x == low) ≡ b →
    AreRisingFrom low (x ∷ xs) → 0 < total (total (only low)) ((x ∷ xs) ∷ lists) →
    (0 < total (total (only low)) lists → HasFront low lists) → HasFront low ((x ∷ xs) ∷ lists)
front-step low x xs lists true is h some next =
    let same : x ≡ low = grind (arith, is) in
    record { at = 0; rest = xs; is = ap (λ (y : ℕ). Some (y ∷ xs)) same }
front-step low x xs lists false is h some next =
    let other : (x ≡ low → ⊥) = grind (arith, is) in
    let none : total (only low) (x ∷ xs) ≡ 0 =
    only-above low (x ∷ xs) (omega (arith, other, h.0), h.1) in
    later low (x ∷ xs) lists (next (omega (arith, none, some)))

has-front : (low : ℕ) (lists : List (List ℕ)) → AllRise low lists
    → 0 < total (total (only low)) lists → HasFront low lists
has-front low [] rise some = absurd (omega (arith, some))
has-front low ([] ∷ lists) rise some =
    later low [] lists
    (has-front low lists (λ w ys is. rise (suc w) ys is) (omega (arith, some)))
has-front low ((x ∷ xs) ∷ lists) rise some =
    front-step low x xs lists (x == low) refl (rise 0 (x ∷ xs) refl) some
    (λ more. has-front low lists (λ w ys is. rise (suc w) ys is) more)

total-set : (f : List ℕ → ℕ) (lists : List (List ℕ)) (at : ℕ) (xs ys : List ℕ)
    → slice_get lists at ≡ Some xs
    → total f (slice_set lists at ys) + f xs ≡ total f lists + f ys
total-set f [] at xs ys is = absurd cc
total-set f (zs ∷ lists) zero xs ys is =
    let same : zs ≡ xs = cc in let e = ap f same in omega (arith, e)
total-set f (zs ∷ lists) (suc at) xs ys is =
    let rest = total-set f lists at xs ys is in omega (arith, rest)

each-none : (f : List ℕ → ℕ) (lists : List (List ℕ)) (w : ℕ) (xs : List ℕ) → total f lists ≡ 0
    → slice_get lists w ≡ Some xs → f xs ≡ 0
each-none f [] w xs none is = absurd cc
each-none f (ys ∷ lists) zero xs none is =
    let same : ys ≡ xs = cc in let e = ap f same in omega (arith, e, none)
each-none f (ys ∷ lists) (suc w) xs none is = each-none f lists w xs (omega (arith, none)) is

-- the owners of the monitors from low on
record OwnsFrom (low count : ℕ) (lists : List (List ℕ)) : Type 0 where
  owners : List ℕ
  long : length owners ≡ count
  known : (i w : ℕ) → slice_get owners i ≡ Some w → w < length lists
  owned : (w : ℕ) (xs : List ℕ) → slice_get lists w ≡ Some xs → owned_from low owners w ≡ xs

no-number : (xs : List ℕ) → total (λ x. 1) xs ≡ 0 → [] ≡ xs
no-number [] none = refl
no-number (x ∷ xs) none = absurd (omega (arith, none))

-- the next monitor's owner is the worker whose list has it in front
module _ (low count at : ℕ) (rest : List ℕ) (lists : List (List ℕ))
    (is : slice_get lists at ≡ Some (low ∷ rest))
    (next : OwnsFrom (low + 1) count (slice_set lists at rest)) where
  owned-step : (w : ℕ) (xs : List ℕ) (b : Bool) → (at == w) ≡ b → slice_get lists w ≡ Some xs
      → front b low (owned_from (low + 1) next.owners w) ≡ xs
  owned-step w xs true here e =
      let same : at ≡ w = grind (arith, here) in
      let mine : owned_from (low + 1) next.owners at ≡ rest =
      next.owned at rest (written lists at (low ∷ rest) rest is) in
      let moved : slice_get lists w ≡ Some (low ∷ rest) =
      subst (λ (v : ℕ). slice_get lists v ≡ Some (low ∷ rest)) same is in
      let whole : low ∷ rest ≡ xs = cc in
      ap (λ (v : ℕ). low ∷ owned_from (low + 1) next.owners v) (sym same)
      ∙ ap (λ (ys : List ℕ). low ∷ ys) mine ∙ whole
  owned-step w xs false there e =
      let other : (at ≡ w → ⊥) = grind (arith, there) in
      next.owned w xs (unwritten lists at w rest other ∙ e)

  known-step : (i w : ℕ) → slice_get (at ∷ next.owners) i ≡ Some w → w < length lists
  known-step zero w e =
      let same : at ≡ w = cc in
      omega (arith, same, slice_get_within lists at (low ∷ rest) is)
  known-step (suc i) w e = omega (arith, next.known i w e, length-set lists at rest)

  owns-step : OwnsFrom low (suc count) lists
  owns-step =
      record {
        owners = at ∷ next.owners;
        long = omega (arith, next.long);
        known = known-step;
        owned = λ w xs e. owned-step w xs (at == w) refl e;
      }

owns-from : (count low : ℕ) (lists : List (List ℕ)) → AllRise low lists →
    ((h : ℕ → ℕ) → total (total h) lists ≡ total h (range_with_len low count)) →
    OwnsFrom low count lists
owns-from zero low lists rise all =
    record {
      owners = [];
      long = refl;
      known = λ i w is. absurd cc;
      owned = λ w xs is.
          no-number xs (each-none (total (λ x. 1)) lists w xs (all (λ x. 1)) is);
    }
owns-from (suc count) low lists rise all =
    let yes : (low == low) ≡ true = grind arith in
    let one : only low low ≡ 1 = ap (λ (b : Bool). cond {A = ℕ} b 1 0) yes in
    let above : total (only low) (range_with_len (low + 1) count) ≡ 0 =
    only-above low (range_with_len (low + 1) count) (range-rises (low + 1) count) in
    let f = has-front low lists rise (omega (arith, all (only low), one)) in
    let next = slice_set lists f.at f.rest in
    let left : (h : ℕ → ℕ) → total (total h) next ≡ total h (range_with_len (low + 1) count) = λ h.
    let set = total-set (total h) lists f.at (low ∷ f.rest) f.rest f.is in
    omega (arith, set, all h) in
    let still : AllRise low next =
    each-set (λ w xs. AreRisingFrom low xs) lists f.at f.rest rise
    (rises-low low (low + 1) f.rest (omega arith) (rise f.at (low ∷ f.rest) f.is).1) in
    let without : total (total (only low)) next ≡ 0 = omega (arith, left (only low), above) in
    let further : AllRise (low + 1) next = λ w xs is.
    rises-more low xs (still w xs is) (each-none (total (only low)) next w xs without is) in
    owns-step low count f.at f.rest lists f.is (owns-from count (low + 1) next further left)

-- lists by their places
listed : (E : ℕ → List ℕ) (a : ℕ) (lists : List (List ℕ))
    → ((w : ℕ) (xs : List ℕ) → slice_get lists w ≡ Some xs → E (a + w) ≡ xs)
    → map E (range_with_len a (length lists)) ≡ lists
listed E a [] h = refl
listed E a (xs ∷ lists) h =
    let here : a ≡ a + 0 = omega arith in
    let rest : (w : ℕ) (ys : List ℕ) → slice_get lists w ≡ Some ys → E ((a + 1) + w) ≡ ys = λ w ys is.
    let next : (a + 1) + w ≡ a + suc w = omega arith in
    ap E next ∙ h (suc w) ys is in
    ap (λ (ys : List ℕ). ys ∷ map E (range_with_len (a + 1) (length lists)))
    (ap E here ∙ h 0 xs refl)
    ∙ ap (λ (yss : List (List ℕ)). xs ∷ yss) (listed E (a + 1) lists rest)

pub dealt-have-owners : (monitors : ℕ) (lists : List (List ℕ)) → AreDealt monitors lists →
    (owners : List ℕ) × AreOwners monitors (length lists) owners
    × (owned_lists owners (length lists) ≡ lists)
dealt-have-owners monitors lists dealt =
    let o = owns-from monitors 0 lists dealt.rise dealt.all in
    let same : (w : ℕ) (xs : List ℕ) → slice_get lists w ≡ Some xs → owned_by o.owners (0 + w) ≡ xs
    = λ w xs is.
    let e : 0 + w ≡ w = omega arith in
    ap (owned_by o.owners) e ∙ o.owned w xs is in (
      o.owners,
      record { each = o.long; known = o.known },
      listed (owned_by o.owners) 0 lists same,
    )
