-- Faults of sides, by what is known of them.
use Rattle.std.proofs.Common.{◌≡◌, ◌⊎◌, inl, inr, ℕ, ◌<◌, ◌≤◌, List, [], ◌∷◌, Bool, true, false, not, ◌&&◌, ◌||◌}
use Rattle.std.proofs.Common.{refl, sym, ap}
use Rattle.std.proofs.Common.{subst, ◌∙◌, arith}
use Rattle.std.proofs.lemmas.Bool.{cases_Bool, false≢true, ltb-true, ltb-false, lt-ltb, or_cases, or_left, or_right}
use Rattle.assertions.specs.Segments.{IsDegenerate, AdmitsEmpty, always}
use Rattle.assertions.specs.Attempts.{IsDegenerateBy}
use Rattle.assertions.specs.Written.{Written, kernel, weight, IsOrdered}
use Rattle.assertions.specs.Emptiness.{admits_empty, takes_ticks}
use Rattle.assertions.proofs.FirstLaws.{empty-degenerate, none-degenerate_by, degenerate_by-none}
use Rattle.assertions.proofs.EmptinessLaws.{degenerate-none, none-degenerate, empty-Matches, Matches-empty}
use Rattle.std.specs.List.{AllByRecursion}
use Rattle.types.specs.Drafts.{Draft, IsNumberIn, IsWrittenOut}
use Rattle.types.proofs.MapLaws.{spells_one}
use Rattle.types.specs.declared.side.Side.{Side}
use Rattle.types.specs.Readings.{Dot, dot}
use Rattle.types.specs.Faults as faults
use Rattle.types.specs.Faults.{SideAt}
use Rattle.types.specs.Sides.{IsWeighed, AreWeighed, AreLight, places_where, is_wide, is_degenerate, is_side_empty}

-- the test tells what is so of what a side says, where something is known of what it tells
abbrev pub Tells : (Side → Type 0) → (Bool → Written Dot → Type 0) → (Side → Bool) → Type 0
Tells Known IsSo test =
    (bodies : List (Draft Dot)) (x : faults.Side) (y : Side) (h : IsWeighed bodies x y) → Known y
    → (test y ≡ true → IsSo x.first h.meant) × (IsSo x.first h.meant → test y ≡ true)

-- nothing needs be known
abbrev pub Any : Side → Type 0
Any y = Unit {0}

pub all_any : (ys : List Side) → AllByRecursion Any ys
all_any [] = tt
all_any (y ∷ ys) = (tt, all_any ys)

-- it weighs at most 127
abbrev pub Light : Side → Type 0
Light y = y.facts.weight ≤ 127

place_kept : (test : Side → Bool) (y : Side) (ys : List Side) (at : ℕ) → IsNumberIn at (places_where test ys)
    → IsNumberIn at (places_where test (y ∷ ys))
place_kept test y ys at i =
    elim (cases_Bool (test y)) [
      | inl e ↦ rw e (inr i)
      | inr e ↦ rw e i
    ]

place_here : (test : Side → Bool) (y : Side) (ys : List Side) → test y ≡ true
    → IsNumberIn y.at (places_where test (y ∷ ys))
place_here test y ys e = rw e (inl refl)

place_of : (test : Side → Bool) (y : Side) (ys : List Side) (at : ℕ) → IsNumberIn at (places_where test (y ∷ ys))
    → ((test y ≡ true) × (at ≡ y.at)) ⊎ IsNumberIn at (places_where test ys)
place_of test y ys at i =
    elim (cases_Bool (test y)) [
      | inl e ↦ here e (rw e at i)
      | inr e ↦ inr (rw e at i)
    ]
  where
    here : test y ≡ true → (at ≡ y.at) ⊎ IsNumberIn at (places_where test ys) → ((test y ≡ true) × (at ≡ y.at))
        ⊎ IsNumberIn at (places_where test ys)
    here e (inl a) = inl (e, a)
    here e (inr r) = inr r

-- a side that is so stands among the places
pub side_there : (Known : Side → Type 0) (IsSo : Bool → Written Dot → Type 0) (test : Side → Bool)
    → Tells Known IsSo test
    → (bodies : List (Draft Dot)) (xs : List faults.Side) (ys : List Side) → AreWeighed bodies xs ys
    → AllByRecursion Known ys → (at : ℕ) → SideAt bodies xs IsSo at → IsNumberIn at (places_where test ys)
side_there Known IsSo test tells bodies [] [] all known at s = elim s.one [ ]
side_there Known IsSo test tells bodies [] (y ∷ ys) all known at s = elim all [ ]
side_there Known IsSo test tells bodies (x ∷ xs) [] all known at s = elim all [ ]
side_there Known IsSo test tells bodies (x ∷ xs) (y ∷ ys) all known at s =
    elim s.one [
      | inl e ↦ first e
      | inr r ↦ place_kept test y ys at
          (side_there Known IsSo test tells bodies xs ys all.1 known.1 at
          (record { side = s.side; one = r; meant = s.meant; spells = s.spells; so = s.so; byte = s.byte }))
    ]
  where
    first : s.side ≡ x → IsNumberIn at (places_where test (y ∷ ys))
    first e =
        let here : IsWrittenOut bodies x.outline s.meant =
        subst (λ (z : faults.Side). IsWrittenOut bodies z.outline s.meant) e s.spells in
        let same = spells_one bodies x.outline s.meant all.0.meant here all.0.spells in
        let so : IsSo x.first all.0.meant =
        subst (λ (z : faults.Side). IsSo z.first all.0.meant) e (subst (IsSo s.side.first) same s.so) in
        let byte : at ≡ y.at = s.byte ∙ ap (λ (z : faults.Side). z.byte) e ∙ sym all.0.byte in
        subst (λ (b : ℕ). IsNumberIn b (places_where test (y ∷ ys))) (sym byte)
        (place_here test y ys ((tells bodies x y all.0 known.0).1 so))

-- and each place is that of a side that is so
pub side_back : (Known : Side → Type 0) (IsSo : Bool → Written Dot → Type 0) (test : Side → Bool)
    → Tells Known IsSo test
    → (bodies : List (Draft Dot)) (xs : List faults.Side) (ys : List Side) → AreWeighed bodies xs ys
    → AllByRecursion Known ys → (at : ℕ) → IsNumberIn at (places_where test ys) → SideAt bodies xs IsSo at
side_back Known IsSo test tells bodies [] [] all known at i = elim i [ ]
side_back Known IsSo test tells bodies [] (y ∷ ys) all known at i = elim all [ ]
side_back Known IsSo test tells bodies (x ∷ xs) [] all known at i = elim all [ ]
side_back Known IsSo test tells bodies (x ∷ xs) (y ∷ ys) all known at i =
    elim (place_of test y ys at i) [
      | inl h ↦
          (record {
            side = x;
            one = inl refl;
            meant = all.0.meant;
            spells = all.0.spells;
            so = (tells bodies x y all.0 known.0).0 h.0;
            byte = h.1 ∙ all.0.byte;
          })
      | inr r ↦
          (let s = side_back Known IsSo test tells bodies xs ys all.1 known.1 at r in
          record { side = s.side; one = inr s.one; meant = s.meant; spells = s.spells; so = s.so; byte = s.byte })
    ]

pub tells_wide : Tells Any (λ first w. 127 < weight w) is_wide
tells_wide bodies x y h known = (
  λ t. omega (arith, ltb-true 127 y.facts.weight t, h.weighs),
  λ so. lt-ltb 127 y.facts.weight (omega (arith, so, h.weighs)),
)

-- Whether a side is degenerate, by what its form tells.
module _ (w : Written Dot) (ordered : IsOrdered w) (ticks empty : Bool) (t : ticks ≡ takes_ticks w)
    (e : empty ≡ admits_empty w) where
  ticks_false : not ticks ≡ true → ticks ≡ false
  ticks_false h = elim (cases_Bool ticks) [ inl on ↦ absurd (false≢true (sym (ap not on) ∙ h)) | inr off ↦ off ]

  no_ticks : not ticks ≡ true → IsDegenerate (kernel dot w)
  no_ticks h = none-degenerate Dot dot w ordered (sym t ∙ ticks_false h)

  ticks_none : IsDegenerate (kernel dot w) → not ticks ≡ true
  ticks_none so = ap not (t ∙ degenerate-none Dot dot w so)

  tells_by : (first : Bool) → (not ticks || (first && empty)) ≡ true → IsDegenerateBy first (kernel dot w)
  tells_by false h =
      elim (or_cases (not ticks) (false && empty) h) [ inl off ↦ no_ticks off | inr never ↦ absurd (false≢true never) ]
  tells_by true h =
      elim (or_cases (not ticks) (true && empty) h) [
        | inl off ↦ none-degenerate_by Dot (kernel dot w) (no_ticks off)
        | inr on ↦ empty-degenerate Dot (kernel dot w) (empty-Matches Dot always dot w 0 ordered (sym e ∙ on))
      ]

  by_tells : (first : Bool) → IsDegenerateBy first (kernel dot w) → (not ticks || (first && empty)) ≡ true
  by_tells false so = or_left (not ticks) (false && empty) (ticks_none so)
  by_tells true so =
      elim (cases_Bool empty) [
        | inl on ↦ or_right (not ticks) (true && empty) on
        | inr off ↦
            or_left (not ticks) (true && empty)
            (ticks_none
            (degenerate_by-none Dot (kernel dot w) so
            (λ m. false≢true (sym off ∙ e ∙ Matches-empty Dot always dot w 0 ordered m))))
      ]

pub tells_degenerate : Tells Light (λ first w. IsDegenerateBy first (kernel dot w)) is_degenerate
tells_degenerate bodies x y h light = (
  λ t. subst (λ (b : Bool). IsDegenerateBy b (kernel dot h.meant)) h.first
      (tells_by h.meant h.ordered y.ticks y.facts.empty (h.ticks light) h.empty y.first t),
  λ so.
      by_tells h.meant h.ordered y.ticks y.facts.empty (h.ticks light) h.empty y.first
      (subst (λ (b : Bool). IsDegenerateBy b (kernel dot h.meant)) (sym h.first) so),
)

pub tells_empty : Tells Any (λ first w. AdmitsEmpty (kernel dot w)) is_side_empty
tells_empty bodies x y h known = (
  λ t. empty-Matches Dot always dot h.meant 0 h.ordered (sym h.empty ∙ t),
  λ so. h.empty ∙ Matches-empty Dot always dot h.meant 0 h.ordered so,
)

-- Where no side is wide, each is light.
pub all_light : (ys : List Side) → ((at : ℕ) → IsNumberIn at (places_where is_wide ys) → ⊥) → AreLight ys
all_light [] none = tt
all_light (y ∷ ys) none = (light, all_light ys (λ at i. none at (place_kept is_wide y ys at i)))
  where
    light : y.facts.weight ≤ 127
    light =
        elim (cases_Bool (is_wide y)) [
          | inl e ↦ absurd (none y.at (place_here is_wide y ys e))
          | inr e ↦ omega (arith, ltb-false 127 y.facts.weight e)
        ]
