-- What is marked.
use Rattle.std.proofs.Common.{◌≡◌, ◌<◌, ℕ, zero, suc, unwrap_or, false, true, Bool, List, [], ◌∷◌, length, slice_get}
use Rattle.std.proofs.Common.{get_or, set, Some, arith, inl, inr, sym, ap, subst, ◌∙◌, refl}
use Rattle.std.specs.Prelude.{◌⊎◌}
use Rattle.std.proofs.lemmas.Bool.{cases_eq, false≢true}
use Rattle.std.proofs.lemmas.List.{get_or-set_same, get_or-set_other, length-set}
use Rattle.std.proofs.lemmas.List.Elements.{Contains-append_left, Contains-append_right}
use Rattle.std.proofs.lemmas.Option.{slice_get-get_or, get_or_from_slice_get, slice_get_within}
use Rattle.expressions.specs.declared.name.Origin.{Origin}
use Rattle.expressions.specs.declared.name.Origin.TheVariants.{Signal, Counter}
use Rattle.expressions.specs.declared.name.Name.{Name}
use Rattle.assertions.specs.Marks.{IsAmong, AreMarks, same_origin, mark_if, mark_all}

-- whether a place is marked
abbrev pub has_mark : List Bool → ℕ → Bool
has_mark marks place = get_or marks place false

same-one : (a b : Origin) → same_origin a b ≡ true → a ≡ b
same-one Signal Signal h = refl
same-one Counter Counter h = refl
same-one Signal Counter h = absurd (false≢true h)
same-one Counter Signal h = absurd (false≢true h)

one-same : (a : Origin) → same_origin a a ≡ true
one-same Signal = refl
one-same Counter = refl

mark-length : (test : Bool) (marks : List Bool) (p : ℕ) → length (mark_if test marks p) ≡ length marks
mark-length true marks p = length-set marks p true
mark-length false marks p = refl

all-length : (origin : Origin) (marks : List Bool) (names : List Name) → length (mark_all origin marks names)
    ≡ length marks
all-length origin marks [] = refl
all-length origin marks (n ∷ names) =
    all-length origin (mark_if (same_origin n.origin origin) marks n.place) names
    ∙ mark-length (same_origin n.origin origin) marks n.place

-- a mark stays, and what is new is the name's
mark-kept : (test : Bool) (marks : List Bool) (p place : ℕ) → place < length marks → has_mark marks place ≡ true
    → has_mark (mark_if test marks p) place ≡ true
mark-kept false marks p place below h = h
mark-kept true marks p place below h = elim (cases_eq place p) [
  | inl same ↦ subst (λ q. has_mark (set marks q true) place ≡ true) same (get_or-set_same marks place true false below)
  | inr other ↦ get_or-set_other marks p place true false other ∙ h
]

mark-new : (test : Bool) (marks : List Bool) (p place : ℕ) → has_mark (mark_if test marks p) place ≡ true →
    (has_mark marks place ≡ true) ⊎ ((test ≡ true) × (p ≡ place))
mark-new false marks p place h = inl h
mark-new true marks p place h = elim (cases_eq place p) [
  | inl same ↦ inr (refl, sym same)
  | inr other ↦ inl (sym (get_or-set_other marks p place true false other) ∙ h)
]

-- the first of names, and those after it
behind : (n : Name) (names : List Name) (origin : Origin) (place : ℕ) → IsAmong origin names place
    → IsAmong origin (n ∷ names) place
behind n names origin place a = record {
  name = a.name;
  among = Contains-append_right (n ∷ []) names a.name a.among;
  origin_is = a.origin_is;
  place_is = a.place_is;
}

all-marked : (origin : Origin) (marks : List Bool) (names : List Name) (place : ℕ) → place < length marks
    → has_mark marks place ≡ true →
    has_mark (mark_all origin marks names) place ≡ true
all-marked origin marks [] place below h = h
all-marked origin marks (n ∷ names) place below h =
    let test = same_origin n.origin origin in
    all-marked origin (mark_if test marks n.place) names place (omega (arith, below, mark-length test marks n.place))
    (mark-kept test marks n.place place below h)

found-marked : (origin : Origin) (marks : List Bool) (names : List Name) (place k : ℕ) (name : Name)
    → place < length marks → slice_get names k ≡ Some name →
    name.origin ≡ origin → name.place ≡ place → has_mark (mark_all origin marks names) place ≡ true
found-marked origin marks [] place k name below is o p = absurd (omega (arith, slice_get_within [] k name is))
found-marked origin marks (n ∷ names) place zero name below is o p =
    let one : n ≡ name = ap (λ x. unwrap_or x n) is in
    let test = same_origin n.origin origin in
    let on : test ≡ true =
    subst (λ x. same_origin x origin ≡ true) (sym (ap (λ (x : Name). x.origin) one ∙ o)) (one-same origin) in
    let here : n.place ≡ place = ap (λ (x : Name). x.place) one ∙ p in
    all-marked origin (mark_if test marks n.place) names place (omega (arith, below, mark-length test marks n.place))
    (subst (λ b. has_mark (mark_if b marks n.place) place ≡ true) (sym on)
    (subst (λ q. has_mark (set marks q true) place ≡ true) (sym here) (get_or-set_same marks place true false below)))
found-marked origin marks (n ∷ names) place (suc k) name below is o p =
    let test = same_origin n.origin origin in
    found-marked origin (mark_if test marks n.place) names place k name
    (omega (arith, below, mark-length test marks n.place)) is o p

marked-found : (origin : Origin) (marks : List Bool) (names : List Name) (place : ℕ)
    → has_mark (mark_all origin marks names) place ≡ true →
    (has_mark marks place ≡ true) ⊎ IsAmong origin names place
marked-found origin marks [] place h = inl h
marked-found origin marks (n ∷ names) place h =
    elim (marked-found origin (mark_if (same_origin n.origin origin) marks n.place) names place h) [
      | inl before ↦
          elim (mark-new (same_origin n.origin origin) marks n.place place before) [
            | inl old ↦ inl old
            | inr here ↦ inr (record {
              name = n;
              among = Contains-append_left (n ∷ []) names n (0, omega arith, refl);
              origin_is = same-one n.origin origin here.0;
              place_is = here.1;
            })
          ]
      | inr more ↦ inr (behind n names origin place more)
    ]

-- the marks of all names, from none
pub all-marks : (origin : Origin) (names : List Name) (count : ℕ) (start marks : List Bool) → length start ≡ count →
    ((place : ℕ) → place < count → slice_get start place ≡ Some false) → marks ≡ mark_all origin start names
    → AreMarks origin names count marks
all-marks origin names count start marks long none is = subst (AreMarks origin names count) (sym is) (record {
  long = all-length origin start names ∙ long;
  each = λ place below. (to place below, from place below);
})
  where
    all : List Bool
    all = mark_all origin start names

    to : (place : ℕ) → place < count → slice_get all place ≡ Some true → IsAmong origin names place
    to place below h = elim (marked-found origin start names place (get_or_from_slice_get all place true false h)) [
      | inl on ↦ absurd (false≢true (sym (get_or_from_slice_get start place false false (none place below)) ∙ on))
      | inr among ↦ among
    ]

    from : (place : ℕ) → place < count → IsAmong origin names place → slice_get all place ≡ Some true
    from place below a =
        slice_get-get_or all place false (omega (arith, below, all-length origin start names, long))
        ∙ ap (λ b. Some b)
        (found-marked origin start names place a.among.0 a.name (omega (arith, below, long))
        (slice_get-get_or names a.among.0 a.name a.among.1 ∙ ap (λ n. Some n) a.among.2) a.origin_is a.place_is)
