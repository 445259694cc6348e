-- What stands while counters are looked at, one after another.
use Rattle.std.proofs.Common.{◌≡◌, ◌<◌, ◌≤◌, ℕ, ◌+◌, false, true, not, Bool, List, [], ◌++◌, length, slice_get, get_or}
use Rattle.std.proofs.Common.{set, Some, unwrap_or, arith, inl, inr, sym, ap, subst, ◌∙◌, refl}
use Rattle.std.specs.Prelude.{◌↔◌, Contains, sum_by}
use Rattle.std.proofs.lemmas.Bool.{cases_lt, cases_eq, false≢true, true≢false}
use Rattle.std.proofs.lemmas.List.{append-nil, get_or_past, get_or-set_same, get_or-set_other, get_or_append_left}
use Rattle.std.proofs.lemmas.List.{length-set, length-append}
use Rattle.std.proofs.lemmas.List.Sums.{sum_by-set}
use Rattle.std.proofs.lemmas.List.Elements.{Contains-append_left, Contains-append_right, Contains-append_cases}
use Rattle.std.proofs.lemmas.Option.{slice_get_past, slice_get-get_or, slice_get_read, get_or_from_slice_get}
use Rattle.expressions.specs.declared.name.Origin.{Origin}
use Rattle.expressions.specs.declared.name.Origin.TheVariants.{Signal, Counter as FromCounter}
use Rattle.expressions.specs.declared.name.Name.{Name}
use Rattle.expressions.specs.declared.counter.Counter.{Counter}
use Rattle.expressions.specs.declared.expr.Expr.{Expr}
use Rattle.assertions.specs.Names.{expression_names}
use Rattle.assertions.specs.Reads.{names_of, IsRead, at_once, through, is_waiting, waits}
use Rattle.assertions.specs.Scans.{NoneFrom, IsNext}
use Rattle.assertions.proofs.ScanLaws.{NoneTo}

-- These names were found, and the clauses of the counters that are done were looked at; no name before a place waits.
pub record Expands (first : List Name) (counters : List Counter) (names : List Name) (done : List Bool) (from : ℕ) :
    Type 0 where
  pub long : length done ≡ length counters
  pub within : from ≤ length names
  pub sound : (name : Name) → Contains names name → IsRead first counters name
  pub begun : (name : Name) → Contains first name → Contains names name
  pub looked : (p : ℕ) → p < length done → get_or done p true ≡ true → (name : Name)
      → Contains (names_of (slice_get counters p)) name → Contains names name
  pub before : NoneTo done 0 from names

-- a counter that is not done counts one
abbrev pub to_do : Bool → ℕ
to_do true = 0
to_do false = 1

abbrev pub left_to_do : List Bool → ℕ
left_to_do done = sum_by to_do done

pub starts : (first : List Name) (counters : List Counter) (done : List Bool) → length done ≡ length counters →
    ((p : ℕ) → p < length done → get_or done p true ≡ false) → Expands first counters first done 0
starts first counters done long none = record {
  long = long;
  within = omega arith;
  sound = λ name h. at_once h;
  begun = λ name h. h;
  looked = λ p below on name h. absurd (false≢true (sym (none p below) ∙ on));
  before = λ k other past below is. absurd (omega (arith, below));
}

-- a name that waits is a counter that is there and not done
pub record IsToDo (done : List Bool) (name : Name) : Type 0 where
  pub counter : name.origin ≡ FromCounter
  pub there : name.place < length done
  pub fresh : get_or done name.place true ≡ false

not-true : (b : Bool) → not b ≡ true → b ≡ false
not-true true h = absurd (false≢true h)
not-true false h = refl

waiting-parts : (done : List Bool) (origin : Origin) (place : ℕ) → is_waiting done origin place ≡ true →
    (origin ≡ FromCounter) × (place < length done) × (get_or done place true ≡ false)
waiting-parts done Signal place h = absurd (false≢true h)
waiting-parts done FromCounter place h =
    let off = not-true (get_or done place true) h in (
      refl,
      elim (cases_lt place (length done)) [
        | inl lt ↦ lt
        | inr ge ↦ absurd (false≢true (sym off ∙ get_or_past done place true ge))
      ],
      off,
    )

pub waits-to-do : (done : List Bool) (name : Name) → waits done name ≡ true → IsToDo done name
waits-to-do done name h =
    let p = waiting-parts done name.origin name.place h in
    record { counter = p.0; there = p.1; fresh = p.2 }

waiting-set : (done : List Bool) (p place : ℕ) → place ≡ p → not (get_or (set done p true) place true) ≡ false
waiting-set done p place same =
    subst (λ q. not (get_or (set done p true) q true) ≡ false) (sym same)
    (elim (cases_lt p (length done)) [
      | inl lt ↦ ap not (get_or-set_same done p true true lt)
      | inr ge ↦ ap not (get_or_past (set done p true) p true (omega (arith, ge, length-set done p true)))
    ])

-- what waits no more doesn't wait later
waiting-less : (done : List Bool) (p : ℕ) (origin : Origin) (place : ℕ) → is_waiting done origin place ≡ false →
    is_waiting (set done p true) origin place ≡ false
waiting-less done p Signal place h = refl
waiting-less done p FromCounter place h =
    elim (cases_eq place p) [
      | inl same ↦ waiting-set done p place same
      | inr other ↦ ap not (get_or-set_other done p place true true other) ∙ h
    ]

done-waits-not : (done : List Bool) (p : ℕ) (origin : Origin) (place : ℕ) → place ≡ p
    → is_waiting (set done p true) origin place ≡ false
done-waits-not done p Signal place same = refl
done-waits-not done p FromCounter place same = waiting-set done p place same

-- what stands at a place of a longer list
kept-place : (names more : List Name) (k : ℕ) (other : Name) → k < length names → slice_get (names ++ more) k
    ≡ Some other → slice_get names k ≡ Some other
kept-place names more k other inside is =
    slice_get-get_or names k other inside
    ∙ ap (λ n. Some n) (sym (get_or_append_left names more other k inside)
    ∙ get_or_from_slice_get (names ++ more) k other other is)

some-one : (a b : Name) → Some a ≡ Some b → a ≡ b
some-one a b e = ap (λ o. unwrap_or o a) e

-- one counter more
pub goes-on : (first : List Name) (counters : List Counter) (names : List Name) (done : List Bool) (from at : ℕ)
    (name : Name) (new : List Name) →
    Expands first counters names done from → (next : IsNext done from names at) → slice_get names at ≡ Some name →
    new ≡ names ++ names_of (slice_get counters name.place) →
    Expands first counters new (set done name.place true) (at + 1)
goes-on first counters names done from at name new old next here is =
    subst (λ ns. Expands first counters ns (set done name.place true) (at + 1)) (sym is) (record {
      long = length-set done name.place true ∙ old.long;
      within = omega (arith, next.inside, length-append names more);
      sound = sound;
      begun = λ n h. Contains-append_left names more n (old.begun n h);
      looked = looked;
      before = before;
    })
  where
    more : List Name
    more = names_of (slice_get counters name.place)

    this : next.name ≡ name
    this = some-one next.name name (sym next.is ∙ here)

    todo : IsToDo done name
    todo = waits-to-do done name (subst (λ n. waits done n ≡ true) this next.waiting)

    read : IsRead first counters name
    read = old.sound name (at, next.inside, get_or_from_slice_get names at name name here)

    sound : (n : Name) → Contains (names ++ more) n → IsRead first counters n
    sound n h = elim (Contains-append_cases names more n h) [
      | inl before ↦ old.sound n before
      | inr added ↦ through read todo.counter added
    ]

    looked : (p : ℕ) → p < length (set done name.place true) → get_or (set done name.place true) p true ≡ true
        → (n : Name) →
        Contains (names_of (slice_get counters p)) n → Contains (names ++ more) n
    looked p below on n h = elim (cases_eq p name.place) [
      | inl same ↦
          Contains-append_right names more n
          (subst (λ q. Contains (names_of (slice_get counters q)) n) same h)
      | inr other ↦
          Contains-append_left names more n
          (old.looked p (omega (arith, below, length-set done name.place true))
          (sym (get_or-set_other done name.place p true true other) ∙ on) n h)
    ]

    before : NoneTo (set done name.place true) 0 (at + 1) (names ++ more)
    before k other past below is =
        let held = kept-place names more k other (omega (arith, below, next.inside)) is in
        elim (cases_lt k from) [
          | inl lt ↦ waiting-less done name.place other.origin other.place (old.before k other past lt held)
          | inr ge ↦
              elim (cases_lt k at) [
                | inl lt ↦ waiting-less done name.place other.origin other.place (next.none k other ge lt held)
                | inr last ↦
                    let same : k ≡ at = omega (arith, last, below) in
                    let one : name ≡ other =
                    some-one name other (sym here ∙ ap (λ j. slice_get names j) (sym same) ∙ held) in
                    done-waits-not done name.place other.origin other.place (ap (λ (n : Name). n.place) (sym one))
              ]
        ]

-- fewer are to do
pub fewer-to-do : (done : List Bool) (p : ℕ) → p < length done → get_or done p true ≡ false
    → left_to_do (set done p true) < left_to_do done
fewer-to-do done p below fresh =
    let sum = sum_by-set to_do done p true true below in
    omega (arith, sum, ap to_do fresh)

no-one : (n : Name) → Contains [] n → ⊥
no-one n h = omega (arith, h.1)

not-false : (b : Bool) → not b ≡ false → b ≡ true
not-false true h = refl
not-false false h = absurd (true≢false h)

-- all are done
pub ends : (first : List Name) (counters : List Counter) (names : List Name) (done : List Bool) (from : ℕ)
    → Expands first counters names done from →
    NoneFrom done from names → (name : Name) → Contains names name ↔ IsRead first counters name
ends first counters names done from old none name = (old.sound name, all name)
  where
    quiet : (n : Name) → Contains names n → waits done n ≡ false
    quiet n h =
        let here : slice_get names h.0 ≡ Some n = slice_get-get_or names h.0 n h.1 ∙ ap (λ m. Some m) h.2 in
        elim (cases_lt h.0 from) [
          | inl lt ↦ old.before h.0 n (omega arith) lt here
          | inr ge ↦ none h.0 n ge here
        ]

    closed : (n other : Name) → Contains names n → n.origin ≡ FromCounter
        → Contains (names_of (slice_get counters n.place)) other → Contains names other
    closed n other h origin more =
        let on =
        not-false (get_or done n.place true) (subst (λ o. is_waiting done o n.place ≡ false) origin (quiet n h))
        in
        elim (cases_lt n.place (length done)) [
          | inl lt ↦ old.looked n.place lt on other more
          | inr ge ↦
              absurd
              (no-one other
              (subst (λ o. Contains (names_of o) other)
              (slice_get_past counters n.place (omega (arith, ge, old.long))) more))
        ]

    all : (n : Name) → IsRead first counters n → Contains names n
    all n (at_once h) = old.begun n h
    all n (through {counter} read origin h) = closed counter n (all counter read) origin h

-- the name at the place that was found
pub found-here : (names : List Name) (done : List Bool) (from at : ℕ) (name : Name) → IsNext done from names at
    → name ≡ get_or names at name →
    slice_get names at ≡ Some name
found-here names done from at name next is = slice_get_read names (length names) at name refl next.inside is

pub found-to-do : (names : List Name) (done : List Bool) (from at : ℕ) (name : Name) → IsNext done from names at
    → name ≡ get_or names at name →
    IsToDo done name
found-to-do names done from at name next is =
    waits-to-do done name
    (subst (λ n. waits done n ≡ true)
    (some-one next.name name (sym next.is ∙ found-here names done from at name next is)) next.waiting)

-- no names after names, where no counter is there
pub not-there : (counters : List Counter) (place : ℕ) → length counters ≤ place → (names : List Name) →
    names ≡ names ++ names_of (slice_get counters place)
not-there counters place out names =
    sym (append-nil names) ∙ ap (λ o. names ++ names_of o) (sym (slice_get_past counters place out))

pub no-expression : (all : List Expr) (place : ℕ) → length all ≤ place → (names : List Name) →
    names ≡ names ++ expression_names (slice_get all place)
no-expression all place out names =
    sym (append-nil names) ∙ ap (λ o. names ++ expression_names o) (sym (slice_get_past all place out))
