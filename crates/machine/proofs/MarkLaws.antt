-- What an attempt awaits, told by sets of ticks.
use Rattle.std.proofs.Common.{◌≡◌, ◌≢◌, ◌⊎◌, inl, inr, ℕ, ◌+◌, ◌-◌, ◌*◌, ◌^◌, ◌≤◌, Bool, true}
use Rattle.std.proofs.Common.{Some, None, false, not, ◌&&◌, ◌||◌, if◌then◌else◌, List, [], ◌∷◌, refl, sym, ap, ◌∙◌}
use Rattle.std.proofs.Common.{arith, bit_and, bit_or}
use Rattle.std.specs.Prelude.{◌==◌}
use Rattle.std.specs.Int.{bit_at}
use Rattle.std.proofs.lemmas.Bool.{cases_Bool, cases_eq, eq-eqb, ne_eqb}
use Rattle.std.proofs.lemmas.Nat.{pow_pos}
use Rattle.std.proofs.lemmas.Nat.Bits.{and_pow, bit_at-lt, bit_at_and, bit_at_or, same_from_bits}
use lib.Bits.{or_zero_l, and_zero_r, or_add_and, and_le_r}
use Rattle.signals.specs.declared.verdict.Verdict.TheVariants.{Holds, Vacuous, Fails}
use Rattle.machine_checked.specs.Clocks.{Attempt, Fate, Settlement, awaits, is_broken, some_broken}
use Rattle.machine_checked.specs.Clocks.{some_open, settle, stays, ends}
use Rattle.machine.specs.declared.fates.Fates.{Fates}
use Rattle.machine.specs.Marks.{fate_mark, mark_set, is_fate_open, fates_of, AreRecent, Tells, SettlesAs}

-- some fate that passes is awaited
abbrev pub some_of : (Fate → Bool) → Attempt → List Fate → Bool
some_of passes a [] = false
some_of passes a (f ∷ fs) = (passes f && awaits a f.tick) || some_of passes a fs

broken-some : (a : Attempt) (fs : List Fate) → some_broken a fs ≡ some_of is_broken a fs
broken-some a [] = refl
broken-some a (f ∷ fs) = ap (λ b. (is_broken f && awaits a f.tick) || b) (broken-some a fs)

open-some : (a : Attempt) (fs : List Fate) → some_open a fs ≡ some_of is_fate_open a fs
open-some a [] = refl
open-some a (f ∷ fs) = ap (λ b. (is_fate_open f && awaits a f.tick) || b) (open-some a fs)

and-or : (s a b : ℕ) → bit_and s (bit_or a b) ≡ bit_or (bit_and s a) (bit_and s b)
and-or s a b = same_from_bits (bit_and s (bit_or a b)) (bit_or (bit_and s a) (bit_and s b)) (λ i.
    omega (
      arith,
      bit_at_and s (bit_or a b) i,
      bit_at_or a b i,
      bit_at_or (bit_and s a) (bit_and s b) i,
      bit_at_and s a i,
      bit_at_and s b i,
    ))

or-zero : (a b : ℕ) → (bit_or a b == 0) ≡ ((a == 0) && (b == 0))
or-zero a b = elim (cases_eq a 0) [
  | inl ea ↦ elim (cases_eq b 0) [
    | inl eb ↦ rw (eq-eqb a 0 ea, eq-eqb b 0 eb) (eq-eqb (bit_or a b) 0 (ap (λ n. bit_or n b) ea ∙ or_zero_l b ∙ eb))
    | inr nb ↦ rw (eq-eqb a 0 ea, ne_eqb b 0 nb)
        (ne_eqb (bit_or a b) 0 (λ e. nb (sym (ap (λ n. bit_or n b) ea ∙ or_zero_l b) ∙ e)))
  ]
  | inr na ↦ rw (ne_eqb a 0 na) (ne_eqb (bit_or a b) 0 (λ e. na (omega (arith, or_add_and a b, and_le_r a b, e))))
]

-- a bit alone
bit-zero : (s j : ℕ) → (bit_and s (2 ^ j) == 0) ≡ not (bit_at s j == 1)
bit-zero s j = elim (cases_eq (bit_at s j) 1) [
  | inl on ↦ rw (eq-eqb (bit_at s j) 1 on)
      (ne_eqb (bit_and s (2 ^ j)) 0 (λ e. omega (arith, and_pow s j, ap (λ n. n * 2 ^ j) on, pow_pos j, e)))
  | inr off ↦ let none : bit_at s j ≡ 0 =
      omega (arith, bit_at-lt s j, off) in
      rw (ne_eqb (bit_at s j) 1 off)
      (eq-eqb (bit_and s (2 ^ j)) 0 (omega (arith, and_pow s j, ap (λ n. n * 2 ^ j) none)))
]

neither : (a b : Bool) → (not a && not b) ≡ not (a || b)
neither true b = refl
neither false b = refl

module _ (passes : Fate → Bool) (now : ℕ) (a : Attempt) (set : ℕ) (tells : Tells now a set) where
  one-zero : (f : Fate) → f.tick ≤ now → now ≤ f.tick + 127 → (bit_and set (fate_mark passes now f) == 0)
      ≡ not (passes f && awaits a f.tick)
  one-zero f low high = elim (cases_Bool (passes f)) [
    | inl on ↦ rw on (bit-zero set (127 - (now - f.tick)) ∙ ap not (tells f.tick low high))
    | inr off ↦ rw off (eq-eqb (bit_and set 0) 0 (and_zero_r set))
  ]

  pub none-zero : (fs : List Fate) → AreRecent now fs → (bit_and set (mark_set passes now fs) == 0)
      ≡ not (some_of passes a fs)
  none-zero [] h = eq-eqb (bit_and set 0) 0 (and_zero_r set)
  none-zero (f ∷ fs) h =
      ap (λ n. n == 0) (and-or set (fate_mark passes now f) (mark_set passes now fs))
      ∙ or-zero (bit_and set (fate_mark passes now f)) (bit_and set (mark_set passes now fs))
      ∙ ap (λ b. b && (bit_and set (mark_set passes now fs) == 0)) (one-zero f h.0 h.1)
      ∙ ap (λ b. not (passes f && awaits a f.tick) && b) (none-zero fs h.2)
      ∙ neither (passes f && awaits a f.tick) (some_of passes a fs)

not-twice : (a b : Bool) → a ≡ not b → b ≡ not a
not-twice a true h = ap not (sym h)
not-twice a false h = ap not (sym h)

module _ (now : ℕ) (a : Attempt) (set : ℕ) (tells : Tells now a set) (fs : List Fate) (recent : AreRecent now fs) where
  broken-zero : some_broken a fs ≡ not (bit_and set (mark_set is_broken now fs) == 0)
  broken-zero =
      broken-some a fs ∙ not-twice (bit_and set (mark_set is_broken now fs) == 0) (some_of is_broken a fs)
      (none-zero is_broken now a set tells fs recent)

  open-zero : some_open a fs ≡ not (bit_and set (mark_set is_fate_open now fs) == 0)
  open-zero =
      open-some a fs ∙ not-twice (bit_and set (mark_set is_fate_open now fs) == 0) (some_of is_fate_open a fs)
      (none-zero is_fate_open now a set tells fs recent)

  pub broken-on : bit_and set (mark_set is_broken now fs) ≢ 0 → some_broken a fs ≡ true
  broken-on h = broken-zero ∙ ap not (ne_eqb (bit_and set (mark_set is_broken now fs)) 0 h)

  pub broken-off : bit_and set (mark_set is_broken now fs) ≡ 0 → some_broken a fs ≡ false
  broken-off h = broken-zero ∙ ap not (eq-eqb (bit_and set (mark_set is_broken now fs)) 0 h)

  pub open-on : bit_and set (mark_set is_fate_open now fs) ≢ 0 → some_open a fs ≡ true
  open-on h = open-zero ∙ ap not (ne_eqb (bit_and set (mark_set is_fate_open now fs)) 0 h)

  pub open-off : bit_and set (mark_set is_fate_open now fs) ≡ 0 → some_open a fs ≡ false
  open-off h = open-zero ∙ ap not (eq-eqb (bit_and set (mark_set is_fate_open now fs)) 0 h)

or-true : (b : Bool) → (b || true) ≡ true
or-true true = refl
or-true false = refl

-- what a settled attempt comes to
module _ (now : ℕ) (a : Attempt) (fs : List Fate) (r : Settlement) where
  pub fails : some_broken a fs ≡ true → settle now fs a r ≡ ends a (Fails now) r
  fails h = rw h refl

  pub waits : some_broken a fs ≡ false → (some_open a fs ≡ true) ⊎ (a.positions ≢ 0) → settle now fs a r ≡ stays a r
  waits h (inl o) = rw (h, o) refl
  waits h (inr p) = rw (h, ne_eqb a.positions 0 p, or-true (some_open a fs)) refl

  pub over : some_broken a fs ≡ false → some_open a fs ≡ false → a.positions ≡ 0
      → settle now fs a r ≡ ends a (if a.awaited == 0 then Vacuous now else Holds now) r
  over h o p = rw (h, o, eq-eqb a.positions 0 p) refl

  pub vacuous : some_broken a fs ≡ false → some_open a fs ≡ false → a.positions ≡ 0 → a.awaited ≡ 0
      → settle now fs a r ≡ ends a (Vacuous now) r
  vacuous h o p none = over h o p ∙ rw (eq-eqb a.awaited 0 none) refl

  pub holds : some_broken a fs ≡ false → some_open a fs ≡ false → a.positions ≡ 0 → a.awaited ≢ 0
      → settle now fs a r ≡ ends a (Holds now) r
  holds h o p some = over h o p ∙ rw (ne_eqb a.awaited 0 some) refl

-- by the sets of the fates
module _ (now : ℕ) (a : Attempt) (set : ℕ) (tells : Tells now a set) (fates : Fates) where
  pub fails-as : bit_and set fates.broken_ticks ≢ 0 → SettlesAs now fates a (Some (Fails now))
  fails-as h fs r recent sets =
      fails now a fs r
      (broken-on now a set tells fs recent (λ e. h (ap (λ (f : Fates). bit_and set f.broken_ticks) sets ∙ e)))

  off-of : bit_and set fates.broken_ticks ≡ 0 → (fs : List Fate) → AreRecent now fs → fates ≡ fates_of now fs
      → some_broken a fs ≡ false
  off-of h fs recent sets =
      broken-off now a set tells fs recent (sym (ap (λ (f : Fates). bit_and set f.broken_ticks) sets) ∙ h)

  shut-of : bit_and set fates.open_ticks ≡ 0 → (fs : List Fate) → AreRecent now fs → fates ≡ fates_of now fs
      → some_open a fs ≡ false
  shut-of h fs recent sets =
      open-off now a set tells fs recent (sym (ap (λ (f : Fates). bit_and set f.open_ticks) sets) ∙ h)

  pub waits-as : bit_and set fates.broken_ticks ≡ 0 → (bit_and set fates.open_ticks ≢ 0) ⊎ (a.positions ≢ 0)
      → SettlesAs now fates a None
  waits-as h (inl o) fs r recent sets =
      waits now a fs r (off-of h fs recent sets)
      (inl (open-on now a set tells fs recent (λ e. o (ap (λ (f : Fates). bit_and set f.open_ticks) sets ∙ e))))
  waits-as h (inr p) fs r recent sets = waits now a fs r (off-of h fs recent sets) (inr p)

  pub vacuous-as : bit_and set fates.broken_ticks ≡ 0 → bit_and set fates.open_ticks ≡ 0 → a.positions ≡ 0
      → a.awaited ≡ 0 → SettlesAs now fates a (Some (Vacuous now))
  vacuous-as h o p none fs r recent sets =
      vacuous now a fs r (off-of h fs recent sets) (shut-of o fs recent sets) p none

  pub holds-as : bit_and set fates.broken_ticks ≡ 0 → bit_and set fates.open_ticks ≡ 0 → a.positions ≡ 0 → a.awaited ≢ 0
      → SettlesAs now fates a (Some (Holds now))
  holds-as h o p some fs r recent sets = holds now a fs r (off-of h fs recent sets) (shut-of o fs recent sets) p some
