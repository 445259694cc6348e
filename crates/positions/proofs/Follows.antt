-- The section of a table follows its sequence.
use Rattle.std.proofs.Common.{◌≡◌, ◌∙◌, inl, inr, ℕ, zero, suc, ◌+◌, Bool, true, false, List, [], ◌∷◌, Option, Some}
use Rattle.std.proofs.Common.{None, refl, sym, ap, subst, arith}
use Rattle.std.specs.Prelude.{IsTrue, slice_index_or, nat_le}
use Rattle.std.specs.Int.{bit_at}
use Rattle.std.proofs.lemmas.Bool.{cases_lt, and_parts, and_from, or_left, le-leb}
use Rattle.std.proofs.lemmas.Nat.Bits.{bit_at-zero, bit_at-lt, same_from_bits}
use Rattle.machine_checked.specs.Blocks.{Visit, ended}
use Rattle.assertions.specs.Segments.{sat, Matches}
use Rattle.assertions.specs.Attempts.{IsAntecedentOver, every}
use Rattle.positions.specs.Plans.{Plan, plan_sequence}
use Rattle.positions.specs.Tables.{Edge, Table, EachOf, HasNumber, Fires, Enters, Accepts, IsRising}
use Rattle.positions.specs.Tables.{NumbersStates}
use Rattle.positions.proofs.Ticks.{Left-after, Match-At, At-Match, Match-ends, ends-Match}
use Rattle.machine_sections.specs.Automata.{Automaton, positions_at, accepts, AutomatonFollows}
use Rattle.machine_sections.specs.Effects.{visit_of, automaton_of}
use Rattle.positions.proofs.Local.{seen-sat, sat-seen}
use Rattle.positions.specs.Sections.{section_of, coded, numbered_edge, with_atom, atoms_of, told_atom}
use Rattle.positions.specs.States.{PlanState, Left}
use Rattle.positions.proofs.Effects.{bits-Has, Has-bits, all_now, made_by, blocks-effects, EnterNow, AcceptNow}
use Rattle.positions.proofs.Effects.{by-bit}
use Rattle.positions.proofs.Effects.{bit-by, by-accepts, accepts-by, ended-same, made_by-first}
use Rattle.positions.proofs.Lists.{SomeOf-each, SomeOf-map, map-SomeOf}
use Rattle.positions.proofs.Standing.{Stands, Stands-below, Stands-local, Stands-At, At-Stands}
use Rattle.positions.specs.Living.{lives, is_position_kept, kept_below, sifted}
use Rattle.positions.proofs.Sifting.{sifted-rising, from, from-lives, sifted-Stands, Stands-sifted}
use Rattle.positions.proofs.Sifting.{sifted-Accepts}
use Rattle.positions.proofs.Sifting.{Stands-kept}
use Rattle.positions.proofs.Sifting.{Accepts-sifted, lives-accepts, Left-lives, lives-Left}

-- a set with no position is 0
set-none : (set : ℕ) → ((q : ℕ) → bit_at set q ≡ 1 → ⊥) → set ≡ 0
set-none set none = same_from_bits set 0 (λ q.
    elim (cases_lt (bit_at set q) 1) [
      | inl low ↦ omega (arith, bit_at-zero q)
      | inr high ↦ absurd (none q (omega (arith, bit_at-lt set q)))
    ])

module _ (B : Type 0) (t : Table B) (rising : IsRising t) (atom : B → Option ℕ) (rows : ℕ → List Bool) where
  abbrev a : Automaton
  a = automaton_of (section_of atom t) rows

  abbrev prow : ℕ → List (Edge ℕ)
  prow p = coded atom t p

  -- what the rows tell
  abbrev value : B → ℕ → Bool
  value b i = told_atom (atom b) (rows i)

  abbrev nothing : Visit
  nothing = record { entered = 0; accepted = false; first = false }

  step-made : (i set : ℕ) → a.step i set ≡ made_by (rows i) set prow 0 t.size nothing
  unfolding visit_of
  step-made i set =
      ap ended (blocks-effects (rows i) set prow 0 0 t.size nothing)
      ∙ ended-same (made_by (rows i) set prow 0 t.size nothing) (made_by-first (rows i) set prow 0 t.size nothing)

  now-more : (i : ℕ) (o : Option ℕ) (ns : List ℕ) → all_now (rows i) (with_atom o ns) ≡ true
      → (told_atom o (rows i) ≡ true)
      × (all_now (rows i) ns ≡ true)
  now-more i None ns h = (refl, h)
  now-more i (Some n) ns h = let p = and_parts (slice_index_or (rows i) n true) (all_now (rows i) ns) h in (p.0, p.1)

  more-now : (i : ℕ) (o : Option ℕ) (ns : List ℕ) → told_atom o (rows i) ≡ true → all_now (rows i) ns ≡ true
      → all_now (rows i) (with_atom o ns) ≡ true
  more-now i None ns h k = k
  more-now i (Some n) ns h k = and_from (slice_index_or (rows i) n true) (all_now (rows i) ns) h k

  fires-now : (i : ℕ) (bs : List B) → all_now (rows i) (atoms_of atom bs) ≡ true → EachOf (λ b. IsTrue (value b i)) bs
  fires-now i [] h = tt
  fires-now i (b ∷ bs) h = let p = now-more i (atom b) (atoms_of atom bs) h in (p.0, fires-now i bs p.1)

  now-fires : (i : ℕ) (bs : List B) → EachOf (λ b. IsTrue (value b i)) bs → all_now (rows i) (atoms_of atom bs) ≡ true
  now-fires i [] h = refl
  now-fires i (b ∷ bs) h = more-now i (atom b) (atoms_of atom bs) h.0 (now-fires i bs h.1)

  Enter-prow : (i p q : ℕ) → EnterNow (rows i) (prow p) q → Enters value t p i q
  Enter-prow i p q h =
      SomeOf-each (λ e. (all_now (rows i) (atoms_of atom e.wanted) ≡ true) × HasNumber e.enters q)
      (λ e. Fires value i e × HasNumber e.enters q) (t.row p) (λ e x. (fires-now i e.wanted x.0, x.1))
      (SomeOf-map (λ (e : Edge ℕ). (all_now (rows i) e.wanted ≡ true) × HasNumber e.enters q) (numbered_edge atom)
      (t.row p) h)

  prow-Enter : (i p q : ℕ) → Enters value t p i q → EnterNow (rows i) (prow p) q
  prow-Enter i p q h =
      map-SomeOf (λ (e : Edge ℕ). (all_now (rows i) e.wanted ≡ true) × HasNumber e.enters q) (numbered_edge atom)
      (t.row p)
      (SomeOf-each (λ e. Fires value i e × HasNumber e.enters q)
      (λ e. (all_now (rows i) (atoms_of atom e.wanted) ≡ true)
      × HasNumber e.enters q) (t.row p) (λ e x. (now-fires i e.wanted x.0, x.1)) h)

  Accept-prow : (i p : ℕ) → AcceptNow (rows i) (prow p) → Accepts value t p i
  Accept-prow i p h =
      SomeOf-each (λ e. (all_now (rows i) (atoms_of atom e.wanted) ≡ true) × (e.accepts ≡ true))
      (λ e. Fires value i e × (e.accepts ≡ true)) (t.row p) (λ e x. (fires-now i e.wanted x.0, x.1))
      (SomeOf-map (λ (e : Edge ℕ). (all_now (rows i) e.wanted ≡ true) × (e.accepts ≡ true)) (numbered_edge atom)
      (t.row p) h)

  prow-Accept : (i p : ℕ) → Accepts value t p i → AcceptNow (rows i) (prow p)
  prow-Accept i p h =
      map-SomeOf (λ (e : Edge ℕ). (all_now (rows i) e.wanted ≡ true) × (e.accepts ≡ true)) (numbered_edge atom)
      (t.row p)
      (SomeOf-each (λ e. Fires value i e × (e.accepts ≡ true)) (λ e. (all_now (rows i) (atoms_of atom e.wanted) ≡ true)
      × (e.accepts ≡ true)) (t.row p) (λ e x. (now-fires i e.wanted x.0, x.1)) h)

  -- its places are where the table stands
  places-Stands : (c k q : ℕ) → bit_at (positions_at a c k) q ≡ 1 → Stands B t rising value c k q
  places-Stands c zero q h = bits-Has t.starts q h
  places-Stands c (suc k) q h =
      let bit = ap (λ (v : Visit). bit_at v.entered q) (sym (step-made (c + k) (positions_at a c k))) ∙ h in
      elim (by-bit (rows (c + k)) (positions_at a c k) prow 0 t.size nothing q bit) [
        | inl was ↦ absurd (omega (arith, bit_at-zero q, was))
        | inr x ↦ (x.0, places-Stands c k x.0 x.3, Enter-prow (c + k) x.0 q x.4)
      ]

  Stands-places : (c k q : ℕ) → Stands B t rising value c k q → bit_at (positions_at a c k) q ≡ 1
  Stands-places c zero q h = Has-bits t.starts q h
  Stands-places c (suc k) q h =
      let below = Stands-below B t rising value c k h.0 h.1 in
      let before = Stands-places c k h.0 h.1 in
      ap (λ (v : Visit). bit_at v.entered q) (step-made (c + k) (positions_at a c k))
      ∙ bit-by (rows (c + k)) (positions_at a c k) prow 0 t.size nothing q
      (inr (h.0, omega arith, omega (arith, below), before, prow-Enter (c + k) h.0 q h.2))

  accepts-Stands : (c k : ℕ) → IsTrue (accepts a c k) → (p : ℕ) × Stands B t rising value c k p
      × Accepts value t p (c + k)
  accepts-Stands c k h =
      let on = ap (λ (v : Visit). v.accepted) (sym (step-made (c + k) (positions_at a c k))) ∙ h in
      elim (by-accepts (rows (c + k)) (positions_at a c k) prow 0 t.size nothing on) [
        | inl was ↦ cc
        | inr x ↦ (x.0, places-Stands c k x.0 x.3, Accept-prow (c + k) x.0 x.4)
      ]

  Stands-accepts : (c k p : ℕ) → Stands B t rising value c k p → Accepts value t p (c + k) → IsTrue (accepts a c k)
  Stands-accepts c k p h on =
      let below = Stands-below B t rising value c k p h in
      ap (λ (v : Visit). v.accepted) (step-made (c + k) (positions_at a c k))
      ∙ accepts-by (rows (c + k)) (positions_at a c k) prow 0 t.size nothing
      (inr (p, omega arith, omega (arith, below), Stands-places c k p h, prow-Accept (c + k) p on))

-- the section of the positions that may still come to an end
module _ (B : Type 0) (t : Table B) (up : IsRising t) (atom : B → Option ℕ) (rows : ℕ → List Bool) (r : Plan B)
    (spells : NumbersStates r t) where
  abbrev s : Automaton
  s = a B (sifted t) (sifted-rising B t up) atom rows

  abbrev seen : B → ℕ → Bool
  seen = value B (sifted t) (sifted-rising B t up) atom rows

  ends-forth : (c k : ℕ) → IsTrue (accepts s c k) → Matches seen (plan_sequence r) c (c + k + 1)
  ends-forth c k h =
      let x = accepts-Stands B (sifted t) (sifted-rising B t up) atom rows c k h in
      let y = Stands-At B t up r spells seen c k (from B t up x.0) (sifted-Stands B t up seen c k x.0 x.1) in
      ends-Match B seen r c k y.0 y.2
      ((spells.accepts seen y.0 (c + k)).0
      (subst (λ p. Accepts seen t p (c + k)) (sym y.1) (sifted-Accepts B t up seen x.0 (c + k) x.2)))

  ends-back : (c k : ℕ) → Matches seen (plan_sequence r) c (c + k + 1) → IsTrue (accepts s c k)
  ends-back c k h =
      let x = Match-ends B seen r c k h in
      let on = (spells.accepts seen x.0 (c + k)).1 x.2 in
      let living = lives-accepts B t up seen (spells.number x.0) (c + k) (spells.below x.0) on in
      let stands = At-Stands B t up r spells seen c k x.0 x.1 in
      Stands-accepts B (sifted t) (sifted-rising B t up) atom rows c k
      (kept_below (is_position_kept t) (spells.number x.0))
      (Stands-sifted B t up seen c k (spells.number x.0) stands living)
      (Accepts-sifted B t up seen (spells.number x.0) (c + k)
      (Stands-kept B t up seen c k (spells.number x.0) stands living) on)

  over-forth : (c k : ℕ) → positions_at s c k ≡ 0 → IsAntecedentOver seen (every (plan_sequence r)) (c + k) c
  over-forth c k none j past h =
      let holds : B → ℕ → Bool = sat seen (c + k) in
      let x = Match-At B holds r c k j past h in
      let n : ℕ = kept_below (is_position_kept t) (spells.number x.0) in
      let stands =
      Stands-sifted B t up holds c k (spells.number x.0) (At-Stands B t up r spells holds c k x.0 x.1)
      (Left-lives B t up r spells holds x.0 (c + k) j x.2) in
      let bit =
      Stands-places B (sifted t) (sifted-rising B t up) atom rows c k n
      (Stands-local B (sifted t) (sifted-rising B t up) holds seen c k n
      (λ b i from low. sat-seen B seen (c + k) b i low) stands) in
      let zeros = ap (λ m. bit_at m n) none in
      omega (arith, bit, zeros, bit_at-zero n)

  over-back : (c k : ℕ) → IsAntecedentOver seen (every (plan_sequence r)) (c + k) c → positions_at s c k ≡ 0
  over-back c k over = set-none (positions_at s c k) (λ q bit.
      let holds : B → ℕ → Bool = sat seen (c + k) in
      let stands =
      Stands-local B (sifted t) (sifted-rising B t up) seen holds c k q (λ b i from low. seen-sat B seen (c + k) b i)
      (places-Stands B (sifted t) (sifted-rising B t up) atom rows c k q bit) in
      let f = from-lives B t up q (Stands-below B (sifted t) (sifted-rising B t up) holds c k q stands) in
      let y = Stands-At B t up r spells holds c k (from B t up q) (sifted-Stands B t up holds c k q stands) in
      let rest =
      lives-Left B t up r spells holds y.0 (c + k)
      (λ b i late. or_left (nat_le (c + k) i) (seen b i) (le-leb (c + k) i late))
      (subst (λ p. IsTrue (lives t p)) (sym y.1) f) in
      over rest.0 (Left-after B holds r y.0 (c + k) rest.0 rest.1) (At-Match B holds r c k rest.0 y.0 y.2 rest.1))

  pub section-follows : AutomatonFollows seen (every (plan_sequence r)) s
  section-follows = record {
    ends = λ c k. (ends-forth c k, ends-back c k);
    over = λ c k. (over-forth c k, over-back c k);
  }
