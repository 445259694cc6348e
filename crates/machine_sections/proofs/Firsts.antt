-- A section that accepts first follows the first matches.
use Rattle.std.proofs.Common.{◌≡◌, ◌∙◌, inl, inr, ℕ, zero, suc, ◌+◌, ◌-◌, ◌<◌, ◌≤◌, Bool, true, false, if◌then◌else◌}
use Rattle.std.proofs.Common.{◌||◌, List, [], ◌∷◌, length, map, refl, sym, ap, subst, arith}
use Rattle.std.specs.Prelude.{IsTrue, ◌==◌, slice_index_or, bit_or, ◌^◌}
use Rattle.std.specs.Int.{bit_at}
use Rattle.std.proofs.lemmas.Bool.{both_ways, cases_Bool, cases_lt, cases_eq, ne_eqb, or_cases, or_left, or_right}
use Rattle.std.proofs.lemmas.Nat.Bits.{bit_at-zero}
use Rattle.std.proofs.lemmas.List.{length-map}
use Rattle.bytecode_programs.specs.declared.block_instr.BlockInstr.{BlockInstr}
use Rattle.bytecode_programs.specs.declared.block_instr.BlockInstr.TheVariants.{Unless, Enter, Accept, Stop}
use Rattle.bytecode_programs.specs.declared.block_instr.BlockInstr.TheVariants.{AcceptFirst}
use Rattle.bytecode_programs.specs.Values.{SectionData}
use Rattle.machine_checked.specs.Blocks.{Visit, ended}
use Rattle.assertions.specs.Segments.{Seq, sat, Matches, MatchesFirst}
use Rattle.assertions.specs.Attempts.{every, first_match, IsAntecedentOver}
use Rattle.assertions.proofs.Segments.{Matches-forward}
use Rattle.machine_sections.specs.Automata.{Automaton, positions_at, accepts, AutomatonFollows}
use Rattle.machine_sections.specs.Effects.{effect, effects, visit_of, automaton_of}
use Rattle.machine_sections.specs.Firsts.{first_step, accepting_first, HasNoAcceptFirst, ArePlain, AcceptsFirst}
use Rattle.machine_sections.proofs.Local.{Matches-seen, Matches-sat}

-- ---- what the blocks make

-- what was accepted was accepted first
turned : Visit → Visit
turned v = record { entered = v.entered; accepted = v.accepted; first = v.accepted }

effect-turned : (atoms : List Bool) (k pc : ℕ) (is : List BlockInstr) → HasNoAcceptFirst is → (v : Visit)
    → effect atoms k pc (map first_step is) (turned v) ≡ turned (effect atoms k pc is v)
unfolding turned
effect-turned atoms k pc [] plain v = refl
effect-turned atoms (suc k) pc (Unless atom target ∷ is) plain v = effect-turned atoms k (pc + 1) is plain v
effect-turned atoms (suc k) pc (Enter q ∷ is) plain v = effect-turned atoms k (pc + 1) is plain v
effect-turned atoms (suc k) pc (Accept ∷ is) plain v = effect-turned atoms k (pc + 1) is plain v
effect-turned atoms (suc k) pc (Stop ∷ is) plain v = effect-turned atoms k (pc + 1) is plain v
effect-turned atoms k pc (AcceptFirst ∷ is) plain v = absurd plain
effect-turned atoms zero pc (Stop ∷ is) plain v = refl
effect-turned atoms zero pc (Accept ∷ is) plain v =
    effect-turned atoms zero (pc + 1) is plain (record { entered = v.entered; accepted = true; first = v.first })
effect-turned atoms zero pc (Enter q ∷ is) plain v =
    effect-turned atoms zero (pc + 1) is plain
    (record { entered = bit_or v.entered (2 ^ q); accepted = v.accepted; first = v.first })
effect-turned atoms zero pc (Unless atom target ∷ is) plain v =
    effect-turned atoms (if slice_index_or atoms atom true then 0 else target - (pc + 1)) (pc + 1) is plain v

effect-first : (atoms : List Bool) (k pc : ℕ) (is : List BlockInstr) → HasNoAcceptFirst is → (v : Visit)
    → (effect atoms k pc is v).first ≡ v.first
effect-first atoms k pc [] plain v = refl
effect-first atoms (suc k) pc (Unless atom target ∷ is) plain v = effect-first atoms k (pc + 1) is plain v
effect-first atoms (suc k) pc (Enter q ∷ is) plain v = effect-first atoms k (pc + 1) is plain v
effect-first atoms (suc k) pc (Accept ∷ is) plain v = effect-first atoms k (pc + 1) is plain v
effect-first atoms (suc k) pc (Stop ∷ is) plain v = effect-first atoms k (pc + 1) is plain v
effect-first atoms k pc (AcceptFirst ∷ is) plain v = absurd plain
effect-first atoms zero pc (Stop ∷ is) plain v = refl
effect-first atoms zero pc (Accept ∷ is) plain v =
    effect-first atoms zero (pc + 1) is plain (record { entered = v.entered; accepted = true; first = v.first })
effect-first atoms zero pc (Enter q ∷ is) plain v =
    effect-first atoms zero (pc + 1) is plain
    (record { entered = bit_or v.entered (2 ^ q); accepted = v.accepted; first = v.first })
effect-first atoms zero pc (Unless atom target ∷ is) plain v =
    effect-first atoms (if slice_index_or atoms atom true then 0 else target - (pc + 1)) (pc + 1) is plain v

one-turned : (b : Bool) (v w x : Visit) → v ≡ turned w → (if b then v else turned x) ≡ turned (if b then w else x)
one-turned true v w x e = e
one-turned false v w x e = refl

effects-turned : (atoms : List Bool) (set p base : ℕ) (bs : List (List BlockInstr)) → ArePlain bs → (v : Visit)
    → effects atoms set p base (map (map first_step) bs) (turned v) ≡ turned (effects atoms set p base bs v)
effects-turned atoms set p base [] plain v = refl
effects-turned atoms set p base (b ∷ bs) plain v =
    let long : length (map first_step b) ≡ length b = length-map b first_step in
    let here : Visit = if bit_at set p == 1 then effect atoms 0 base b v else v in
    ap (λ n. effects atoms set (p + 1) (base + n) (map (map first_step) bs)
    (if bit_at set p == 1 then effect atoms 0 base (map first_step b) (turned v) else turned v)) long
    ∙ ap (effects atoms set (p + 1) (base + length b) (map (map first_step) bs))
    (one-turned (bit_at set p == 1) (effect atoms 0 base (map first_step b) (turned v)) (effect atoms 0 base b v) v
    (effect-turned atoms 0 base b plain.0 v))
    ∙ effects-turned atoms set (p + 1) (base + length b) bs plain.1 here

one-first : (b : Bool) (v w : Visit) → v.first ≡ w.first → (if b then v else w).first ≡ w.first
one-first true v w e = e
one-first false v w e = refl

effects-first : (atoms : List Bool) (set p base : ℕ) (bs : List (List BlockInstr)) → ArePlain bs → (v : Visit)
    → (effects atoms set p base bs v).first ≡ v.first
effects-first atoms set p base [] plain v = refl
effects-first atoms set p base (b ∷ bs) plain v =
    effects-first atoms set (p + 1) (base + length b) bs plain.1
    (if bit_at set p == 1 then effect atoms 0 base b v else v)
    ∙ one-first (bit_at set p == 1) (effect atoms 0 base b v) v (effect-first atoms 0 base b plain.0 v)

effects-none : (atoms : List Bool) (p base : ℕ) (bs : List (List BlockInstr)) (v : Visit)
    → effects atoms 0 p base bs v ≡ v
effects-none atoms p base [] v = refl
effects-none atoms p base (b ∷ bs) v =
    ap (λ x. effects atoms 0 (p + 1) (base + length b) bs (if x then effect atoms 0 base b v else v))
    (ne_eqb (bit_at 0 p) 1 (λ e. omega (arith, e, bit_at-zero p)))
    ∙ effects-none atoms (p + 1) (base + length b) bs v

-- a visit, where what accepts leaves no position
halted : Visit → Visit
halted v = record { entered = if v.accepted then 0 else v.entered; accepted = v.accepted; first = v.accepted }

module _ (s : SectionData) (plain : ArePlain s.blocks) (atoms : List Bool) where
  abbrev nothing : Visit
  nothing = record { entered = 0; accepted = false; first = false }

  made-plain : (set : ℕ) → visit_of s atoms set ≡ effects atoms set 0 0 s.blocks nothing
  unfolding visit_of
  made-plain set =
      let v : Visit = effects atoms set 0 0 s.blocks nothing in
      ap (λ b. record { entered = if b then 0 else v.entered; accepted = v.accepted; first = v.first })
      (effects-first atoms set 0 0 s.blocks plain nothing)

  made-first : (set : ℕ) → visit_of (accepting_first s) atoms set ≡ halted (visit_of s atoms set)
  unfolding visit_of turned halted
  made-first set =
      ap ended (effects-turned atoms set 0 0 s.blocks plain nothing)
      ∙ ap halted (sym (made-plain set))

  made-none : visit_of s atoms 0 ≡ nothing
  made-none = made-plain 0 ∙ effects-none atoms 0 0 s.blocks nothing

-- ---- the automaton

-- it accepted at one of so many ticks from c
before : Automaton → ℕ → ℕ → Bool
before a c zero = false
before a c (suc k) = before a c k || accepts a c k

before-some : (a : Automaton) (c k : ℕ) → before a c k ≡ true → (j : ℕ) × (j < k) × IsTrue (accepts a c j)
unfolding before
before-some a c zero h = cc
before-some a c (suc k) h =
    elim (or_cases (before a c k) (accepts a c k) h) [
      | inl was ↦ let x = before-some a c k was in (x.0, omega (arith, x.1), x.2)
      | inr now ↦ (k, omega arith, now)
    ]

some-before : (a : Automaton) (c k j : ℕ) → j < k → IsTrue (accepts a c j) → before a c k ≡ true
unfolding before
some-before a c zero j below h = absurd (omega arith)
some-before a c (suc k) j below h =
    elim (cases_eq j k) [
      | inl same ↦ or_right (before a c k) (accepts a c k) (ap (accepts a c) (sym same) ∙ h)
      | inr other ↦ or_left (before a c k) (accepts a c k) (some-before a c k j (omega arith) h)
    ]

module _ (a f : Automaton) (start : f.start ≡ a.start)
    (steps : (i set : ℕ) → f.step i set ≡ halted (a.step i set)) (quiet : (i : ℕ) → (a.step i 0).accepted ≡ false)
    (empty : (i : ℕ) → (a.step i 0).entered ≡ 0) where
  entered-by : (c k : ℕ) (b : Bool) → positions_at f c k ≡ (if b then 0 else positions_at a c k)
      → positions_at f c (suc k) ≡ (if (b || accepts a c k) then 0 else positions_at a c (suc k))
  unfolding halted
  entered-by c k true e =
      let here : positions_at f c (suc k) ≡ (halted (a.step (c + k) 0)).entered =
      ap (λ n. (f.step (c + k) n).entered) e ∙ ap (λ (v : Visit). v.entered) (steps (c + k) 0) in
      here
      ∙ ap (λ b. if b then 0 else (a.step (c + k) 0).entered) (quiet (c + k))
      ∙ empty (c + k)
  entered-by c k false e =
      ap (λ n. (f.step (c + k) n).entered) e ∙ ap (λ (v : Visit). v.entered) (steps (c + k) (positions_at a c k))

  places-first : (c k : ℕ) → positions_at f c k ≡ (if before a c k then 0 else positions_at a c k)
  unfolding before
  places-first c zero = start
  places-first c (suc k) = entered-by c k (before a c k) (places-first c k)

  accepts-by : (c k : ℕ) (b : Bool) → positions_at f c k ≡ (if b then 0 else positions_at a c k)
      → accepts f c k ≡ (if b then false else accepts a c k)
  unfolding halted
  accepts-by c k true e =
      ap (λ n. (f.step (c + k) n).accepted) e ∙ ap (λ (v : Visit). v.accepted) (steps (c + k) 0) ∙ quiet (c + k)
  accepts-by c k false e =
      ap (λ n. (f.step (c + k) n).accepted) e ∙ ap (λ (v : Visit). v.accepted) (steps (c + k) (positions_at a c k))

  accepts-first : (c k : ℕ) → accepts f c k ≡ (if before a c k then false else accepts a c k)
  accepts-first c k = accepts-by c k (before a c k) (places-first c k)

  module _ (B : Type 0) (value : B → ℕ → Bool) (r : Seq B) (fills : (e : ℕ) → Matches value r e e → ⊥)
      (follows : AutomatonFollows value (every r) a) where
    -- a match that ends by a tick was accepted before it
    match-before : (c k j : ℕ) → j < c + k + 1 → Matches value r c j → before a c k ≡ true
    match-before c k j below m =
        let forward = Matches-forward B value r c j m in
        elim (cases_eq c j) [
          | inl same ↦ absurd (fills c (subst (Matches value r c) (sym same) m))
          | inr other ↦
              let last : j ≡ c + (j - c - 1) + 1 = omega arith in
              some-before a c k (j - c - 1) (omega arith)
              ((follows.ends c (j - c - 1)).1 (subst (Matches value r c) last m))
        ]

    before-match : (c k : ℕ) → before a c k ≡ true → (j : ℕ) × (j < c + k + 1) × Matches value r c j
    before-match c k h =
        let x = before-some a c k h in
        (c + x.0 + 1, omega (arith, x.1), (follows.ends c x.0).0 x.2)

    first-ends : (c k : ℕ) → IsTrue (accepts f c k) → MatchesFirst value r c (c + k + 1)
    first-ends c k h =
        elim (cases_Bool (before a c k)) [
          | inl was ↦
              let off = accepts-first c k ∙ ap (λ b. if b then false else accepts a c k) was in
              absurd (both_ways (accepts f c k) off h)
          | inr never ↦
              let on = sym (accepts-first c k ∙ ap (λ b. if b then false else accepts a c k) never) ∙ h in (
                (follows.ends c k).0 on,
                λ j below m. both_ways (before a c k) never (match-before c k j below m),
              )
        ]

    ends-first : (c k : ℕ) → MatchesFirst value r c (c + k + 1) → IsTrue (accepts f c k)
    ends-first c k m =
        elim (cases_Bool (before a c k)) [
          | inl was ↦ let x = before-match c k was in absurd (m.1 x.0 x.1 x.2)
          | inr never ↦
              accepts-first c k ∙ ap (λ b. if b then false else accepts a c k) never ∙ (follows.ends c k).1 m.0
        ]

    over-first : (c k : ℕ) → positions_at f c k ≡ 0 → (j : ℕ) → c + k < j → MatchesFirst (sat value (c + k)) r c j → ⊥
    over-first c k none j later m =
        elim (cases_Bool (before a c k)) [
          | inl was ↦
              let x = before-match c k was in
              m.1 x.0 (omega (arith, x.1, later)) (Matches-sat B value r (c + k) c x.0 x.2)
          | inr never ↦
              let gone = sym (places-first c k ∙ ap (λ b. if b then 0 else positions_at a c k) never) ∙ none in
              (follows.over c k).0 gone j later m.0
        ]

    -- where no first match is possible and none was, no match is possible
    none-later : (c k : ℕ) → before a c k ≡ false
        → ((j : ℕ) → c + k < j → MatchesFirst (sat value (c + k)) r c j → ⊥) → (n j : ℕ) → j < n → c + k < j
        → Matches (sat value (c + k)) r c j → ⊥
    none-later c k never over zero j below later m = omega arith
    none-later c k never over (suc n) j below later m =
        over j later (
          m,
          λ i less m'.
              elim (cases_lt (c + k) i) [
                | inl after ↦ none-later c k never over n i (omega arith) after m'
                | inr by ↦
                    both_ways (before a c k) never
                    (match-before c k i (omega arith) (Matches-seen B value r (c + k) c i by m'))
              ],
        )

    first-over : (c k : ℕ) → ((j : ℕ) → c + k < j → MatchesFirst (sat value (c + k)) r c j → ⊥) → positions_at f c k ≡ 0
    first-over c k over =
        elim (cases_Bool (before a c k)) [
          | inl was ↦ places-first c k ∙ ap (λ b. if b then 0 else positions_at a c k) was
          | inr never ↦
              places-first c k ∙ ap (λ b. if b then 0 else positions_at a c k) never
              ∙ (follows.over c k).1 (λ j later m. none-later c k never over (suc j) j (omega arith) later m)
        ]

    follows-first : AutomatonFollows value (first_match r) f
    follows-first = record {
      ends = λ c k. (first-ends c k, ends-first c k);
      over = λ c k. (over-first c k, first-over c k);
    }

pub law : AcceptsFirst
law s atoms value r plain fills follows =
    follows-first (automaton_of s atoms) (automaton_of (accepting_first s) atoms) refl
    (λ i set. made-first s plain (atoms i) set)
    (λ i. ap (λ (v : Visit). v.accepted) (made-none s plain (atoms i)))
    (λ i. ap (λ (v : Visit). v.entered) (made-none s plain (atoms i))) _ value r fills follows
