-- What a property has come to stays, and is one outcome at most.
use Rattle.std.proofs.Common.{inl, inr, ℕ, ◌+◌, ◌≤◌, Bool, nat_le, arith}
use Rattle.std.specs.Prelude.{nat_lt, IsTrue}
use Rattle.std.proofs.lemmas.Bool.{or_cases, or_left, or_right, and_parts, and_from, cases_lt, leb-true, le-leb}
use Rattle.std.proofs.lemmas.Bool.{ltb-true, lt-ltb}
use Rattle.assertions.specs.Segments.{Seq, sat, Matches}
use Rattle.assertions.proofs.Segments.{Matches-mono}
use Rattle.import_properties.specs.Conditions.{unsat}
use Rattle.import_properties.specs.Properties.{Form, sequence, negated, either, both, implied, next, until}
use Rattle.import_properties.specs.Outcomes.{ComesTo, Outcome, failed, good}
use Rattle.import_properties.proofs.LetterLaws.{Matches-unsat-sat}

module _ (B : Type 0) (value : B → ℕ → Bool) where
  -- seen more, fewer ticks are free
  sat-later : (m n : ℕ) → m ≤ n → (b : B) (k : ℕ) → IsTrue (sat value n b k) → IsTrue (sat value m b k)
  sat-later m n le b k t = elim (or_cases (nat_le n k) (value b k) t) [
    | inl late ↦ or_left (nat_le m k) (value b k) (le-leb m k (omega (arith, le, leb-true n k late)))
    | inr here ↦ or_right (nat_le m k) (value b k) here
  ]

  unsat-later : (m n : ℕ) → m ≤ n → (b : B) (k : ℕ) → IsTrue (unsat value m b k) → IsTrue (unsat value n b k)
  unsat-later m n le b k t =
      let p = and_parts (nat_lt k m) (value b k) t in
      and_from (nat_lt k n) (value b k) (lt-ltb k n (omega (arith, le, ltb-true k m p.0))) p.1

  module _ (m n : ℕ) (le : m ≤ n) where
    fewer : (r : Seq B) (i j : ℕ) → Matches (sat value n) r i j → Matches (sat value m) r i j
    fewer r i j h = Matches-mono B (sat value n) (sat value m) (sat-later m n le) r i j h

    more : (r : Seq B) (i j : ℕ) → Matches (unsat value m) r i j → Matches (unsat value n) r i j
    more r i j h = Matches-mono B (unsat value m) (unsat value n) (unsat-later m n le) r i j h

    -- what has been decided stays decided
    pub stays : (p : Form B) (o : Outcome) (c : ℕ) → ComesTo value m p o c → ComesTo value n p o c
    stays (sequence s) failed c h = λ j some match. h j some (fewer s c j match)
    stays (sequence s) good c h = (h.0, h.1, more s c h.0 h.2)
    stays (negated p) failed c h = stays p good c h
    stays (negated p) good c h = stays p failed c h
    stays (either p q) failed c h = (stays p failed c h.0, stays q failed c h.1)
    stays (either p q) good c h = elim h [ inl a ↦ inl (stays p good c a) | inr a ↦ inr (stays q good c a) ]
    stays (both p q) failed c h = elim h [ inl a ↦ inl (stays p failed c a) | inr a ↦ inr (stays q failed c a) ]
    stays (both p q) good c h = (stays p good c h.0, stays q good c h.1)
    stays (implied r p) failed c h = (h.0, h.1, more r c (h.0 + 1) h.2, stays p failed h.0 h.3)
    stays (implied r p) good c h = λ e from match. stays p good e (h e from (fewer r c (e + 1) match))
    stays (next p) failed c h = stays p failed (c + 1) h
    stays (next p) good c h = stays p good (c + 1) h
    stays (until p q) failed c h =
        (h.0, h.1, stays p failed h.0 h.2, λ k from to. stays q failed k (h.3 k from to))
    stays (until p q) good c h = elim h [
      | inl a ↦ inl (a.0, a.1, stays q good a.0 a.2, λ k from below. stays p good k (a.3 k from below))
      | inr a ↦ inr (λ k from. stays p good k (a k from))
    ]

  -- a property that has failed isn't good
  pub never_both : (p : Form B) (n c : ℕ) → ComesTo value n p failed c → ComesTo value n p good c → ⊥
  never_both (sequence s) n c f g = f g.0 g.1 (Matches-unsat-sat B value n s c g.0 g.2)
  never_both (negated p) n c f g = never_both p n c g f
  never_both (either p q) n c f g = elim g [ inl a ↦ never_both p n c f.0 a | inr a ↦ never_both q n c f.1 a ]
  never_both (both p q) n c f g = elim f [ inl a ↦ never_both p n c a g.0 | inr a ↦ never_both q n c a g.1 ]
  never_both (implied r p) n c f g =
      never_both p n f.0 f.3 (g f.0 f.1 (Matches-unsat-sat B value n r c (f.0 + 1) f.2))
  never_both (next p) n c f g = never_both p n (c + 1) f g
  never_both (until p q) n c f g = elim g [
    | inl a ↦ elim (cases_lt f.0 a.0) [
      | inl below ↦ never_both p n f.0 f.2 (a.3 f.0 f.1 below)
      | inr reached ↦ never_both q n a.0 (f.3 a.0 a.1 reached) a.2
    ]
    | inr a ↦ never_both p n f.0 f.2 (a f.0 f.1)
  ]
