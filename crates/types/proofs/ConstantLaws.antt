-- What weighs nothing matches empty segments alone, or nothing.
use Rattle.std.proofs.Common.{◌≡◌, ℕ, zero, suc, ◌+◌, ◌≤◌, Bool, true, false, sym, subst, ◌∙◌, arith}
use Rattle.std.proofs.lemmas.Bool.{false≢true}
use Rattle.assertions.specs.declared.sequence.Boolean.{Boolean}
use Rattle.assertions.specs.declared.sequence.Boolean.TheVariants.{One}
use Rattle.assertions.specs.Segments.{Seq, one, fuse, times, Matches, Chain}
use Rattle.assertions.specs.Written.{Written, kernel, weight, IsOrdered}
use Rattle.assertions.specs.Emptiness.{admits_empty}
use Rattle.assertions.proofs.Segments.{Matches-forward, Matches-longest}
use Rattle.assertions.proofs.WeightLaws.{weight_covers}
use Rattle.assertions.proofs.EmptinessLaws.{empty-Matches, Matches-empty}
use Rattle.types.specs.Entries.{Alike}

abbrev pub empty_seq : Seq Boolean
empty_seq = times (one One) 0 0

abbrev pub never_seq : Seq Boolean
never_seq = fuse empty_seq empty_seq

takes_nothing : (holds : Boolean → ℕ → Bool) (w : Written Boolean) (i j : ℕ) → IsOrdered w → weight w ≡ 0
    → Matches holds (kernel One w) i j → i ≡ j
takes_nothing holds w i j o z m =
    omega (
      arith,
      z,
      Matches-forward Boolean holds (kernel One w) i j m,
      Matches-longest Boolean holds (kernel One w) i j m,
      weight_covers Boolean One w o,
    )

chain_of_none : (P : ℕ → ℕ → Type 0) (count i j : ℕ) → count ≤ 0 → Chain P count i j → i ≡ j
chain_of_none P zero i j le c = c
chain_of_none P (suc count) i j le c = absurd (omega (arith, le))

pub alike_empty : (holds : Boolean → ℕ → Bool) (w : Written Boolean) → IsOrdered w → weight w ≡ 0
    → admits_empty w ≡ true → Alike holds holds (kernel One w) empty_seq
alike_empty holds w o z e i j = (
  λ m. (0, omega arith, omega arith, takes_nothing holds w i j o z m),
  λ m. subst (λ (k : ℕ). Matches holds (kernel One w) i k) (chain_of_none (Matches holds (one One)) m.0 i j m.2 m.3)
      (empty-Matches Boolean holds One w i o e),
)

empty_at_most : (holds : Boolean → ℕ → Bool) (i j : ℕ) → Matches holds empty_seq i j → i ≡ j
empty_at_most holds i j m = chain_of_none (Matches holds (one One)) m.0 i j m.2 m.3

never_matches : (holds : Boolean → ℕ → Bool) (i j : ℕ) → Matches holds never_seq i j → ⊥
never_matches holds i j m = omega (arith, m.1, empty_at_most holds i (m.0 + 1) m.3)

pub alike_never : (holds : Boolean → ℕ → Bool) (w : Written Boolean) → IsOrdered w → weight w ≡ 0
    → admits_empty w ≡ false → Alike holds holds (kernel One w) never_seq
alike_never holds w o z e i j = (
  λ m. absurd (not_empty (subst (λ (k : ℕ). Matches holds (kernel One w) i k) (sym (takes_nothing holds w i j o z m))
      m)),
  λ m. absurd (never_matches holds i j m),
)
  where
    not_empty : Matches holds (kernel One w) i i → ⊥
    not_empty m = false≢true (sym e ∙ Matches-empty Boolean holds One w i o m)
