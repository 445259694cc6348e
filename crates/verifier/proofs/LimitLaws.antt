-- Lives, from the last position on.
use Rattle.std.proofs.Common.{◌≡◌, inl, inr, ℕ, ◌+◌, ◌<◌, ◌≤◌, List, ◌∷◌, length, drop, set, sym}
use Rattle.std.proofs.Common.{ap, ◌∙◌, subst, arith}
use Rattle.std.specs.Prelude.{slice_index}
use Rattle.std.proofs.lemmas.List.{drop-set, get_or-set_same, get_or-set_other}
use Rattle.std.proofs.lemmas.Bool.{cases_eq}
use Rattle.bytecode_programs.specs.declared.block_instr.BlockInstr.{BlockInstr}
use Rattle.verifier.specs.Limits.{longest_entered, lives_from, with_life}

pub lives_step : (lives : List ℕ) (bs : List (List BlockInstr)) (k p life : ℕ) (b : List BlockInstr) → k ≡ p + 1
    → p < length lives → drop k lives ≡ lives_from k (drop k bs) → drop p bs ≡ b ∷ drop (p + 1) bs →
    life ≡ 1 + longest_entered (p + 1) (drop (p + 1) lives) b → drop p (set lives p life) ≡ lives_from p (drop p bs)
lives_step lives bs k p life b e below left block is =
    let later : drop (p + 1) lives ≡ lives_from (p + 1) (drop (p + 1) bs) =
    subst (λ (n : ℕ). drop n lives ≡ lives_from n (drop n bs)) e left in
    drop-set lives p life below ∙ ap (λ l. l ∷ drop (p + 1) lives) is ∙ ap (with_life p b) later
    ∙ ap (lives_from p) (sym block)

pub few_step : (lives : List ℕ) (p life m : ℕ) → p < length lives → life ≤ m → ((j : ℕ) → slice_index lives j ≤ m)
    → (j : ℕ) → slice_index (set lives p life) j ≤ m
few_step lives p life m below small few j =
    elim (cases_eq j p) [
      | inl same ↦ omega (arith, small, ap (slice_index (set lives p life)) same, get_or-set_same lives p life 0 below)
      | inr other ↦ omega (arith, few j, get_or-set_other lives p j life 0 other)
    ]
