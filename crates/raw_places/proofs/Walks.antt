-- What the walks with an allocator share. Assumes `Logic`.
use Rattle.std.proofs.Common.{ℕ, zero, suc, List, [], ◌∷◌}
use seplogic.Ra.Ura.{Ura}
use mir.Syntax.{Body}
use prog.Wp.{Env, Calls, Loops, Wp, after_seq, after_block}
use base.Logic.{SProp, ent, sep, emp}
use contract.Monad.{fact, fact_i}
use types.Logic.{Logic}
use types.Kit.{Post, any_q, post, raw, ◌$◌, !, qed, use0, join, done}
use denote.Builtin.{unit}
use denote.Signature.{Slot, plain}

-- a parameter of a signature
abbrev pub slot_at : {n : ℕ} → ℕ → List (Slot n) → Slot n
slot_at k [] = plain (λ _. unit)
slot_at zero (s ∷ ss) = s
slot_at (suc k) (s ∷ ss) = slot_at k ss

module _ {M : Type 1} {𝓤 : Ura M} (𝓛 : Logic 𝓤) where
  open 𝓛 use {H}

  -- what follows a part of a body, and a block
  abbrev pub then_runs : Calls 𝓤 H → Loops 𝓤 H → Env 𝓤 H → Body → Post 𝓤 H → Post 𝓤 H
  then_runs C Λ E b q = any_q (after_seq 𝓤 H (Wp 𝓤 H C Λ E b (post 𝓤 H q)) (post 𝓤 H q))

  abbrev pub out_of_block : Post 𝓤 H → Post 𝓤 H
  out_of_block q = any_q (after_block 𝓤 H (post 𝓤 H q))

  -- four clauses of an `ensures`
  abbrev pub four : Type 0 → Type 0 → Type 0 → Type 0 → SProp 𝓤
  four φ ψ χ ω = sep 𝓤 (fact 𝓤 φ) (sep 𝓤 (fact 𝓤 ψ) (sep 𝓤 (fact 𝓤 χ) (fact 𝓤 ω)))

  pub all_four : {φ ψ χ ω : Type 0} → φ → ψ → χ → ω → ent 𝓤 (emp 𝓤) (four φ ψ χ ω)
  all_four {φ} {ψ} {χ} {ω} x y z w = qed 𝓛 [] {P = four φ ψ χ ω} (
      use0 𝓛 (raw (fact 𝓤 ω)) (fact_i 𝓤 ω (emp 𝓤) w) $
      use0 𝓛 (raw (fact 𝓤 χ)) (fact_i 𝓤 χ (emp 𝓤) z) $ join ! $
      use0 𝓛 (raw (fact 𝓤 ψ)) (fact_i 𝓤 ψ (emp 𝓤) y) $ join ! $
      use0 𝓛 (raw (fact 𝓤 φ)) (fact_i 𝓤 φ (emp 𝓤) x) $ join ! $ done !)
