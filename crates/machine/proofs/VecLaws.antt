-- Vectors that were written as slices.
use Rattle.std.proofs.Common.{◌≡◌, List, ◌++◌, length, take, drop, Vec, sym, ap, ◌∙◌}
use Rattle.std.proofs.Math.Seq.{take-append_seam}
use Rattle.std.specs.Vec.{vec_len, with_items}

module _ {X Z : Type 0} where
  pub vec-long : (v : Vec X Z) → vec_len v ≡ length v.items
  vec-long v = v.ok.0

  pub refilled : (v : Vec X Z) (ws : List X) → length ws ≡ length v.items → (with_items v ws).items ≡ ws
  refilled v ws same =
      let long : v.len ≡ length ws = vec-long v ∙ sym same in
      ap (λ n. take n (ws ++ drop (length ws) v.items)) long ∙ take-append_seam ws (drop (length ws) v.items)
