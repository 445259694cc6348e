-- Reading fields of a kind one after the other, as a loop does.
use Rattle.std.proofs.Common.{◌≡◌, ℕ, suc, ◌-◌, ◌+◌, ◌≤◌, ◌<◌, List, [], ◌∷◌, ◌++◌, map, Result, Ok, Err, refl, sym, ap}
use Rattle.std.proofs.Common.{◌∙◌, append_assoc, arith}
use Rattle.std.proofs.lemmas.List.{append-nil, map_push}
use Rattle.std.proofs.Common.{Vec, Global}
use Rattle.bytecode_programs.specs.declared.block_instr.BlockInstr.{BlockInstr}
use Rattle.bytecode.specs.declared.stop.Stop.{Stop}
use Rattle.bytecode.specs.declared.stop.Stop.TheVariants as stops
use Rattle.bytecode.specs.Reading.{◌>>=◌, Fails, Reader, many_at}

-- what was read before, and what is still read
abbrev pub with_front : {A : Type 0} → List A → Result (List A × List ℕ) Stop → Result (List A × List ℕ) Stop
with_front front read = read >>= λ x. Ok (front ++ x.0, x.1)

-- What was found stands before what is left to read.
pub record Turns {A : Type 0} (read : Reader A) (count i : ℕ) (front : List A) (rest : List ℕ)
    (total : Result (List A × List ℕ) Stop) : Type 0 where
  pub same : with_front front (many_at read (count - i) rest) ≡ total

regroup : {A : Type 0} (front : List A) (x : A) (read : Result (List A × List ℕ) Stop)
    → with_front front (read >>= λ y. Ok (x ∷ y.0, y.1)) ≡ with_front (front ++ x ∷ []) read
regroup front x (Ok y) = ap (λ xs. Ok (xs, y.1)) (simp append_assoc)
regroup front x (Err f) = refl

module _ {A : Type 0} (read : Reader A) (count i : ℕ) (front : List A) (rest : List ℕ)
    (total : Result (List A × List ℕ) Stop) (so_far : Turns read count i front rest total) where
  pub turns-next : (x : A) (behind : List ℕ) (more : List A) → i < count → read rest ≡ Ok (x, behind)
      → more ≡ front ++ x ∷ [] → Turns read count (i + 1) more behind total
  unfolding many_at
  turns-next x behind more lt h e =
      let k : count - i ≡ suc (count - (i + 1)) = omega arith in
      let one : with_front front (many_at read (count - i) rest)
      ≡ with_front (front ++ x ∷ []) (many_at read (count - (i + 1)) behind) =
      rw (k, h) (regroup front x (many_at read (count - (i + 1)) behind)) in
      record {
        same = ap (λ (xs : List A). with_front xs (many_at read (count - (i + 1)) behind)) e ∙ sym one
            ∙ so_far.same;
      }

  turns-err : (e : Stop) → i < count → read rest ≡ Err e → total ≡ Err e
  unfolding many_at
  turns-err e lt h =
      let k : count - i ≡ suc (count - (i + 1)) = omega arith in
      let one : with_front front (many_at read (count - i) rest) ≡ Err e = rw (k, h) refl in
      sym so_far.same ∙ one

  pub turns-fail : (e : Stop) → i < count → Fails e (read rest) → Fails e total
  turns-fail stops.Memory lt h = tt
  turns-fail stops.Magic lt h = turns-err stops.Magic lt h
  turns-fail stops.Version lt h = turns-err stops.Version lt h
  turns-fail stops.Cut lt h = turns-err stops.Cut lt h
  turns-fail (stops.Opcode left) lt h = turns-err (stops.Opcode left) lt h
  turns-fail (stops.Field left) lt h = turns-err (stops.Field left) lt h
  turns-fail (stops.Trailing left) lt h = turns-err (stops.Trailing left) lt h

  pub turns-done : count ≤ i → total ≡ Ok (front, rest)
  unfolding many_at
  turns-done le =
      let k : count - i ≡ 0 = omega arith in
      let one : with_front front (many_at read (count - i) rest) ≡ Ok (front, rest) =
      rw k (ap (λ (xs : List A). Ok (xs, rest)) (append-nil front)) in
      sym so_far.same ∙ one

pub pushed : {A B : Type 0} (view : A → B) (xs ys : List A) (x : A) → ys ≡ xs ++ x ∷ []
    → map view ys ≡ map view xs ++ view x ∷ []
pushed view xs ys x e = ap (map view) e ∙ map_push view xs x

abbrev pub items_of_block : Vec BlockInstr Global → List BlockInstr
items_of_block b = b.items
