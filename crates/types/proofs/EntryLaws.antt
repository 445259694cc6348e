-- Entries from those of the parts.
use Rattle.std.proofs.Common.{ℕ, zero, suc, ◌*◌, ◌<◌, ◌≤◌, Result, Ok, Err, Option, Some, None, arith}
use Rattle.std.specs.Prelude.{IfOk, IfSome}
use Rattle.std.proofs.Math.Nat.{le-mul_of_pos_right, mul_comm}

pub ok_map : {X E : Type 0} (r : Result X E) (P Q : X → Type 0) → ((x : X) → P x → Q x) → IfOk r P → IfOk r Q
ok_map (Ok x) P Q f h = f x h
ok_map (Err e) P Q f h = h

pub some_map : {X : Type 0} (o : Option X) (P Q : X → Type 0) → ((x : X) → P x → Q x) → IfSome o P → IfSome o Q
some_map None P Q f h = h
some_map (Some x) P Q f h = f x h

pub left_factor : (a b n : ℕ) → 1 ≤ a * b → a * b ≤ n → a ≤ n
left_factor a zero n some most = absurd (omega (arith, some))
left_factor a (suc b) n some most = omega (arith, most, le-mul_of_pos_right a (let h : zero < suc b = omega arith in h))

pub right_factor : (a b n : ℕ) → 1 ≤ a * b → a * b ≤ n → b ≤ n
right_factor a b n some most = left_factor b a n (rw (mul_comm b a) some) (rw (mul_comm b a) most)
