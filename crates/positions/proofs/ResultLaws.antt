-- What a call found, of something that is equal.
use Rattle.std.proofs.Common.{◌≡◌, ◌∙◌, ℕ, ◌≤◌, ◌<◌, Result, Ok, Err, IfOk, IfErr, subst, refl, arith}
use Rattle.positions.specs.declared.fault.SectionFault.{SectionFault}
use Rattle.positions.specs.declared.fault.SectionFault.TheVariants.{TooLong, Memory}
use Rattle.positions.specs.Faults.{IsLong}

pub ok_same : {X E : Type 0} (r : Result X E) (a b : X) → IfOk r (λ t. t ≡ a) → a ≡ b → IfOk r (λ t. t ≡ b)
ok_same (Ok x) a b h e = h ∙ e
ok_same (Err f) a b h e = h

pub ok_view : {X E V : Type 0} (view : X → V) (r : Result X E) (a b : V) → IfOk r (λ x. view x ≡ a) → a ≡ b
    → IfOk r (λ x. view x ≡ b)
ok_view view (Ok x) a b h e = h ∙ e
ok_view view (Err f) a b h e = h

pub err_view : {X E : Type 0} (P Q : E → Type 0) (r : Result X E) → IfErr r P → ((f : E) → P f → Q f) → IfErr r Q
err_view P Q (Ok x) h more = h
err_view P Q (Err f) h more = more f h

pub err_more : {X : Type 0} (r : Result X SectionFault) (n m : ℕ) → IfErr r (IsLong n) → n ≤ m → IfErr r (IsLong m)
err_more (Ok x) n m h le = h
err_more (Err f) n m h le = λ is. let over = h is in omega (arith, over, le)

pub err_same : {X : Type 0} (r : Result X SectionFault) (n m : ℕ) → IfErr r (IsLong n) → n ≡ m → IfErr r (IsLong m)
err_same (Ok x) n m h e = h
err_same (Err f) n m h e = λ is. subst (λ k. 65535 < k) e (h is)

pub never_long : {X : Type 0} (r : Result X SectionFault) (n : ℕ) → IfErr r (IsLong n) → n ≤ 65535
    → IfErr r (λ f. f ≡ Memory)
never_long (Ok x) n h le = h
never_long (Err TooLong) n h le = absurd (omega (arith, h refl))
never_long (Err Memory) n h le = refl
