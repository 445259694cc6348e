-- The code of a counter leaves its value at the next tick.
use Rattle.std.proofs.Common.{◌≡◌, ◌∙◌, inl, inr, ℕ, ◌+◌, ◌-◌, ◌/◌, ◌%◌, ◌^◌, ◌<◌, ◌≤◌, max, min}
use Rattle.std.proofs.Common.{Bool, true, false, List, [], ◌∷◌, ◌++◌, Option, Some, None, refl, sym}
use Rattle.std.proofs.Common.{ap, subst, arith}
use Rattle.std.specs.Prelude.{slice_get, nat_le, ◌==◌, if◌then◌else◌, not, unwrap_or}
use Rattle.std.specs.List.{AllByRecursion}
use Rattle.std.proofs.lemmas.Bool.{leb-true, leb-false, cases_lt}
use Rattle.std.proofs.Math.Nat.{div-one, mod-eq_of_lt}
use Rattle.signals.specs.Tests.{one_if}
use Rattle.expressions.specs.declared.expr.Expr.{Expr}
use Rattle.expressions.specs.declared.rule.Rule.{Rule}
use Rattle.expressions.specs.declared.counter.Counter.{Counter}
use Rattle.expressions.specs.Terms.{Term, Samples, width_of, value_of, is_true}
use Rattle.expressions.specs.Expressions.{term_of}
use Rattle.expressions.specs.Counters.{holds, rule_value, next_count}
use Rattle.expressions.proofs.Fits.{value_fits}
use Rattle.bytecode_programs.specs.declared.limits.Limits.{Limits}
use Rattle.bytecode_programs.specs.declared.operator.JoinOperator.TheVariants.{AddSat, SubSat}
use Rattle.bytecode_programs.specs.declared.sample_instr.SampleInstr.{SampleInstr}
use Rattle.bytecode_programs.specs.declared.sample_instr.SampleInstr.TheVariants.{Push, Load, Join, Slice}
use Rattle.bytecode_programs.specs.declared.sample_instr.SampleInstr.TheVariants.{Mux}
use Rattle.bytecode_programs.specs.Instructions.{FrameData}
use Rattle.machine_checked.specs.Samples.{Operand, operand}
use Rattle.compiler.specs.Codes.{Slots, code_of, need, reach}
use Rattle.compiler.specs.Samples.{truth_code, cut, number_code, amount_code, balance_code}
use Rattle.compiler.specs.Samples.{sum_code, loaded_code, cleared_code, Held, held_slot}
use Rattle.compiler.specs.Samples.{next_code, amount_need, sum_need, loaded_need}
use Rattle.compiler.specs.Samples.{cleared_need, need_two, next_need, rule_terms}
use Rattle.compiler.specs.Samples.{clear_terms}
use Rattle.compiler.specs.Samples.{counter_terms, largest}
use Rattle.compiler.specs.Laws.{EachPart, IsInFrame, TellsTicks, TellsNames, IsCount}
use Rattle.compiler.proofs.Lists.{all-front, all-back}
use Rattle.compiler.proofs.Steps.{Moves, Puts, moves-room, moves-then}
use Rattle.compiler.proofs.Steps.{moves-none, puts-one, puts-two, puts-three}
use Rattle.compiler.proofs.Instructions.{push-moves, slice-moves, join-moves, mux-moves}
use Rattle.compiler.proofs.Instructions.{read-moves, zero-moves, raw_bit, tested-bit}
use Rattle.compiler.proofs.OperatorLaws.{moves-to}
use Rattle.compiler.proofs.ExpressionLaws.{raw, need-some, raw-leaves}
use Rattle.compiler.proofs.Values.{raw_bit-value, raw-value}

-- One of the two differences is 0, and the other moves the value, held at its end: the whole
-- number,
-- held between 0 and the largest.
balance :
    (now n m most : ℕ) → now ≤ most →
    min (now + (n - m)) most - (m - n) ≡ min ((now + n) - m) most
balance now n m most le = elim (cases_lt n m) [
  | inl less ↦ omega (arith, less, le)
  | inr more ↦ omega (arith, more, le)
]

chosen-amount :
    (b : Bool) (x : ℕ) →
    (if one_if (not b) == 1 then x else 0) ≡ unwrap_or (if not b then Some x else None) 0
chosen-amount true x = refl
chosen-amount false x = refl

chosen-load :
    (b : Bool) (x y : ℕ) →
    (if one_if (not b) == 1 then x else y) ≡ unwrap_or (if not b then Some x else None) y
chosen-load true x y = refl
chosen-load false x y = refl

chosen-clear :
    (b : Bool) (y : ℕ) → (if one_if (not b) == 1 then 0 else y) ≡ (if not b then 0 else y)
chosen-clear true y = refl
chosen-clear false y = refl

-- What the code of an expression asks of its frame, its rows and the declared history.
pub record IsServed (f : FrameData) (d : Limits) (t : Samples) (at : Slots) (s : ℕ → ℕ → ℕ) (k : ℕ)
    (e : Term) : Type 0 where
  pub placed : EachPart (IsInFrame f at) e
  pub told : TellsNames t at s k e
  pub near : reach e ≤ d.history

module _ (f : FrameData) (d : Limits) (t : Samples) (at : Slots) (s : ℕ → ℕ → ℕ) (k : ℕ) (one :
    slice_get f.slots 0 ≡ Some 1) (ticks : TellsTicks s k) where
  abbrev Here : Term → Type 0
  Here e = IsServed f d t at s k e

  abbrev Gives : List SampleInstr → ℕ → ℕ → ℕ → Type 0
  Gives code w v room = Puts f d s code (operand w v) room

  pub value-puts :
      (e : Term) (w : ℕ) → Here e → width_of e ≤ w →
      Gives (code_of at e w 0) w (value_of t e k w) (need e)
  value-puts e w h le =
      moves-to f d s (code_of at e w 0) [] w (raw s at e w 0) (value_of t e k w) (need e)
      (raw-value t at s k ticks e w 0 h.told le (omega arith)
      ∙ ap (λ j. value_of t e j w) (omega arith))
      (raw-leaves f d at s one e w 0 h.placed le (omega (arith, h.near)))

  -- one bit after the code: the truth
  pub truth-puts :
      (e : Term) → Here e → Gives (truth_code at e) 1 (one_if (is_true t e k)) (need e)
  truth-puts e h =
      let v : ℕ = value_of t e k (width_of e) in
      moves-to f d s (truth_code at e) [] 1 (raw_bit (width_of e) v) (one_if (is_true t e k)) (need
      e)
      (raw_bit-value (width_of e) v (value_fits t e k (width_of e) (omega arith)))
      (tested-bit f d s (code_of at e (width_of e) 0) (width_of e) v (need e) (need-some e)
      (value-puts e (width_of e) h (omega arith)))

  -- the low bits, where the value has more
  cuts :
      (b : Bool) (from w v : ℕ) → nat_le from w ≡ b → 1 ≤ w → v < 2 ^ max w from →
      Moves f d s (if b then [] else Slice (w - 1) 0 ∷ []) (operand (max w from) v ∷ [])
      (operand w (v % 2 ^ w) ∷ []) 1
  cuts true from w v is some fits =
      let le : from ≤ w = leb-true from w is in
      let same : max w from ≡ w = omega (arith, le) in
      let small : v < 2 ^ w = subst (λ n. v < 2 ^ n) same fits in
      subst (λ n. Moves f d s [] (operand n v ∷ []) (operand w (v % 2 ^ w) ∷ []) 1) (sym same)
      (subst (λ n. Moves f d s [] (operand w v ∷ []) (operand w n ∷ []) 1)
      (sym (mod-eq_of_lt small)) (moves-none f d s (operand w v ∷ []) 1))
  cuts false from w v is some fits =
      let lt : w < from = leb-false from w is in
      let back : w - 1 - 0 + 1 ≡ w = omega (arith, some) in
      let whole : v / 2 ^ 0 % 2 ^ w ≡ v % 2 ^ w = ap (λ n. n % 2 ^ w) (div-one v) in
      moves-to f d s (Slice (w - 1) 0 ∷ []) (operand (max w from) v ∷ []) w (v / 2 ^ 0 % 2 ^ w)
      (v % 2 ^ w) 1 whole
      (subst
      (λ n. Moves f d s (Slice (w - 1) 0 ∷ []) (operand (max w from) v ∷ [])
      (operand n (v / 2 ^ 0 % 2 ^ n) ∷ []) 1) back
      (slice-moves f d s (max w from) v (w - 1) 0 (omega (arith, lt, some))))

  abbrev low_bits : ℕ → Term → ℕ
  low_bits w e = value_of t e k (max w (width_of e)) % 2 ^ w

  number-puts :
      (e : Term) (w : ℕ) → 1 ≤ w → Here e → Gives (number_code at w e) w (low_bits w e) (need e)
  number-puts e w some h =
      let m : ℕ = max w (width_of e) in
      let v : ℕ = value_of t e k m in
      puts-one f d s (code_of at e m 0) (cut (width_of e) w) (operand m v) (operand w (v % 2 ^ w))
      (need e) (need-some e) (value-puts e m h (omega arith))
      (cuts (nat_le (width_of e) w) (width_of e) w v refl some (value_fits t e k m (omega arith)))

  abbrev amount_of : ℕ → Option Rule → ℕ
  amount_of w r = unwrap_or (rule_value t w r k) 0

  amount-some : (r : Rule) → 1 ≤ amount_need r
  amount-some r = omega arith

  amount-puts :
      (r : Rule) (w : ℕ) → 1 ≤ w → Here (term_of r.when) → Here (term_of r.by) →
      Gives (amount_code at w r) w (amount_of w (Some r)) (amount_need r)
  amount-puts r w some g h =
      let c : Term = term_of r.when in
      let e : Term = term_of r.by in
      let zero : Bool = value_of t c k (width_of c) == 0 in
      let p : ℕ = one_if (is_true t c k) in
      let x : ℕ = low_bits w e in
      moves-to f d s (amount_code at w r) [] w (if p == 1 then x else 0) (amount_of w (Some r))
      (amount_need r) (chosen-amount zero x)
      (moves-room f d s (amount_code at w r) [] (operand w (if p == 1 then x else 0) ∷ [])
      (max (max (need c) (1 + need e)) 3) (amount_need r) (omega arith)
      (puts-two f d s (truth_code at c) (number_code at w e) (Push w 0 ∷ Mux ∷ []) (operand 1 p)
      (operand w x) (operand w (if p == 1 then x else 0)) (need c) (need e) 3 (truth-puts c g)
      (number-puts e w some h) (zero-moves f d s w p x)))

  module _ (slot w now : ℕ) (some : 1 ≤ w) (stands : slice_get f.slots slot ≡ Some w) (is : s 0 slot
      ≡ now) (fits : now < 2 ^ w) where
    load-puts : Gives (Load slot ∷ []) w now 1
    load-puts =
        moves-to f d s (Load slot ∷ []) [] w (s 0 slot) now 1 is
        (read-moves f d s slot 0 w stands (omega arith))

    -- two operators one after the other
    two-joins :
        (x y z : ℕ) →
        Moves f d s (Join SubSat ∷ Join AddSat ∷ []) (operand w z ∷ operand w y ∷ operand w x ∷ [])
        (operand w (min (x + (y - z)) (2 ^ w - 1)) ∷ []) 2
    two-joins x y z =
        moves-then f d s (Join SubSat ∷ []) (Join AddSat ∷ [])
        (operand w z ∷ operand w y ∷ operand w x ∷ []) (operand w (y - z) ∷ operand w x ∷ [])
        (operand w (min (x + (y - z)) (2 ^ w - 1)) ∷ []) 2 1
        (λ xs made room. join-moves f d s SubSat w y z (operand w x ∷ xs) made (omega (
          arith,
          room,
        )))
        (join-moves f d s AddSat w x (y - z))

    two-differences :
        (x y z : ℕ) →
        Moves f d s (Join SubSat ∷ Join SubSat ∷ []) (operand w z ∷ operand w y ∷ operand w x ∷ [])
        (operand w (x - (y - z)) ∷ []) 2
    two-differences x y z =
        moves-then f d s (Join SubSat ∷ []) (Join SubSat ∷ [])
        (operand w z ∷ operand w y ∷ operand w x ∷ []) (operand w (y - z) ∷ operand w x ∷ [])
        (operand w (x - (y - z)) ∷ []) 2 1
        (λ xs made room. join-moves f d s SubSat w y z (operand w x ∷ xs) made (omega (
          arith,
          room,
        )))
        (join-moves f d s SubSat w x (y - z))

    balance-puts :
        (n m : List SampleInstr) (x y o q : ℕ) → 1 ≤ o → Gives n w x o → Gives m w y q →
        Gives (balance_code slot n m) w (min ((now + x) - y) (2 ^ w - 1)) (2 + max o q)
    balance-puts n m x y o q more ln lm =
        let c : Operand = operand w now in
        let risen : ℕ = min (now + (x - y)) (2 ^ w - 1) in
        let code : List SampleInstr = Load slot ∷ [] ++ n ++ m ++ Join SubSat ∷ Join AddSat ∷ [] in
        let first : Gives code w risen (max 1 (max (1 + o) (2 + q))) =
        puts-three f d s (Load slot ∷ []) n m (Join SubSat ∷ Join AddSat ∷ []) c (operand w x)
        (operand w y) (operand w risen) 1 o q load-puts ln lm (two-joins now x y) in
        let below : ℕ = max 1 (max (1 + o) (2 + q)) in
        moves-to f d s (balance_code slot n m) [] w (risen - (y - x))
        (min ((now + x) - y) (2 ^ w - 1)) (2 + max o q)
        (balance now x y (2 ^ w - 1) (omega (arith, fits)))
        (moves-room f d s (balance_code slot n m) [] (operand w (risen - (y - x)) ∷ [])
        (max below (max (1 + q) (2 + o))) (2 + max o q) (omega arith)
        (puts-three f d s code m n (Join SubSat ∷ Join SubSat ∷ []) (operand w risen) (operand w y)
        (operand w x) (operand w (risen - (y - x))) below q o first lm ln
        (two-differences risen y x)))

    abbrev sum_of : Option Rule → Option Rule → ℕ
    sum_of add sub = min ((now + amount_of w add) - amount_of w sub) (2 ^ w - 1)

    -- what the expressions of a rule ask
    abbrev Ruled : Option Rule → Type 0
    Ruled r = AllByRecursion Here (rule_terms r)

    sum-puts :
        (add sub : Option Rule) → Ruled add → Ruled sub →
        Gives (sum_code at w slot add sub) w (sum_of add sub) (sum_need add sub)
    sum-puts None None g h =
        moves-to f d s (Load slot ∷ []) [] w now (sum_of None None) 1 (omega (arith, fits))
        load-puts
    sum-puts (Some r) None g h =
        let n : ℕ = amount_of w (Some r) in
        let sum : ℕ = min (now + n) (2 ^ w - 1) in
        moves-to f d s (sum_code at w slot (Some r) None) [] w sum (sum_of (Some r) None)
        (need_two 1 (amount_need r)) (omega arith)
        (moves-room f d s (sum_code at w slot (Some r) None) [] (operand w sum ∷ [])
        (max (max 1 (1 + amount_need r)) 1) (need_two 1 (amount_need r)) (omega arith)
        (puts-two f d s (Load slot ∷ []) (amount_code at w r) (Join AddSat ∷ []) (operand w now)
        (operand w n) (operand w sum) 1 (amount_need r) 1 load-puts
        (amount-puts r w some g.0 g.1.0) (join-moves f d s AddSat w now n)))
    sum-puts None (Some r) g h =
        let n : ℕ = amount_of w (Some r) in
        moves-to f d s (sum_code at w slot None (Some r)) [] w (now - n) (sum_of None (Some r))
        (need_two 1 (amount_need r)) (omega (arith, fits))
        (moves-room f d s (sum_code at w slot None (Some r)) [] (operand w (now - n) ∷ [])
        (max (max 1 (1 + amount_need r)) 1) (need_two 1 (amount_need r)) (omega arith)
        (puts-two f d s (Load slot ∷ []) (amount_code at w r) (Join SubSat ∷ []) (operand w now)
        (operand w n) (operand w (now - n)) 1 (amount_need r) 1 load-puts
        (amount-puts r w some h.0 h.1.0) (join-moves f d s SubSat w now n)))
    sum-puts (Some add) (Some sub) g h =
        balance-puts (amount_code at w add) (amount_code at w sub) (amount_of w (Some add))
        (amount_of w (Some sub)) (amount_need add) (amount_need sub) (omega arith)
        (amount-puts add w some g.0 g.1.0) (amount-puts sub w some h.0 h.1.0)

  loaded-puts :
      (load : Option Rule) (w : ℕ) (code : List SampleInstr) (v n : ℕ) → 1 ≤ w →
      AllByRecursion Here (rule_terms load) → Gives code w v n →
      Gives (loaded_code at w load code) w (unwrap_or (rule_value t w load k) v) (loaded_need load
      n)
  loaded-puts None w code v n some h g = g
  loaded-puts (Some r) w code v n some h g =
      let c : Term = term_of r.when in
      let e : Term = term_of r.by in
      let p : ℕ = one_if (is_true t c k) in
      let x : ℕ = low_bits w e in
      moves-to f d s (loaded_code at w (Some r) code) [] w (if p == 1 then x else v)
      (unwrap_or (rule_value t w (Some r) k) v) (loaded_need (Some r) n)
      (chosen-load (value_of t c k (width_of c) == 0) x v)
      (puts-three f d s (truth_code at c) (number_code at w e) code (Mux ∷ []) (operand 1 p)
      (operand w x) (operand w v) (operand w (if p == 1 then x else v)) (need c) (need e) n
      (truth-puts c h.0) (number-puts e w some h.1.0) g (mux-moves f d s w p x v))

  cleared-puts :
      (clear : Option Expr) (w : ℕ) (code : List SampleInstr) (v n : ℕ) →
      AllByRecursion Here (clear_terms clear) → Gives code w v n →
      Gives (cleared_code at w clear code) w (if holds t clear k then 0 else v)
      (cleared_need clear n)
  cleared-puts None w code v n h g = g
  cleared-puts (Some e) w code v n h g =
      let c : Term = term_of e in
      let p : ℕ = one_if (is_true t c k) in
      moves-to f d s (cleared_code at w (Some e) code) [] w (if p == 1 then 0 else v)
      (if holds t (Some e) k then 0 else v) (cleared_need (Some e) n)
      (chosen-clear (value_of t c k (width_of c) == 0) v)
      (puts-three f d s (truth_code at c) (Push w 0 ∷ []) code (Mux ∷ []) (operand 1 p)
      (operand w 0) (operand w v) (operand w (if p == 1 then 0 else v)) (need c) 1 n
      (truth-puts c h.0) (push-moves f d s w 0) g (mux-moves f d s w p 0 v))

  pub next-puts :
      (h : Held) → IsCount f t at s k h → AllByRecursion Here (counter_terms h.counter) →
      Gives (next_code at h) h.counter.width (next_count t h.counter (t.counter_at h.place k) k)
      (next_need h.counter)
  next-puts h count served =
      let c : Counter = h.counter in
      let clear : List Term = clear_terms c.clear in
      let load : List Term = rule_terms c.load in
      let add : List Term = rule_terms c.add in
      let sub : List Term = rule_terms c.sub in
      let three : AllByRecursion Here (clear ++ load ++ add) =
      all-front Here (clear ++ load ++ add) sub served in
      let two : AllByRecursion Here (clear ++ load) = all-front Here (clear ++ load) add three in
      let w : ℕ = c.width in
      let now : ℕ = t.counter_at h.place k in
      let sum : ℕ = min ((now + amount_of w c.add) - amount_of w c.sub) (2 ^ w - 1) in
      let counted : List SampleInstr = sum_code at w (held_slot at h) c.add c.sub in
      cleared-puts c.clear w (loaded_code at w c.load counted)
      (unwrap_or (rule_value t w c.load k) sum) (loaded_need c.load (sum_need c.add c.sub))
      (all-front Here clear load two)
      (loaded-puts c.load w counted sum (sum_need c.add c.sub) c.some_bits
      (all-back Here clear load two)
      (sum-puts (held_slot at h) w now c.some_bits count.slot count.now count.fits c.add c.sub
      (all-back Here (clear ++ load) add three)
      (all-back Here (clear ++ load ++ add) sub served)))

  pub served :
      (es : List Term) → AllByRecursion (EachPart (IsInFrame f at)) es →
      AllByRecursion (TellsNames t at s k) es → largest reach es ≤ d.history →
      AllByRecursion Here es
  served [] g h le = tt
  served (e ∷ es) g h le = (
    record { placed = g.0; told = h.0; near = omega (arith, le) },
    served es g.1 h.1 (omega (arith, le)),
  )
