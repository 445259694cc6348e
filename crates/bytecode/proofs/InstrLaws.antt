-- Instructions: what is read is spelled so, and what is spelled is read.
use Rattle.std.proofs.Common.{◌≡◌, ℕ, ◌^◌, ◌<◌, ◌≤◌, Bool, true, false, ◌&&◌, ltb, leb, eqb, List, [], ◌++◌, length}
use Rattle.std.proofs.Common.{Option, Some, None, Result, Ok, Err, refl, sym, subst, arith, inl, inr}
use Rattle.std.specs.Prelude.{if◌then◌else◌, ◌⊎◌}
use Rattle.std.specs.Int.{w16}
use Rattle.std.proofs.lemmas.Bool.{ltb-false, ltb-true, le-ltb, lt-ltb, leb-true, le-leb, and_parts, and_from, eqb-true}
use Rattle.std.proofs.lemmas.Bool.{eqb-false, ne_eqb}
use Rattle.std.proofs.Math.Pow.{pow_mono}
use Rattle.bytecode_programs.specs.declared.operator.JoinOperator.{JoinOperator}
use Rattle.bytecode_programs.specs.declared.operator.JoinOperator.TheVariants.{And, Or, Xor, Add, Sub, AddSat, SubSat}
use Rattle.bytecode_programs.specs.declared.operator.CompareOperator.TheVariants.{Eq, Lt}
use Rattle.bytecode_programs.specs.declared.operator.ShiftOperator.TheVariants.{Shl, Shr}
use Rattle.bytecode_programs.specs.declared.operator.ReduceOperator.{ReduceOperator}
use Rattle.bytecode_programs.specs.declared.operator.ReduceOperator.TheVariants.{RedAnd, RedOr, RedXor, Onehot, Onehot0}
use Rattle.bytecode_programs.specs.declared.sample_instr.SampleInstr.{SampleInstr}
use Rattle.bytecode_programs.specs.declared.sample_instr.SampleInstr.TheVariants.{Push, Load, Past, Join, Compare}
use Rattle.bytecode_programs.specs.declared.sample_instr.SampleInstr.TheVariants.{Shift, Not}
use Rattle.bytecode_programs.specs.declared.sample_instr.SampleInstr.TheVariants.{Reduce, Concat, Zext, Slice, Mux}
use Rattle.bytecode_programs.specs.declared.sample_instr.SampleInstr.TheVariants.{Jump}
use Rattle.bytecode_programs.specs.declared.sample_instr.SampleInstr.TheVariants.{JumpIfZero, SetAtom, Store, Halt}
use Rattle.bytecode_programs.specs.declared.block_instr.BlockInstr.{BlockInstr}
use Rattle.bytecode_programs.specs.declared.block_instr.BlockInstr.TheVariants as block
use Rattle.bytecode.specs.declared.stop.Stop.{Stop}
use Rattle.bytecode.specs.declared.stop.Stop.TheVariants as stops
use Rattle.bytecode.specs.Opcodes.{sample_opcode, block_opcode}
use Rattle.bytecode_programs.specs.Values.{in_byte, in_two, is_width, fits_sample, fits_block_in}
use Rattle.bytecode.specs.Spelling.{byte, two, sixteen, sample_operands, sample_spelling, block_operands}
use Rattle.bytecode.specs.Spelling.{block_spelling}
use Rattle.bytecode.specs.Reading.{◌>>=◌, Reader, number_at, sixteen_at, byte_at, width_at, join_of, reduce_of}
use Rattle.bytecode.specs.Reading.{lone_of}
use Rattle.bytecode.specs.Reading.{as_join, as_reduce, plain_of, push_at, past_at, slice_at, one_at, plain_at}
use Rattle.bytecode.specs.Reading.{operands_at, sample_at, unless_at, enter_at, step_at}
use Rattle.bytecode.proofs.FieldLaws.{IsBytes, bind_ok, test_ok, guard_ok, ok_is, Takes, Takes-then, IsCodec}
use Rattle.bytecode.proofs.FieldLaws.{byte-codec, two-codec, sixteen-codec, width-codec}

-- which way a test went
chosen : {A : Type 0} (b : Bool) (x y z : A) → (if b then x else y) ≡ z → ((b ≡ true) × (x ≡ z))
    ⊎ ((b ≡ false) × (y ≡ z))
chosen true x y z e = inl (refl, e)
chosen false x y z e = inr (refl, e)

-- What the operands of an instruction are, where the instruction begins with the byte o.
record IsRead (bytes : List ℕ) (o : ℕ) (i : SampleInstr) (rest : List ℕ) : Type 0 where
  pub taken : Takes bytes (sample_operands i) rest
  pub opcode : sample_opcode i ≡ o
  pub fits : fits_sample i ≡ true

-- ---- those without operands

-- one arm of a table: what is found is its value, or is found further on
arm : {A : Type 0} (o code : ℕ) (x : A) (other : Option A) (y : A) (P : A → Type 0) → (o ≡ code → P x)
    → (other ≡ Some y → P y) → (if eqb o code then Some x else other) ≡ Some y → P y
arm {A = A} o code x other y P here there e =
    elim (chosen (eqb o code) (Some x) other (Some y) e) [
      | inl hit ↦ subst P (some_is x y hit.1) (here (eqb-true o code hit.0))
      | inr miss ↦ there miss.1
    ]
  where
    some_is : (a b : A) → Some a ≡ Some b → a ≡ b
    some_is a b e = cc

no_arm : {A : Type 0} (y : A) (P : A → Type 0) → None ≡ Some y → P y
no_arm y P e = absurd cc

join-is : (o : ℕ) (x : JoinOperator) → join_of o ≡ Some x → sample_opcode (Join x) ≡ o
unfolding join_of
join-is o x e =
    arm o 16 And _ x (λ (y : JoinOperator). sample_opcode (Join y) ≡ o) (λ h. sym h)
    (λ e0. arm o 17 Or _ x (λ (y : JoinOperator). sample_opcode (Join y) ≡ o) (λ h. sym h)
    (λ e1. arm o 18 Xor _ x (λ (y : JoinOperator). sample_opcode (Join y) ≡ o) (λ h. sym h)
    (λ e2. arm o 19 Add _ x (λ (y : JoinOperator). sample_opcode (Join y) ≡ o) (λ h. sym h)
    (λ e3. arm o 20 Sub _ x (λ (y : JoinOperator). sample_opcode (Join y) ≡ o) (λ h. sym h)
    (λ e4. arm o 21 AddSat _ x (λ (y : JoinOperator). sample_opcode (Join y) ≡ o) (λ h. sym h)
    (λ e5. arm o 22 SubSat _ x (λ (y : JoinOperator). sample_opcode (Join y) ≡ o) (λ h. sym h)
    (λ e6. no_arm x (λ (y : JoinOperator). sample_opcode (Join y) ≡ o) e6) e5) e4) e3) e2) e1) e0) e

reduce-is : (o : ℕ) (x : ReduceOperator) → reduce_of o ≡ Some x → sample_opcode (Reduce x) ≡ o
unfolding reduce_of
reduce-is o x e =
    arm o 33 RedAnd _ x (λ (y : ReduceOperator). sample_opcode (Reduce y) ≡ o) (λ h. sym h)
    (λ e0. arm o 34 RedOr _ x (λ (y : ReduceOperator). sample_opcode (Reduce y) ≡ o) (λ h. sym h)
    (λ e1. arm o 35 RedXor _ x (λ (y : ReduceOperator). sample_opcode (Reduce y) ≡ o) (λ h. sym h)
    (λ e2. arm o 36 Onehot _ x (λ (y : ReduceOperator). sample_opcode (Reduce y) ≡ o) (λ h. sym h)
    (λ e3. arm o 37 Onehot0 _ x (λ (y : ReduceOperator). sample_opcode (Reduce y) ≡ o) (λ h. sym h)
    (λ e4. no_arm x (λ (y : ReduceOperator). sample_opcode (Reduce y) ≡ o) e4) e3) e2) e1) e0) e

-- an instruction without operands
record IsLone (o : ℕ) (i : SampleInstr) : Type 0 where
  pub opcode : sample_opcode i ≡ o
  pub empty : sample_operands i ≡ []
  pub fits : fits_sample i ≡ true

lone-is : (o : ℕ) (x : SampleInstr) → lone_of o ≡ Some x → IsLone o x
unfolding lone_of
lone-is o x e =
    arm o 23 (Compare Eq) _ x (IsLone o) (λ h. record { opcode = sym h; empty = refl; fits = refl })
    (λ e0. arm o 24 (Compare Lt) _ x (IsLone o) (λ h. record { opcode = sym h; empty = refl; fits = refl })
    (λ e1. arm o 25 (Shift Shl) _ x (IsLone o) (λ h. record { opcode = sym h; empty = refl; fits = refl })
    (λ e2. arm o 26 (Shift Shr) _ x (IsLone o) (λ h. record { opcode = sym h; empty = refl; fits = refl })
    (λ e3. arm o 32 Not _ x (IsLone o) (λ h. record { opcode = sym h; empty = refl; fits = refl })
    (λ e4. arm o 38 Concat _ x (IsLone o) (λ h. record { opcode = sym h; empty = refl; fits = refl })
    (λ e5. arm o 41 Mux _ x (IsLone o) (λ h. record { opcode = sym h; empty = refl; fits = refl })
    (λ e6. arm o 52 Halt _ x (IsLone o) (λ h. record { opcode = sym h; empty = refl; fits = refl })
    (λ e7. no_arm x (IsLone o) e7) e6) e5) e4) e3) e2) e1) e0) e

plain-is : (o : ℕ) (i : SampleInstr) (join : Option JoinOperator) (reduce : Option ReduceOperator) → join_of o ≡ join
    → reduce_of o ≡ reduce → as_join join (as_reduce reduce (lone_of o)) ≡ Some i → IsLone o i
plain-is o i (Some op) reduce j r e =
    subst (IsLone o) (some_is (Join op) i e) (record { opcode = join-is o op j; empty = refl; fits = refl })
  where
    some_is : (a b : SampleInstr) → Some a ≡ Some b → a ≡ b
    some_is a b e = cc
plain-is o i None (Some op) j r e =
    subst (IsLone o) (some_is (Reduce op) i e) (record { opcode = reduce-is o op r; empty = refl; fits = refl })
  where
    some_is : (a b : SampleInstr) → Some a ≡ Some b → a ≡ b
    some_is a b e = cc
plain-is o i None None j r e = lone-is o i e

-- ---- those with operands

-- one branch of a test
branch : {A : Type 0} (b : Bool) (x y : Result A Stop) (z : A) (P : Type 0) → (b ≡ true → x ≡ Ok z → P)
    → (b ≡ false → y ≡ Ok z → P) → (if b then x else y) ≡ Ok z → P
branch true x y z P here there e = here refl e
branch false x y z P here there e = there refl e

guard_to : {A : Type 0} (b : Bool) (d : Stop) (r : Result A Stop) (y : A) → (if b then Err d else r) ≡ Ok y
    → (b ≡ false) × (r ≡ Ok y)
guard_to true d r y e = absurd cc
guard_to false d r y e = (refl, e)

push-read : (bytes : List ℕ) (i : SampleInstr) (rest : List ℕ) → IsBytes bytes → push_at bytes ≡ Ok (i, rest)
    → IsRead bytes 0x01 i rest
unfolding push_at
push-read bytes i rest fits e =
    let a =
    bind_ok (width_at bytes)
    (λ w. sixteen_at w.1 >>= λ v. if ltb v.0 (2 ^ w.0) then Ok (Push w.0 v.0, v.1) else Err
    (stops.Field (length w.1))) (i, rest) e in
    let b =
    bind_ok (sixteen_at a.0.1)
    (λ v. if ltb v.0 (2 ^ a.0.0) then Ok (Push a.0.0 v.0, v.1) else Err (stops.Field (length a.0.1))) (i, rest)
    a.2 in
    let s = width-codec.takes bytes a.0.0 a.0.1 fits a.1 in
    let t = sixteen-codec.takes a.0.1 b.0.0 b.0.1 s.0.rest_fits b.1 in
    let g = test_ok (ltb b.0.0 (2 ^ a.0.0)) (stops.Field (length a.0.1)) (Push a.0.0 b.0.0, b.0.1) (i, rest) b.2 in
    subst (λ (p : SampleInstr × List ℕ). IsRead bytes 0x01 p.0 p.1) g.1
    (record {
      taken = Takes-then bytes (byte a.0.0) a.0.1 (sixteen b.0.0) b.0.1 s.0 t.0;
      opcode = refl;
      fits = and_from (is_width a.0.0) (ltb b.0.0 (2 ^ a.0.0)) s.1 g.0;
    })

past-read : (bytes : List ℕ) (i : SampleInstr) (rest : List ℕ) → IsBytes bytes → past_at bytes ≡ Ok (i, rest)
    → IsRead bytes 0x03 i rest
unfolding past_at
past-read bytes i rest fits e =
    let a =
    bind_ok (number_at w16 bytes)
    (λ slot. number_at w16 slot.1 >>= λ ticks. if eqb ticks.0 0 then Err (stops.Field (length slot.1)) else Ok
    (Past slot.0 ticks.0, ticks.1)) (i, rest) e in
    let b =
    bind_ok (number_at w16 a.0.1)
    (λ ticks. if eqb ticks.0 0 then Err (stops.Field (length a.0.1)) else Ok (Past a.0.0 ticks.0, ticks.1))
    (i, rest) a.2 in
    let s = two-codec.takes bytes a.0.0 a.0.1 fits a.1 in
    let t = two-codec.takes a.0.1 b.0.0 b.0.1 s.0.rest_fits b.1 in
    let g = guard_ok (eqb b.0.0 0) (stops.Field (length a.0.1)) (Past a.0.0 b.0.0, b.0.1) (i, rest) b.2 in
    let some : leb 1 b.0.0 ≡ true = le-leb 1 b.0.0 (omega (arith, eqb-false b.0.0 0 g.0)) in
    subst (λ (p : SampleInstr × List ℕ). IsRead bytes 0x03 p.0 p.1) g.1
    (record {
      taken = Takes-then bytes (two a.0.0) a.0.1 (two b.0.0) b.0.1 s.0 t.0;
      opcode = refl;
      fits = and_from (in_two a.0.0) (leb 1 b.0.0 && in_two b.0.0) s.1
          (and_from (leb 1 b.0.0) (in_two b.0.0) some t.1);
    })

slice-read : (bytes : List ℕ) (i : SampleInstr) (rest : List ℕ) → IsBytes bytes → slice_at bytes ≡ Ok (i, rest)
    → IsRead bytes 0x28 i rest
unfolding slice_at
slice-read bytes i rest fits e =
    let a =
    bind_ok (byte_at bytes)
    (λ high. if ltb 127 high.0 then Err (stops.Field (length bytes)) else
    (byte_at high.1 >>= λ low. if ltb high.0 low.0 then Err (stops.Field (length high.1)) else Ok
    (Slice high.0 low.0, low.1))) (i, rest) e in
    let g =
    guard_to (ltb 127 a.0.0) (stops.Field (length bytes))
    (byte_at a.0.1 >>= λ low. if ltb a.0.0 low.0 then Err (stops.Field (length a.0.1)) else Ok
    (Slice a.0.0 low.0, low.1)) (i, rest) a.2 in
    let b =
    bind_ok (byte_at a.0.1)
    (λ low. if ltb a.0.0 low.0 then Err (stops.Field (length a.0.1)) else Ok (Slice a.0.0 low.0, low.1)) (i, rest)
    g.1 in
    let s = byte-codec.takes bytes a.0.0 a.0.1 fits a.1 in
    let t = byte-codec.takes a.0.1 b.0.0 b.0.1 s.0.rest_fits b.1 in
    let h = guard_ok (ltb a.0.0 b.0.0) (stops.Field (length a.0.1)) (Slice a.0.0 b.0.0, b.0.1) (i, rest) b.2 in
    subst (λ (p : SampleInstr × List ℕ). IsRead bytes 0x28 p.0 p.1) h.1
    (record {
      taken = Takes-then bytes (byte a.0.0) a.0.1 (byte b.0.0) b.0.1 s.0 t.0;
      opcode = refl;
      fits = and_from (leb a.0.0 127) (leb b.0.0 a.0.0) (le-leb a.0.0 127 (ltb-false 127 a.0.0 g.0))
          (le-leb b.0.0 a.0.0 (ltb-false a.0.0 b.0.0 h.0));
    })

-- one operand, which is spelled as its codec says
one-read : {A : Type 0} (fits : A → Bool) (spelling : A → List ℕ) (read : Reader A) (c : IsCodec fits spelling read)
    (make : A → SampleInstr) (o : ℕ) → ((x : A) → sample_operands (make x) ≡ spelling x)
    → ((x : A) → sample_opcode (make x) ≡ o) → ((x : A) → fits x ≡ true → fits_sample (make x) ≡ true)
    → (bytes : List ℕ) (i : SampleInstr) (rest : List ℕ) → IsBytes bytes → one_at make read bytes ≡ Ok (i, rest)
    → IsRead bytes o i rest
one-read {A = A} fits spelling read c make o operands opcode good bytes i rest are e =
    let a = bind_ok (read bytes) (λ x. Ok (make x.0, x.1)) (i, rest) e in
    let s = c.takes bytes a.0.0 a.0.1 are a.1 in
    subst (λ (p : SampleInstr × List ℕ). IsRead bytes o p.0 p.1) (ok_is (make a.0.0, a.0.1) (i, rest) a.2)
    (record {
      taken = subst (λ (t : List ℕ). Takes bytes t a.0.1) (sym (operands a.0.0)) s.0;
      opcode = opcode a.0.0;
      fits = good a.0.0 s.1;
    })

plain-read : (bytes : List ℕ) (o left : ℕ) (found : Option SampleInstr) (i : SampleInstr) (rest : List ℕ)
    → IsBytes bytes → plain_of o ≡ found → plain_at left found bytes ≡ Ok (i, rest) → IsRead bytes o i rest
plain-read bytes o left None i rest fits is e = absurd cc
plain-read bytes o left (Some j) i rest fits is e =
    let lone = plain-is o j (join_of o) (reduce_of o) refl refl is in
    subst (λ (p : SampleInstr × List ℕ). IsRead bytes o p.0 p.1) (ok_is (j, bytes) (i, rest) e)
    (record {
      taken = subst (λ (t : List ℕ). Takes bytes t bytes) (sym lone.empty) (record
          { parts = refl; rest_fits = fits });
      opcode = lone.opcode;
      fits = lone.fits;
    })

at_opcode : (bytes : List ℕ) (o code : ℕ) (i : SampleInstr) (rest : List ℕ) → eqb o code ≡ true
    → IsRead bytes code i rest → IsRead bytes o i rest
at_opcode bytes o code i rest e h = subst (λ (n : ℕ). IsRead bytes n i rest) (sym (eqb-true o code e)) h

operands-read : (bytes : List ℕ) (o left : ℕ) (i : SampleInstr) (rest : List ℕ) → IsBytes bytes
    → operands_at o left bytes ≡ Ok (i, rest) → IsRead bytes o i rest
unfolding operands_at
operands-read bytes o left i rest fits e =
    branch (eqb o 1) (push_at bytes)
    (if eqb o 2 then one_at Load (number_at w16) bytes else
    (if eqb o 3 then past_at bytes else
    (if eqb o 39 then one_at Zext width_at bytes else
    (if eqb o 40 then slice_at bytes else
    (if eqb o 48 then one_at Jump (number_at w16) bytes else
    (if eqb o 49 then one_at JumpIfZero (number_at w16) bytes else
    (if eqb o 50 then one_at SetAtom byte_at bytes else
    (if eqb o 51 then one_at Store byte_at bytes else plain_at left (plain_of o) bytes)))))))) (i, rest)
    (IsRead bytes o i rest)
    (λ h r. at_opcode bytes o 1 i rest h (push-read bytes i rest fits r))
    (λ n0 e0. branch (eqb o 2) (one_at Load (number_at w16) bytes)
    (if eqb o 3 then past_at bytes else
    (if eqb o 39 then one_at Zext width_at bytes else
    (if eqb o 40 then slice_at bytes else
    (if eqb o 48 then one_at Jump (number_at w16) bytes else
    (if eqb o 49 then one_at JumpIfZero (number_at w16) bytes else
    (if eqb o 50 then one_at SetAtom byte_at bytes else
    (if eqb o 51 then one_at Store byte_at bytes else plain_at left (plain_of o) bytes))))))) (i, rest)
    (IsRead bytes o i rest)
    (λ h r. at_opcode bytes o 2 i rest h
    (one-read in_two two (number_at w16) two-codec Load 0x02 (λ x. refl) (λ x. refl) (λ x h. h) bytes i rest fits
    r))
    (λ n1 e1. branch (eqb o 3) (past_at bytes)
    (if eqb o 39 then one_at Zext width_at bytes else
    (if eqb o 40 then slice_at bytes else
    (if eqb o 48 then one_at Jump (number_at w16) bytes else
    (if eqb o 49 then one_at JumpIfZero (number_at w16) bytes else
    (if eqb o 50 then one_at SetAtom byte_at bytes else
    (if eqb o 51 then one_at Store byte_at bytes else plain_at left (plain_of o) bytes)))))) (i, rest)
    (IsRead bytes o i rest)
    (λ h r. at_opcode bytes o 3 i rest h (past-read bytes i rest fits r))
    (λ n2 e2. branch (eqb o 39) (one_at Zext width_at bytes)
    (if eqb o 40 then slice_at bytes else
    (if eqb o 48 then one_at Jump (number_at w16) bytes else
    (if eqb o 49 then one_at JumpIfZero (number_at w16) bytes else
    (if eqb o 50 then one_at SetAtom byte_at bytes else
    (if eqb o 51 then one_at Store byte_at bytes else plain_at left (plain_of o) bytes))))) (i, rest)
    (IsRead bytes o i rest)
    (λ h r. at_opcode bytes o 39 i rest h
    (one-read is_width byte width_at width-codec Zext 0x27 (λ x. refl) (λ x. refl) (λ x h. h) bytes i rest fits
    r))
    (λ n3 e3. branch (eqb o 40) (slice_at bytes)
    (if eqb o 48 then one_at Jump (number_at w16) bytes else
    (if eqb o 49 then one_at JumpIfZero (number_at w16) bytes else
    (if eqb o 50 then one_at SetAtom byte_at bytes else
    (if eqb o 51 then one_at Store byte_at bytes else plain_at left (plain_of o) bytes)))) (i, rest)
    (IsRead bytes o i rest)
    (λ h r. at_opcode bytes o 40 i rest h (slice-read bytes i rest fits r))
    (λ n4 e4. branch (eqb o 48) (one_at Jump (number_at w16) bytes)
    (if eqb o 49 then one_at JumpIfZero (number_at w16) bytes else
    (if eqb o 50 then one_at SetAtom byte_at bytes else
    (if eqb o 51 then one_at Store byte_at bytes else plain_at left (plain_of o) bytes))) (i, rest)
    (IsRead bytes o i rest)
    (λ h r. at_opcode bytes o 48 i rest h
    (one-read in_two two (number_at w16) two-codec Jump 0x30 (λ x. refl) (λ x. refl) (λ x h. h) bytes i rest fits
    r))
    (λ n5 e5. branch (eqb o 49) (one_at JumpIfZero (number_at w16) bytes)
    (if eqb o 50 then one_at SetAtom byte_at bytes else
    (if eqb o 51 then one_at Store byte_at bytes else plain_at left (plain_of o) bytes)) (i, rest)
    (IsRead bytes o i rest)
    (λ h r. at_opcode bytes o 49 i rest h
    (one-read in_two two (number_at w16) two-codec JumpIfZero 0x31 (λ x. refl) (λ x. refl) (λ x h. h) bytes i rest
    fits r))
    (λ n6 e6. branch (eqb o 50) (one_at SetAtom byte_at bytes)
    (if eqb o 51 then one_at Store byte_at bytes else plain_at left (plain_of o) bytes) (i, rest)
    (IsRead bytes o i rest)
    (λ h r. at_opcode bytes o 50 i rest h
    (one-read in_byte byte byte_at byte-codec SetAtom 0x32 (λ x. refl) (λ x. refl) (λ x h. h) bytes i rest fits
    r))
    (λ n7 e7. branch (eqb o 51) (one_at Store byte_at bytes) (plain_at left (plain_of o) bytes) (i, rest)
    (IsRead bytes o i rest)
    (λ h r. at_opcode bytes o 51 i rest h
    (one-read in_byte byte byte_at byte-codec Store 0x33 (λ x. refl) (λ x. refl) (λ x h. h) bytes i rest fits r))
    (λ n8 e8. plain-read bytes o left (plain_of o) i rest fits refl e8) e7) e6) e5) e4) e3) e2) e1) e0) e

sample-takes : (bytes : List ℕ) (i : SampleInstr) (rest : List ℕ) → IsBytes bytes → sample_at bytes ≡ Ok (i, rest)
    → Takes bytes (sample_spelling i) rest × (fits_sample i ≡ true)
unfolding sample_at
sample-takes bytes i rest fits e =
    let a = bind_ok (byte_at bytes) (λ o. operands_at o.0 (length bytes) o.1) (i, rest) e in
    let s = byte-codec.takes bytes a.0.0 a.0.1 fits a.1 in
    let r = operands-read a.0.1 a.0.0 (length bytes) i rest s.0.rest_fits a.2 in
    let both = Takes-then bytes (byte a.0.0) a.0.1 (sample_operands i) rest s.0 r.taken in
    (subst (λ (o : ℕ). Takes bytes (byte o ++ sample_operands i) rest) (sym r.opcode) both, r.fits)

-- a value that fits its width fits sixteen bytes
below : (w v : ℕ) → is_width w ≡ true → ltb v (2 ^ w) ≡ true → v < 2 ^ 128
below w v h k = lt_le (ltb-true v (2 ^ w) k) (pow_mono (leb-true w 128 (and_parts (leb 1 w) (leb w 128) h).1))
  where
    lt_le : {a b c : ℕ} → a < b → b ≤ c → a < c
    lt_le h k = omega (arith, h, k)

sample-again : (i : SampleInstr) (rest : List ℕ) → fits_sample i ≡ true → sample_at (sample_spelling i ++ rest)
    ≡ Ok (i, rest)
unfolding sample_at operands_at byte_at push_at past_at slice_at join_of reduce_of lone_of
sample-again (Push w v) rest fits =
    let parts = and_parts (is_width w) (ltb v (2 ^ w)) fits in
    rw (
      width-codec.again w (sixteen v ++ rest) parts.0,
      sixteen-codec.again v rest (lt-ltb v (2 ^ 128) (below w v parts.0 parts.1)),
      parts.1,
    ) refl
sample-again (Load slot) rest fits = rw (two-codec.again slot rest fits) refl
sample-again (Past slot ticks) rest fits =
    let parts = and_parts (in_two slot) (leb 1 ticks && in_two ticks) fits in
    let more = and_parts (leb 1 ticks) (in_two ticks) parts.1 in
    let some : eqb ticks 0 ≡ false = ne_eqb ticks 0 (λ none. omega (arith, none, leb-true 1 ticks more.0)) in
    rw (two-codec.again slot (two ticks ++ rest) parts.0, two-codec.again ticks rest more.1, some) refl
sample-again (Join And) rest fits = refl
sample-again (Join Or) rest fits = refl
sample-again (Join Xor) rest fits = refl
sample-again (Join Add) rest fits = refl
sample-again (Join Sub) rest fits = refl
sample-again (Join AddSat) rest fits = refl
sample-again (Join SubSat) rest fits = refl
sample-again (Compare Eq) rest fits = refl
sample-again (Compare Lt) rest fits = refl
sample-again (Shift Shl) rest fits = refl
sample-again (Shift Shr) rest fits = refl
sample-again Not rest fits = refl
sample-again (Reduce RedAnd) rest fits = refl
sample-again (Reduce RedOr) rest fits = refl
sample-again (Reduce RedXor) rest fits = refl
sample-again (Reduce Onehot) rest fits = refl
sample-again (Reduce Onehot0) rest fits = refl
sample-again Concat rest fits = refl
sample-again (Zext w) rest fits = rw (width-codec.again w rest fits) refl
sample-again (Slice high low) rest fits =
    let parts = and_parts (leb high 127) (leb low high) fits in
    rw (le-ltb 127 high (leb-true high 127 parts.0), le-ltb high low (leb-true low high parts.1)) refl
sample-again Mux rest fits = refl
sample-again (Jump target) rest fits = rw (two-codec.again target rest fits) refl
sample-again (JumpIfZero target) rest fits = rw (two-codec.again target rest fits) refl
sample-again (SetAtom atom) rest fits = refl
sample-again (Store counter) rest fits = refl
sample-again Halt rest fits = refl

pub sample-codec : IsCodec fits_sample sample_spelling sample_at
sample-codec = record { takes = sample-takes; again = sample-again }

-- ---- blocks

-- What an instruction of a block is, where it begins with the byte o.
record IsStep (first : Bool) (bytes : List ℕ) (o : ℕ) (i : BlockInstr) (rest : List ℕ) : Type 0 where
  pub taken : Takes bytes (block_operands i) rest
  pub opcode : block_opcode i ≡ o
  pub fits : fits_block_in first i ≡ true

unless-read : (first : Bool) (bytes : List ℕ) (i : BlockInstr) (rest : List ℕ) → IsBytes bytes → unless_at bytes
    ≡ Ok (i, rest)
    → IsStep first bytes 0x40 i rest
unfolding unless_at
unless-read first bytes i rest fits e =
    let a =
    bind_ok (byte_at bytes)
    (λ atom. number_at w16 atom.1 >>= λ target. Ok (block.Unless atom.0 target.0, target.1)) (i, rest) e in
    let b = bind_ok (number_at w16 a.0.1) (λ target. Ok (block.Unless a.0.0 target.0, target.1)) (i, rest) a.2 in
    let s = byte-codec.takes bytes a.0.0 a.0.1 fits a.1 in
    let t = two-codec.takes a.0.1 b.0.0 b.0.1 s.0.rest_fits b.1 in
    subst (λ (p : BlockInstr × List ℕ). IsStep first bytes 0x40 p.0 p.1)
    (ok_is (block.Unless a.0.0 b.0.0, b.0.1) (i, rest) b.2)
    (record {
      taken = Takes-then bytes (byte a.0.0) a.0.1 (two b.0.0) b.0.1 s.0 t.0;
      opcode = refl;
      fits = and_from (in_byte a.0.0) (in_two b.0.0) s.1 t.1;
    })

enter-read : (first : Bool) (bytes : List ℕ) (i : BlockInstr) (rest : List ℕ) → IsBytes bytes → enter_at bytes
    ≡ Ok (i, rest)
    → IsStep first bytes 0x41 i rest
unfolding enter_at
enter-read first bytes i rest fits e =
    let a = bind_ok (byte_at bytes) (λ position. Ok (block.Enter position.0, position.1)) (i, rest) e in
    let s = byte-codec.takes bytes a.0.0 a.0.1 fits a.1 in
    subst (λ (p : BlockInstr × List ℕ). IsStep first bytes 0x41 p.0 p.1)
    (ok_is (block.Enter a.0.0, a.0.1) (i, rest) a.2)
    (record { taken = s.0; opcode = refl; fits = s.1 })

abbrev found : BlockInstr → List ℕ → Result (BlockInstr × List ℕ) Stop
found i bytes = Ok (i, bytes)

abbrev stopped : Stop → Result (BlockInstr × List ℕ) Stop
stopped d = Err d

lone-step : (first : Bool) (bytes : List ℕ) (o : ℕ) (j i : BlockInstr) (rest : List ℕ) → IsBytes bytes → block_opcode j
    ≡ o
    → block_operands j ≡ [] → fits_block_in first j ≡ true → found j bytes ≡ Ok (i, rest) → IsStep first bytes o i rest
lone-step first bytes o j i rest are opcode empty fits e =
    subst (λ (p : BlockInstr × List ℕ). IsStep first bytes o p.0 p.1) (ok_is (j, bytes) (i, rest) e)
    (record {
      taken = subst (λ (t : List ℕ). Takes bytes t bytes) (sym empty) (record { parts = refl; rest_fits = are });
      opcode = opcode;
      fits = fits;
    })

no_step : (first : Bool) (bytes : List ℕ) (o : ℕ) (d : Stop) (i : BlockInstr) (rest : List ℕ) → stopped d ≡ Ok (i, rest)
    → IsStep first bytes o i rest
no_step first bytes o d i rest e = absurd cc

step_as : (first : Bool) (bytes : List ℕ) (o code : ℕ) (i : BlockInstr) (rest : List ℕ) → eqb o code ≡ true
    → IsStep first bytes code i rest
    → IsStep first bytes o i rest
step_as first bytes o code i rest e h = subst (λ (n : ℕ). IsStep first bytes n i rest) (sym (eqb-true o code e)) h

first-step : (first : Bool) (bytes : List ℕ) (d : Stop) (i : BlockInstr) (rest : List ℕ) → IsBytes bytes
    → (if first then found block.AcceptFirst bytes else stopped d) ≡ Ok (i, rest) → IsStep first bytes 0x44 i rest
first-step true bytes d i rest fits e = lone-step true bytes 0x44 block.AcceptFirst i rest fits refl refl refl e
first-step false bytes d i rest fits e = absurd cc

step-by : (first : Bool) (bytes : List ℕ) (o : ℕ) (d : Stop) (i : BlockInstr) (rest : List ℕ) → IsBytes bytes
    → (if eqb o 0x40 then unless_at bytes else
    (if eqb o 0x41 then enter_at bytes else
    (if eqb o 0x42 then found block.Accept bytes else
    (if eqb o 0x43 then found block.Stop bytes else
    (if eqb o 0x44 then (if first then found block.AcceptFirst bytes else stopped d) else stopped d))))) ≡ Ok (i, rest)
    → IsStep first bytes o i rest
step-by first bytes o d i rest fits e =
    branch (eqb o 0x40) (unless_at bytes)
    (if eqb o 0x41 then enter_at bytes else
    (if eqb o 0x42 then found block.Accept bytes else (if eqb o 0x43 then found block.Stop bytes else
    (if eqb o 0x44 then (if first then found block.AcceptFirst bytes else stopped d) else stopped d))))
    (i, rest) (IsStep first bytes o i rest)
    (λ h r. step_as first bytes o 0x40 i rest h (unless-read first bytes i rest fits r))
    (λ n0 e0. branch (eqb o 0x41) (enter_at bytes)
    (if eqb o 0x42 then found block.Accept bytes else (if eqb o 0x43 then found block.Stop bytes else
    (if eqb o 0x44 then (if first then found block.AcceptFirst bytes else stopped d) else stopped d)))
    (i, rest) (IsStep first bytes o i rest)
    (λ h r. step_as first bytes o 0x41 i rest h (enter-read first bytes i rest fits r))
    (λ n1 e1. branch (eqb o 0x42) (found block.Accept bytes)
    (if eqb o 0x43 then found block.Stop bytes else
    (if eqb o 0x44 then (if first then found block.AcceptFirst bytes else stopped d) else stopped d))
    (i, rest) (IsStep first bytes o i rest)
    (λ h r. step_as first bytes o 0x42 i rest h (lone-step first bytes 0x42 block.Accept i rest fits refl refl refl r))
    (λ n2 e2. branch (eqb o 0x43) (found block.Stop bytes)
    (if eqb o 0x44 then (if first then found block.AcceptFirst bytes else stopped d) else stopped d) (i, rest)
    (IsStep first bytes o i rest)
    (λ h r. step_as first bytes o 0x43 i rest h (lone-step first bytes 0x43 block.Stop i rest fits refl refl refl r))
    (λ n3 e3. branch (eqb o 0x44) (if first then found block.AcceptFirst bytes else stopped d) (stopped d) (i, rest)
    (IsStep first bytes o i rest)
    (λ h r. step_as first bytes o 0x44 i rest h (first-step first bytes d i rest fits r))
    (λ n4 e4. no_step first bytes o d i rest e4) e3) e2) e1) e0) e

step-takes : (first : Bool) (bytes : List ℕ) (i : BlockInstr) (rest : List ℕ) → IsBytes bytes → step_at first bytes
    ≡ Ok (i, rest)
    → Takes bytes (block_spelling i) rest × (fits_block_in first i ≡ true)
unfolding step_at
step-takes first bytes i rest fits e =
    let a =
    bind_ok (byte_at bytes)
    (λ o. if eqb o.0 0x40 then unless_at o.1 else
    (if eqb o.0 0x41 then enter_at o.1 else
    (if eqb o.0 0x42 then found block.Accept o.1 else
    (if eqb o.0 0x43 then found block.Stop o.1 else
    (if eqb o.0 0x44 then (if first then found block.AcceptFirst o.1 else stopped (stops.Opcode (length bytes))) else
    stopped (stops.Opcode (length bytes))))))) (i, rest) e in
    let s = byte-codec.takes bytes a.0.0 a.0.1 fits a.1 in
    let r = step-by first a.0.1 a.0.0 (stops.Opcode (length bytes)) i rest s.0.rest_fits a.2 in
    let both = Takes-then bytes (byte a.0.0) a.0.1 (block_operands i) rest s.0 r.taken in
    (subst (λ (o : ℕ). Takes bytes (byte o ++ block_operands i) rest) (sym r.opcode) both, r.fits)

step-again : (first : Bool) (i : BlockInstr) (rest : List ℕ) → fits_block_in first i ≡ true
    → step_at first (block_spelling i ++ rest) ≡ Ok (i, rest)
unfolding step_at byte_at unless_at enter_at
step-again first (block.Unless atom target) rest fits =
    rw (two-codec.again target rest (and_parts (in_byte atom) (in_two target) fits).1) refl
step-again first (block.Enter position) rest fits = refl
step-again first block.Accept rest fits = refl
step-again first block.Stop rest fits = refl
step-again true block.AcceptFirst rest fits = refl
step-again false block.AcceptFirst rest fits = absurd cc

pub step-codec : (first : Bool) → IsCodec (fits_block_in first) block_spelling (step_at first)
step-codec first = record { takes = step-takes first; again = step-again first }
