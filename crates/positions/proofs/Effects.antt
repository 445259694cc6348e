-- What the block of a position makes.
use Rattle.std.proofs.Common.{◌≡◌, ◌∙◌, ◌⊎◌, inl, inr, ℕ, zero, suc, ◌+◌, ◌-◌, ◌^◌, ◌<◌, ◌≤◌, Bool, true, false, ◌&&◌}
use Rattle.std.proofs.Common.{if◌then◌else◌, List, [], ◌∷◌, ◌++◌, length, refl, sym, ap, subst, arith, append_assoc}
use Rattle.std.proofs.Common.{length-append}
use Rattle.std.specs.Prelude.{slice_index_or, bit_or, ◌==◌}
use Rattle.std.specs.Int.{bit_at}
use Rattle.std.proofs.lemmas.Bool.{cases_Bool, cases_eq, and_parts, eqb-true, eq-eqb, both_ways}
use Rattle.std.proofs.lemmas.Nat.Bits.{bit_at_or, bit_at-pow_same, bit_at-pow_other, bit_at-zero, bit_at-lt}
use Rattle.bytecode_programs.specs.declared.block_instr.BlockInstr.{BlockInstr}
use Rattle.machine_checked.specs.Blocks.{Visit, ended}
use Rattle.positions.specs.Tables.{Edge, SomeOf, HasNumber}
use Rattle.machine_sections.specs.Effects.{effect, effects}
use Rattle.positions.specs.Sections.{edge_size, guards, enter_all, accept_if, edge_code, position_block}
use Rattle.positions.specs.Sections.{position_blocks}
use Rattle.positions.specs.Sections.{rows_from}
use Rattle.positions.specs.Sections.{bits}

-- a bit more
pub bit-more : (set q p : ℕ) → bit_at (bit_or set (2 ^ q)) p ≡ 1 → (q ≡ p) ⊎ (bit_at set p ≡ 1)
bit-more set q p h = elim (cases_eq q p) [
  | inl same ↦ inl same
  | inr other ↦ inr (omega (arith, bit_at_or set (2 ^ q) p, bit_at-pow_other q p (λ e. other (sym e)), h))
]

pub more-bit : (set q p : ℕ) → (q ≡ p) ⊎ (bit_at set p ≡ 1) → bit_at (bit_or set (2 ^ q)) p ≡ 1
more-bit set q p (inl same) =
    subst (λ p. bit_at (bit_or set (2 ^ q)) p ≡ 1) same
    (omega (arith, bit_at_or set (2 ^ q) q, bit_at-pow_same q, bit_at-lt set q))
more-bit set q p (inr h) = omega (arith, bit_at_or set (2 ^ q) p, bit_at-lt (2 ^ q) p, h)

pub bits-Has : (qs : List ℕ) (p : ℕ) → bit_at (bits qs) p ≡ 1 → HasNumber qs p
bits-Has [] p h = omega (arith, bit_at-zero p, h)
bits-Has (q ∷ qs) p h = elim (bit-more (bits qs) q p h) [ inl same ↦ inl same | inr rest ↦ inr (bits-Has qs p rest) ]

pub Has-bits : (qs : List ℕ) (p : ℕ) → HasNumber qs p → bit_at (bits qs) p ≡ 1
Has-bits [] p h = absurd h
Has-bits (q ∷ qs) p (inl same) = more-bit (bits qs) q p (inl same)
Has-bits (q ∷ qs) p (inr h) = more-bit (bits qs) q p (inr (Has-bits qs p h))

abbrev pub entering : List ℕ → Visit → Visit
entering [] v = v
entering (q ∷ qs) v =
    entering qs (record { entered = bit_or v.entered (2 ^ q); accepted = v.accepted; first = v.first })

abbrev pub accepting : Bool → Visit → Visit
accepting true v = record { entered = v.entered; accepted = true; first = v.first }
accepting false v = v

entering-accepted : (qs : List ℕ) (v : Visit) → (entering qs v).accepted ≡ v.accepted
entering-accepted [] v = refl
entering-accepted (q ∷ qs) v =
    entering-accepted qs (record { entered = bit_or v.entered (2 ^ q); accepted = v.accepted; first = v.first })

entering-first : (qs : List ℕ) (v : Visit) → (entering qs v).first ≡ v.first
entering-first [] v = refl
entering-first (q ∷ qs) v =
    entering-first qs (record { entered = bit_or v.entered (2 ^ q); accepted = v.accepted; first = v.first })

accepting-first : (b : Bool) (v : Visit) → (accepting b v).first ≡ v.first
accepting-first true v = refl
accepting-first false v = refl

-- a visit without AcceptFirst ends as it is
pub ended-same : (v : Visit) → v.first ≡ false → ended v ≡ v
ended-same v e =
    ap (λ b. record { entered = if b then 0 else v.entered; accepted = v.accepted; first = v.first }) e

entering-bit : (qs : List ℕ) (v : Visit) (p : ℕ) → bit_at (entering qs v).entered p ≡ 1 → (bit_at v.entered p ≡ 1)
    ⊎ HasNumber qs p
entering-bit [] v p h = inl h
entering-bit (q ∷ qs) v p h =
    elim (entering-bit qs (record { entered = bit_or v.entered (2 ^ q); accepted = v.accepted; first = v.first }) p h) [
      | inl x ↦ elim (bit-more v.entered q p x) [ inl same ↦ inr (inl same) | inr was ↦ inl was ]
      | inr x ↦ inr (inr x)
    ]

bit-entering : (qs : List ℕ) (v : Visit) (p : ℕ) → (bit_at v.entered p ≡ 1) ⊎ HasNumber qs p
    → bit_at (entering qs v).entered p ≡ 1
bit-entering [] v p (inl h) = h
bit-entering [] v p (inr h) = absurd h
bit-entering (q ∷ qs) v p (inl h) =
    bit-entering qs (record { entered = bit_or v.entered (2 ^ q); accepted = v.accepted; first = v.first }) p
    (inl (more-bit v.entered q p (inr h)))
bit-entering (q ∷ qs) v p (inr (inl same)) =
    bit-entering qs (record { entered = bit_or v.entered (2 ^ q); accepted = v.accepted; first = v.first }) p
    (inl (more-bit v.entered q p (inl same)))
bit-entering (q ∷ qs) v p (inr (inr h)) =
    bit-entering qs (record { entered = bit_or v.entered (2 ^ q); accepted = v.accepted; first = v.first }) p (inr h)

module _ (atoms : List Bool) where
  -- the atom is 1
  abbrev now : ℕ → Bool
  now n = slice_index_or atoms n true

  skip-append : (xs rest : List BlockInstr) (pc k : ℕ) (v : Visit) → k ≡ length xs → effect atoms k pc (xs ++ rest) v
      ≡ effect atoms zero (pc + k) rest v
  skip-append [] rest pc zero v e = let same : pc ≡ pc + zero = omega arith in ap (λ n. effect atoms zero n rest v) same
  skip-append [] rest pc (suc k) v e = absurd (omega (arith, e))
  skip-append (x ∷ xs) rest pc zero v e = absurd (omega (arith, e))
  skip-append (x ∷ xs) rest pc (suc k) v e =
      let same : pc + 1 + k ≡ pc + suc k = omega arith in
      skip-append xs rest (pc + 1) k v (omega (arith, e)) ∙ ap (λ n. effect atoms zero n rest v) same

  enter-effect : (qs : List ℕ) (rest : List BlockInstr) (pc : ℕ) (v : Visit)
      → effect atoms zero pc (enter_all qs ++ rest) v ≡ effect atoms zero (pc + length qs) rest (entering qs v)
  enter-effect [] rest pc v = let same : pc ≡ pc + 0 = omega arith in ap (λ n. effect atoms zero n rest v) same
  enter-effect (q ∷ qs) rest pc v =
      let w : Visit = record { entered = bit_or v.entered (2 ^ q); accepted = v.accepted; first = v.first } in
      let same : pc + 1 + length qs ≡ pc + length (q ∷ qs) = omega arith in
      enter-effect qs rest (pc + 1) w ∙ ap (λ n. effect atoms zero n rest (entering qs w)) same

  accept-effect : (b : Bool) (rest : List BlockInstr) (pc : ℕ) (v : Visit)
      → effect atoms zero pc (accept_if b ++ rest) v ≡ effect atoms zero (pc + (if b then 1 else 0)) rest
      (accepting b v)
  accept-effect true rest pc v = refl
  accept-effect false rest pc v = let same : pc ≡ pc + 0 = omega arith in ap (λ n. effect atoms zero n rest v) same

  abbrev pub all_now : List ℕ → Bool
  all_now [] = true
  all_now (b ∷ bs) = now b && all_now bs

  guards-length : (end : ℕ) (bs : List ℕ) → length (guards end bs) ≡ length bs
  guards-length end [] = refl
  guards-length end (b ∷ bs) = ap suc (guards-length end bs)

  guards-on : (bs : List ℕ) (end pc : ℕ) (rest : List BlockInstr) (v : Visit) → all_now bs ≡ true
      → effect atoms zero pc (guards end bs ++ rest) v ≡ effect atoms zero (pc + length bs) rest v
  guards-on [] end pc rest v h = let same : pc ≡ pc + 0 = omega arith in ap (λ n. effect atoms zero n rest v) same
  guards-on (b ∷ bs) end pc rest v h =
      let p = and_parts (now b) (all_now bs) h in
      let same : pc + 1 + length bs ≡ pc + length (b ∷ bs) = omega arith in
      ap (λ x. effect atoms (if x then 0 else end - (pc + 1)) (pc + 1) (guards end bs ++ rest) v) p.0
      ∙ guards-on bs end (pc + 1) rest v p.1
      ∙ ap (λ n. effect atoms zero n rest v) same

  guards-off : (bs : List ℕ) (end pc : ℕ) (tail rest : List BlockInstr) (v : Visit) → end ≡ pc + length bs + length tail
      → all_now bs ≡ false → effect atoms zero pc (guards end bs ++ (tail ++ rest)) v ≡ effect atoms zero end rest v
  guards-off [] end pc tail rest v e h = cc
  guards-off (b ∷ bs) end pc tail rest v e h =
      elim (cases_Bool (now b)) [
        | inl on ↦
            let later : all_now bs ≡ false = ap (λ x. x && all_now bs) (sym on) ∙ h in
            ap (λ x. effect atoms (if x then 0 else end - (pc + 1)) (pc + 1) (guards end bs ++ (tail ++ rest)) v) on
            ∙ guards-off bs end (pc + 1) tail rest v (omega (arith, e)) later
        | inr off ↦
            let gone : end - (pc + 1) ≡ length (guards end bs ++ tail) =
            omega (arith, e, length-append (guards end bs) tail, guards-length end bs) in
            let there : pc + 1 + (end - (pc + 1)) ≡ end = omega (arith, e) in
            ap (λ x. effect atoms (if x then 0 else end - (pc + 1)) (pc + 1) (guards end bs ++ (tail ++ rest)) v) off
            ∙ ap (λ is. effect atoms (end - (pc + 1)) (pc + 1) is v) (sym (append_assoc (guards end bs) tail rest))
            ∙ skip-append (guards end bs ++ tail) rest (pc + 1) (end - (pc + 1)) v gone
            ∙ ap (λ n. effect atoms zero n rest v) there
      ]

  -- what an edge makes
  abbrev pub made : Edge ℕ → Visit → Visit
  made e v = if all_now e.wanted then accepting e.accepts (entering e.enters v) else v

  tail-length : (e : Edge ℕ) → length (enter_all e.enters ++ accept_if e.accepts)
      ≡ length e.enters + (if e.accepts then 1 else 0)
  tail-length e =
      length-append (enter_all e.enters) (accept_if e.accepts)
      ∙ ap (λ n. n + length (accept_if e.accepts)) (entered e.enters)
      ∙ ap (λ n. length e.enters + n) (accepted e.accepts)
    where
      entered : (qs : List ℕ) → length (enter_all qs) ≡ length qs
      entered [] = refl
      entered (q ∷ qs) = ap suc (entered qs)

      accepted : (b : Bool) → length (accept_if b) ≡ (if b then 1 else 0)
      accepted true = refl
      accepted false = refl

  edge-effect : (e : Edge ℕ) (base : ℕ) (rest : List BlockInstr) (v : Visit)
      → effect atoms zero base (edge_code base e ++ rest) v ≡ effect atoms zero (base + edge_size e) rest (made e v)
  edge-effect e base rest v =
      let end : ℕ = base + edge_size e in
      let tail : List BlockInstr = enter_all e.enters ++ accept_if e.accepts in
      let split : edge_code base e ++ rest ≡ guards end e.wanted ++ (tail ++ rest) =
      append_assoc (guards end e.wanted) tail rest in
      ap (λ is. effect atoms zero base is v) split
      ∙ (elim (cases_Bool (all_now e.wanted)) [
        | inl on ↦
            let there : base + length e.wanted + length e.enters + (if e.accepts then 1 else 0) ≡ end = omega arith in
            guards-on e.wanted end base (tail ++ rest) v on
            ∙ ap (λ is. effect atoms zero (base + length e.wanted) is v)
            (append_assoc (enter_all e.enters) (accept_if e.accepts) rest)
            ∙ enter-effect e.enters (accept_if e.accepts ++ rest) (base + length e.wanted) v
            ∙ accept-effect e.accepts rest (base + length e.wanted + length e.enters) (entering e.enters v)
            ∙ ap (λ n. effect atoms zero n rest (accepting e.accepts (entering e.enters v))) there
            ∙ ap (λ b. effect atoms zero end rest (if b then accepting e.accepts (entering e.enters v) else v)) (sym on)
        | inr off ↦
            guards-off e.wanted end base tail rest v (omega (arith, tail-length e)) off
            ∙ ap (λ b. effect atoms zero end rest (if b then accepting e.accepts (entering e.enters v) else v))
            (sym off)
      ])

  abbrev pub made_all : List (Edge ℕ) → Visit → Visit
  made_all [] v = v
  made_all (e ∷ es) v = made_all es (made e v)

  block-effect : (es : List (Edge ℕ)) (base : ℕ) (v : Visit) → effect atoms zero base (position_block base es) v
      ≡ made_all es v
  block-effect [] base v = refl
  block-effect (e ∷ es) base v =
      edge-effect e base (position_block (base + edge_size e) es) v ∙ block-effect es (base + edge_size e) (made e v)

  -- what the blocks of a set make
  abbrev pub made_by : ℕ → (ℕ → List (Edge ℕ)) → ℕ → ℕ → Visit → Visit
  made_by set row p zero v = v
  made_by set row p (suc count) v = made_by set row (p + 1) count (if bit_at set p == 1 then made_all (row p) v else v)

  pub blocks-effects : (set : ℕ) (row : ℕ → List (Edge ℕ)) (p base count : ℕ) (v : Visit)
      → effects atoms set p base (position_blocks base (rows_from row p count)) v ≡ made_by set row p count v
  blocks-effects set row p base zero v = refl
  blocks-effects set row p base (suc count) v =
      let next : ℕ = base + length (position_block base (row p)) in
      ap (λ w. effects atoms set (p + 1) next (position_blocks next (rows_from row (p + 1) count))
      (if bit_at set p == 1 then w else v)) (block-effect (row p) base v)
      ∙ blocks-effects set row (p + 1) next count (if bit_at set p == 1 then made_all (row p) v else v)

  -- none of them is an AcceptFirst
  made-first : (e : Edge ℕ) (v : Visit) → (made e v).first ≡ v.first
  made-first e v = elim (cases_Bool (all_now e.wanted)) [
    | inr off ↦ ap (λ b. (if b then accepting e.accepts (entering e.enters v) else v).first) off
    | inl on ↦ ap (λ b. (if b then accepting e.accepts (entering e.enters v) else v).first) on
        ∙ accepting-first e.accepts (entering e.enters v) ∙ entering-first e.enters v
  ]

  made_all-first : (es : List (Edge ℕ)) (v : Visit) → (made_all es v).first ≡ v.first
  made_all-first [] v = refl
  made_all-first (e ∷ es) v = made_all-first es (made e v) ∙ made-first e v

  one-first : (b : Bool) (es : List (Edge ℕ)) (v : Visit) → (if b then made_all es v else v).first ≡ v.first
  one-first true es v = made_all-first es v
  one-first false es v = refl

  pub made_by-first : (set : ℕ) (row : ℕ → List (Edge ℕ)) (p count : ℕ) (v : Visit)
      → (made_by set row p count v).first ≡ v.first
  made_by-first set row p zero v = refl
  made_by-first set row p (suc count) v =
      made_by-first set row (p + 1) count (if bit_at set p == 1 then made_all (row p) v else v)
      ∙ one-first (bit_at set p == 1) (row p) v

  -- the edges of a position that enter q, and those that accept
  abbrev pub EnterNow : List (Edge ℕ) → ℕ → Type 0
  EnterNow es q = SomeOf (λ e. (all_now e.wanted ≡ true) × HasNumber e.enters q) es

  abbrev pub AcceptNow : List (Edge ℕ) → Type 0
  AcceptNow es = SomeOf (λ e. (all_now e.wanted ≡ true) × (e.accepts ≡ true)) es

  accepting-entered : (b : Bool) (v : Visit) → (accepting b v).entered ≡ v.entered
  accepting-entered true v = refl
  accepting-entered false v = refl

  made-bit : (e : Edge ℕ) (v : Visit) (q : ℕ) → bit_at (made e v).entered q ≡ 1 → (bit_at v.entered q ≡ 1)
      ⊎ ((all_now e.wanted ≡ true) × HasNumber e.enters q)
  made-bit e v q h = elim (cases_Bool (all_now e.wanted)) [
    | inr off ↦ inl (ap (λ b. bit_at (if b then accepting e.accepts (entering e.enters v) else v).entered q) (sym off)
        ∙ h)
    | inl on ↦
        let x =
        ap (λ n. bit_at n q) (sym (accepting-entered e.accepts (entering e.enters v)))
        ∙ ap (λ b. bit_at (if b then accepting e.accepts (entering e.enters v) else v).entered q) (sym on) ∙ h in
        elim (entering-bit e.enters v q x) [ inl was ↦ inl was | inr has ↦ inr (on, has) ]
  ]

  bit-made : (e : Edge ℕ) (v : Visit) (q : ℕ)
      → (bit_at v.entered q ≡ 1) ⊎ ((all_now e.wanted ≡ true) × HasNumber e.enters q)
      → bit_at (made e v).entered q ≡ 1
  bit-made e v q h = elim (cases_Bool (all_now e.wanted)) [
    | inr off ↦ elim h [
      | inl was ↦ ap (λ b. bit_at (if b then accepting e.accepts (entering e.enters v) else v).entered q) off ∙ was
      | inr x ↦ absurd (both_ways _ off x.0)
    ]
    | inl on ↦
        let x = bit-entering e.enters v q (elim h [ inl was ↦ inl was | inr x ↦ inr x.1 ]) in
        ap (λ b. bit_at (if b then accepting e.accepts (entering e.enters v) else v).entered q) on
        ∙ ap (λ n. bit_at n q) (accepting-entered e.accepts (entering e.enters v)) ∙ x
  ]

  accepting-accepts : (b : Bool) (v : Visit) → (accepting b v).accepted ≡ true → (v.accepted ≡ true) ⊎ (b ≡ true)
  accepting-accepts true v h = inr refl
  accepting-accepts false v h = inl h

  accepts-accepting : (b : Bool) (v : Visit) → (v.accepted ≡ true) ⊎ (b ≡ true) → (accepting b v).accepted ≡ true
  accepts-accepting true v h = refl
  accepts-accepting false v (inl h) = h
  accepts-accepting false v (inr h) = cc

  made-accepts : (e : Edge ℕ) (v : Visit) → (made e v).accepted ≡ true → (v.accepted ≡ true)
      ⊎ ((all_now e.wanted ≡ true) × (e.accepts ≡ true))
  made-accepts e v h = elim (cases_Bool (all_now e.wanted)) [
    | inr off ↦ inl (ap (λ b. (if b then accepting e.accepts (entering e.enters v) else v).accepted) (sym off) ∙ h)
    | inl on ↦
        elim (accepting-accepts e.accepts (entering e.enters v)
        (ap (λ b. (if b then accepting e.accepts (entering e.enters v) else v).accepted) (sym on) ∙ h)) [
          | inl was ↦ inl (sym (entering-accepted e.enters v) ∙ was)
          | inr is ↦ inr (on, is)
        ]
  ]

  accepts-made : (e : Edge ℕ) (v : Visit) → (v.accepted ≡ true) ⊎ ((all_now e.wanted ≡ true) × (e.accepts ≡ true))
      → (made e v).accepted ≡ true
  accepts-made e v h = elim (cases_Bool (all_now e.wanted)) [
    | inr off ↦ elim h [
      | inl was ↦ ap (λ b. (if b then accepting e.accepts (entering e.enters v) else v).accepted) off ∙ was
      | inr x ↦ absurd (both_ways _ off x.0)
    ]
    | inl on ↦ ap (λ b. (if b then accepting e.accepts (entering e.enters v) else v).accepted) on
        ∙ accepts-accepting e.accepts (entering e.enters v)
        (elim h [ inl was ↦ inl (entering-accepted e.enters v ∙ was) | inr x ↦ inr x.1 ])
  ]

  all-bit : (es : List (Edge ℕ)) (v : Visit) (q : ℕ) → bit_at (made_all es v).entered q ≡ 1 → (bit_at v.entered q ≡ 1)
      ⊎ EnterNow es q
  all-bit [] v q h = inl h
  all-bit (e ∷ es) v q h = elim (all-bit es (made e v) q h) [
    | inl x ↦ elim (made-bit e v q x) [ inl was ↦ inl was | inr here ↦ inr (inl here) ]
    | inr x ↦ inr (inr x)
  ]

  bit-all : (es : List (Edge ℕ)) (v : Visit) (q : ℕ) → (bit_at v.entered q ≡ 1) ⊎ EnterNow es q
      → bit_at (made_all es v).entered q ≡ 1
  bit-all [] v q (inl h) = h
  bit-all [] v q (inr h) = absurd h
  bit-all (e ∷ es) v q (inl h) = bit-all es (made e v) q (inl (bit-made e v q (inl h)))
  bit-all (e ∷ es) v q (inr (inl h)) = bit-all es (made e v) q (inl (bit-made e v q (inr h)))
  bit-all (e ∷ es) v q (inr (inr h)) = bit-all es (made e v) q (inr h)

  all-accepts : (es : List (Edge ℕ)) (v : Visit) → (made_all es v).accepted ≡ true → (v.accepted ≡ true) ⊎ AcceptNow es
  all-accepts [] v h = inl h
  all-accepts (e ∷ es) v h = elim (all-accepts es (made e v) h) [
    | inl x ↦ elim (made-accepts e v x) [ inl was ↦ inl was | inr here ↦ inr (inl here) ]
    | inr x ↦ inr (inr x)
  ]

  accepts-all : (es : List (Edge ℕ)) (v : Visit) → (v.accepted ≡ true) ⊎ AcceptNow es → (made_all es v).accepted ≡ true
  accepts-all [] v (inl h) = h
  accepts-all [] v (inr h) = absurd h
  accepts-all (e ∷ es) v (inl h) = accepts-all es (made e v) (inl (accepts-made e v (inl h)))
  accepts-all (e ∷ es) v (inr (inl h)) = accepts-all es (made e v) (inl (accepts-made e v (inr h)))
  accepts-all (e ∷ es) v (inr (inr h)) = accepts-all es (made e v) (inr h)

  -- one of the positions from p on, so many, is in the set and passes
  abbrev pub SomeIn : ℕ → (ℕ → Type 0) → ℕ → ℕ → Type 0
  SomeIn set P p count = (k : ℕ) × (p ≤ k) × (k < p + count) × (bit_at set k ≡ 1) × P k

  pub by-bit : (set : ℕ) (row : ℕ → List (Edge ℕ)) (p count : ℕ) (v : Visit) (q : ℕ)
      → bit_at (made_by set row p count v).entered q ≡ 1 → (bit_at v.entered q ≡ 1)
      ⊎ SomeIn set (λ k. EnterNow (row k) q) p count
  by-bit set row p zero v q h = inl h
  by-bit set row p (suc count) v q h =
      elim (by-bit set row (p + 1) count (if bit_at set p == 1 then made_all (row p) v else v) q h) [
        | inr x ↦ inr (x.0, omega (arith, x.1), omega (arith, x.2), x.3, x.4)
        | inl x ↦ elim (cases_Bool (bit_at set p == 1)) [
          | inr off ↦ inl (ap (λ b. bit_at (if b then made_all (row p) v else v).entered q) (sym off) ∙ x)
          | inl on ↦
              elim (all-bit (row p) v q (ap (λ b. bit_at (if b then made_all (row p) v else v).entered q) (sym on)
              ∙ x)) [
                | inl was ↦ inl was
                | inr here ↦ inr (p, omega arith, omega arith, eqb-true _ 1 on, here)
              ]
        ]
      ]

  pub bit-by : (set : ℕ) (row : ℕ → List (Edge ℕ)) (p count : ℕ) (v : Visit) (q : ℕ) → (bit_at v.entered q ≡ 1)
      ⊎ SomeIn set (λ k. EnterNow (row k) q) p count → bit_at (made_by set row p count v).entered q ≡ 1
  bit-by set row p zero v q (inl h) = h
  bit-by set row p zero v q (inr x) = absurd (omega (arith, x.1, x.2))
  bit-by set row p (suc count) v q h =
      bit-by set row (p + 1) count (if bit_at set p == 1 then made_all (row p) v else v) q
      (elim h [
        | inl was ↦ inl (elim (cases_Bool (bit_at set p == 1)) [
          | inr off ↦ ap (λ b. bit_at (if b then made_all (row p) v else v).entered q) off ∙ was
          | inl on ↦ ap (λ b. bit_at (if b then made_all (row p) v else v).entered q) on ∙ bit-all (row p) v q (inl was)
        ])
        | inr x ↦ elim (cases_eq x.0 p) [
          | inl same ↦
              let on : (bit_at set p == 1) ≡ true = eq-eqb _ 1 (ap (bit_at set) (sym same) ∙ x.3) in
              inl (ap (λ b. bit_at (if b then made_all (row p) v else v).entered q) on
              ∙ bit-all (row p) v q (inr (subst (λ k. EnterNow (row k) q) same x.4)))
          | inr other ↦ inr (x.0, omega (arith, x.1), omega (arith, x.2), x.3, x.4)
        ]
      ])

  pub by-accepts : (set : ℕ) (row : ℕ → List (Edge ℕ)) (p count : ℕ) (v : Visit) → (made_by set row p count v).accepted
      ≡ true → (v.accepted ≡ true) ⊎ SomeIn set (λ k. AcceptNow (row k)) p count
  by-accepts set row p zero v h = inl h
  by-accepts set row p (suc count) v h =
      elim (by-accepts set row (p + 1) count (if bit_at set p == 1 then made_all (row p) v else v) h) [
        | inr x ↦ inr (x.0, omega (arith, x.1), omega (arith, x.2), x.3, x.4)
        | inl x ↦ elim (cases_Bool (bit_at set p == 1)) [
          | inr off ↦ inl (ap (λ b. (if b then made_all (row p) v else v).accepted) (sym off) ∙ x)
          | inl on ↦
              elim (all-accepts (row p) v (ap (λ b. (if b then made_all (row p) v else v).accepted) (sym on) ∙ x)) [
                | inl was ↦ inl was
                | inr here ↦ inr (p, omega arith, omega arith, eqb-true _ 1 on, here)
              ]
        ]
      ]

  pub accepts-by : (set : ℕ) (row : ℕ → List (Edge ℕ)) (p count : ℕ) (v : Visit) → (v.accepted ≡ true)
      ⊎ SomeIn set (λ k. AcceptNow (row k)) p count → (made_by set row p count v).accepted ≡ true
  accepts-by set row p zero v (inl h) = h
  accepts-by set row p zero v (inr x) = absurd (omega (arith, x.1, x.2))
  accepts-by set row p (suc count) v h =
      accepts-by set row (p + 1) count (if bit_at set p == 1 then made_all (row p) v else v)
      (elim h [
        | inl was ↦ inl (elim (cases_Bool (bit_at set p == 1)) [
          | inr off ↦ ap (λ b. (if b then made_all (row p) v else v).accepted) off ∙ was
          | inl on ↦ ap (λ b. (if b then made_all (row p) v else v).accepted) on ∙ accepts-all (row p) v (inl was)
        ])
        | inr x ↦ elim (cases_eq x.0 p) [
          | inl same ↦
              let on : (bit_at set p == 1) ≡ true = eq-eqb _ 1 (ap (bit_at set) (sym same) ∙ x.3) in
              inl (ap (λ b. (if b then made_all (row p) v else v).accepted) on
              ∙ accepts-all (row p) v (inr (subst (λ k. AcceptNow (row k)) same x.4)))
          | inr other ↦ inr (x.0, omega (arith, x.1), omega (arith, x.2), x.3, x.4)
        ]
      ])
