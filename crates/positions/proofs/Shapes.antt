-- The section of a table is well formed.
use Rattle.std.proofs.Common.{◌≡◌, ◌∙◌, inl, inr, ℕ, zero, suc, ◌+◌, ◌-◌, ◌^◌, ◌<◌, ◌≤◌, Bool, true, false}
use Rattle.std.proofs.Common.{if◌then◌else◌, List, [], ◌∷◌, ◌++◌, length, Option, Some, None, refl, sym, ap, subst}
use Rattle.std.proofs.Common.{arith, length-append}
use Rattle.std.specs.Prelude.{slice_get, map}
use Rattle.std.proofs.Math.Pow.{pow-lt}
use Rattle.std.proofs.lemmas.Nat.{or_lt, pow_pos}
use Rattle.std.proofs.lemmas.Bool.{lt-ltb}
use Rattle.bytecode_programs.specs.declared.block_instr.BlockInstr.{BlockInstr}
use Rattle.bytecode_programs.specs.declared.block_instr.BlockInstr.TheVariants.{Unless, Enter, Accept, Stop}
use Rattle.bytecode_programs.specs.declared.block_instr.BlockInstr.TheVariants.{AcceptFirst}
use Rattle.bytecode_programs.specs.declared.flow.Flow.TheVariants.{Stops}
use Rattle.bytecode_programs.specs.Instructions.{LeadsTo, block_flow}
use Rattle.verifier.specs.Rules.{block_rules}
use Rattle.verifier.specs.Typing.{IsFine, IsCodeTyped}
use Rattle.verifier.specs.Sections.{AreTyped, IsSection}
use Rattle.positions.specs.Tables.{Edge, Table, SomeOf, EachOf, HasNumber, IsRising}
use Rattle.positions.specs.Sections.{edge_size, guards, enter_all, accept_if, edge_code, position_block}
use Rattle.positions.specs.Sections.{position_blocks}
use Rattle.positions.specs.Sections.{bits, with_atom, atoms_of, numbered_edge, coded, rows_from, section_of}
use Rattle.positions.specs.Laws.{IsThere}
use Rattle.positions.proofs.Lists.{SomeOf-map}

guards-length : (end : ℕ) (ns : List ℕ) → length (guards end ns) ≡ length ns
guards-length end [] = refl
guards-length end (n ∷ ns) = ap suc (guards-length end ns)

enter_all-length : (qs : List ℕ) → length (enter_all qs) ≡ length qs
enter_all-length [] = refl
enter_all-length (q ∷ qs) = ap suc (enter_all-length qs)

accept_if-length : (b : Bool) → length (accept_if b) ≡ (if b then 1 else 0)
accept_if-length true = refl
accept_if-length false = refl

pub edge-length : (base : ℕ) (e : Edge ℕ) → length (edge_code base e) ≡ edge_size e
edge-length base e =
    length-append (guards (base + edge_size e) e.wanted) (enter_all e.enters ++ accept_if e.accepts)
    ∙ ap (λ n. n + length (enter_all e.enters ++ accept_if e.accepts)) (guards-length (base + edge_size e) e.wanted)
    ∙ ap (λ n. length e.wanted + n) (length-append (enter_all e.enters) (accept_if e.accepts)
    ∙ ap (λ n. n + length (accept_if e.accepts)) (enter_all-length e.enters)
    ∙ ap (λ n. length e.enters + n) (accept_if-length e.accepts))

pub block-positive : (base : ℕ) (es : List (Edge ℕ)) → 1 ≤ length (position_block base es)
block-positive base [] = omega arith
block-positive base (e ∷ es) =
    omega (
      arith,
      length-append (edge_code base e) (position_block (base + edge_size e) es),
      block-positive (base + edge_size e) es,
    )

module _ (section atoms positions p end : ℕ) where
  -- What an instruction at pc needs, of the block of position p, which ends at end.
  abbrev pub IsGood : ℕ → BlockInstr → Type 0
  IsGood pc (Unless atom target) = (atom < atoms) × (pc < target) × (target < end)
  IsGood pc (Enter q) = (p < q) × (q < positions) × (pc + 1 < end)
  IsGood pc Accept = pc + 1 < end
  IsGood pc AcceptFirst = ⊥
  IsGood pc Stop = pc + 1 ≡ end

  abbrev pub AreGood : ℕ → List BlockInstr → Type 0
  AreGood pc [] = Unit {0}
  AreGood pc (i ∷ is) = IsGood pc i × AreGood (pc + 1) is

  AreGood-at : (pc : ℕ) (is : List BlockInstr) → AreGood pc is → (k : ℕ) (i : BlockInstr) → slice_get is k ≡ Some i
      → IsGood (pc + k) i
  AreGood-at pc [] good k i h = cc
  AreGood-at pc (x ∷ xs) good zero i h =
      let same : x ≡ i = cc in
      let here : pc ≡ pc + 0 = omega arith in
      subst (λ n. IsGood n i) here (subst (IsGood pc) same good.0)
  AreGood-at pc (x ∷ xs) good (suc k) i h =
      let there : pc + 1 + k ≡ pc + suc k = omega arith in
      subst (λ n. IsGood n i) there (AreGood-at (pc + 1) xs good.1 k i h)

  AreGood-append : (pc : ℕ) (xs ys : List BlockInstr) → AreGood pc xs → AreGood (pc + length xs) ys
      → AreGood pc (xs ++ ys)
  AreGood-append pc [] ys a b = let here : pc + 0 ≡ pc = omega arith in subst (λ n. AreGood n ys) here b
  AreGood-append pc (x ∷ xs) ys a b =
      let there : pc + length (x ∷ xs) ≡ pc + 1 + length xs = omega arith in
      (a.0, AreGood-append (pc + 1) xs ys a.1 (subst (λ n. AreGood n ys) there b))

  guards-good : (target pc : ℕ) (ns : List ℕ) → EachOf (λ n. n < atoms) ns → pc + length ns ≤ target → target < end
      → AreGood pc (guards target ns)
  guards-good target pc [] there within before = tt
  guards-good target pc (n ∷ ns) there within before =
      ((there.0, omega arith, before), guards-good target (pc + 1) ns there.1 (omega arith) before)

  enters-good : (pc : ℕ) (qs : List ℕ) → ((q : ℕ) → HasNumber qs q → (p < q) × (q < positions)) → pc + length qs < end
      → AreGood pc (enter_all qs)
  enters-good pc [] up before = tt
  enters-good pc (q ∷ qs) up before =
      let u = up q (inl refl) in
      ((u.0, u.1, omega arith), enters-good (pc + 1) qs (λ r has. up r (inr has)) (omega arith))

  accept-good : (pc : ℕ) (b : Bool) → pc + (if b then 1 else 0) < end → AreGood pc (accept_if b)
  accept-good pc true before = (before, tt)
  accept-good pc false before = tt

  block-good : (base : ℕ) (es : List (Edge ℕ)) → EachOf (λ (e : Edge ℕ). EachOf (λ n. n < atoms) e.wanted) es
      → ((q : ℕ) → SomeOf (λ (e : Edge ℕ). HasNumber e.enters q) es → (p < q) × (q < positions))
      → base + length (position_block base es) ≡ end → AreGood base (position_block base es)
  block-good base [] there up ends = (ends, tt)
  block-good base (e ∷ es) there up ends =
      let size = edge-length base e in
      let whole = length-append (edge_code base e) (position_block (base + edge_size e) es) in
      let later = block-positive (base + edge_size e) es in
      let tail : List BlockInstr = enter_all e.enters ++ accept_if e.accepts in
      let from : ℕ = base + length (guards (base + edge_size e) e.wanted) in
      let front = guards-length (base + edge_size e) e.wanted in
      let entered = enter_all-length e.enters in
      AreGood-append base (edge_code base e) (position_block (base + edge_size e) es)
      (AreGood-append base (guards (base + edge_size e) e.wanted) tail
      (guards-good (base + edge_size e) base e.wanted there.0 (omega arith) (omega (arith, size, whole, later, ends)))
      (AreGood-append from (enter_all e.enters) (accept_if e.accepts)
      (enters-good from e.enters (λ q has. up q (inl has)) (omega (arith, size, whole, later, ends, front)))
      (accept-good (from + length (enter_all e.enters)) e.accepts
      (omega (arith, size, whole, later, ends, front, entered)))))
      (subst (λ n. AreGood (base + n) (position_block (base + edge_size e) es)) (sym size)
      (block-good (base + edge_size e) es there.1 (λ q has. up q (inr has)) (omega (arith, size, whole, ends))))

  -- such an instruction is typed, by the table of empty lists
  good-fine : (pc : ℕ) (i : BlockInstr) → IsGood pc i → IsFine (block_rules section atoms positions p) end (λ n. []) pc
      i
  good-fine pc (Unless atom target) good = record {
    after = [];
    rule = refl;
    sends = λ to leads. refl;
    forward =
        λ to leads.
        (elim leads [
          | inl e ↦ (omega (arith, good.1, e), omega (arith, good.2, e))
          | inr e ↦ (omega (arith, e), omega (arith, good.1, good.2, e))
        ]);
    names = rw (lt-ltb atom atoms good.0) refl;
  }
  good-fine pc (Enter q) good = record {
    after = [];
    rule = refl;
    sends = λ to leads. refl;
    forward = λ to leads. (omega (arith, leads), omega (arith, leads, good.2));
    names = rw (lt-ltb q positions good.1, lt-ltb p q good.0) refl;
  }
  good-fine pc Accept good = record {
    after = [];
    rule = refl;
    sends = λ to leads. refl;
    forward = λ to leads. (omega (arith, leads), omega (arith, leads, good));
    names = refl;
  }
  good-fine pc AcceptFirst good = absurd good
  good-fine pc Stop good = record {
    after = [];
    rule = refl;
    sends = λ to leads. refl;
    forward = λ to leads. absurd leads;
    names = refl;
  }

  -- all but the last go on, and the last stops
  good-on : (pc : ℕ) (i : BlockInstr) → IsGood pc i → pc + 1 < end → LeadsTo (block_flow i) pc (pc + 1)
  good-on pc (Unless atom target) good before = inr refl
  good-on pc (Enter q) good before = refl
  good-on pc Accept good before = refl
  good-on pc AcceptFirst good before = absurd good
  good-on pc Stop good before = absurd (omega (arith, good))

  good-last : (pc : ℕ) (i : BlockInstr) → IsGood pc i → pc + 1 ≡ end → block_flow i ≡ Stops
  good-last pc (Unless atom target) good last = absurd (omega (arith, good.1, good.2, last))
  good-last pc (Enter q) good last = absurd (omega (arith, good.2, last))
  good-last pc Accept good last = absurd (omega (arith, good, last))
  good-last pc AcceptFirst good last = absurd good
  good-last pc Stop good last = refl

some-at : (is : List BlockInstr) (k : ℕ) → k < length is → (i : BlockInstr) × (slice_get is k ≡ Some i)
some-at [] k below = absurd (omega arith)
some-at (i ∷ is) zero below = (i, refl)
some-at (i ∷ is) (suc k) below = some-at is k (omega arith)

module _ (section atoms positions : ℕ) where
  block-typed : (p base : ℕ) (es : List (Edge ℕ)) → EachOf (λ (e : Edge ℕ). EachOf (λ n. n < atoms) e.wanted) es
      → ((q : ℕ) → SomeOf (λ (e : Edge ℕ). HasNumber e.enters q) es → (p < q) × (q < positions))
      → IsCodeTyped (block_rules section atoms positions p) base (position_block base es) (λ n. [])
  block-typed p base es there up =
      let code : List BlockInstr = position_block base es in
      let end : ℕ = base + length code in
      let some = block-positive base es in
      let good = block-good section atoms positions p end base es there up refl in
      record {
        some = omega arith;
        begins = refl;
        each =
            λ k i at. good-fine section atoms positions p end (base + k) i
            (AreGood-at section atoms positions p end base code good k i at);
        ends =
            λ i at. good-last section atoms positions p end (base + (length code - 1)) i
            (AreGood-at section atoms positions p end base code good (length code - 1) i at) (omega arith);
        reached = λ k past below. (
            let i = some-at code (k - 1) (omega arith) in
            let on =
            good-on section atoms positions p end (base + (k - 1)) i.0
            (AreGood-at section atoms positions p end base code good (k - 1) i.0 i.1) (omega arith) in
            let e : base + (k - 1) + 1 ≡ base + k = omega arith in
            (k - 1, i.0, omega arith, i.1, subst (λ n. LeadsTo (block_flow i.0) (base + (k - 1)) n) e on)
            );
      }

  blocks-typed : (row : ℕ → List (Edge ℕ)) (p base count : ℕ)
      → ((k : ℕ) → EachOf (λ (e : Edge ℕ). EachOf (λ n. n < atoms) e.wanted) (row k))
      → ((k q : ℕ) → k < p + count → SomeOf (λ (e : Edge ℕ). HasNumber e.enters q) (row k) → (k < q) × (q < positions))
      → AreTyped section atoms positions p base (position_blocks base (rows_from row p count))
  blocks-typed row p base zero there up = tt
  blocks-typed row p base (suc count) there up = (
    block-typed p base (row p) (there p) (λ q has. up p q (omega arith) has),
    blocks-typed row (p + 1) (base + length (position_block base (row p))) count there
        (λ k q below has. up k q (omega arith) has),
  )

pub blocks-length : (row : ℕ → List (Edge ℕ)) (base p count : ℕ) → length (position_blocks base (rows_from row p count))
    ≡ count
blocks-length row base p zero = refl
blocks-length row base p (suc count) = ap suc
    (blocks-length row (base + length (position_block base (row p))) (p + 1) count)

bits-below : (n : ℕ) (qs : List ℕ) → ((q : ℕ) → HasNumber qs q → q < n) → bits qs < 2 ^ n
bits-below n [] below = pow_pos n
bits-below n (q ∷ qs) below =
    or_lt n (bits qs) (2 ^ q) (bits-below n qs (λ r has. below r (inr has))) (pow-lt (below q (inl refl)))

atoms-there : {B : Type 0} (atoms : ℕ) (atom : B → Option ℕ) (bs : List B) → EachOf (λ b. IsThere atoms (atom b)) bs
    → EachOf (λ n. n < atoms) (atoms_of atom bs)
atoms-there atoms atom [] there = tt
atoms-there atoms atom (b ∷ bs) there = more (atom b) there.0 (atoms-there atoms atom bs there.1)
  where
    more : (o : Option ℕ) → IsThere atoms o → EachOf (λ n. n < atoms) (atoms_of atom bs)
        → EachOf (λ n. n < atoms) (with_atom o (atoms_of atom bs))
    more None h k = k
    more (Some n) h k = (h, k)

edges-there : {B : Type 0} (atoms : ℕ) (atom : B → Option ℕ) (es : List (Edge B))
    → EachOf (λ (e : Edge B). EachOf (λ b. IsThere atoms (atom b)) e.wanted) es →
    EachOf (λ (e : Edge ℕ). EachOf (λ n. n < atoms) e.wanted) (map (numbered_edge atom) es)
edges-there atoms atom [] there = tt
edges-there atoms atom (e ∷ es) there = (atoms-there atoms atom e.wanted there.0, edges-there atoms atom es there.1)

pub is-section : (B : Type 0) (t : Table B) → IsRising t → (section atoms : ℕ) (atom : B → Option ℕ) →
    ((k : ℕ) → EachOf (λ (e : Edge B). EachOf (λ b. IsThere atoms (atom b)) e.wanted) (t.row k))
    → IsSection section atoms (section_of atom t)
is-section B t rising section atoms atom there =
    let size : length (section_of atom t).blocks ≡ t.size = blocks-length (coded atom t) 0 0 t.size in
    record {
      blocks = subst (λ n. AreTyped section atoms n 0 0 (section_of atom t).blocks) (sym size)
          (blocks-typed section atoms t.size (coded atom t) 0 0 t.size
          (λ k. edges-there atoms atom (t.row k) (there k))
          (λ k q below has. rising.enters k q (omega arith)
          (SomeOf-map (λ (e : Edge ℕ). HasNumber e.enters q) (numbered_edge atom) (t.row k) has)));
      start = subst (λ n. bits t.starts < 2 ^ n) (sym size) (bits-below t.size t.starts (λ q h. rising.starts q h));
    }
