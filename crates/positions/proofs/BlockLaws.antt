-- Loops that write blocks, and how long these are.
use Rattle.std.proofs.Common.{◌≡◌, ◌∙◌, ℕ, suc, ◌+◌, ◌*◌, ◌^◌, ◌%◌, ◌<◌, refl, sym, ap, subst, arith}
use Rattle.std.proofs.Common.{List, [], ◌∷◌, ◌++◌, length, map, drop, get_or, Vec, length-append, drop-cons}
use Rattle.std.proofs.Common.{append_assoc}
use Rattle.std.specs.Prelude.{bit_or}
use Rattle.std.specs.Global.{Global}
use Rattle.std.proofs.lemmas.List.{map-append}
use Rattle.std.proofs.lemmas.List.Sums.{sum_by-cons}
use Rattle.std.proofs.Math.Pow.{pow-lt}
use Rattle.std.proofs.Math.Nat.{mod-eq_of_lt}
use Rattle.std.proofs.lemmas.Nat.Bits.{bit_at_or, same_from_bits}
use Rattle.bytecode_programs.specs.declared.block_instr.BlockInstr.{BlockInstr}
use Rattle.bytecode_programs.specs.declared.block_instr.BlockInstr.TheVariants.{Unless, Enter}
use Rattle.verifier.specs.Sections.{instructions_in}
use Rattle.positions.specs.declared.edge.Edge as code
use Rattle.positions.specs.Tables.{Edge}
use Rattle.positions.specs.Sections.{edge_size, edge_code, guards, enter_all, accept_if, position_block}
use Rattle.positions.specs.Sections.{position_blocks}
use Rattle.positions.specs.Sections.{bits}
use Rattle.positions.specs.Rows.{edges_size, row_size, rows_size}
use Rattle.positions.specs.Views.{edge_data, edges_data, rows_data}
use Rattle.positions.proofs.Shapes.{edge-length}

-- lists of instructions, as a loop writes them

pub guards-map : (end : ℕ) (ns : List ℕ) → map (λ n. Unless n end) ns ≡ guards end ns
guards-map end [] = refl
guards-map end (n ∷ ns) = ap (λ is. Unless n end ∷ is) (guards-map end ns)

pub enter_all-map : (qs : List ℕ) → map (λ q. Enter q) qs ≡ enter_all qs
enter_all-map [] = refl
enter_all-map (q ∷ qs) = ap (λ is. Enter q ∷ is) (enter_all-map qs)

-- guards, what is entered, and whether it accepts: the code of an edge
pub edge-made : (before guarded entered made : List BlockInstr) (ns qs : List ℕ) (at end : ℕ) (e : Edge ℕ)
    → end ≡ at + edge_size e → ns ≡ e.wanted → qs ≡ e.enters →
    guarded ≡ before ++ map (λ n. Unless n end) ns → entered ≡ guarded ++ map (λ q. Enter q) qs
    → made ≡ entered ++ accept_if e.accepts →
    made ≡ before ++ edge_code at e
edge-made before guarded entered made ns qs at end e is wants enters one two three =
    three
    ∙ ap (λ xs. xs ++ accept_if e.accepts)
    (two ∙ ap (λ xs. xs ++ map (λ q. Enter q) qs) (one ∙ ap (λ xs. before ++ map (λ n. Unless n end) xs) wants)
    ∙ ap (λ xs. before ++ map (λ n. Unless n end) e.wanted ++ map (λ q. Enter q) xs) enters)
    ∙ ap (λ xs. before ++ xs ++ map (λ q. Enter q) e.enters ++ accept_if e.accepts) (guards-map end e.wanted)
    ∙ ap (λ xs. before ++ guards end e.wanted ++ xs ++ accept_if e.accepts) (enter_all-map e.enters)
    ∙ append_assoc (before ++ guards end e.wanted) (enter_all e.enters) (accept_if e.accepts)
    ∙ append_assoc before (guards end e.wanted) (enter_all e.enters ++ accept_if e.accepts)
    ∙ ap (λ n. before ++ (guards n e.wanted ++ (enter_all e.enters ++ accept_if e.accepts))) is

-- the block of a position

pub block-size : (base : ℕ) (es : List (Edge ℕ)) → length (position_block base es) ≡ row_size es
block-size base [] = refl
block-size base (e ∷ es) =
    omega (
      arith,
      length-append (edge_code base e) (position_block (base + edge_size e) es),
      edge-length base e,
      block-size (base + edge_size e) es,
      sum_by-cons edge_size e es,
    )

-- What is made of a block, where these edges are left.
pub record IsBegun (base : ℕ) (row left : List (Edge ℕ)) (made : List BlockInstr) : Type 0 where
  pub code : position_block base row ≡ made ++ position_block (base + length made) left
  pub room : length made + edges_size left ≡ edges_size row

begun-more : (base : ℕ) (row left : List (Edge ℕ)) (e : Edge ℕ) (made new : List BlockInstr)
    → IsBegun base row (e ∷ left) made →
    new ≡ made ++ edge_code (base + length made) e → IsBegun base row left new
begun-more base row left e made new so_far is =
    let size = edge-length (base + length made) e in
    let long : length new ≡ length made + length (edge_code (base + length made) e) =
    ap length is ∙ length-append made (edge_code (base + length made) e) in
    let next : base + length made + edge_size e ≡ base + length new = omega (arith, size, long) in
    record {
      code =
          so_far.code
          ∙ sym (append_assoc made (edge_code (base + length made) e)
          (position_block (base + length made + edge_size e) left))
          ∙ ap (λ is. is ++ position_block (base + length made + edge_size e) left) (sym is)
          ∙ ap (λ n. new ++ position_block n left) next;
      room = omega (arith, size, long, so_far.room, sum_by-cons edge_size e left);
    }

pub begun-next : (base : ℕ) (xs : List code.Edge) (i : ℕ) (item : code.Edge) (made new : List BlockInstr) →
    i < length xs → item ≡ get_or xs i item → IsBegun base (map edge_data xs) (map edge_data (drop i xs)) made →
    new ≡ made ++ edge_code (base + length made) (edge_data item) →
    IsBegun base (map edge_data xs) (map edge_data (drop (i + 1) xs)) new
begun-next base xs i item made new below at so_far is =
    let more : suc i ≡ i + 1 = omega arith in
    let split : drop i xs ≡ item ∷ drop (i + 1) xs =
    drop-cons xs i item below ∙ ap (λ x. x ∷ drop (suc i) xs) (sym at) ∙ ap (λ n. item ∷ drop n xs) more in
    begun-more base (map edge_data xs) (map edge_data (drop (i + 1) xs)) (edge_data item) made new
    (subst (λ left. IsBegun base (map edge_data xs) (map edge_data left) made) split so_far) is

-- the blocks

pub blocks-size : (base : ℕ) (rows : List (List (Edge ℕ))) → instructions_in (position_blocks base rows)
    ≡ rows_size rows
blocks-size base [] = refl
blocks-size base (row ∷ rows) =
    omega (
      arith,
      block-size base row,
      blocks-size (base + length (position_block base row)) rows,
      sum_by-cons row_size row rows,
    )

-- What is made of blocks, where the next begins at base and these rows are left.
pub record AreBegun (rows left : List (List (Edge ℕ))) (base : ℕ) (made : List (List BlockInstr)) : Type 0 where
  pub code : position_blocks 0 rows ≡ made ++ position_blocks base left
  pub room : base + rows_size left ≡ rows_size rows

are-more : (rows left : List (List (Edge ℕ))) (row : List (Edge ℕ)) (base next : ℕ) (made new : List (List BlockInstr))
    →
    AreBegun rows (row ∷ left) base made → new ≡ made ++ position_block base row ∷ []
    → next ≡ base + length (position_block base row) →
    AreBegun rows left next new
are-more rows left row base next made new so_far is grown =
    record {
      code =
          so_far.code
          ∙ sym (append_assoc made (position_block base row ∷ [])
          (position_blocks (base + length (position_block base row)) left))
          ∙ ap (λ bs. bs ++ position_blocks (base + length (position_block base row)) left) (sym is)
          ∙ ap (λ n. new ++ position_blocks n left) (sym grown);
      room = omega (arith, so_far.room, grown, block-size base row, sum_by-cons row_size row left);
    }

abbrev Row : Type 0
Row = Vec code.Edge Global

pub are-next : (xs : List Row) (i : ℕ) (item : Row) (base next : ℕ) (made new : List (Vec BlockInstr Global))
    (block : Vec BlockInstr Global) (es : List code.Edge) →
    i < length xs → item ≡ get_or xs i item
    → AreBegun (rows_data xs) (rows_data (drop i xs)) base (map (λ b. b.items) made) → es ≡ item.items →
    block.items ≡ position_block base (map edge_data es) → next ≡ base + length block.items → new ≡ made ++ block ∷ [] →
    AreBegun (rows_data xs) (rows_data (drop (i + 1) xs)) next (map (λ b. b.items) new)
are-next xs i item base next made new block es below at so_far of here grown put =
    let is : block.items ≡ position_block base (edges_data item) = here
    ∙ ap (λ x. position_block base (map edge_data x)) of in
    let more : suc i ≡ i + 1 = omega arith in
    let split : drop i xs ≡ item ∷ drop (i + 1) xs =
    drop-cons xs i item below ∙ ap (λ x. x ∷ drop (suc i) xs) (sym at) ∙ ap (λ n. item ∷ drop n xs) more in
    are-more (rows_data xs) (rows_data (drop (i + 1) xs)) (edges_data item) base next (map (λ b. b.items) made)
    (map (λ b. b.items) new)
    (subst (λ left. AreBegun (rows_data xs) (rows_data left) base (map (λ b. b.items) made)) split so_far)
    (ap (map (λ (b : Vec BlockInstr Global). b.items)) put
    ∙ map-append (λ (b : Vec BlockInstr Global). b.items) made (block ∷ [])
    ∙ ap (λ b. map (λ (b : Vec BlockInstr Global). b.items) made ++ b ∷ []) is)
    (grown ∙ ap (λ b. base + length b) is)

-- sets

or-swap : (a b c : ℕ) → bit_or (bit_or a b) c ≡ bit_or a (bit_or c b)
or-swap a b c =
    same_from_bits (bit_or (bit_or a b) c) (bit_or a (bit_or c b))
    (λ i. omega (arith, bit_at_or (bit_or a b) c i, bit_at_or a b i, bit_at_or a (bit_or c b) i, bit_at_or c b i))

pub bits-next : (qs : List ℕ) (i set : ℕ) → i < length qs → get_or qs i 0 < 128 → bit_or (bits (drop i qs)) set
    ≡ bits qs →
    bit_or (bits (drop (i + 1) qs)) (bit_or set (1 * 2 ^ get_or qs i 0 % 2 ^ 128)) ≡ bits qs
bits-next qs i set below small so_far =
    let item : ℕ = get_or qs i 0 in
    let more : suc i ≡ i + 1 = omega arith in
    let split : drop i qs ≡ item ∷ drop (i + 1) qs = drop-cons qs i 0 below ∙ ap (λ n. item ∷ drop n qs) more in
    let alone : 1 * 2 ^ item ≡ 2 ^ item = omega arith in
    let fits : 1 * 2 ^ item % 2 ^ 128 ≡ 2 ^ item = ap (λ n. n % 2 ^ 128) alone ∙ mod-eq_of_lt (pow-lt small) in
    ap (λ n. bit_or (bits (drop (i + 1) qs)) (bit_or set n)) fits
    ∙ sym (or-swap (bits (drop (i + 1) qs)) (2 ^ item) set)
    ∙ ap (λ left. bit_or (bits left) set) (sym split)
    ∙ so_far
