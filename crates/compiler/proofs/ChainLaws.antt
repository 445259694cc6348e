-- The code of a chain is that of its first operand and, from the left, of its other operands.
use Rattle.std.proofs.Common.{◌≡◌, ◌∙◌, ℕ, ◌+◌, ◌<◌, max, false, length, List, [], ◌∷◌, ◌++◌, refl}
use Rattle.std.proofs.Common.{sym, ap, arith}
use Rattle.std.proofs.Common.{IsTrue, append_assoc, map, drop, get_or}
use Rattle.std.proofs.lemmas.Bool.{eq-eqb, and_parts}
use Rattle.std.proofs.lemmas.List.{append-nil}
use Rattle.expressions.specs.declared.operator.Arithmetic.{Arithmetic}
use Rattle.expressions.specs.declared.operator.Shift.{Shift}
use Rattle.expressions.specs.declared.operator.Comparison.{Comparison}
use Rattle.expressions.specs.declared.operator.Connective.{Connective}
use Rattle.expressions.specs.Terms.{Term, concat, combine, shift, compare, connect, width_of}
use Rattle.expressions.specs.Nodes.{Seen, chain_term, concatenation_term, width_compared, has_some}
use Rattle.expressions.specs.Nodes.{has_part, all_typed, all_parts_typed, seen_node, node_term}
use Rattle.expressions.specs.Nodes.{is_typed, step_of}
use Rattle.expressions.specs.Chains.{AllNarrow}
use Rattle.expressions.specs.declared.node.Node.{Node}
use Rattle.expressions.proofs.Chains.{step_at}
use Rattle.bytecode_programs.specs.declared.sample_instr.SampleInstr.{SampleInstr}
use Rattle.bytecode_programs.specs.declared.sample_instr.SampleInstr.TheVariants.{Concat}
use Rattle.compiler.specs.Codes.{Slots, extension, bit_test}
use Rattle.compiler.specs.Codes.{comparison_middle, comparison_end, connective_end, code_of}
use Rattle.compiler.specs.Codes.{reads_slot, reach}
use Rattle.compiler.specs.Chains.{sums_code, shifts_code, compares_code, connects_code}
use Rattle.compiler.specs.Chains.{parts_code, chain_reach, parts_reach}

pub extension-none : (w : ℕ) → extension w w ≡ []
extension-none w = rw (eq-eqb w w refl) refl

module _ (at : Slots) (n : ℕ) where
  pub code-sums :
      (w : ℕ) (e : Term) (ss : List (Arithmetic × Seen)) →
      code_of at (chain_term combine e ss) w n ≡ code_of at e w n ++ sums_code at w n ss
  code-sums w e [] = sym (append-nil (code_of at e w n))
  code-sums w e (s ∷ rest) = code-sums w (combine s.0 e s.1.term) rest ∙ simp append_assoc

  pub code-shifts :
      (w : ℕ) (e : Term) (ss : List (Shift × Seen)) →
      code_of at (chain_term shift e ss) w n ≡ code_of at e w n ++ shifts_code at n ss
  code-shifts w e [] = sym (append-nil (code_of at e w n))
  code-shifts w e (s ∷ rest) = code-shifts w (shift s.0 e s.1.term) rest ∙ simp append_assoc

  -- a comparison, of one bit
  abbrev compared : Comparison → Term → Term → List SampleInstr
  compared op a b =
      let m : ℕ = max (width_of a) (width_of b) in
      code_of at a m n ++ comparison_middle op ++ code_of at b m n ++ comparison_end op

  code-compared :
      (w : ℕ) (op : Comparison) (a b : Term) (ss : List (Comparison × Seen)) →
      code_of at (chain_term compare (compare op a b) ss) w n
      ≡ compared op a b ++ compares_code at 1 n ss ++ extension 1 w
  code-compared w op a b [] = ap (λ c. c ++ extension 1 w) (sym (append-nil (compared op a b)))
  code-compared w op a b (s ∷ rest) =
      code-compared w s.0 (compare op a b) s.1.term rest ∙ simp append_assoc

  pub code-comparisons :
      (w m : ℕ) (e : Term) (ss : List (Comparison × Seen)) → m ≡ width_compared e ss →
      IsTrue (has_some ss) →
      code_of at (chain_term compare e ss) w n
      ≡ code_of at e m n ++ compares_code at m n ss ++ extension 1 w
  code-comparisons w m e [] is some = cc
  code-comparisons w m e (s ∷ rest) is some =
      let larger : max m (width_of s.1.term) ≡ m = omega (arith, is) in
      rw (larger, extension-none m, is)
      (code-compared w s.0 e s.1.term rest ∙ simp append_assoc)

  -- a connective, of one bit
  abbrev connected : Connective → Term → Term → List SampleInstr
  connected op a b =
      code_of at a (width_of a) n ++ bit_test (width_of a) ++ code_of at b (width_of b) n
      ++ bit_test (width_of b) ++ connective_end op

  code-connected :
      (w : ℕ) (op : Connective) (a b : Term) (ss : List (Connective × Seen)) →
      code_of at (chain_term connect (connect op a b) ss) w n
      ≡ connected op a b ++ connects_code at 1 n ss ++ extension 1 w
  code-connected w op a b [] = ap (λ c. c ++ extension 1 w) (sym (append-nil (connected op a b)))
  code-connected w op a b (s ∷ rest) =
      code-connected w s.0 (connect op a b) s.1.term rest ∙ simp (append_assoc, append-nil)

  pub code-connections :
      (w : ℕ) (e : Term) (ss : List (Connective × Seen)) → IsTrue (has_some ss) →
      code_of at (chain_term connect e ss) w n
      ≡ code_of at e (width_of e) n ++ connects_code at (width_of e) n ss ++ extension 1 w
  code-connections w e [] some = cc
  code-connections w e (s ∷ rest) some =
      code-connected w s.0 e s.1.term rest ∙ simp append_assoc

  -- parts side by side, as wide as they are
  abbrev joined : Term → Term → List SampleInstr
  joined a b = code_of at a (width_of a) n ++ code_of at b (width_of b) n ++ Concat ∷ []

  code-joined :
      (w : ℕ) (a b : Term) (parts : List Seen) →
      code_of at (concatenation_term (concat a b) parts) w n
      ≡ joined a b ++ parts_code at n parts
      ++ extension (width_of (concatenation_term (concat a b) parts)) w
  code-joined w a b [] =
      ap (λ c. c ++ extension (width_of a + width_of b) w) (sym (append-nil (joined a b)))
  code-joined w a b (part ∷ rest) =
      code-joined w (concat a b) part.term rest
      ∙ rw (extension-none (width_of a + width_of b)) (simp (append_assoc, append-nil))

  pub code-parts :
      (w kept : ℕ) (e : Term) (parts : List Seen) →
      kept ≡ width_of (concatenation_term e parts) → IsTrue (has_part parts) →
      code_of at (concatenation_term e parts) w n
      ≡ code_of at e (width_of e) n ++ parts_code at n parts ++ extension kept w
  code-parts w kept e [] is some = cc
  code-parts w kept e (part ∷ rest) is some =
      rw is (code-joined w e part.term rest ∙ simp append_assoc)

-- how far back a chain reads
pub reach-chain :
    {O : Type 0} (make : O → Term → Term → Term) →
    ((o : O) (a b : Term) → reach (make o a b) ≡ max (reach a) (reach b)) →
    (e : Term) (ss : List (O × Seen)) →
    reach (chain_term make e ss) ≡ max (reach e) (chain_reach ss)
reach-chain make is e [] = omega arith
reach-chain make is e (s ∷ rest) =
    reach-chain make is (make s.0 e s.1.term) rest ∙ omega (arith, is s.0 e s.1.term)

pub reach-parts :
    (e : Term) (parts : List Seen) →
    reach (concatenation_term e parts) ≡ max (reach e) (parts_reach parts)
reach-parts e [] = omega arith
reach-parts e (part ∷ rest) = reach-parts (concat e part.term) rest ∙ omega arith

-- a chain of some operands reads no slot by itself
pub reads-sums :
    (e : Term) (ss : List (Arithmetic × Seen)) → 0 < length ss →
    reads_slot (chain_term combine e ss) ≡ false
reads-sums e [] some = absurd (omega (arith, some))
reads-sums e (s ∷ []) some = refl
reads-sums e (s ∷ (r ∷ rest)) some = reads-sums (combine s.0 e s.1.term) (r ∷ rest) (omega arith)

pub reads-shifts :
    (e : Term) (ss : List (Shift × Seen)) → 0 < length ss →
    reads_slot (chain_term shift e ss) ≡ false
reads-shifts e [] some = absurd (omega (arith, some))
reads-shifts e (s ∷ []) some = refl
reads-shifts e (s ∷ (r ∷ rest)) some = reads-shifts (shift s.0 e s.1.term) (r ∷ rest) (omega arith)

pub reads-comparisons :
    (e : Term) (ss : List (Comparison × Seen)) → IsTrue (has_some ss) →
    reads_slot (chain_term compare e ss) ≡ false
reads-comparisons e [] some = cc
reads-comparisons e (s ∷ []) some = refl
reads-comparisons e (s ∷ (r ∷ rest)) some =
    reads-comparisons (compare s.0 e s.1.term) (r ∷ rest) refl

pub reads-connections :
    (e : Term) (ss : List (Connective × Seen)) → IsTrue (has_some ss) →
    reads_slot (chain_term connect e ss) ≡ false
reads-connections e [] some = cc
reads-connections e (s ∷ []) some = refl
reads-connections e (s ∷ (r ∷ rest)) some =
    reads-connections (connect s.0 e s.1.term) (r ∷ rest) refl

pub reads-parts :
    (e : Term) (parts : List Seen) → IsTrue (has_part parts) →
    reads_slot (concatenation_term e parts) ≡ false
reads-parts e [] some = cc
reads-parts e (part ∷ []) some = refl
reads-parts e (part ∷ (next ∷ rest)) some = reads-parts (concat e part.term) (next ∷ rest) refl

pub reads-no_shift :
    (e : Term) (ss : List (Shift × Seen)) → length ss ≡ 0 →
    reads_slot (chain_term shift e ss) ≡ reads_slot e
reads-no_shift e [] none = refl
reads-no_shift e (s ∷ rest) none = absurd (omega (arith, none))

-- What a loop over a chain knows of the operand that it has come to, and of those after it.
module _ {O : Type 0} (xs : List (O × Node)) (i : ℕ) (x : O × Node) (lt : i < length xs) (is : x ≡
    get_or xs i x) where
  abbrev left : ℕ → List (O × Seen)
  left j = map step_of (drop j xs)

  cut : left i ≡ step_of x ∷ left (i + 1)
  cut = step_at (O × Seen) step_of xs i x lt is

  pub near_at : (back : ℕ) → back + chain_reach (left i) < 65536 → back + reach (node_term x.1) <
      65536
  near_at back h = let g = rw cut at h in omega (arith, g)

  pub near_later :
      (back : ℕ) → back + chain_reach (left i) < 65536 → back + chain_reach (left (i + 1)) < 65536
  near_later back h = let g = rw cut at h in omega (arith, g)

  pub typed_later : IsTrue (all_typed (left i)) → IsTrue (all_typed (left (i + 1)))
  typed_later h = (and_parts (is_typed x.1) (all_typed (left (i + 1))) (rw cut at h)).1

  pub narrow_later : (w : ℕ) → AllNarrow w (left i) → AllNarrow w (left (i + 1))
  narrow_later w h = (rw cut at h).1

module _ (xs : List Node) (i : ℕ) (x : Node) (lt : i < length xs) (is : x ≡ get_or xs i x) where
  abbrev parts_left : ℕ → List Seen
  parts_left j = map seen_node (drop j xs)

  part_cut : parts_left i ≡ seen_node x ∷ parts_left (i + 1)
  part_cut = step_at Seen seen_node xs i x lt is

  pub parts_near_later :
      (back : ℕ) → back + parts_reach (parts_left i) < 65536 →
      back + parts_reach (parts_left (i + 1)) < 65536
  parts_near_later back h = let g = rw part_cut at h in omega (arith, g)

  pub parts_typed_later :
      IsTrue (all_parts_typed (parts_left i)) → IsTrue (all_parts_typed (parts_left (i + 1)))
  parts_typed_later h = (and_parts (is_typed x) (all_parts_typed (parts_left (i + 1))) (rw part_cut
      at h)).1
