-- Sections that accept first.
use Rattle.std.proofs.Common.{◌≡◌, ◌∙◌, ℕ, zero, suc, ◌+◌, ◌-◌, ◌<◌, List, [], ◌∷◌, ◌++◌, length, map, Some, refl, sym}
use Rattle.std.proofs.Common.{ap, subst, arith, Option}
use Rattle.std.specs.Prelude.{slice_get, ◌^◌}
use Rattle.std.proofs.lemmas.List.{length-map}
use Rattle.bytecode_programs.specs.declared.block_instr.BlockInstr.{BlockInstr}
use Rattle.bytecode_programs.specs.declared.block_instr.BlockInstr.TheVariants.{Unless, Enter, Accept, Stop}
use Rattle.bytecode_programs.specs.declared.block_instr.BlockInstr.TheVariants.{AcceptFirst}
use Rattle.bytecode_programs.specs.declared.flow.Flow.TheVariants.{Stops}
use Rattle.bytecode_programs.specs.Instructions.{LeadsTo, block_flow}
use Rattle.bytecode_programs.specs.Values.{SectionData}
use Rattle.verifier.specs.Rules.{block_rules}
use Rattle.verifier.specs.Typing.{IsFine, IsCodeTyped}
use Rattle.verifier.specs.Sections.{AreTyped, IsSection, instructions_in}
use Rattle.machine_sections.specs.Firsts.{first_step, accepting_first, HasNoAcceptFirst, ArePlain}
use Rattle.machine_sections.proofs.Firsts as firsts
use Rattle.positions.specs.Tables.{Edge, Table, plan_table}
use Rattle.positions.specs.Plans.{plan}
use Rattle.positions.specs.Living.{sifted}
use Rattle.positions.specs.Sections.{edge_size, guards, enter_all, accept_if, edge_code, position_block}
use Rattle.positions.specs.Sections.{position_blocks}
use Rattle.positions.specs.Sections.{rows_from}
use Rattle.positions.specs.Sections.{coded}
use Rattle.positions.specs.Laws.{SectionFollowsFirst, AcceptingFirstIsWellFormed, AcceptingFirstIsAsLong}
use Rattle.positions.specs.Laws.{section_for}
use Rattle.positions.proofs.Theorem.{law-section_follows}
use Rattle.std.specs.Prelude.{Bool, true, false}

-- ---- the code of edges has no AcceptFirst

plain-append : (xs ys : List BlockInstr) → HasNoAcceptFirst xs → HasNoAcceptFirst ys → HasNoAcceptFirst (xs ++ ys)
plain-append [] ys p q = q
plain-append (Unless atom target ∷ xs) ys p q = plain-append xs ys p q
plain-append (Enter n ∷ xs) ys p q = plain-append xs ys p q
plain-append (Accept ∷ xs) ys p q = plain-append xs ys p q
plain-append (Stop ∷ xs) ys p q = plain-append xs ys p q
plain-append (AcceptFirst ∷ xs) ys p q = absurd p

guards-plain : (end : ℕ) (ns : List ℕ) → HasNoAcceptFirst (guards end ns)
guards-plain end [] = tt
guards-plain end (n ∷ ns) = guards-plain end ns

enters-plain : (qs : List ℕ) → HasNoAcceptFirst (enter_all qs)
enters-plain [] = tt
enters-plain (q ∷ qs) = enters-plain qs

accept-plain : (b : Bool) → HasNoAcceptFirst (accept_if b)
accept-plain true = tt
accept-plain false = tt

block-plain : (base : ℕ) (es : List (Edge ℕ)) → HasNoAcceptFirst (position_block base es)
block-plain base [] = tt
block-plain base (e ∷ es) =
    plain-append (edge_code base e) (position_block (base + edge_size e) es)
    (plain-append (guards (base + edge_size e) e.wanted) (enter_all e.enters ++ accept_if e.accepts)
    (guards-plain (base + edge_size e) e.wanted)
    (plain-append (enter_all e.enters) (accept_if e.accepts) (enters-plain e.enters) (accept-plain e.accepts)))
    (block-plain (base + edge_size e) es)

blocks-plain : (base : ℕ) (rows : List (List (Edge ℕ))) → ArePlain (position_blocks base rows)
blocks-plain base [] = tt
blocks-plain base (row ∷ rows) = (block-plain base row, blocks-plain (base + length (position_block base row)) rows)

pub law-follows_first : SectionFollowsFirst
law-follows_first atom true_one rows value w ordered tells fills =
    firsts.law (section_for atom true_one w) rows value _
    (blocks-plain 0 (rows_from (coded atom (sifted (plan_table (plan true_one w)))) 0
    (sifted (plan_table (plan true_one w))).size))
    fills
    (law-section_follows atom true_one rows value w ordered tells)

-- ---- it is well formed

slice-map : (xs : List BlockInstr) (k : ℕ) (y : BlockInstr) → slice_get (map first_step xs) k ≡ Some y
    → (x : BlockInstr) × (slice_get xs k ≡ Some x) × (first_step x ≡ y)
slice-map [] k y h = cc
slice-map (x ∷ xs) zero y h = (x, refl, cc)
slice-map (x ∷ xs) (suc k) y h = slice-map xs k y h

map-slice : (xs : List BlockInstr) (k : ℕ) (x : BlockInstr) → slice_get xs k ≡ Some x
    → slice_get (map first_step xs) k ≡ Some (first_step x)
map-slice [] k x h = cc
map-slice (x' ∷ xs) zero x h = let same : x' ≡ x = cc in ap (λ z. Some (first_step z)) same
map-slice (x' ∷ xs) (suc k) x h = map-slice xs k x h

same-flow : (i : BlockInstr) → block_flow (first_step i) ≡ block_flow i
same-flow (Unless atom target) = refl
same-flow (Enter q) = refl
same-flow Accept = refl
same-flow Stop = refl
same-flow AcceptFirst = refl

module _ (atoms positions p : ℕ) where
  fine-first : (end pc : ℕ) (i : BlockInstr) → IsFine (block_rules 2 atoms positions p) end (λ n. []) pc i
      → IsFine (block_rules 2 atoms positions p) end (λ n. []) pc (first_step i)
  fine-first end pc (Unless atom target) h = h
  fine-first end pc (Enter q) h = h
  fine-first end pc Accept h =
      record { after = h.after; rule = h.rule; sends = h.sends; forward = h.forward; names = refl }
  fine-first end pc Stop h = h
  fine-first end pc AcceptFirst h = h

  typed-first : (base : ℕ) (b : List BlockInstr) → IsCodeTyped (block_rules 2 atoms positions p) base b (λ n. [])
      → IsCodeTyped (block_rules 2 atoms positions p) base (map first_step b) (λ n. [])
  typed-first base b h =
      let long : length (map first_step b) ≡ length b = length-map b first_step in
      record {
        some = omega (arith, h.some, long);
        begins = refl;
        each =
            λ k i at.
            let x = slice-map b k i at in
            subst (IsFine (block_rules 2 atoms positions p) (base + length (map first_step b)) (λ n. []) (base + k)) x.2
            (subst (λ n. IsFine (block_rules 2 atoms positions p) (base + n) (λ n. []) (base + k) (first_step x.0))
            (sym long) (fine-first (base + length b) (base + k) x.0 (h.each k x.0 x.1)));
        ends =
            λ i at.
            let x = slice-map b (length b - 1) i (ap (λ n. slice_get (map first_step b) (n - 1)) (sym long) ∙ at) in
            ap block_flow (sym x.2) ∙ same-flow x.0 ∙ h.ends x.0 x.1;
        reached =
            λ k some below.
            let x = h.reached k some (omega (arith, below, long)) in (
              x.0,
              first_step x.1,
              x.2,
              map-slice b x.0 x.1 x.3,
              subst (λ f. LeadsTo f (base + x.0) (base + k)) (sym (same-flow x.1)) x.4,
            );
      }

all-typed : (atoms positions p base : ℕ) (bs : List (List BlockInstr)) → AreTyped 2 atoms positions p base bs
    → AreTyped 2 atoms positions p base (map (map first_step) bs)
all-typed atoms positions p base [] h = tt
all-typed atoms positions p base (b ∷ bs) h =
    let long : length b ≡ length (map first_step b) = sym (length-map b first_step) in (
      typed-first atoms positions p base b h.0,
      subst (λ n. AreTyped 2 atoms positions (p + 1) (base + n) (map (map first_step) bs)) long
          (all-typed atoms positions (p + 1) (base + length b) bs h.1),
    )

pub law-well_formed : AcceptingFirstIsWellFormed
law-well_formed atoms s h =
    let many : length s.blocks ≡ length (map (map first_step) s.blocks) = sym (length-map s.blocks (map first_step)) in
    record {
      start = subst (λ n. s.start < 2 ^ n) many h.start;
      blocks =
          subst (λ n. AreTyped 2 atoms n 0 0 (map (map first_step) s.blocks)) many
          (all-typed atoms (length s.blocks) 0 0 s.blocks h.blocks);
    }

size-first : (bs : List (List BlockInstr)) → instructions_in (map (map first_step) bs) ≡ instructions_in bs
size-first [] = refl
size-first (b ∷ bs) = omega (arith, length-map b first_step, size-first bs)

pub law-as_long : AcceptingFirstIsAsLong
law-as_long s = (length-map s.blocks (map first_step), size-first s.blocks)
