-- The scan of a section.
use Rattle.std.proofs.Common.{◌≡◌, ℕ, ◌+◌, ◌<◌, ◌≤◌, List, ◌∷◌, ◌++◌, length, map, drop, get_or}
use Rattle.std.proofs.Common.{Option, refl, sym, ap, ◌∙◌, subst, append-nil, append_assoc}
use Rattle.std.proofs.lemmas.List.{drop_more, drop_all, drop-map}
use Rattle.std.specs.Global.{Vec}
use Rattle.verifier.specs.Views.{blocks_of}
use Rattle.bytecode_programs.specs.declared.block_instr.BlockInstr.{BlockInstr}
use Rattle.verifier.specs.Rules.{block_rules}
use Rattle.verifier.specs.Inference.{Found, code_faults}
use Rattle.bytecode_programs.specs.Values.{SectionData}
use Rattle.verifier.specs.Sections.{blocks_faults, start_faults, section_faults}
use Rattle.verifier.specs.Scans.{IsFirstOf}

-- The blocks below position p were read, with this first fault.
pub record HasSeen (number atoms : ℕ) (s : SectionData) (first : Option Found) (p base : ℕ) : Type 0 where
  pub seen : List Found
  pub is : IsFirstOf seen first
  pub left : seen ++ blocks_faults number atoms (length s.blocks) p base (drop p s.blocks)
      ≡ section_faults number atoms s

pub see_start : (number atoms : ℕ) (s : SectionData) (first : Option Found) → IsFirstOf (start_faults number s) first
    → HasSeen number atoms s first 0 0
see_start number atoms s first h = record { seen = start_faults number s; is = h; left = refl }

module _ (number atoms : ℕ) (s : SectionData) (first : Option Found) (p base : ℕ)
    (h : HasSeen number atoms s first p base) where
  pub see_block : (block : List BlockInstr) (after : Option Found) → drop p s.blocks ≡ block ∷ drop (p + 1) s.blocks →
      ((xs : List Found) → IsFirstOf xs first
      → IsFirstOf (xs ++ code_faults (block_rules number atoms (length s.blocks) p) base block) after)
      → HasSeen number atoms s after (p + 1) (base + length block)
  see_block block after e next =
      record {
        seen = h.seen ++ code_faults (block_rules number atoms (length s.blocks) p) base block;
        is = next h.seen h.is;
        left =
            append_assoc h.seen (code_faults (block_rules number atoms (length s.blocks) p) base block)
            (blocks_faults number atoms (length s.blocks) (p + 1) (base + length block) (drop (p + 1) s.blocks))
            ∙ ap (λ bs. h.seen ++ blocks_faults number atoms (length s.blocks) p base bs) (sym e) ∙ h.left;
      }

  pub see_end : length s.blocks ≤ p → IsFirstOf (section_faults number atoms s) first
  see_end past =
      subst (λ (xs : List Found). IsFirstOf xs first)
      (sym (append-nil h.seen)
      ∙ sym (ap (λ bs. h.seen ++ blocks_faults number atoms (length s.blocks) p base bs)
      (drop_all p s.blocks past)) ∙ h.left) h.is

pub blocks_at : (bs : List (Vec BlockInstr)) (p : ℕ) (v : Vec BlockInstr) → p < length bs → v ≡ get_or bs p v
    → drop p (blocks_of bs) ≡ v.items ∷ drop (p + 1) (blocks_of bs)
blocks_at bs p v below is =
    drop-map (λ b. b.items) p bs ∙ ap (map (λ b. b.items)) (drop_more bs p v below)
    ∙ ap (λ b. b.items ∷ map (λ b. b.items) (drop (p + 1) bs)) (sym is)
    ∙ ap (λ xs. v.items ∷ xs) (sym (drop-map (λ b. b.items) (p + 1) bs))
