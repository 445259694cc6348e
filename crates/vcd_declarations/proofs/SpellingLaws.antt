-- Paths and ranges in one text.
use Rattle.std.proofs.Common.{◌≡◌, ℕ, ◌+◌, ◌-◌, ◌≤◌, List, ◌++◌, length, take, drop, sym, ap, ◌∙◌, arith}
use Rattle.std.proofs.Math.Seq.{take-append-add, drop-append-add, drop-append_seam}
use Rattle.std.proofs.lemmas.List.{length-take-le}
use Rattle.vcd_reader.specs.Header.{name_of}
use Rattle.vcd_declarations.specs.Declarations.{range_of}
use Rattle.vcd_declarations.proofs.TextLaws.{slice-rest}

module _ (front reference text : List ℕ) (n i : ℕ) (whole : text ≡ front ++ reference) (at : n ≡ length front) where
  -- what stands after the front
  after-front : take (length text - n) (drop n text) ≡ reference
  after-front =
      slice-rest text n ∙ ap (λ (k : ℕ). drop k text) at ∙ ap (drop (length front)) whole
      ∙ drop-append_seam front reference

  pub front-name : take i (take (length text - n) (drop n text)) ≡ name_of (take (length text - n) (drop n text))
      → take (n + i) text ≡ front ++ name_of reference
  front-name h =
      let name : take i reference ≡ name_of reference =
      ap (take i) (sym after-front) ∙ h ∙ ap name_of after-front in
      ap (λ (k : ℕ). take (k + i) text) at ∙ ap (take (length front + i)) whole
      ∙ take-append-add front reference i ∙ ap (λ (x : List ℕ). front ++ x) name

  pub front-range : i ≤ length (take (length text - n) (drop n text))
      → take i (take (length text - n) (drop n text)) ≡ name_of (take (length text - n) (drop n text))
      → drop (n + i) text ≡ range_of reference
  front-range le h =
      let name : take i reference ≡ name_of reference =
      ap (take i) (sym after-front) ∙ h ∙ ap name_of after-front in
      let same = ap (λ (x : List ℕ). length x) after-front in
      let long : length (take i reference) ≡ i = length-take-le i reference (omega arith) in
      ap (λ (k : ℕ). drop (k + i) text) at ∙ ap (drop (length front + i)) whole
      ∙ drop-append-add front reference i
      ∙ ap (λ (k : ℕ). drop k reference) (sym long ∙ ap (λ (x : List ℕ). length x) name)
