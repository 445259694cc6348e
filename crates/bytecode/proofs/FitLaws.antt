-- What fits a file, part by part.
use Rattle.std.proofs.Common.{◌++◌, ap, append_assoc, ◌≡◌, ℕ, ◌<◌, Bool, true, ◌&&◌, List, map, length, get_or, sym}
use Rattle.std.proofs.Common.{◌∙◌, string_bytes, inl, inr}
use Rattle.std.specs.List.{list_all}
use Rattle.std.proofs.lemmas.Bool.{cases_Bool, both_ways, ltb-true, and_parts}
use Rattle.std.proofs.lemmas.List.Folds.{list_all_at, list_all-map}
use Rattle.std.proofs.Common.{Vec, Global}
use Rattle.bytecode_programs.specs.declared.slot.Slot.{Slot}
use Rattle.bytecode_programs.specs.declared.block_instr.BlockInstr.{BlockInstr}
use Rattle.bytecode_programs.specs.Texts.{is_path}
use Rattle.bytecode_programs.specs.Values.{ProgramData, in_two, is_width, fits_list, fits_text, fits_slot, fits_block}
use Rattle.bytecode_programs.specs.Values.{fits_sample, fits_section, fits_header, fits_program}
use Rattle.bytecode.proofs.LoopLaws.{items_of_block}
use Rattle.bytecode_programs.specs.Views.{slot_data}

pub at-all : {A : Type 0} (p : A → Bool) (xs : List A) (i : ℕ) (d : A) → i < length xs → list_all p xs ≡ true
    → p (get_or xs i d) ≡ true
at-all p xs i d lt all =
    elim (cases_Bool (p (get_or xs i d))) [
      | inl passes ↦ passes
      | inr fails ↦ absurd (both_ways (list_all p xs) (list_all_at p xs i d lt fails) all)
    ]

pub slot-few : (slots : List Slot) (i : ℕ) (d : Slot) → i < length slots → list_all fits_slot (map slot_data slots)
    ≡ true → length (string_bytes (get_or slots i d).path) < 65536
slot-few slots i d lt h =
    let one =
    at-all (λ (s : Slot). fits_slot (slot_data s)) slots i d lt (sym (list_all-map fits_slot slot_data slots) ∙ h)
    in
    let path = string_bytes (get_or slots i d).path in
    let text = (and_parts (is_width (get_or slots i d).width) (fits_text is_path path) one).1 in
    ltb-true (length path) 65536 (and_parts (in_two (length path)) (is_path path) text).0

pub block-few : (blocks : List (Vec BlockInstr Global)) (i : ℕ) (d : Vec BlockInstr Global) → i < length blocks
    → list_all (fits_list fits_block) (map items_of_block blocks) ≡ true → length (get_or blocks i d).items < 65536
block-few blocks i d lt h =
    let one =
    at-all (λ (b : Vec BlockInstr Global). fits_list fits_block (items_of_block b)) blocks i d lt
    (sym (list_all-map (fits_list fits_block) items_of_block blocks) ∙ h) in
    ltb-true (length (get_or blocks i d).items) 65536
    (and_parts (in_two (length (get_or blocks i d).items)) (list_all fits_block (get_or blocks i d).items) one).0

module _ (p : ProgramData) (fits : fits_program p ≡ true) where
  lists-fit : (fits_list is_width p.counters
      && (fits_list fits_sample p.sample && (fits_section p.antecedent && fits_section p.consequent))) ≡ true
  lists-fit =
      (and_parts (fits_list fits_slot p.signals) (fits_list is_width p.counters
      && (fits_list fits_sample p.sample && (fits_section p.antecedent && fits_section p.consequent)))
      (and_parts (fits_header p.header) (fits_list fits_slot p.signals
      && (fits_list is_width p.counters
      && (fits_list fits_sample p.sample && (fits_section p.antecedent && fits_section p.consequent)))) fits).1).1

  sections-fit : (fits_section p.antecedent && fits_section p.consequent) ≡ true
  sections-fit = (and_parts (fits_list fits_sample p.sample) (fits_section p.antecedent && fits_section p.consequent)
      (and_parts (fits_list is_width p.counters) (fits_list fits_sample p.sample
      && (fits_section p.antecedent && fits_section p.consequent)) lists-fit).1).1

  pub antecedent-fits : fits_section p.antecedent ≡ true
  antecedent-fits = (and_parts (fits_section p.antecedent) (fits_section p.consequent) sections-fit).0

  pub consequent-fits : fits_section p.consequent ≡ true
  consequent-fits = (and_parts (fits_section p.antecedent) (fits_section p.consequent) sections-fit).1

pub three-put : (old front name clock a b c : List ℕ) → a ≡ old ++ front → b ≡ a ++ name → c ≡ b ++ clock
    → c ≡ old ++ (front ++ name ++ clock)
three-put old front name clock a b c e f g =
    g ∙ ap (λ (t : List ℕ). t ++ clock) (f ∙ ap (λ (t : List ℕ). t ++ name) e ∙ append_assoc old front name)
    ∙ append_assoc old (front ++ name) clock
