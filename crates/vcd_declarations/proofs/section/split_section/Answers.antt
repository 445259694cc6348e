use Rattle.std.proofs.Common.{◌∙◌, ℕ, List, ◌∷◌, take, drop, sym, ap, arith}
use Rattle.vcd_declarations.specs.Sections.{texts, sections}
use Rattle.vcd_declarations.proofs.TextLaws.{slice-rest, texts-nil, split-start, split-at, split-next}
use Rattle.vcd_declarations.proofs.SectionLaws.{with_texts, with-none, section-none, section-end, section-more}
use Rattle.vcd_declarations.proofs.section.split_section.Goals as goal

pub words-init : goal.words-init
words-init c =
    let bytes = c.args.bytes.now in
    record {
      high = omega arith;
      split = split-start bytes;
      same = sym (ap (λ (ws : List (List ℕ)). with_texts ws (sections (texts bytes))) texts-nil
          ∙ with-none (sections (texts bytes)));
    }

pub returns-in_default-clause-section : goal.returns-in_default-clause-section
returns-in_default-clause-section c =
    c.words.invariant.same ∙ section-none _ _ c.in_default.ensures.texts

pub returns-then-is_section_end-clause-section : goal.returns-then-is_section_end-clause-section
returns-then-is_section_end-clause-section c =
    c.words.invariant.same
    ∙ section-end _ _ _ _ c.in-Some.ensures.texts (sym c.if-is_section_end.ensures)
    ∙ ap (λ (bs : List ℕ). texts (take c.words.at c.args.bytes.now) ∷ sections (texts bs))
    (sym (slice-rest c.args.bytes.now c.in-Some.end))

pub words-preserved : goal.words-preserved
words-preserved c =
    let bytes = c.args.bytes.now in
    let at = c.words.at in
    let end = c.in-Some.end in
    let after = split-at bytes end c.in-Some.ensures.stops in
    record {
      high = c.in-Some.ensures.some.2;
      split = after;
      same = c.words.invariant.same
          ∙ section-more _ _ _ _ c.in-Some.ensures.texts (sym c.if-is_section_end.ensures)
          ∙ ap (λ (ws : List (List ℕ)). with_texts ws (sections (texts (drop end bytes))))
          (sym (split-next bytes _ at end c.words.invariant.split after c.in-Some.ensures.texts));
    }
