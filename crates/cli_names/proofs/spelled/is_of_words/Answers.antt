use Rattle.std.proofs.Common.{◌∙◌, ◌+◌, Bool, drop, sym, ap}
use Rattle.std.proofs.lemmas.Bool.{eq-eqb, ne_eqb}
use Rattle.cli_names.specs.Spelled.{are_words}
use Rattle.cli_names.proofs.WordLaws.{
  words-letter,
  words-no_letter,
  words-dot,
  words-part,
  words-no_part,
  words-end,
}
use Rattle.cli_names.proofs.spelled.is_of_words.Goals as goal

pub returns-then-not-is_letter : goal.returns-then-not-is_letter
returns-then-not-is_letter c =
    let path = c.args.path.now in
    let i = c.loop-byte.byte-index in
    sym (c.loop-byte.invariant ∙ ap (λ (b : Bool). are_words b (drop i path)) c.if-begins.true
    ∙ words-no_letter path i c.loop-byte-test.true (sym c.if-not-is_letter.ensures))

pub loop-byte-preserved-then-begins : goal.loop-byte-preserved-then-begins
loop-byte-preserved-then-begins c =
    let path = c.args.path.now in
    let i = c.loop-byte.byte-index in
    c.loop-byte.invariant ∙ ap (λ (b : Bool). are_words b (drop i path)) c.if-begins.true
    ∙ words-letter path i c.loop-byte-test.true (sym c.if-not-is_letter.ensures)

pub loop-byte-preserved-then-byte-eq46 : goal.loop-byte-preserved-then-byte-eq46
loop-byte-preserved-then-byte-eq46 c =
    let path = c.args.path.now in
    let i = c.loop-byte.byte-index in
    c.loop-byte.invariant ∙ ap (λ (b : Bool). are_words b (drop i path)) c.if-begins.false
    ∙ words-dot path i c.loop-byte-test.true (eq-eqb _ 46 c.if-byte-eq46.true)

pub returns-then-not-is_word_part : goal.returns-then-not-is_word_part
returns-then-not-is_word_part c =
    let path = c.args.path.now in
    let i = c.loop-byte.byte-index in
    sym (c.loop-byte.invariant ∙ ap (λ (b : Bool). are_words b (drop i path)) c.if-begins.false
    ∙ words-no_part path i c.loop-byte-test.true (ne_eqb _ 46 c.if-byte-eq46.false)
    (sym c.if-not-is_word_part.ensures))

pub loop-byte-preserved : goal.loop-byte-preserved
loop-byte-preserved c =
    let path = c.args.path.now in
    let i = c.loop-byte.byte-index in
    c.loop-byte.invariant ∙ ap (λ (b : Bool). are_words b (drop i path)) c.if-begins.false
    ∙ words-part path i c.loop-byte-test.true (ne_eqb _ 46 c.if-byte-eq46.false) (sym c.if-not-is_word_part.ensures)
    ∙ ap (λ (b : Bool). are_words b (drop (i + 1) path)) (sym c.if-begins.false)

pub returns : goal.returns
returns c =
    sym (c.loop-byte.invariant ∙ words-end c.args.path.now c.loop-byte.byte-index c.loop-byte.begins
    c.loop-byte-test.false)
