use Rattle.std.proofs.Common.{◌≡◌, ◌∙◌, ◌+◌, ◌-◌, ℕ, suc, Some, drop, sym, ap, arith}
use Rattle.std.proofs.lemmas.Bool.{eq-eqb, ne_eqb}
use Rattle.lexer.specs.declared.piece.Shape.TheVariants as shape
use Rattle.lexer.specs.Lexemes.{is_word_part, is_system_part}
use Rattle.lexer.specs.Runs.{run_length, size_len}
use Rattle.lexer.proofs.LongestLaws.{longest-word, longest-system, longest-number}
use Rattle.lexer.proofs.longest.token_at.Goals as goal

pub returns-then-is_letter-clause-value : goal.returns-then-is_letter-clause-value
returns-then-is_letter-clause-value c =
    let n : c.run_end.result - c.args.at ≡ suc (run_length is_word_part (drop (c.args.at + 1) c.args.bytes.now)) =
    omega (arith, c.run_end.ensures.run) in
    ap (λ (k : ℕ). Some (k, shape.Word)) n ∙ sym (longest-word _ _ (sym c.if-is_letter.ensures.value))

pub returns-then-first-eq36-clause-value : goal.returns-then-first-eq36-clause-value
returns-then-first-eq36-clause-value c =
    let n : c.run_end-then-first-eq36.result - c.args.at
    ≡ suc (run_length is_system_part (drop (c.args.at + 1) c.args.bytes.now)) =
    omega (arith, c.run_end-then-first-eq36.ensures.run) in
    ap (λ (k : ℕ). Some (k, shape.System)) n
    ∙ sym (longest-system _ _ (sym c.if-is_letter.ensures.value) (eq-eqb _ 36 c.if-first-eq36.true))

pub returns-then-is_digit-clause-value : goal.returns-then-is_digit-clause-value
returns-then-is_digit-clause-value c =
    let n : c.number_end.result - c.args.at ≡ suc (size_len (drop (c.args.at + 1) c.args.bytes.now)) =
    omega (arith, c.number_end.ensures.len) in
    ap (λ (k : ℕ). Some (k, shape.Number)) n
    ∙ sym (longest-number _ _ (sym c.if-is_letter.ensures.value) (ne_eqb _ 36 c.if-first-eq36.false)
    (sym c.if-is_digit.ensures.value))
