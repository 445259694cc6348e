use Rattle.std.proofs.Common.{◌≡◌, ◌∙◌, ◌+◌, ◌-◌, ℕ, suc, drop, sym, ap, arith}
use Rattle.lexer.specs.declared.scan.Next.TheVariants.{Gap}
use Rattle.lexer.specs.Runs.{run_length}
use Rattle.lexer.specs.Cutting.{stays_on_line, comment_gap, next_lexeme}
use Rattle.lexer.proofs.CutLaws.{next-line, next-comment, next-token}
use Rattle.lexer.proofs.scan.next_at.Goals as goal

pub returns-then-is_pair-clause-value : goal.returns-then-is_pair-clause-value
returns-then-is_pair-clause-value c =
    let n : c.line_end.result - c.args.at ≡ suc (run_length stays_on_line (drop (c.args.at + 1) c.args.bytes.now)) =
    omega (arith, c.line_end.ensures.run) in
    ap (λ (k : ℕ). Gap k) n
    ∙ sym (next-line c.args.bytes.now c.args.at c.if-is_space.ensures c.if-is_pair.ensures.value)

pub returns-in-Some-clause-value : goal.returns-in-Some-clause-value
returns-in-Some-clause-value c =
    let n : c.in-Some.end - c.args.at ≡ 2 + (c.in-Some.end - (c.args.at + 2)) =
    omega (arith, c.in-Some.ensures.high.0) in
    ap (λ (k : ℕ). Gap k) n
    ∙ sym (next-comment c.args.bytes.now c.args.at c.if-is_space.ensures c.if-is_pair.ensures.value
    c.if-is_pair-2.ensures.value ∙ ap comment_gap c.in-Some.ensures.value)

pub returns-in-None-clause-value : goal.returns-in-None-clause-value
returns-in-None-clause-value c =
    sym (next-comment c.args.bytes.now c.args.at c.if-is_space.ensures c.if-is_pair.ensures.value
    c.if-is_pair-2.ensures.value ∙ ap comment_gap c.in-None.ensures.value)

pub returns-in-Some-token_at-clause-value : goal.returns-in-Some-token_at-clause-value
returns-in-Some-token_at-clause-value c =
    ap next_lexeme c.in-Some-token_at.ensures.value
    ∙ sym (next-token c.args.bytes.now c.args.at c.if-is_space.ensures c.if-is_pair.ensures.value
    c.if-is_pair-2.ensures.value)

pub returns-in-None-token_at-clause-value : goal.returns-in-None-token_at-clause-value
returns-in-None-token_at-clause-value c =
    ap next_lexeme c.in-None-token_at.ensures.value
    ∙ sym (next-token c.args.bytes.now c.args.at c.if-is_space.ensures c.if-is_pair.ensures.value
    c.if-is_pair-2.ensures.value)
