use Rattle.std.proofs.Common.{◌≡◌, ◌∙◌, ◌+◌, ◌-◌, ℕ, suc, Some, drop, sym, ap, arith}
use Rattle.lexer.specs.declared.piece.Shape.TheVariants as shape
use Rattle.lexer.specs.Runs.{base_len}
use Rattle.lexer.proofs.LongestLaws.{longest-quote_alone}
use Rattle.lexer.proofs.NumberEnds.{quoted-some}
use Rattle.lexer.proofs.longest.quoted_at.Goals as goal

pub returns-then-end-at-clause-value : goal.returns-then-end-at-clause-value
returns-then-end-at-clause-value c =
    let none : base_len (drop (c.args.at + 1) c.args.bytes.now) ≡ 0 = omega (arith, c.base_end-end.ensures.len) in
    sym (longest-quote_alone _ _ c.requires.quote none)

pub returns-clause-value : goal.returns-clause-value
returns-clause-value c =
    let n = c.base_end-end.result - (c.args.at + 1) in
    let some : base_len (drop (c.args.at + 1) c.args.bytes.now) ≡ n = omega (arith, c.base_end-end.ensures.len) in
    let same : c.base_end-end.result - c.args.at ≡ suc n = omega arith in
    ap (λ (k : ℕ). Some (k, shape.Number)) same ∙ sym (quoted-some _ n _ c.requires.quote some (omega arith))
