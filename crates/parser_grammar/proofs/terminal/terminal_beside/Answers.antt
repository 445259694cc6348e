use Rattle.std.proofs.Common.{◌∙◌, List, sym, ap}
use Rattle.std.proofs.Math.ListN.{drop_of_length-le}
use Rattle.parser_grammar.proofs.TableLaws.{Row, terminal_in, further, found}
use Rattle.parser_grammar.proofs.terminal.terminal_beside.Goals as goal

pub loop-word-preserved : goal.loop-word-preserved
loop-word-preserved c =
    λ other. c.loop-word.invariant other
    ∙ further c.args.text.now c.args.rows.now c.loop-word.word-index _ c.loop-word-test.true
    (sym c.eq.ensures ∙ c.if-eq.false) other

pub returns-then-eq : goal.returns-then-eq
returns-then-eq c =
    λ other. sym (c.loop-word.invariant other
    ∙ found c.args.text.now c.args.rows.now c.loop-word.word-index _ c.loop-word-test.true
    (sym c.eq.ensures ∙ c.if-eq.true) other)

pub returns : goal.returns
returns c =
    λ other. sym (c.loop-word.invariant other
    ∙ ap (λ (rs : List Row). terminal_in c.args.text.now rs other)
    (drop_of_length-le c.args.rows.now c.loop-word-test.false))
