use Rattle.std.proofs.Common.{◌≡◌, ◌∙◌, ◌+◌, ℕ, List, get_or, drop, option_and_then, sym, ap, arith}
use Rattle.lexer.specs.Lexemes.{is_digit_part, base_of}
use Rattle.lexer.specs.Runs.{run_length}
use Rattle.lexer.proofs.NumberLaws.{number_of-plain, number_of-alone, number_of-based, tail-whole}
use Rattle.lexer.specs.Numbers.{number_in_base}
use Rattle.lexer.proofs.number.number_of.Goals as goal

pub returns-then-quote-text : goal.returns-then-quote-text
returns-then-quote-text c =
    let at : c.run_end-quote.result ≡ run_length is_digit_part c.args.text.now =
    omega (arith, c.run_end-quote.ensures.run) in
    c.plain_number.ensures ∙ sym (number_of-plain c.args.text.now _ at c.if-quote-text.true)

pub returns-then-text-quote-eq1 : goal.returns-then-text-quote-eq1
returns-then-text-quote-eq1 c =
    let at : c.run_end-quote.result ≡ run_length is_digit_part c.args.text.now =
    omega (arith, c.run_end-quote.ensures.run) in
    sym (number_of-alone c.args.text.now _ at (omega arith) c.if-text-quote-eq1.true)

pub returns-in_default : goal.returns-in_default
returns-in_default c =
    let at : c.run_end-quote.result ≡ run_length is_digit_part c.args.text.now =
    omega (arith, c.run_end-quote.ensures.run) in
    sym (number_of-based c.args.text.now _ at (omega arith)
    ∙ ap (option_and_then
    (λ s. number_in_base s (drop (c.run_end-quote.result + 2) c.args.text.now)
    (base_of (get_or c.args.text.now (c.run_end-quote.result + 1) 0)))) (sym c.in_default.ensures.value))

pub returns : goal.returns
returns c =
    let at : c.run_end-quote.result ≡ run_length is_digit_part c.args.text.now =
    omega (arith, c.run_end-quote.ensures.run) in
    let base = base_of (get_or c.args.text.now (c.run_end-quote.result + 1) 0) in
    c.number_in_base.ensures
    ∙ ap (λ (ds : List ℕ). number_in_base c.in-Some.size ds base)
    (tail-whole (c.run_end-quote.result + 2) c.args.text.now)
    ∙ sym (number_of-based c.args.text.now _ at (omega arith)
    ∙ ap (option_and_then (λ s. number_in_base s (drop (c.run_end-quote.result + 2) c.args.text.now) base))
    (sym c.in-Some.ensures.value))
