use Rattle.std.proofs.Common.{◌≡◌, ◌+◌, ◌-◌, drop, arith}
use Rattle.lexer.specs.Runs.{base_len, with_quote, size_len}
use Rattle.lexer.proofs.NumberEnds.{size_len-end, size_len-other, size_len-quote, with_quote-suc}
use Rattle.lexer.proofs.longest.number_end.Goals as goal

pub returns-then-quote-bytes-clause-len : goal.returns-then-quote-bytes-clause-len
returns-then-quote-bytes-clause-len c =
    size_len-end c.args.bytes.now c.args.start _ c.run_end-quote.ensures.run c.if-quote-bytes.true

pub returns-then-bytes-quote-ne39-clause-len : goal.returns-then-bytes-quote-ne39-clause-len
returns-then-bytes-quote-ne39-clause-len c =
    size_len-other c.args.bytes.now c.args.start _ c.run_end-quote.ensures.run (omega arith)
    c.if-bytes-quote-ne39.true

pub returns-then-end-quote-clause-len : goal.returns-then-end-quote-clause-len
returns-then-end-quote-clause-len c =
    let none : base_len (drop (c.run_end-quote.result + 1) c.args.bytes.now) ≡ 0 =
    omega (arith, c.base_end-end.ensures.len) in
    let e : c.run_end-quote.result + 0 ≡ c.args.start + size_len (drop c.args.start c.args.bytes.now) =
    size_len-quote c.args.bytes.now c.args.start _ c.run_end-quote.ensures.run (omega arith) 0
    c.if-bytes-quote-ne39.false none in
    omega arith

pub returns-clause-len : goal.returns-clause-len
returns-clause-len c =
    let n = c.base_end-end.result - (c.run_end-quote.result + 1) in
    let some : base_len (drop (c.run_end-quote.result + 1) c.args.bytes.now) ≡ n =
    omega (arith, c.base_end-end.ensures.len) in
    let e : c.run_end-quote.result + with_quote n ≡ c.args.start + size_len (drop c.args.start c.args.bytes.now) =
    size_len-quote c.args.bytes.now c.args.start _ c.run_end-quote.ensures.run (omega arith) n
    c.if-bytes-quote-ne39.false some in
    omega (arith, e, with_quote-suc n (omega arith))
