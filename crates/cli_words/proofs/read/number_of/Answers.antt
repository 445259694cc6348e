use Rattle.std.proofs.Common.{sym}
use Rattle.clap.proofs.WalkLemmas.{one_text-rows}
use Rattle.clap.specs.Words.{found_of, rows_of, one_text}
use Rattle.cli_words.proofs.NumberLaws.{number_read}
use Rattle.cli_words.proofs.read.number_of.Goals as goal

pub returns-then-number-most : goal.returns-then-number-most
returns-then-number-most c =
    let found = found_of c.args.options.now in
    let name = c.args.name.now in
    number_read name c.args.most (one_text found name) (rows_of found) c.in-Some.number
    (sym (one_text-rows found name))
    c.in-Some.ensures.none (λ t e. (c.in-Some.ensures.value t e).0) c.if-number-ge1.true c.if-number-most.true
