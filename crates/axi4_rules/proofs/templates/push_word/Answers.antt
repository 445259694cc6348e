use Rattle.std.proofs.Common.{None, lit<}
use Rattle.std.proofs.lemmas.Str.Pattern.{strip_prefix_char}
use Rattle.axi4_rules.specs.Rows.{fills}
use Rattle.axi4_rules.proofs.FillLaws.{plain_word}
use Rattle.axi4_rules.proofs.templates.push_word.Goals as goal

pub returns : goal.returns
returns c =
    rw (plain_word (fills c.args.filling) c.args.word.now
    (strip_prefix_char 37 c.args.word.now None c.in_default.ensures.cases (lit< tt))
    (strip_prefix_char 95 c.args.word.now None c.in_default-strip_prefix.ensures.cases (lit< tt)))
    c.push_with_item.ensures
