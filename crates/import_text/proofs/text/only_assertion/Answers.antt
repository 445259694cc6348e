use Rattle.std.proofs.Common.{rules, ◌≡◌, ◌++◌, ◌∷◌, [], map}
use Rattle.parser_grammar.specs.Trees.{assertion}
use Rattle.parser_grammar.specs.Views.{item_of, assertion_of}
use Rattle.import_text.specs.Texts.{assertions_of}
use Rattle.import_text.proofs.TextLaws.{only-last}
use Rattle.import_text.proofs.text.only_assertion.Goals as goal

pub returns-in-Some-Assertion-default : goal.returns-in-Some-Assertion-default
returns-in-Some-Assertion-default c =
    let k = c.in-Some-Assertion-default in
    let is : c.args.items.now ≡ k.before.now ++ k.field-0-0.now ∷ [] = search rules in
    let none : assertions_of (map item_of k.before.now) ≡ [] = search rules in
    let last : item_of k.field-0-0.now ≡ assertion (assertion_of k.assertion) = search rules in
    only-last c.args.items.now k.before.now k.field-0-0.now (assertion_of k.assertion) is none last
