use Rattle.std.proofs.Common.{◌∙◌, ◌++◌, sym, ap, Some, None, lit<, string_bytes}
use Rattle.std.proofs.lemmas.Str.Pattern.{split_parts}
use Rattle.axi4_rules.specs.Rules.{with_item}
use Rattle.axi4_rules.proofs.FillLaws.{with_item-at, with_item-none, pushed, three_pieces}
use Rattle.axi4_rules.proofs.templates.push_with_item.Goals as goal

pub returns-in_ok-push_str-in-Some-2 : goal.returns-in_ok-push_str-in-Some-2
returns-in_ok-push_str-in-Some-2 c =
    let parts =
    split_parts 63 c.args.text.now (Some (c.in-Some.front, c.in-Some.back)) c.in-Some.ensures.cases (lit< tt) in
    pushed c.push_str-in-Some-2.result _ _ _ _ c.push_str-in-Some-2.ensures.bytes
    (three_pieces _ _ _ _ _ _ c.in_ok-push_str-in-Some.ensures.bytes c.in_ok-push_str-in-Some-2.ensures.bytes
    ∙ ap (λ l. string_bytes c.args.line.now ++ l)
    (sym (ap (with_item c.args.item.now) (parts.0) ∙ with_item-at c.args.item.now _ _ (parts.1))))

pub returns-in-None : goal.returns-in-None
returns-in-None c =
    pushed c.push_str-in-None.result _ _ _ _ c.push_str-in-None.ensures.bytes
    (ap (λ l. string_bytes c.args.line.now ++ l)
    (sym (with_item-none c.args.item.now c.args.text.now
    (split_parts 63 c.args.text.now None c.in-None.ensures.cases (lit< tt)))))
