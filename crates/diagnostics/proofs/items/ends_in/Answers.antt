use Rattle.std.proofs.Common.{List, sym, ap, ◌∙◌, arith}
use Rattle.std.proofs.lemmas.List.{length-drop, take_rest}
use Rattle.lexer.specs.declared.token.Token.{Token}
use Rattle.diagnostics.specs.Items.{is_over, item_length, item_end}
use Rattle.diagnostics.proofs.EndLaws.{ends-more, ends-all}
use Rattle.diagnostics.proofs.items.ends_in.Goals as goal

pub items-preserved : goal.items-preserved
items-preserved c =
    let tokens = c.args.tokens.now in
    let at = c.items.at in
    let left = take_rest tokens at in
    let more = sym (c.items-test.ensures ∙ ap (λ (ts : List Token). is_over ts) left) in
    let long = c.item_length-at.ensures.count ∙ ap (λ (ts : List Token). item_length ts) left in
    let end = c.item_end.ensures ∙ ap (λ (ts : List Token). item_end c.args.size ts) left in
    let high = rw left at c.item_length-at.ensures.high in (
      omega (arith, high, length-drop at tokens, c.items.invariant.0),
      ends-more c.args.size tokens at c.item_length-at.result c.item_end.result c.items.ends.items c.push.new.self.items
          c.items.invariant.1 more long end c.in_ok-push.ensures.items,
    )

pub returns : goal.returns
returns c =
    let tokens = c.args.tokens.now in
    let at = c.items.at in
    let done = sym (c.items-test.ensures ∙ ap (λ (ts : List Token). is_over ts) (take_rest tokens at)) in
    ends-all c.args.size tokens at c.items.ends.items c.items.invariant.1 done
