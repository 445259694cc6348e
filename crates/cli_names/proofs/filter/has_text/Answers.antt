use Rattle.std.proofs.Common.{◌∙◌, ℕ, List, sym, ap}
use Rattle.std.specs.Prelude.{nat_eq}
use Rattle.std.specs.List.{starts_with}
use Rattle.vcd_declarations.proofs.TextLaws.{slice-rest}
use Rattle.cli_names.proofs.TextLaws.{has-here, has-later, has-none}
use Rattle.cli_names.proofs.filter.has_text.Goals as goal

pub returns-then-starts_with : goal.returns-then-starts_with
returns-then-starts_with c =
    let text = c.args.text.now in
    let path = c.args.path.now in
    sym (c.loop-start.invariant
    ∙ has-here text path c.loop-start.start c.loop-start-test.true
    (c.if-starts_with.ensures.value
    ∙ ap (λ (bs : List ℕ). starts_with nat_eq bs text) (slice-rest path c.loop-start.start)))

pub loop-start-preserved : goal.loop-start-preserved
loop-start-preserved c =
    let text = c.args.text.now in
    let path = c.args.path.now in
    c.loop-start.invariant
    ∙ has-later text path c.loop-start.start c.loop-start-test.true
    (c.if-starts_with.ensures.value
    ∙ ap (λ (bs : List ℕ). starts_with nat_eq bs text) (slice-rest path c.loop-start.start))

pub returns : goal.returns
returns c =
    c.is_empty.ensures
    ∙ sym (c.loop-start.invariant
    ∙ has-none c.args.text.now c.args.path.now c.loop-start.start c.loop-start-test.false)
