use Rattle.std.proofs.Common.{◌≡◌, ◌<◌, ℕ, List, All, length, ap, subst, sym}
use Rattle.std.proofs.lemmas.List.Elements.{All-push, All-same}
use Rattle.diagnostics.specs.declared.front.Refusal.{Refusal}
use Rattle.parser_grammar.specs.Views.{items_of}
use Rattle.types.specs.Faults.{byte_of}
use Rattle.vcd_reader.specs.Held.{variables_of}
use Rattle.suite_over_dump.specs.Standing.{StandsIn}
use Rattle.suite_over_dump.specs.Suites.{scope_over}
use Rattle.lint_refusals.specs.Beside.{HasFaultAt}
use Rattle.lint_refusals.proofs.BesideLaws.{same-byte}
use Rattle.lint_refusals.proofs.beside.others_of.Goals as goal

pub loop-one-preserved : goal.loop-one-preserved
loop-one-preserved c =
    let vs = variables_of c.args.front.now.meant.dump.now in
    let text = c.args.text.now in
    let items = items_of c.args.file.now in
    let Told = λ (r : Refusal). HasFaultAt vs text r.at in
    let one = c.in_ok-type_refusal.field-0 in
    let each =
    All-same (λ one. StandsIn (scope_over vs items) items (byte_of one.fault)) _ _ c.deref-one-items.ensures.value
    c.in_ok-faults.ensures in
    let stands : StandsIn (scope_over vs items) items one.at =
    subst (λ (at : ℕ). StandsIn (scope_over vs items) items at) (same-byte _ one.at c.in_ok-type_refusal.ensures)
    (each c.loop-one.one-index _ c.loop-one-test.true) in
    All-same Told _ _ c.in_ok-push.ensures.items
    (All-push Told c.loop-one.all.items one c.loop-one.invariant
    (record { tokens = c.args.tokens.now; items = items; spells = c.requires; stands = stands }))
