use Rattle.std.proofs.Common.{◌⊎◌, inl, inr}
use Rattle.vcd_reader.specs.Held.{variables_of}
use Rattle.diagnostics.specs.declared.front.Refusal.{Refusal}
use Rattle.lint_refusals.specs.Refused.{IsAccepted, IsRefused}
use Rattle.lint_refusals.specs.Rests.{IsBare}
use Rattle.lint_refusals.proofs.FrontLaws.{less_known}
use Rattle.lint_refusals.proofs.front.parsed.Goals as goal

pub returns-in-Ok : goal.returns-in-Ok
returns-in-Ok c =
    let vs = variables_of c.args.front.now.meant.dump.now in
    let text = c.args.text.now in
    less_known (IsAccepted vs text) (IsAccepted vs text ⊎ IsBare c.args.front.now.whole.now text)
    (λ (x : Refusal). IsRefused vs text x.at) c.typed.result (λ accepted. inl accepted) c.typed.ensures

pub returns-in-Err : goal.returns-in-Err
returns-in-Err c =
    let vs = variables_of c.args.front.now.meant.dump.now in
    let text = c.args.text.now in
    let whole = c.args.front.now.whole.now in
    less_known (IsBare whole text) (IsAccepted vs text ⊎ IsBare whole text) (λ (x : Refusal). IsRefused vs text x.at)
    c.unparsed.result (λ bare. inr bare) c.unparsed.ensures
