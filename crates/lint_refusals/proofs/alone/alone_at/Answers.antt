use Rattle.std.proofs.Common.{◌≡◌, ◌+◌}
use Rattle.vcd_reader.specs.Held.{variables_of}
use Rattle.diagnostics.specs.declared.front.Refusal.{Refusal}
use Rattle.lint_refusals.specs.Alone.{IsMovedPart, known_names}
use Rattle.lint_refusals.proofs.FrontLaws.{some_known}
use Rattle.lint_refusals.proofs.alone.alone_at.Goals as goal

pub returns : goal.returns
returns c =
    let vs = variables_of c.args.front.now.meant.dump.now in
    let names = known_names c.args.front.now in
    let refused = rw c.in-Some.is at c.in_ok-refusal.ensures in
    some_known (λ (r : Refusal). r.at ≡ c.args.start + c.in-Some.refusal.at)
    (λ (r : Refusal). IsMovedPart vs names c.args.part.now c.args.start r.at) c.moved.result
    (λ r is. record { byte = c.in-Some.refusal.at; refused = refused; is = is }) c.moved.ensures
