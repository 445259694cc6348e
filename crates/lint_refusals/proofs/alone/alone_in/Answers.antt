use Rattle.std.proofs.Common.{List, ℕ, ◌≡◌, ◌+◌, subst}
use Rattle.vcd_reader.specs.Held.{variables_of}
use Rattle.diagnostics.specs.declared.front.Refusal.{Refusal}
use Rattle.lint_refusals.specs.Alone.{IsMovedPart, IsRefusedOf, known_names, unlexed}
use Rattle.lint_refusals.proofs.FrontLaws.{some_known, told_known}
use Rattle.lint_refusals.proofs.alone.alone_in.Goals as goal

pub returns-in-Ok : goal.returns-in-Ok
returns-in-Ok c =
    let vs = variables_of c.args.front.now.meant.dump.now in
    let names = known_names c.args.front.now in
    let start = c.args.span.start in
    told_known (λ (r : Refusal). IsMovedPart vs names c.range-part.result.now start r.at)
    (λ (r : Refusal). IsRefusedOf vs names c.args.text.now start c.args.span.end r.at) c.alone_at.result
    (λ r is. subst (λ (t : List ℕ). IsMovedPart vs names t start r.at) c.range-part.ensures.value is)
    c.alone_at.ensures

pub returns-in_ok-lex_refusal-in-Err : goal.returns-in_ok-lex_refusal-in-Err
returns-in_ok-lex_refusal-in-Err c =
    let vs = variables_of c.args.front.now.meant.dump.now in
    let names = known_names c.args.front.now in
    let start = c.args.span.start in
    let told = c.in_ok-lex_refusal-in-Err.field-0 in
    some_known (λ (r : Refusal). r.at ≡ start + told.at)
    (λ (r : Refusal). IsRefusedOf vs names c.args.text.now start c.args.span.end r.at) c.moved.result
    (λ r is. subst (λ (t : List ℕ). IsMovedPart vs names t start r.at) c.range-part.ensures.value
    (record {
      byte = told.at;
      refused = unlexed c.in-Err.fault c.in-Err.ensures.faulty c.in_ok-lex_refusal-in-Err.ensures;
      is = is;
    })) c.moved.ensures
