use Rattle.std.proofs.Common.{◌∙◌, List, ℕ, sym, ap}
use Rattle.std.specs.List.{AllByRecursion}
use Rattle.vcd_reader.specs.Held.{variables_of}
use Rattle.parser_grammar.specs.Views.{items_of}
use Rattle.diagnostics.specs.declared.front.Refusal.{Refusal}
use Rattle.report_programs.specs.Faults.{HasAcceptedProgram}
use Rattle.suite_over_dump.specs.Dumps.{width_named}
use Rattle.lint_refusals.specs.Refused.{unclocked, unprogrammed, is_one_bit, IsAccepted, IsRefused, IsUnprogrammed}
use Rattle.lint_refusals.proofs.FrontLaws.{other_known}
use Rattle.lint_refusals.proofs.front.suited.Goals as goal

pub compiled-requires : goal.compiled-requires
compiled-requires c =
    c.suite_law.ensures (width_named (variables_of c.args.front.now.meant.dump.now)) c.args.text.now c.args.suite.now
    (record {
      tokens = c.args.tokens.now;
      items = items_of c.args.file.now;
      cut = c.requires.spells.cut;
      spelled = c.requires.spells.spelled;
      faultless = c.requires.faultless;
      says = c.requires.says;
    })

pub returns-then-is_clock : goal.returns-then-is_clock
returns-then-is_clock c =
    let vs = variables_of c.args.front.now.meant.dump.now in
    let text = c.args.text.now in
    let items = items_of c.args.file.now in
    let suite = c.args.suite.now in
    other_known (AllByRecursion (HasAcceptedProgram suite) suite.assertions.items) (IsAccepted vs text)
    (λ (r : Refusal). IsUnprogrammed suite items r.at) (λ (r : Refusal). IsRefused vs text r.at) c.compiled.result
    (λ programs. record {
      tokens = c.args.tokens.now;
      items = items;
      spells = c.requires.spells;
      faultless = c.requires.faultless;
      clocked = ap (λ (path : List ℕ). is_one_bit (width_named vs path))
          (sym (c.clock.ensures ∙ c.requires.says.clock)) ∙ sym c.is_clock.ensures ∙ c.if-is_clock.true;
      programs = record { suite = suite; says = c.requires.says; programs = programs };
    })
    (λ r is. unprogrammed c.args.tokens.now items c.requires.spells
    (record { suite = suite; says = c.requires.says; unprogrammed = is })) c.compiled.ensures

pub returns : goal.returns
returns c =
    let vs = variables_of c.args.front.now.meant.dump.now in
    unclocked c.args.tokens.now (items_of c.args.file.now) c.requires.spells
    (ap (λ (path : List ℕ). is_one_bit (width_named vs path)) (sym (c.clock.ensures ∙ c.requires.says.clock))
    ∙ sym c.is_clock.ensures ∙ c.if-is_clock.false) c.in_ok-refusal.ensures
