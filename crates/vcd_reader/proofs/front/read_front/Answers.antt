use Rattle.std.proofs.Common.{List, [], ◌∷◌, map, refl, subst}
use Rattle.vcd_reader.specs.Dump.{Contents}
use Rattle.vcd_reader.specs.Stored.{declaration_of, kept_step}
use Rattle.vcd_reader.specs.Held.{variables_of, steps_in, high_of}
use Rattle.vcd_reader.specs.declared.variable.Variable.{Variable}
use Rattle.vcd_reader.specs.declared.scope.Scope.{Scope}
use Rattle.vcd_reader.specs.declared.places.Part.TheVariants.{Path}
use Rattle.vcd_reader.specs.Index.{texts_in, codes_in, IsIndex}
use Rattle.vcd_reader.proofs.front.read_front.Goals as goal

pub invariant_of-dump-clause-code_index : goal.invariant_of-dump-clause-code_index
invariant_of-dump-clause-code_index c =
    subst (λ (vs : List Variable). IsIndex (codes_in vs) c.in_ok-codes.codes) c.deref-4.ensures.value
    c.in_ok-codes.ensures

pub invariant_of-dump-clause-path_index : goal.invariant_of-dump-clause-path_index
invariant_of-dump-clause-path_index c =
    let d = c.in_ok-scopes.field-0 in
    subst (λ (vs : List Variable). IsIndex (texts_in Path d.scopes.items vs) c.in_ok-paths.paths)
    c.deref-2.ensures.value
    (subst (λ (ss : List Scope). IsIndex (texts_in Path ss c.deref-2.result.now) c.in_ok-paths.paths)
    c.deref.ensures.value c.in_ok-paths.ensures)

pub invariant_of-dump-clause-says : goal.invariant_of-dump-clause-says
unfolding kept_step
invariant_of-dump-clause-says c =
    let d = c.in_ok-scopes.field-0 in
    let blank : Contents = record {
      variables = map (declaration_of d.scopes.items) d.variables.items;
      steps = record { time = 0; changes = [] } ∷ [];
    } in
    ∣ (
      blank,
      record {
        same_variables = refl;
        same_steps = c.in_ok-steps.ensures c.new-high.result.items;
      },
    ) ∣₁

pub returns : goal.returns
unfolding variables_of steps_in high_of kept_step
returns c = record {
  inside = c.in_ok-scopes.ensures.high;
  front = c.in_ok-scopes.ensures.header;
  blank = record { variables = refl; steps = c.in_ok-steps.ensures c.new-high.result.items };
}
