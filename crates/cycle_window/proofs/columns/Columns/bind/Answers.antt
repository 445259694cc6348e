use Rattle.std.proofs.Common.{ap, ◌∙◌, length, map, refl}
use Rattle.std.specs.Prelude.{Some}
use Rattle.cycle_window.specs.Variables.{places}
use Rattle.cycle_window.specs.Held.{ticks_in, code_in, dump_in, places_in, clock_in}
use Rattle.cycle_window.proofs.BoundLaws.{map-map}
use Rattle.cycle_window.proofs.columns.Columns.bind.Goals as goal

pub returns-clause-places : goal.returns-clause-places
unfolding places_in
returns-clause-places c =
    ap (map Some)
    (c.in_ok-shared.ensures.same ∙ ap places c.as_slice.ensures.value)
    ∙ map-map _ _ c.in_ok-variables.variables.items ∙ c.in_ok-variables.ensures.places

pub returns-clause-rows : goal.returns-clause-rows
unfolding ticks_in code_in clock_in dump_in
returns-clause-rows c = λ c' h. record {
  many = c.len.ensures ∙ c.args.clocks.now.ticks.ok.0 ∙ ap length (c.requires c' h);
  held = h;
}

pub returns-clause-dump : goal.returns-clause-dump
unfolding dump_in
returns-clause-dump c = refl

pub returns-clause-clock : goal.returns-clause-clock
unfolding clock_in code_in
returns-clause-clock c = refl
