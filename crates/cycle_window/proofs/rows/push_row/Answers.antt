use Rattle.std.proofs.Common.{◌≡◌, ◌∙◌, ◌<◌, ◌++◌, ℕ, List, map, take, length, get_or}
use Rattle.std.proofs.Common.{ap, sym, arith, None, refl}
use Rattle.std.proofs.lemmas.List.{length-map, get_or_default, take_all, append-nil}
use Rattle.vcd_reader.specs.declared.variable.VarId.{VarId}
use Rattle.vcd_reader.specs.Variables.{code_number}
use Rattle.vcd_reader.specs.Held.{variables_of, steps_in}
use Rattle.cycle_window.specs.Changes.{changes_to, last_of}
use Rattle.cycle_window.specs.Variables.{places}
use Rattle.cycle_window.specs.Ticks.{sample, row_of}
use Rattle.cycle_window.proofs.HeldLaws.{sample-is, row-more}
use Rattle.cycle_window.proofs.rows.push_row.Goals as goal

abbrev none : VarId
none = record { place = 0 }

pub loop-variable-init : goal.loop-variable-init
loop-variable-init c = record {
  len = omega arith;
  capacity = refl;
  row = λ c' k h table. sym (append-nil _);
}

pub loop-variable-preserved : goal.loop-variable-preserved
loop-variable-preserved c =
    let old = c.loop-variable.invariant in
    let vs = c.args.variables.now in
    let i = c.loop-variable.variable-index in
    let d = c.args.dump.now in
    let lt : i < length vs = omega arith in
    let v = get_or vs i none in
    let here = get_or_default vs i none v lt in
    let code = c.code-code.result in
    let pushed = c.push_reserved.ensures in
    record {
      len = omega (arith, pushed.len, old.len);
      capacity = pushed.capacity ∙ old.capacity;
      row = λ c' k h table.
          let inside : code < length c.args.last.now =
          rw c.code-code.ensures.number (c.requires.inside i none lt) in
          let last : get_or c.args.last.now code None
          ≡ last_of (code_number (variables_of d) v.place) (changes_to (steps_in d) k) =
          rw (← c.code-code.ensures.number) (table code inside) in
          let value = sample-is d c' h k v.place c.value_behind.result
          (get_or c.args.last.now code None) last c.value_behind.ensures in
          pushed.items ∙ row-more c' k vs i c.value_behind.result v c.args.values.now.items
          c.loop-variable.values.items lt here (old.row c' k h table) value;
    }

pub returns-clause-row : goal.returns-clause-row
unfolding row_of
returns-clause-row c = λ c' k h table.
    let vs = c.args.variables.now in
    let i = c.loop-variable.variable-index in
    let mapped : length (places vs) ≡ length vs = rw length-map refl in
    let all : take i (places vs) ≡ places vs = take_all i (places vs) (omega arith) in
    c.loop-variable.invariant.row c' k h table
    ∙ ap (λ (ps : List ℕ). c.args.values.now.items ++ map (sample c' k) ps) all
