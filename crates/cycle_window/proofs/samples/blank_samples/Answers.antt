use Rattle.std.proofs.Common.{◌≡◌, ◌∙◌, ◌≤◌, ℕ, List, Some, length, get_or, sym, ap, subst, arith}
use Rattle.std.specs.Prelude.{slice_get}
use Rattle.std.proofs.lemmas.List.{get_or-map}
use Rattle.vcd_reader.specs.declared.variable.VarId.{VarId}
use Rattle.vcd_reader.specs.Variables.{size_of}
use Rattle.vcd_reader.specs.Held.{variables_of}
use Rattle.cycle_window.specs.declared.samples.Samples.{Samples}
use Rattle.cycle_window.specs.Samples.{IsBlank}
use Rattle.cycle_window.specs.Values.{bits_in}
use Rattle.cycle_window.specs.Variables.{places}
use Rattle.cycle_window.proofs.SampleLaws.{each-more}
use Rattle.cycle_window.proofs.samples.blank_samples.Goals as goal

abbrev none : VarId
none = record { place = 0 }

pub width-width-requires : goal.width-width-requires
width-width-requires c =
    c.requires.bindable c.loop-variable.variable-index none c.loop-variable-test.true

pub loop-variable-preserved : goal.loop-variable-preserved
loop-variable-preserved c =
    let old = c.loop-variable.invariant in
    let n = c.loop-variable.variable-index in
    let vs = c.args.variables.now in
    let all = c.loop-variable.all.items in
    let one : Samples = c.in_ok-samples.samples in
    let pushed = c.push_reserved.ensures in
    let here : get_or (places vs) n 0 ≡ (get_or vs n none).place =
    get_or-map (λ (v : VarId). v.place) vs n none 0 c.loop-variable-test.true in
    let wide : size_of (variables_of c.args.dump.now) (get_or (places vs) (length all) 0) ≤ bits_in one.values =
    subst (λ (m : ℕ). size_of (variables_of c.args.dump.now) (get_or (places vs) m 0) ≤ bits_in one.values)
    (sym old.many)
    (subst (λ (p : ℕ). size_of (variables_of c.args.dump.now) p ≤ bits_in one.values) (sym here)
    (omega (arith, c.width-width.ensures.size, c.in_ok-samples.ensures.wide))) in
    let back : (i : ℕ) (s : Samples) → slice_get c.push_reserved.new.self.items i ≡ Some s → _ =
    λ i s is. ap (λ (xs : List Samples). slice_get xs i) (sym pushed.items) ∙ is in
    record {
      many = omega (arith, pushed.len, old.many);
      room = omega (arith, pushed.capacity, old.room);
      blank = λ i s is. each-more (λ k. IsBlank c.args.ticks) all one old.blank c.in_ok-samples.ensures.blank i s
          (back i s is);
      wide = λ i s is. each-more
          (λ k (t : Samples). size_of (variables_of c.args.dump.now) (get_or (places vs) k 0) ≤ bits_in t.values)
          all one old.wide wide i s (back i s is);
    }
