use Rattle.std.proofs.Common.{◌∙◌, ◌%◌, ◌^◌, sym, ap, ℕ, List}
use Rattle.vcd_reader.specs.Stored.{stored_value}
use Rattle.vcd_reader.specs.Variables.{size_of}
use Rattle.vcd_reader.specs.Held.{variables_of, high_of, value_of_change}
use Rattle.vcd_reader.proofs.ValueLaws.{digits}
use Rattle.vcd_reader.proofs.dump.Dump.cut.Goals as goal

pub returns-clause-value : goal.returns-clause-value
unfolding value_of_change high_of
returns-clause-value c =
    c.cut_to.ensures
    ∙ ap (λ (n : ℕ). n % 2 ^ c.width.result)
    (c.value_of.ensures ∙ ap (λ (h : List ℕ). stored_value h c.args.change.now) c.deref.ensures.value)
    ∙ ap (λ (w : ℕ). stored_value c.args.self.now.high.items c.args.change.now % 2 ^ w) c.width.ensures.size

pub returns-clause-digits : goal.returns-clause-digits
unfolding value_of_change high_of
returns-clause-digits c = λ ds e.
    let high = rw c.width.ensures.size at c.width.ensures.high in
    c.cut_to.ensures
    ∙ ap (λ (n : ℕ). n % 2 ^ c.width.result)
    (c.value_of.ensures ∙ ap (λ (h : List ℕ). stored_value h c.args.change.now) c.deref.ensures.value ∙ e)
    ∙ rw c.width.ensures.size (sym (digits (size_of (variables_of c.args.self.now) c.args.var.place) ds high))
