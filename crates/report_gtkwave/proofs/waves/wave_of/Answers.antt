use Rattle.std.proofs.Common.{◌≡◌, ◌∙◌, ℕ, List, sym, ap, ap₂}
use Rattle.vcd_declarations.specs.Views.{fields_of, path_in, range_in}
use Rattle.report_gtkwave.specs.Waves.{WaveName, suffix_by}
use Rattle.report_gtkwave.proofs.waves.wave_of.Goals as goal

pub returns : goal.returns
returns c =
    let v = fields_of c.args.variable.now in
    let named : List ℕ → List ℕ → WaveName = λ p s. record { path = p; suffix = s } in
    ap₂ named c.in_ok-spelling.ensures.path
    (c.in_ok-suffix.ensures
    ∙ ap (λ (r : List ℕ). suffix_by v.kind r v.size) (c.range.ensures ∙ c.in_ok-spelling.ensures.range))
