use Rattle.std.proofs.Common.{◌≡◌, ◌∙◌, ◌++◌, ◌∷◌, [], List, map, sym, ap, append_assoc, append-nil}
use Rattle.std.proofs.lemmas.List.{map-append}
use Rattle.vcd_declarations.specs.Declarations.{Declaration, declarations}
use Rattle.vcd_declarations.specs.Views.{left_in, scopes_in, fields_of}
use Rattle.report_gtkwave.specs.Waves.{WaveName, wave_of}
use Rattle.report_gtkwave.specs.Views.{wave_data}
use Rattle.report_gtkwave.proofs.waves.waves_of.Goals as goal

pub variables-init : goal.variables-init
variables-init c =
    ap (map wave_of) (sym c.new-header.ensures)
    ∙ ap (λ (l : List WaveName). l ++ map wave_of (left_in c.new-header.result))
    (sym (ap (map wave_data) c.new-waves.ensures.items))

pub returns-in_default : goal.returns-in_default
returns-in_default c =
    let none = rw c.in_default.is at c.in_ok-variable.ensures in
    let waves = map wave_data c.variables.waves.items in
    sym (append-nil waves)
    ∙ ap (λ (l : List Declaration). waves ++ map wave_of l) (sym none.0)
    ∙ sym c.variables.invariant

pub variables-preserved : goal.variables-preserved
variables-preserved c =
    let waves = map wave_data c.variables.waves.items in
    let later = left_in c.next.new.self in
    let d : Declaration = record { scopes = scopes_in c.next.new.self; fields = fields_of c.in-Some.variable } in
    let next = rw c.in-Some.is at c.in_ok-variable.ensures in
    let made = c.in_ok-wave_of.field-0 in
    c.variables.invariant
    ∙ ap (λ (l : List Declaration). waves ++ map wave_of l) next
    ∙ sym (append_assoc waves (wave_of d ∷ []) (map wave_of later))
    ∙ ap (λ (l : List WaveName). l ++ map wave_of later)
    (ap (λ (w : WaveName). waves ++ w ∷ []) (sym c.in_ok-wave_of.ensures)
    ∙ sym (ap (map wave_data) c.in_ok-push.ensures.items ∙ map-append wave_data c.variables.waves.items (made ∷ [])))
