-- What a text names in a dump.
use Rattle.std.proofs.Common.{◌≡◌, ℕ, Bool, cond, List, Option, None, option_map, sym, ap, ◌∙◌}
use Rattle.std.specs.Str.{IsUtf8}
use Rattle.std.proofs.lemmas.Str.{is_utf8-from_IsUtf8}
use Rattle.vcd_reader.specs.Variables.{Declared, variable_named, size_of}
use Rattle.suite_over_dump.specs.Dumps.{width_named}

pub width_of_text : (vs : List Declared) (path : List ℕ) (width : Option ℕ) → IsUtf8 path →
    width ≡ option_map (size_of vs) (variable_named vs path) → width ≡ width_named vs path
width_of_text vs path width text is =
    let named : Option ℕ = option_map (size_of vs) (variable_named vs path) in
    is ∙ sym (ap (λ (b : Bool). cond b named None) (is_utf8-from_IsUtf8 path text))
