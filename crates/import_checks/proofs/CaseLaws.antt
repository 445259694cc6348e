-- What is asked where no item of a case has the value.
use Rattle.std.proofs.Common.{◌≡◌, ℕ, Option, Some, None, true, false, refl}
use Rattle.std.specs.Prelude.{is_some}
use Rattle.import_elaboration.specs.declared.opener.Parts.{Parts}
use Rattle.import_elaboration.specs.declared.part.Choice.{Choice}
use Rattle.import_elaboration.specs.declared.part.ChoiceId.{ChoiceId}
use Rattle.import_elaboration.specs.declared.value.ValueList.{ValueList}
use Rattle.import_properties.specs.declared.condition.Condition.{Condition}
use Rattle.import_properties.specs.Properties.{Form}
use Rattle.import_checks.specs.Properties.{IsProperty, IsChoice, IsRest, rest_default, rest_before}

module _ (o : Parts) (bound : Option ℕ) (id : ChoiceId) (choice : Choice) (at : IsChoice o id choice) where
  more-by : (rest : Option (Form Condition)) (v : Option ValueList) → choice.values ≡ v → is_some v ≡ true
      → IsRest o bound choice.before rest → IsRest o bound (Some id) rest
  more-by rest None e some before = cc
  more-by rest (Some list) e some before = rest_before at e before

  -- an item with values leaves it to those before
  pub rest_more : (rest : Option (Form Condition)) → is_some choice.values ≡ true
      → IsRest o bound choice.before rest → IsRest o bound (Some id) rest
  rest_more rest some before = more-by rest choice.values refl some before

  last-by : (f : Form Condition) (v : Option ValueList) → choice.values ≡ v → is_some v ≡ false
      → IsProperty o bound choice.body f → IsRest o bound (Some id) (Some f)
  last-by f None e none body = rest_default at e body
  last-by f (Some list) e none body = cc

  -- a default is asked
  pub rest_last : (f : Form Condition) → is_some choice.values ≡ false → IsProperty o bound choice.body f
      → IsRest o bound (Some id) (Some f)
  rest_last f none body = last-by f choice.values refl none body
