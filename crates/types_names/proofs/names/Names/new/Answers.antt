use Rattle.std.proofs.Common.{[], refl}
use Rattle.types_names.specs.Scopes.{look_up}
use Rattle.types_names.specs.Views.{widths_of}
use Rattle.types_names.proofs.EntryLaws.{same-found}
use Rattle.types_names.proofs.names.Names.new.Goals as goal

pub returns : goal.returns
unfolding widths_of
returns c = same-found _ (look_up []) (λ q. rw c.new.ensures.empty refl)
