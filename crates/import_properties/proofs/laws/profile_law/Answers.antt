use Rattle.import_properties.proofs.ProfileLaws.{not_empty-takes, profile-implied}
use Rattle.import_properties.proofs.laws.profile_law.Goals as goal

pub returns : goal.returns
returns c = λ leaves r s n o at some begun. profile-implied r s (not_empty-takes s some) leaves n o at begun
