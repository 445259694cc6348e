use Rattle.cli_names.proofs.FreeLaws.{noted-free, free-noted}
use Rattle.cli_names.proofs.laws.note_law.Goals as goal

pub returns : goal.returns
returns c = λ vs k d at. (noted-free vs k d, λ h. free-noted vs k d at h.0 h.1)
