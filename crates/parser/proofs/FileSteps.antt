-- The rules of reading that the readers of items use.
use Rattle.parser.proofs.Steps.{optional-absent, optional-present, optional-fails}

pub ruleset for_optional = (optional-absent, optional-present, optional-fails)
