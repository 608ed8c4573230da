use Rattle.trading.proofs.Theorems.{outcome_within}
use Rattle.trading.proofs.outcome_within.Goals as goal

pub returns : goal.returns
returns c = outcome_within
