use Rattle.trading.proofs.Theorems.{same_runs}
use Rattle.trading.proofs.same_runs.Goals as goal

pub returns : goal.returns
returns c = same_runs
