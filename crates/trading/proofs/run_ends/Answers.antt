use Rattle.trading.proofs.Theorems.{run_ends}
use Rattle.trading.proofs.run_ends.Goals as goal

pub returns : goal.returns
returns c = run_ends
