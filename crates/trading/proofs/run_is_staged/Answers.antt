use Rattle.trading.proofs.Theorems.{run_is_staged}
use Rattle.trading.proofs.run_is_staged.Goals as goal

pub returns : goal.returns
returns c = run_is_staged
