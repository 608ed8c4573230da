use Rattle.trading.proofs.Theorems.{cycle_lasts}
use Rattle.trading.proofs.cycle_lasts.Goals as goal

pub returns : goal.returns
returns c = cycle_lasts
