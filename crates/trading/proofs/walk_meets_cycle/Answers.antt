use Rattle.trading.proofs.Theorems.{walk_meets_cycle}
use Rattle.trading.proofs.walk_meets_cycle.Goals as goal

pub returns : goal.returns
returns c = walk_meets_cycle
