use Rattle.trading.proofs.Theorems.{points_at_best}
use Rattle.trading.proofs.points_at_best.Goals as goal

pub returns : goal.returns
returns c = points_at_best
