use Rattle.trading.proofs.Theorems.{trades_commute}
use Rattle.trading.proofs.trades_commute.Goals as goal

pub returns : goal.returns
returns c = trades_commute
