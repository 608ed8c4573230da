use Rattle.trading.proofs.Theorems.{trade_within}
use Rattle.trading.proofs.trade_within.Goals as goal

pub returns : goal.returns
returns c = trade_within
