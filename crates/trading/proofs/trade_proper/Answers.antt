use Rattle.trading.proofs.Theorems.{trade_proper}
use Rattle.trading.proofs.trade_proper.Goals as goal

pub returns : goal.returns
returns c = trade_proper
