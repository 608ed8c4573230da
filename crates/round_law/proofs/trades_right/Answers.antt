use Rattle.round_law.proofs.Trades.{law_of_trade}
use Rattle.round_law.proofs.trades_right.Goals as goal

pub returns : goal.returns
returns c = law_of_trade
