use Rattle.trading.proofs.Theorems.{all_waiting_proper}
use Rattle.trading.proofs.all_waiting_proper.Goals as goal

pub returns : goal.returns
returns c = all_waiting_proper
