use Rattle.trading.proofs.Theorems.{staged_once}
use Rattle.trading.proofs.staged_once.Goals as goal

pub returns : goal.returns
returns c = staged_once
