use Rattle.trading.proofs.Theorems.{equally_good}
use Rattle.trading.proofs.equally_good.Goals as goal

pub returns : goal.returns
returns c = equally_good
