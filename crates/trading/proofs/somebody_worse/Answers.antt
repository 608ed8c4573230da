use Rattle.trading.proofs.Theorems.{somebody_worse}
use Rattle.trading.proofs.somebody_worse.Goals as goal

pub returns : goal.returns
returns c = somebody_worse
