use Rattle.trading.proofs.Priorities.{priorities_lawful}
use Rattle.trading.proofs.priorities_lawful.Goals as goal

pub returns : goal.returns
returns c = priorities_lawful
