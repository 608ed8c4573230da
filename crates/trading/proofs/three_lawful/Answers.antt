use Rattle.trading.proofs.Priorities.{three_lawful}
use Rattle.trading.proofs.three_lawful.Goals as goal

pub returns : goal.returns
returns c = three_lawful
