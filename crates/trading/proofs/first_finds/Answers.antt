use Rattle.trading.proofs.Theorems.{first_finds}
use Rattle.trading.proofs.first_finds.Goals as goal

pub returns : goal.returns
returns c = first_finds
