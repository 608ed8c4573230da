use Rattle.trading.proofs.Theorems.{same_members}
use Rattle.trading.proofs.same_members.Goals as goal

pub returns : goal.returns
returns c = same_members
