use Rattle.round_law.proofs.Filing.{phases_forward}
use Rattle.round_law.proofs.phases_forward.Goals as goal

pub returns : goal.returns
returns c = phases_forward
