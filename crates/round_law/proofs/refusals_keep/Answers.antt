use Rattle.round_law.proofs.Refusing.{refusals_keep}
use Rattle.round_law.proofs.refusals_keep.Goals as goal

pub returns : goal.returns
returns c = refusals_keep
