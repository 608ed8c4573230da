use Rattle.round_law.proofs.Trades.{law_of_finish}
use Rattle.round_law.proofs.finish_right.Goals as goal

pub returns : goal.returns
returns c = law_of_finish
