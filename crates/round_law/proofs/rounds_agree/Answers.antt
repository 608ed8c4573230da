use Rattle.round_law.proofs.Law.{law_of_rounds}
use Rattle.round_law.proofs.rounds_agree.Goals as goal

pub returns : goal.returns
returns c = law_of_rounds
