use Rattle.round_law.proofs.Law.{law_of_outcomes}
use Rattle.round_law.proofs.outcomes_staged.Goals as goal

pub returns : goal.returns
returns c = law_of_outcomes
