use Rattle.round_law.proofs.Examples.{four_lawful, four_alike, four_bound, four_differ, four_bound_still}
use Rattle.round_law.proofs.four_bound.Goals as goal

pub returns : goal.returns
returns c = record { lawful = four_lawful; alike = four_alike; bound = four_bound; differ = four_differ; still = four_bound_still }
