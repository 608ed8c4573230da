use Rattle.round_law.proofs.Law.{law_of_records}
use Rattle.round_law.proofs.records_true.Goals as goal

pub returns : goal.returns
returns c = law_of_records
