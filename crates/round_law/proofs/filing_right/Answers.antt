use Rattle.round_law.proofs.Filing.{law_of_filing}
use Rattle.round_law.proofs.filing_right.Goals as goal

pub returns : goal.returns
returns c = law_of_filing
