use Rattle.round_law.proofs.Filing.{law_of_contents}
use Rattle.round_law.proofs.contents_right.Goals as goal

pub returns : goal.returns
returns c = law_of_contents
