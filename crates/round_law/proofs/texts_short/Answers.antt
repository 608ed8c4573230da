use Rattle.round_law.proofs.Texts.{law_of_texts}
use Rattle.round_law.proofs.texts_short.Goals as goal

pub returns : goal.returns
returns c = law_of_texts
