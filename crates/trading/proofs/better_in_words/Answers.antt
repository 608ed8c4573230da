use Rattle.trading.proofs.Theorems.{better_in_words}
use Rattle.trading.proofs.better_in_words.Goals as goal

pub returns : goal.returns
returns c = better_in_words
