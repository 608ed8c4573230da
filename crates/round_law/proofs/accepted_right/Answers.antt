use Rattle.round_law.proofs.Accepting.{open_accepted, file_accepted}
use Rattle.round_law.proofs.accepted_right.Goals as goal

pub returns : goal.returns
returns c = record { open_takes = open_accepted; file_takes = file_accepted }
