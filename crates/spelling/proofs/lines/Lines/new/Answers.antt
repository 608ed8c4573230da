use Rattle.spelling.proofs.Rejoining.{rejoins}
use Rattle.spelling.proofs.lines.Lines.new.Goals as goal

pub returns-clause-rejoin : goal.returns-clause-rejoin
returns-clause-rejoin c = rejoins c.args.file.now
