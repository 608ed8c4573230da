use Rattle.std.proofs.Common.{rules}
use Rattle.console.proofs.Judging.{tells_owners}
use Rattle.console.proofs.reply.owners.OwnersReply.answer.Goals as goal

pub returns-in-Ok-clause-law : goal.returns-in-Ok-clause-law
returns-in-Ok-clause-law c = tells_owners _ _ (search rules)

pub returns-in-Err-clause-law : goal.returns-in-Err-clause-law
returns-in-Err-clause-law c = tells_owners _ _ (search rules)
