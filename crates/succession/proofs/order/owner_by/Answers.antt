use Rattle.std.proofs.Common.{rules}
use Rattle.std.proofs.lemmas.List.Folds.{find-append}
use Rattle.succession.proofs.order.owner_by.Goals as goal

pub returns : goal.returns
returns c = search (rules, find-append)
