use Rattle.std.proofs.Common.{arith}
use Rattle.std.proofs.lemmas.Grind.{common_steps}
use Rattle.std.proofs.lemmas.List.Folds.{list_all-map}
use Rattle.succession.proofs.priority.are_orders.Goals as goal

pub returns-then-orders-from : goal.returns-then-orders-from
returns-then-orders-from c = grind (arith, common_steps, list_all-map)
