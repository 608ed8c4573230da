use Rattle.std.proofs.Common.{rules, vec_items}
use Rattle.succession.proofs.Ranking.{order_at}
use Rattle.succession.proofs.priority.order_for.Goals as goal

pub returns : goal.returns
returns c = order_at _ vec_items c.args.orders.now c.args.place.number c.and_then.result _ (λ e. search rules) (λ h. search rules) (search rules)
