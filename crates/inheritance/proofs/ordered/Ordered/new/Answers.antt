use Rattle.std.proofs.Common.{rules}
use Rattle.succession.proofs.Ordering.{ordered_owns}
use Rattle.inheritance.proofs.Makings.{ordered_right, made_right}
use Rattle.inheritance.proofs.ordered.Ordered.new.Goals as goal

pub returns-then-are_right-clause-exactly : goal.returns-then-are_right-clause-exactly
returns-then-are_right-clause-exactly g c =
    let n = c.args.sizes.agents in
    let m = c.args.sizes.places in
    made_right (ordered_right n m _ _ (g.O.Orders.laws.test.right n m c.args.orders) (search rules)) _

pub returns-then-are_right-clause-owns : goal.returns-then-are_right-clause-owns
returns-then-are_right-clause-owns g c =
    let n = c.args.sizes.agents in
    let m = c.args.sizes.places in
    let o = c.args.orders in
    ordered_owns n m (g.O.Orders.order o) (g.O.Orders.laws.each n m o (g.O.Orders.laws.test.right n m o (search rules)))
