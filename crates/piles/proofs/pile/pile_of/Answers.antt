use Rattle.std.proofs.Common.{rules}
use Rattle.market_reader.specs.Held.{held}
use Rattle.piles.proofs.Piling.{pile_law}
use Rattle.piles.proofs.pile.pile_of.Goals as goal

pub returns-in_err-base-clause-law : goal.returns-in_err-base-clause-law
returns-in_err-base-clause-law c = pile_law (held c.args.market.now) _ (search rules)

pub returns-clause-law : goal.returns-clause-law
returns-clause-law c = pile_law (held c.args.market.now) _ (search rules)
