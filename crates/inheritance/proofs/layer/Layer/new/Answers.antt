use Rattle.std.proofs.Common.{rules}
use Rattle.inheritance.proofs.Makings.{made_right}
use Rattle.inheritance.proofs.layer.Layer.new.Goals as goal

pub returns-then-are_right-clause-exactly : goal.returns-then-are_right-clause-exactly
returns-then-are_right-clause-exactly g c =
    let T = g.R.Rule.terms c.args.below in
    made_right (g.C.Claim.laws.test.right T.agents T.places c.args.entries.now (search rules)) _
