use Rattle.std.proofs.Common.{Ok, Err, rules}
use Rattle.market.specs.declared.refusal.Refusal.TheVariants.{Question}
use Rattle.inheritance.proofs.Asking.{question_law}
use Rattle.inheritance.proofs.rule.Rule.owner_of.Goals as goal

pub returns-then-question_fits-clause-law : goal.returns-then-question_fits-clause-law
returns-then-question_fits-clause-law g c =
    let T = g.Self.Rule.terms c.args.self.now in
    question_law T c.args.row.now c.args.place (Ok c.owner.result) (search rules) (g.Self.Rule.lawful c.args.self.now).waits

pub returns-else-question_fits-clause-law : goal.returns-else-question_fits-clause-law
returns-else-question_fits-clause-law g c =
    let T = g.Self.Rule.terms c.args.self.now in
    question_law T c.args.row.now c.args.place (Err Question) (search rules) (g.Self.Rule.lawful c.args.self.now).waits
