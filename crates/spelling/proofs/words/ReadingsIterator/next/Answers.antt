use Rattle.std.proofs.Common.{◌≡◌, ◌∷◌, length, ap, arith, rules}
use Rattle.std.proofs.iter.Next.{firm}
use Rattle.spelling.specs.Words.{readings}
use Rattle.spelling.proofs.Readings.{turn_word}
use Rattle.spelling.proofs.words.ReadingsIterator.next.Goals as goal
use Rattle.spelling.proofs.words.ReadingsIterator.next.Goals.{After-number}

turned : (c : After-number) → readings c.args.self.now.rest.now ≡ c.number.result ∷ readings c.cut.result.1.now
turned c = turn_word c.args.self.now.rest.now c.in_ok-space.after.now _ _ _ (search rules) c.cut.ensures.front c.cut.ensures.rest c.number.ensures.value

pub returns-clause-steps : goal.returns-clause-steps
returns-clause-steps c = turned (goal.at.returns-clause-steps c).After-number

pub returns-clause-goes : goal.returns-clause-goes
returns-clause-goes c = firm ((tt, tt, omega (arith, ap length (turned (goal.at.returns-clause-goes c).After-number)))) (λ h. search rules)
