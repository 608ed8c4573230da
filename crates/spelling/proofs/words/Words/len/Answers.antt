use Rattle.std.proofs.Common.{arith, inl}
use Rattle.std.proofs.lemmas.Iterator.Consumers.{count_from_yields_List}
use Rattle.spelling.proofs.Readings.{few_numbers, numbers_road}
use Rattle.spelling.proofs.words.Words.len.Goals as goal

pub count-requires-clause-fits : goal.count-requires-clause-fits
count-requires-clause-fits c = inl (omega (arith, few_numbers c.args.self.now.rest.now))

pub returns : goal.returns
returns c = omega (arith, count_from_yields_List c.args.self.now _ c.count.ensures.ran (numbers_road c.args.self.now))
