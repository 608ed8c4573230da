use Rattle.std.proofs.Common.{◌≡◌, ◌+◌, ◌≤◌, ◌++◌, map, take, vec_items, vec_len, vec_capacity}
use Rattle.std.specs.Iterator.Adapters.{take_source, take_count}
use Rattle.spelling.specs.Views.{numbers_of}
use Rattle.market_file.proofs.numbered.gather.Given as goal

-- What was gathered and what is still to come are all, and there is room for it.
abbrev pub invariant-loop-number : goal.invariant-loop-number
invariant-loop-number g l =
    (vec_items l.list ++ map g.T.Numbered.stands (take (take_count l.number-iterator) (numbers_of (take_source l.number-iterator))) ≡ map g.T.Numbered.stands (take (vec_capacity l.fn.list) (numbers_of l.words)))
    × (vec_len l.list + take_count l.number-iterator ≤ vec_capacity l.list)
    × (vec_capacity l.list ≡ vec_capacity l.fn.list)
