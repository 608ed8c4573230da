use Rattle.std.proofs.Common.{◌≡◌, [], ◌++◌, map, drop, replicate, vec_items, vec_capacity}
use Rattle.market_reader.proofs.lists.Lists.clear.Given as goal

-- The lists so far are empty, the others as they were, and all have the room that they had.
abbrev pub invariant-loop-list : goal.invariant-loop-list
invariant-loop-list g l =
    (map vec_items l.list-items ≡ replicate l.list-index [] ++ drop l.list-index (map vec_items l.initial.list-items))
    × (map vec_capacity l.list-items ≡ map vec_capacity l.initial.list-items)
