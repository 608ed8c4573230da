use Rattle.std.proofs.Common.{◌≡◌, ◌≤◌, map, length}
use Rattle.market_reader.specs.Filling.{after}
use Rattle.market_reader.specs.Held.{held}
use Rattle.market_reader.proofs.Entering.{entry_in, pair_at}
use Rattle.market_reader.proofs.reader.enter_all.Given as goal

-- The market after the records so far, each of which adds at most one node and one tenant.
abbrev pub invariant-loop-kind : goal.invariant-loop-kind
invariant-loop-kind l =
    (held l.market ≡ after (held l.initial.market) (map entry_in (map pair_at l.yielded)))
    × (length (held l.market).nodes ≤ length l.yielded)
    × (length (held l.market).tenants ≤ length l.yielded)
    × (goal.iterator-loop-kind).can_next l.kind-iterator
    × (goal.iterator-loop-kind).is_finite l.kind-iterator
