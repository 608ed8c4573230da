use Rattle.std.proofs.Common.{◌≤◌, length}
use Rattle.exchange.proofs.market_bytes.fill.Given as goal

abbrev pub invariant-loop-file : goal.invariant-loop-file
invariant-loop-file l = length l.free ≤ l.most

abbrev pub decreases-loop-file : goal.decreases-loop-file
decreases-loop-file l = length l.free
