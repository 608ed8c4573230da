use Rattle.std.proofs.Common.{◌≡◌, ◌+◌, ◌≤◌, length}
use Rattle.std.specs.Iterator.Adapters.{enumerate_source, enumerate_count}
use Rattle.spelling.specs.Views.{numbers_of}
use Rattle.market_file.specs.Bounds.{misfit}
use Rattle.market_file.proofs.due.Due.check_ranges.Given as goal

-- What is left has the leftmost number out of its range.
abbrev pub invariant-loop-index : goal.invariant-loop-index
invariant-loop-index l =
    (misfit l.self.kind l.self.sizes (enumerate_count l.index-iterator + 1) (numbers_of (enumerate_source l.index-iterator)) ≡ misfit l.self.kind l.self.sizes 1 (numbers_of l.words))
    × (enumerate_count l.index-iterator + length (numbers_of (enumerate_source l.index-iterator)) ≤ 65536)
    × (goal.iterator-loop-index).can_next l.index-iterator
    × (goal.iterator-loop-index).is_finite l.index-iterator
