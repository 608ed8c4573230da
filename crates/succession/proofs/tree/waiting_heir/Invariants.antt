use Rattle.std.proofs.Common.{◌≡◌, ◌-◌, length, drop}
use Rattle.succession.specs.Trees.{walk_from, heir_claims}
use Rattle.succession.proofs.tree.waiting_heir.Given as goal

-- The walk from the present node on decides.
abbrev pub invariant-loop-index : goal.invariant-loop-index
invariant-loop-index l = walk_from l.row l.place l.number l.number l.took (drop l.number l.nodes) ≡ heir_claims l.nodes l.row l.place

-- A child comes after its parent.
abbrev pub decreases-loop-index : goal.decreases-loop-index
decreases-loop-index l = length l.initial.nodes - l.number
