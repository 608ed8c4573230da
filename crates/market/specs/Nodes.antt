-- Where nodes stand in the trees, and which parents fit.
use Rattle.std.specs.Prelude.{ℕ, zero, suc, Bool, false, ◌&&◌, List, Some, None, Option, ◌==◌}
use Rattle.std.specs.List.{slice_get}
use Rattle.market.specs.declared.node.Branch.{Branch}
use Rattle.market.specs.declared.node.Node.{Node}

-- Where a node stands.
abbrev pub branch_of : Node → Branch
branch_of a = record { place = a.place; parent = a.parent; took = a.took }

-- A node has the place p, the parent r and the took number t.
abbrev pub is_node : ℕ → ℕ → ℕ → Node → Bool
is_node p r t a = a.place.number == p && a.parent == r && a.took == t

-- A node is there and has the place p.
abbrev pub at_place : Option Node → ℕ → Bool
at_place None p = false
at_place (Some a) p = a.place.number == p

-- The parent r is 0, with took number 0, or else the number of an earlier node of the place p.
abbrev pub parent_fits : List Node → ℕ → ℕ → ℕ → Bool
parent_fits earlier p zero t = t == 0
parent_fits earlier p (suc r) t = at_place (slice_get earlier r) p
