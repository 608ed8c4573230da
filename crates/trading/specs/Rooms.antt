-- Room: how many have departed with a place, and whether it has seats left.
use Rattle.std.specs.Prelude.{ℕ, Bool, false, count_by, ◌==◌, nat_lt}
use Rattle.market.specs.declared.place.Place.{Place}
use Rattle.market.specs.declared.standing.Standing.{Standing}
use Rattle.market.specs.declared.standing.Standing.TheVariants.{Waiting, Placed, Unplaced}
use Rattle.market.specs.Rows.{Row, is_waiting}
use Rattle.trading.specs.Economies.{Economy, capacity}

-- Two places are the same.
abbrev pub same_place : Place → Place → Bool
same_place p q = p.number == q.number

-- A standing is that of an agent that departed with the place p.
abbrev pub is_at : Place → Standing → Bool
is_at p Waiting = false
is_at p (Placed q) = same_place p q
is_at p Unplaced = false

-- How many have departed with a place.
abbrev pub taken : Row → Place → ℕ
taken A p = count_by (is_at p) A

-- How many wait.
abbrev pub waiters : Row → ℕ
waiters A = count_by is_waiting A

-- A place has room: fewer agents have departed with it than it has seats.
abbrev pub has_room : Economy → Row → Place → Bool
has_room M A p = nat_lt (taken A p) (capacity M p)
