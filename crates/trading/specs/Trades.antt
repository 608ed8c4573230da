-- Trades: what agents point at, whose it is, and how they depart.
use Rattle.std.specs.Prelude.{◌≡◌, ℕ, zero, suc, true, cond, [], ◌∷◌, length, Some, None, Option}
use Rattle.market.specs.declared.agent.Agent.{Agent}
use Rattle.market.specs.declared.place.Place.{Place}
use Rattle.market.specs.declared.standing.Standing.{Standing}
use Rattle.market.specs.declared.standing.Standing.TheVariants.{Placed, Unplaced}
use Rattle.market.specs.Rows.{Row, standing}
use Rattle.trading.specs.Economies.{Economy, Group}
use Rattle.trading.specs.Rooms.{has_room}
use Rattle.trading.specs.Rankings.{Ranking, Profile}

-- What can be had in a row: nothing, and each place that has room.
abbrev pub Available : Economy → Row → Option Place → Type 0
Available M A None = Unit {0}
Available M A (Some p) = has_room M A p ≡ true

-- The best place of a ranking that has room, or nothing.
abbrev pub best : Economy → Row → Ranking → Option Place
best M A [] = None
best M A (p ∷ ps) = cond (has_room M A p) (Some p) (best M A ps)

-- What an agent that waits points at: the best place in its ranking that has room, or nothing.
abbrev pub points_at : Economy → Profile → Row → Agent → Option Place
points_at M R A a = best M A (R a)

-- The owner of a place that an agent points at, and the agent itself where it points at nothing.
abbrev pub owner_of : Economy → Row → Agent → Option Place → Agent
owner_of M A a None = a
owner_of M A a (Some p) = M.owner A p

-- The next agent of a walk: the owner of the place that the agent points at. An agent that points at nothing stays.
abbrev pub next : Economy → Profile → Row → Agent → Agent
next M R A a = owner_of M A a (points_at M R A a)

-- Where a walk of k steps ends.
abbrev pub walk : (Agent → Agent) → ℕ → Agent → Agent
walk f zero a = a
walk f (suc k) a = walk f k (f a)

-- How an agent stands that departed with a place, or with nothing.
abbrev pub departed : Option Place → Standing
departed None = Unplaced
departed (Some p) = Placed p

-- The standings of n agents from agent k on.
abbrev pub row_from : ℕ → ℕ → (Agent → Standing) → Row
row_from k zero f = []
row_from k (suc n) f = f (record { number = k }) ∷ row_from (suc k) n f

-- The row of n agents in which each stands as f says.
abbrev pub row_of : ℕ → (Agent → Standing) → Row
row_of n f = row_from 1 n f

-- A group trades: every member departs with what it points at. All other standings stay.
abbrev pub trade : Economy → Profile → Row → Group → Row
trade M R A D = row_of (length A) (λ a. cond (D a) (departed (points_at M R A a)) (standing A a))
