-- Allocations: what each agent gets, within the capacities, and when no other is as good.
use Rattle.std.specs.Prelude.{◌≡◌, ◌≤◌, length, Some, None, Option, ◌≢◌}
use Rattle.market.specs.declared.agent.Agent.{Agent}
use Rattle.market.specs.declared.place.Place.{Place}
use Rattle.market.specs.declared.standing.Standing.{Standing}
use Rattle.market.specs.declared.standing.Standing.TheVariants.{Waiting, Placed, Unplaced}
use Rattle.market.specs.Rows.{Row, NobodyWaits, standing}
use Rattle.trading.specs.Economies.{Economy, capacity}
use Rattle.trading.specs.Rooms.{taken}
use Rattle.trading.specs.Rankings.{Profile, Worse}

-- The place that a standing gives, or nothing.
abbrev pub seat_of : Standing → Option Place
seat_of Waiting = None
seat_of (Placed p) = Some p
seat_of Unplaced = None

-- An agent's seat: the place that it departed with, or nothing.
abbrev pub seat : Row → Agent → Option Place
seat A a = seat_of (standing A a)

-- A row is within the capacities: no place has gone to more agents than it has seats.
abbrev pub WithinCapacities : Economy → Row → Type 0
WithinCapacities M A = (p : Place) → taken A p ≤ capacity M p

-- An allocation within the capacities: each of the n agents has a place or nothing, and no place goes to more agents than it has seats.
pub record AllocationIn (M : Economy) (X : Row) : Type 0 where
  pub size : length X ≡ M.agents
  pub nobody : NobodyWaits X
  pub within : WithinCapacities M X

-- Every other allocation within the capacities than E is worse for some agent, by its ranking.
abbrev pub OthersWorse : Economy → Profile → Row → Type 0
OthersWorse M R E = (X : Row) → AllocationIn M X → (X ≢ E) → (a : Agent) × Worse (R a) (seat X a) (seat E a)
