-- Cycles of a row, and the one that passes through a given agent.
use Rattle.std.specs.Prelude.{◌≡◌, ℕ, zero, suc, Bool, true, false, cond, ◌⊎◌, List, [], ◌∷◌, length, Some, None, Option, ◌==◌}
use Rattle.std.specs.Option.{option_map}
use Rattle.std.specs.List.{AllByRecursion}
use Rattle.market.specs.declared.agent.Agent.{Agent}
use Rattle.market.specs.declared.place.Place.{Place}
use Rattle.market.specs.Data.{agent_numbers}
use Rattle.market.specs.Distinct.{Distinct}
use Rattle.market.specs.Rows.{Row, Waits, waits}
use Rattle.trading.specs.Economies.{Economy}
use Rattle.trading.specs.Rankings.{Profile}
use Rattle.trading.specs.Trades.{points_at, next}

-- Two agents are the same.
abbrev pub same_agent : Agent → Agent → Bool
same_agent a b = a.number == b.number

-- A list of agents passes through an agent.
abbrev pub among : List Agent → Agent → Bool
among [] a = false
among (b ∷ c) a = cond (same_agent b a) true (among c a)

-- Two lists have no agent in common.
abbrev pub Disjoint : List Agent → List Agent → Type 0
Disjoint c d = (a : Agent) → among c a ≡ true → among d a ≡ false

-- An agent points at a place that the agent b owns.
abbrev pub PointsTo : Economy → Profile → Row → Agent → Agent → Type 0
PointsTo M R A a b = (p : Place) × (points_at M R A a ≡ Some p) × (M.owner A p ≡ b)

-- From the agent a on through a list, each points at a place that the next one owns, and the last at one that the agent z owns.
abbrev pub Chain : Economy → Profile → Row → Agent → List Agent → Agent → Type 0
Chain M R A a [] z = PointsTo M R A a z
Chain M R A a (b ∷ c) z = PointsTo M R A a b × Chain M R A b c z

-- A list closes: each points at a place that the next one owns, and the last at one that the first owns; or it is one agent that points at nothing.
abbrev pub Closes : Economy → Profile → Row → List Agent → Type 0
Closes M R A [] = ⊥
Closes M R A (a ∷ c) = Chain M R A a c a ⊎ ((c ≡ []) × (points_at M R A a ≡ None))

-- A cycle of a row: different waiting agents, in a list that closes.
pub record Cycle (M : Economy) (R : Profile) (A : Row) (c : List Agent) : Type 0 where
  pub different : Distinct (agent_numbers c)
  pub waiting : AllByRecursion (Waits A) c
  pub closes : Closes M R A c

-- The agents that a walk passes from b on, up to the first whose next is a, if it comes there within k agents.
abbrev pub path_to : (Agent → Agent) → Agent → ℕ → Agent → Option (List Agent)
path_to f a zero b = None
path_to f a (suc k) b = cond (same_agent (f b) a) (Some (b ∷ [])) (option_map (λ c. b ∷ c) (path_to f a k (f b)))

-- The cycle of a row that passes through an agent, from that agent on, if there is one.
abbrev pub cycle_through : Economy → Profile → Row → Agent → Option (List Agent)
cycle_through M R A a = cond (waits A a) (path_to (next M R A) a (length A) a) None
