-- That the definitions can be met: a rule that keeps the laws, and a small economy whose outcome computes.
use Rattle.std.specs.Prelude.{◌≡◌, ℕ, true, cond, List, [], ◌∷◌, map, slice_index_or}
use Rattle.market.specs.declared.agent.Agent.{Agent}
use Rattle.market.specs.declared.place.Place.{Place}
use Rattle.market.specs.Rows.{Row, AgentIn, PlaceIn, waits}
use Rattle.market.specs.Rules.{Ownership, Lawful}
use Rattle.trading.specs.Economies.{Economy, terms_of}
use Rattle.trading.specs.Rankings.{Profile}
use Rattle.trading.specs.Cycles.{among}

-- The agent k.
abbrev pub agent : ℕ → Agent
agent k = record { number = k }

-- The place k.
abbrev pub place : ℕ → Place
place k = record { number = k }

-- The first agent of an order that waits.
abbrev pub first_waiting : Row → List Agent → Agent
first_waiting A [] = agent 0
first_waiting A (a ∷ order) = cond (waits A a) a (first_waiting A order)

-- Priorities: a place belongs to the first of its own order that waits.
abbrev pub by_orders : (Place → List Agent) → Ownership
by_orders order A p = first_waiting A (order p)

-- Priorities keep the two laws, where the order of each place has all agents.
abbrev pub PrioritiesLawful : Type 0
PrioritiesLawful =
    (n m : ℕ) (order : Place → List Agent) → ((p : Place) (a : Agent) → PlaceIn m p → AgentIn n a → among (order p) a ≡ true)
    → Lawful (record { agents = n; places = m; owner = by_orders order })

-- The orders of two places: the agents 1 2 3 for place 1, and 2 1 3 for place 2.
abbrev pub orders : Place → List Agent
orders p = slice_index_or ([] ∷ map agent (1 ∷ 2 ∷ 3 ∷ []) ∷ map agent (2 ∷ 1 ∷ 3 ∷ []) ∷ []) p.number []

-- An economy of three agents and these places, of one seat each.
abbrev pub three : Economy
three = record { agents = 3; capacities = 1 ∷ 1 ∷ []; owner = by_orders orders }

-- Its rule keeps the two laws.
abbrev pub ThreeLawful : Type 0
ThreeLawful = Lawful (terms_of three)

-- Their rankings: agent 1 lists place 2, agent 2 place 1, and agent 3 place 1 and then place 2.
abbrev pub wishes : Profile
wishes a = slice_index_or ([] ∷ map place (2 ∷ []) ∷ map place (1 ∷ []) ∷ map place (1 ∷ 2 ∷ []) ∷ []) a.number []
