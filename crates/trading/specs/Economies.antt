-- Economies: agents, places with seats, and who owns what.
use Rattle.std.specs.Prelude.{◌≡◌, ℕ, Bool, List, ◌∷◌, length, replicate, slice_index}
use Rattle.market.specs.declared.agent.Agent.{Agent}
use Rattle.market.specs.declared.place.Place.{Place}
use Rattle.market.specs.declared.standing.Standing.TheVariants.{Waiting}
use Rattle.market.specs.Rows.{Row, Waits, PlaceIn, Proper}
use Rattle.market.specs.Rules.{Ownership, Terms}

-- An economy: the agents 1 to n, how many seats each of the places 1 to m has, and who owns a place in a row.
pub record Economy : Type 0 where
  pub agents : ℕ
  pub capacities : List ℕ
  pub owner : Ownership

-- The economy that a rule and the capacities of its places make.
abbrev pub economy : Terms → List ℕ → Economy
economy T capacities = record { agents = T.agents; capacities = capacities; owner = T.owner }

-- The terms of an economy's rule.
abbrev pub terms_of : Economy → Terms
terms_of M = record { agents = M.agents; places = length M.capacities; owner = M.owner }

-- A row is one of the economy: it has n standings, and whoever is placed has one of the m places.
abbrev pub RowIn : Economy → Row → Type 0
RowIn M A = Proper M.agents (length M.capacities) A

-- How many seats a place has. What is no place of the economy has none.
abbrev pub capacity : Economy → Place → ℕ
capacity M p = slice_index (0 ∷ M.capacities) p.number

-- The row in which all n agents wait.
abbrev pub all_waiting : ℕ → Row
all_waiting n = replicate n Waiting

-- A group of agents: who is of it.
abbrev pub Group : Type 0
Group = Agent → Bool

-- Two rules are one: they have the same n and the same m, and the same owner for each place in each row in which somebody waits.
pub record SameRule (T U : Terms) : Type 0 where
  pub agents : T.agents ≡ U.agents
  pub places : T.places ≡ U.places
  pub owner : (A : Row) (a : Agent) (p : Place) → Proper T.agents T.places A → Waits A a → PlaceIn T.places p → T.owner A p ≡ U.owner A p
