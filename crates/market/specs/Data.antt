-- What rules are made of: orders of agents, the nodes of trees, and tenants; and when they are right for n agents and m places.
use Rattle.std.specs.Prelude.{◌≡◌, ℕ, zero, suc, ◌≤◌, List, [], ◌∷◌, ◌++◌, map, length, Some, ◌≢◌}
use Rattle.std.specs.List.{slice_get, AllByRecursion}
use Rattle.market.specs.declared.agent.Agent.{Agent}
use Rattle.market.specs.declared.node.Node.{Node}
use Rattle.market.specs.declared.place.Place.{Place}
use Rattle.market.specs.declared.tenant.Tenant.{Tenant}
use Rattle.market.specs.Distinct.{Distinct}
use Rattle.market.specs.Rows.{AgentIn, PlaceIn}

-- The numbers of agents.
abbrev pub agent_numbers : List Agent → List ℕ
agent_numbers agents = map (λ a. a.number) agents

-- The numbers of places.
abbrev pub place_numbers : List Place → List ℕ
place_numbers places = map (λ p. p.number) places

-- An order of all n agents: n entries, each one of the agents 1 to n, none twice.
pub record OrderOf (n : ℕ) (order : List Agent) : Type 0 where
  pub size : length order ≡ n
  pub known : AllByRecursion (AgentIn n) order
  pub once : Distinct (agent_numbers order)

-- A ranking of some of the m places: none twice.
pub record RankingOf (m : ℕ) (ranking : List Place) : Type 0 where
  pub known : AllByRecursion (PlaceIn m) ranking
  pub once : Distinct (place_numbers ranking)

-- The parent r is 0, with took number 0, or the number of an earlier node of the place p.
abbrev pub ParentRight : List Node → ℕ → ℕ → ℕ → Type 0
ParentRight nodes p zero t = t ≡ 0
ParentRight nodes p (suc r) t = (a : Node) × (slice_get nodes r ≡ Some a) × (a.place.number ≡ p)

-- No earlier node has the place p, the parent r and the took number t.
abbrev pub Unlike : List Node → ℕ → ℕ → ℕ → Type 0
Unlike nodes p r t = AllByRecursion (λ a. a.place.number ≡ p → a.parent ≡ r → a.took ≢ t) nodes

-- A node is right after the earlier ones: its place, took number and heir are in range, its parent is right, and none of the earlier is like it.
pub record NodeRight (n m : ℕ) (earlier : List Node) (a : Node) : Type 0 where
  pub place : PlaceIn m a.place
  pub took : a.took ≤ m
  pub heir : AgentIn n a.heir
  pub parent : ParentRight earlier a.place.number a.parent a.took
  pub unlike : Unlike earlier a.place.number a.parent a.took

-- Each node is right after those before it: earlier are the nodes before the list.
abbrev pub NodesRightAfter : ℕ → ℕ → List Node → List Node → Type 0
NodesRightAfter n m earlier [] = Unit {0}
NodesRightAfter n m earlier (a ∷ rest) = NodeRight n m earlier a × NodesRightAfter n m (earlier ++ a ∷ []) rest

-- The nodes of the trees of all places: at most 300, each right after those before it. So a parent is an earlier node of the same place, and a place has at most one root.
pub record TreeOf (n m : ℕ) (nodes : List Node) : Type 0 where
  pub few : length nodes ≤ 300
  pub right : NodesRightAfter n m [] nodes

-- The places of tenants.
abbrev pub tenant_places : List Tenant → List ℕ
tenant_places tenants = map (λ t. t.place.number) tenants

-- Tenants: each place and each agent is in range, and a place has at most one tenant.
pub record TenantsOf (n m : ℕ) (tenants : List Tenant) : Type 0 where
  pub places : AllByRecursion (λ t. PlaceIn m t.place) tenants
  pub agents : AllByRecursion (λ t. AgentIn n t.agent) tenants
  pub once : Distinct (tenant_places tenants)
