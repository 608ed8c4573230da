-- What a market holds.
use Rattle.std.specs.Prelude.{ℕ, cond, List, [], map, take, vec_items, ◌==◌}
use Rattle.market.specs.declared.agent.Agent.{Agent}
use Rattle.market.specs.declared.node.Node.{Node}
use Rattle.market.specs.declared.place.Place.{Place}
use Rattle.market.specs.declared.tenant.Tenant.{Tenant}
use Rattle.market_reader.specs.declared.record.Market.{Market}
use Rattle.market_reader.specs.declared.record.OrdersRef.{OrdersRef}
use Rattle.market_reader.specs.declared.record.OrdersRef.TheVariants as view
use Rattle.market_reader.specs.declared.record.Served.{Served}
use Rattle.market_reader.specs.declared.record.Served.TheVariants.{ByQueue, ByPriorities}

-- How the agents are ordered: one queue for all places, or priorities, one order for each place.
pub data Orders : Type 0 where
  queue : List Agent → Orders
  priorities : List (List Agent) → Orders

-- The orders that a view of them shows.
abbrev pub orders_seen : OrdersRef → Orders
orders_seen (view.Queue q) = queue q.now
orders_seen (view.Priorities t) = priorities (map vec_items t.now)

-- A market: how many agents and places there are, the capacities by place, the orders, the nodes of the tree and the tenants in file order, and the rankings by agent.
pub record Held : Type 0 where
  pub agents : ℕ
  pub places : ℕ
  pub capacities : List ℕ
  pub orders : Orders
  pub nodes : List Node
  pub tenants : List Tenant
  pub rankings : List (List Place)

-- Which orders a market has, by the count of Q lines in its contents.
abbrev pub served_by : ℕ → Served
served_by q = cond (q == 1) ByQueue ByPriorities

-- The orders by which a market is served.
abbrev pub orders_by : Served → List Agent → List (List Agent) → Orders
orders_by ByQueue q t = queue q
orders_by ByPriorities q t = priorities t

-- Nothing was read yet.
abbrev pub nothing : Held
nothing = record { agents = 0; places = 0; capacities = []; orders = queue []; nodes = []; tenants = []; rankings = [] }

-- What a market holds: of its room, only the lists of its own places and agents.
abbrev pub held : Market → Held
held k = record {
  agents = k.sizes.agents;
  places = k.sizes.places;
  capacities = vec_items k.capacities;
  orders = orders_by k.served (vec_items k.queue) (take k.sizes.places k.priorities);
  nodes = vec_items k.nodes;
  tenants = vec_items k.tenants;
  rankings = take k.sizes.agents k.rankings;
}
