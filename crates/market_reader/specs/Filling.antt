-- The market that the records of a file say.
use Rattle.std.specs.Prelude.{ℕ, cond, List, [], ◌∷◌, ◌++◌, map, drop, replicate, ◌==◌, slice_index}
use Rattle.market.specs.declared.agent.Agent.{Agent}
use Rattle.market.specs.declared.node.Node.{Node}
use Rattle.market.specs.declared.place.Place.{Place}
use Rattle.market.specs.declared.tenant.Tenant.{Tenant}
use Rattle.market_lines.specs.declared.kind.Kind.{Kind}
use Rattle.market_lines.specs.declared.kind.Kind.TheVariants.{Market, Contents, Seats, Queue, Priorities, Heir, Tenant as TenantLine, Ranking}
use Rattle.market_lines.specs.Kinds.{letter_of}
use Rattle.market_file.specs.declared.form.Form.{Form}
use Rattle.market_file.specs.Files.{numbers_at}
use Rattle.market_file.specs.Ledgers.{node_in}
use Rattle.market_reader.specs.Held.{Held, Orders, queue, priorities}
use Rattle.market_reader.specs.Tables.{set_at, about, filled}

-- A record of a file: the kind of its line and its numbers.
pub record Entry : Type 0 where
  pub kind : Kind
  pub numbers : List ℕ

-- The records of lines, each of the kind due there.
abbrev pub entries_of : List Kind → List (List ℕ) → List Entry
entries_of [] ls = []
entries_of (k ∷ ks) [] = []
entries_of (k ∷ ks) (l ∷ ls) = record { kind = k; numbers = numbers_at l } ∷ entries_of ks ls

-- The numbers of the records of a kind, in file order.
abbrev pub of_kind : Kind → List Entry → List (List ℕ)
of_kind k [] = []
of_kind k (e ∷ es) = cond (letter_of e.kind == letter_of k) (e.numbers ∷ of_kind k es) (of_kind k es)

-- The agents that numbers stand for.
abbrev pub agents_in : List ℕ → List Agent
agents_in ns = map (λ n. record { number = n }) ns

-- The places that numbers stand for.
abbrev pub places_in : List ℕ → List Place
places_in ns = map (λ n. record { number = n }) ns

-- The tenant that the numbers of a T line say.
abbrev pub tenant_in : List ℕ → Tenant
tenant_in ns = record { place = record { number = slice_index ns 0 }; agent = record { number = slice_index ns 1 } }

-- The capacity that the numbers of an S line say.
abbrev pub capacity_in : List ℕ → ℕ
capacity_in ns = slice_index ns 1

-- The order that the numbers of a P line say, after the place.
abbrev pub order_in : List ℕ → List Agent
order_in ns = agents_in (drop 1 ns)

-- The ranking that the numbers of an R line say, after the agent.
abbrev pub ranking_in : List ℕ → List Place
ranking_in ns = places_in (drop 1 ns)

-- The queue after Q lines.
abbrev pub queue_after : List Agent → List (List ℕ) → List Agent
queue_after q [] = q
queue_after q (ns ∷ records) = queue_after (agents_in ns) records

-- The orders after Q and P lines.
abbrev pub orders_after : Orders → List (List ℕ) → List (List ℕ) → Orders
orders_after (queue q) qs ps = queue (queue_after q qs)
orders_after (priorities t) qs ps = priorities (filled order_in t ps)

-- The orders after a Q line.
abbrev pub with_queue : Orders → List ℕ → Orders
with_queue (queue q) ns = queue (agents_in ns)
with_queue (priorities t) ns = priorities t

-- The orders after a P line.
abbrev pub with_order : Orders → List ℕ → Orders
with_order (queue q) ns = queue q
with_order (priorities t) ns = priorities (set_at t (about ns) (order_in ns))

-- A market with other capacities.
abbrev pub with_capacities : Held → List ℕ → Held
with_capacities h x = record { agents = h.agents; places = h.places; capacities = x; orders = h.orders; nodes = h.nodes; tenants = h.tenants; rankings = h.rankings }

-- A market with other orders.
abbrev pub with_orders : Held → Orders → Held
with_orders h x = record { agents = h.agents; places = h.places; capacities = h.capacities; orders = x; nodes = h.nodes; tenants = h.tenants; rankings = h.rankings }

-- A market with other nodes.
abbrev pub with_nodes : Held → List Node → Held
with_nodes h x = record { agents = h.agents; places = h.places; capacities = h.capacities; orders = h.orders; nodes = x; tenants = h.tenants; rankings = h.rankings }

-- A market with other tenants.
abbrev pub with_tenants : Held → List Tenant → Held
with_tenants h x = record { agents = h.agents; places = h.places; capacities = h.capacities; orders = h.orders; nodes = h.nodes; tenants = x; rankings = h.rankings }

-- A market with other rankings.
abbrev pub with_rankings : Held → List (List Place) → Held
with_rankings h x = record { agents = h.agents; places = h.places; capacities = h.capacities; orders = h.orders; nodes = h.nodes; tenants = h.tenants; rankings = x }

-- A market after one record: a line of a kind with these numbers.
abbrev pub entered : Kind → List ℕ → Held → Held
entered Market ns h = h
entered Contents ns h = h
entered Seats ns h = with_capacities h (set_at h.capacities (about ns) (capacity_in ns))
entered Queue ns h = with_orders h (with_queue h.orders ns)
entered Priorities ns h = with_orders h (with_order h.orders ns)
entered Heir ns h = with_nodes h (h.nodes ++ node_in ns ∷ [])
entered TenantLine ns h = with_tenants h (h.tenants ++ tenant_in ns ∷ [])
entered Ranking ns h = with_rankings h (set_at h.rankings (about ns) (ranking_in ns))

-- A market after records.
abbrev pub after : Held → List Entry → Held
after h es = record {
  agents = h.agents;
  places = h.places;
  capacities = filled capacity_in h.capacities (of_kind Seats es);
  orders = orders_after h.orders (of_kind Queue es) (of_kind Priorities es);
  nodes = h.nodes ++ map node_in (of_kind Heir es);
  tenants = h.tenants ++ map tenant_in (of_kind TenantLine es);
  rankings = filled ranking_in h.rankings (of_kind Ranking es);
}

-- The orders before the first record: those of a queue where the contents have a Q line, otherwise one for each place.
abbrev pub no_orders : Form → Orders
no_orders f = cond (f.contents.queues == 1) (queue []) (priorities (replicate f.sizes.places []))

-- The market of a form before the first record.
abbrev pub unfilled : Form → Held
unfilled f = record {
  agents = f.sizes.agents;
  places = f.sizes.places;
  capacities = replicate f.sizes.places 0;
  orders = no_orders f;
  nodes = [];
  tenants = [];
  rankings = replicate f.sizes.agents [];
}

-- The market that a form and the records of its sections say.
abbrev pub market_of : Form → List Entry → Held
market_of f es = after (unfilled f) es
