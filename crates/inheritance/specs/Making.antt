-- Making a rule: what is right for each, and what the maker answers.
use Rattle.std.specs.Prelude.{◌≡◌, ℕ, ◌≤◌, Bool, cond, ◌&&◌, List, Ok, Err, Result, nat_le}
use Rattle.market.specs.declared.agent.Agent.{Agent}
use Rattle.market.specs.declared.node.Node.{Node}
use Rattle.market.specs.declared.refusal.Refusal.{Refusal}
use Rattle.market.specs.declared.refusal.Refusal.TheVariants.{Rule}
use Rattle.market.specs.declared.tenant.Tenant.{Tenant}
use Rattle.market.specs.Data.{OrderOf, TreeOf, TenantsOf}
use Rattle.market.specs.Rules.{Terms}
use Rattle.succession.specs.Orders.{is_order}
use Rattle.succession.specs.Priorities.{are_orders, OrdersOf}
use Rattle.succession.specs.Tenancies.{are_tenants}
use Rattle.succession.specs.Trees.{is_tree}
use Rattle.inheritance.specs.Meanings.{QueueData, PrioritiesData, Layer, layer_of}

-- Rules are for 1 to 200 agents and 1 to 40 places.
pub record SizesRight (n m : ℕ) : Type 0 where
  pub some_agents : 1 ≤ n
  pub most_agents : n ≤ 200
  pub some_places : 1 ≤ m
  pub most_places : m ≤ 40

-- The same, as a test.
abbrev pub sizes_fit : ℕ → ℕ → Bool
sizes_fit n m = (nat_le 1 n && nat_le n 200) && (nat_le 1 m && nat_le m 40)

-- A rule is made where its data are right, and otherwise refused.
abbrev pub made_if : {X : Type 0} → Bool → X → Result X Refusal
made_if right x = cond right (Ok x) (Err Rule)

-- A rule is made exactly when its data are right, and otherwise refused.
pub record MadeExactly {X : Type 0} (Right : Type 0) (r : Result X Refusal) : Type 0 where
  pub made : Right → (x : X) × (r ≡ Ok x)
  pub right : (x : X) → r ≡ Ok x → Right
  pub refused : (Right → ⊥) → r ≡ Err Rule

-- What is right for a rule by orders: sizes in range, and orders of all agents.
pub record OrderedRight (n m : ℕ) (Orders : Type 0) : Type 0 where
  pub sizes : SizesRight n m
  pub all : Orders

-- What making a rule by orders answers, by the test of the orders.
abbrev pub ordered_made : {X : Type 0} → ℕ → ℕ → Bool → X → Result X Refusal
ordered_made n m fits x = made_if (sizes_fit n m && fits) x

-- What is right for a queue: sizes in range, and an order of all agents.
abbrev pub QueueRight : ℕ → ℕ → List Agent → Type 0
QueueRight n m order = OrderedRight n m (OrderOf n order)

-- The same, as a test.
abbrev pub queue_fits : ℕ → ℕ → List Agent → Bool
queue_fits n m order = sizes_fit n m && is_order n order

-- What making a queue answers.
abbrev pub queue_made : ℕ → ℕ → List Agent → Result QueueData Refusal
queue_made n m order = ordered_made n m (is_order n order) (record { agents = n; places = m; order = order })

-- What is right for priorities: sizes in range, and an order of all agents for each place.
abbrev pub PrioritiesRight : ℕ → ℕ → List (List Agent) → Type 0
PrioritiesRight n m orders = OrderedRight n m (OrdersOf n m orders)

-- The same, as a test.
abbrev pub priorities_fit : ℕ → ℕ → List (List Agent) → Bool
priorities_fit n m orders = sizes_fit n m && are_orders n m orders

-- What making priorities answers.
abbrev pub priorities_made : ℕ → ℕ → List (List Agent) → Result PrioritiesData Refusal
priorities_made n m orders = ordered_made n m (are_orders n m orders) (record { agents = n; places = m; orders = orders })

-- What making a layer over a rule answers, by the test of its entries.
abbrev pub layer_made : {R X : Type 0} → (ℕ → ℕ → List X → Bool) → Terms → R → List X → Result (Layer R X) Refusal
layer_made fits T below entries = made_if (fits T.agents T.places entries) (layer_of below entries)

-- What is right for a tree over a rule: nodes that are right for its agents and places.
abbrev pub TreeRight : Terms → List Node → Type 0
TreeRight T nodes = TreeOf T.agents T.places nodes

-- What making a tree over a rule answers.
abbrev pub tree_made : {R : Type 0} → Terms → R → List Node → Result (Layer R Node) Refusal
tree_made T below nodes = layer_made is_tree T below nodes

-- What is right for a tenancy over a rule: tenants that are right for its agents and places.
abbrev pub TenancyRight : Terms → List Tenant → Type 0
TenancyRight T tenants = TenantsOf T.agents T.places tenants

-- What making a tenancy over a rule answers.
abbrev pub tenancy_made : {R : Type 0} → Terms → R → List Tenant → Result (Layer R Tenant) Refusal
tenancy_made T below tenants = layer_made are_tenants T below tenants
