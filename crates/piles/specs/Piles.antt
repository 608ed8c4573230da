-- The rules of a market: what the pile of them means.
use Rattle.std.specs.Prelude.{◌≡◌, ℕ, Bool, ◌&&◌, Ok, Err, Result}
use Rattle.market.specs.declared.node.Node.{Node}
use Rattle.market.specs.declared.refusal.Refusal.{Refusal}
use Rattle.market.specs.declared.refusal.Refusal.TheVariants.{Rule}
use Rattle.market.specs.declared.tenant.Tenant.{Tenant}
use Rattle.market.specs.Data.{TreeOf, TenantsOf}
use Rattle.market.specs.Rules.{Terms}
use Rattle.succession.specs.Tenancies.{are_tenants, tenancy_terms, TenancyOwns}
use Rattle.succession.specs.Trees.{is_tree, tree_terms, TreeOwns}
use Rattle.inheritance.specs.declared.base.Base.{Base}
use Rattle.inheritance.specs.declared.layer.Layer.{Layer}
use Rattle.inheritance.specs.Making.{made_if, queue_fits, QueueRight, priorities_fit, PrioritiesRight}
use Rattle.inheritance.specs.Meanings.{queue_terms, QueueOwns, priorities_terms, PrioritiesOwn}
use Rattle.inheritance.specs.Views.{base_terms}
use Rattle.market_reader.specs.Held.{Held, Orders, queue, priorities}
use Rattle.market_reader.specs.Keeping.{SoundMarket}

-- Orders are right for n agents and m places, as a test.
abbrev pub orders_fit : ℕ → ℕ → Orders → Bool
orders_fit n m (queue q) = queue_fits n m q
orders_fit n m (priorities t) = priorities_fit n m t

-- The same, in the words of the two rules.
abbrev pub OrdersFit : ℕ → ℕ → Orders → Type 0
OrdersFit n m (queue q) = QueueRight n m q
OrdersFit n m (priorities t) = PrioritiesRight n m t

-- What orders mean: what the queue does, or what the priorities do.
abbrev pub orders_terms : ℕ → ℕ → Orders → Terms
orders_terms n m (queue q) = queue_terms (record { agents = n; places = m; order = q })
orders_terms n m (priorities t) = priorities_terms (record { agents = n; places = m; orders = t })

-- Who owns by orders: the first agent that waits in the queue, or in the place's order.
abbrev pub OrdersOwn : ℕ → ℕ → Orders → Type 0
OrdersOwn n m (queue q) = QueueOwns (record { agents = n; places = m; order = q })
OrdersOwn n m (priorities t) = PrioritiesOwn (record { agents = n; places = m; orders = t })

-- What the orders of a market mean.
abbrev pub order_terms : Held → Terms
order_terms h = orders_terms h.agents h.places h.orders

-- What the rules of a market mean: tenancy on tree on the queue or the priorities.
abbrev pub pile_terms : Held → Terms
pile_terms h = tenancy_terms (tree_terms (order_terms h) h.nodes) h.tenants

-- The rules of a market can be made, as a test.
abbrev pub pile_fits : Held → Bool
pile_fits h = orders_fit h.agents h.places h.orders && is_tree h.agents h.places h.nodes && are_tenants h.agents h.places h.tenants

-- What making the rules of a market answers, by what they mean.
abbrev pub pile_made : Held → Result Terms Refusal
pile_made h = made_if (pile_fits h) (pile_terms h)

-- What the pile of the code means.
abbrev pub terms_of : Layer (Layer Base Node) Tenant → Terms
terms_of p = tenancy_terms (tree_terms (base_terms p.below.below) p.below.entries.now) p.entries.now

-- The rules of a market can be made: its orders, nodes and tenants are right for its agents and places.
pub record RulesRight (h : Held) : Type 0 where
  pub orders : OrdersFit h.agents h.places h.orders
  pub nodes : TreeOf h.agents h.places h.nodes
  pub tenants : TenantsOf h.agents h.places h.tenants

-- Who owns by the rules of a market: the tenant of the place if it waits; otherwise the heir that waits where the walk through the place's tree comes to; otherwise the first agent that waits in the queue or in the place's order.
pub record PileOwns (h : Held) : Type 0 where
  pub tenancy : TenancyOwns (tree_terms (order_terms h) h.nodes) h.tenants
  pub tree : TreeOwns (order_terms h) h.nodes
  pub orders : OrdersOwn h.agents h.places h.orders

-- The rules of a market are made exactly when its data are right, and otherwise refused. They are never refused for a market that a file says. Once made they own as they should.
pub record PileLaw (h : Held) (r : Result Terms Refusal) : Type 0 where
  pub made : RulesRight h → r ≡ Ok (pile_terms h)
  pub right : (T : Terms) → r ≡ Ok T → RulesRight h
  pub refused : (RulesRight h → ⊥) → r ≡ Err Rule
  pub accepted : SoundMarket h → r ≡ Ok (pile_terms h)
  pub owns : (T : Terms) → r ≡ Ok T → PileOwns h
