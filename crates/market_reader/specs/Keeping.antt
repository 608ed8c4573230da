-- What it means that a file keeps the format with a market.
use Rattle.std.specs.Prelude.{◌≡◌, ℕ, ◌≤◌, ◌⊎◌, List, [], ◌∷◌, map, length, drop, Ok, Err, Result}
use Rattle.std.specs.List.{AllByRecursion}
use Rattle.spelling.specs.Lines.{lines, closed}
use Rattle.market.specs.declared.agent.Agent.{Agent}
use Rattle.market.specs.Data.{OrderOf, RankingOf, TreeOf, TenantsOf}
use Rattle.market_lines.specs.declared.fault.MarketFault.{MarketFault}
use Rattle.market_lines.specs.declared.fault.MarketFault.TheVariants as fault
use Rattle.market_lines.specs.declared.kind.Kind.{Kind}
use Rattle.market_lines.specs.declared.kind.Kind.TheVariants.{Seats, Queue, Priorities, Heir, Tenant, Ranking}
use Rattle.market_file.specs.declared.form.Form.{Form}
use Rattle.market.specs.declared.sizes.Sizes.{Sizes}
use Rattle.market_file.specs.Contents.{kinds_of}
use Rattle.market_file.specs.FormedLines.{FormedLine}
use Rattle.market_file.specs.Keeping.{KeepsForm, BrokenForm, Sized}
use Rattle.market_file.specs.Ledgers.{node_in}
use Rattle.market_reader.specs.Filling.{Entry, of_kind, agents_in, tenant_in, capacity_in, order_in, ranking_in}
use Rattle.market_reader.specs.Held.{Held, Orders, queue, priorities}
use Rattle.market_reader.specs.Markets.{market_read}
use Rattle.market_reader.specs.Tables.{TableOf}

-- Lines and records are each other's, one for one and in order: each line is formed as the kind due there asks, with the numbers of its record. So no line is skipped and none is read twice.
abbrev pub Records : Sizes → List Kind → List (List ℕ) → List Entry → Type 0
Records z [] [] [] = Unit {0}
Records z [] [] (e ∷ es) = ⊥
Records z [] (l ∷ ls) es = ⊥
Records z (k ∷ ks) [] es = ⊥
Records z (k ∷ ks) (l ∷ ls) [] = ⊥
Records z (k ∷ ks) (l ∷ ls) (e ∷ es) = (e.kind ≡ k) × FormedLine z k e.numbers l × Records z ks ls es

-- The orders are the queue of the one Q line, or without one the priorities of the P lines, by place.
abbrev pub OrdersHeld : ℕ → List Entry → Orders → Type 0
OrdersHeld m es o =
    ((ns : List ℕ) × (of_kind Queue es ≡ ns ∷ []) × (o ≡ queue (agents_in ns)))
    ⊎ ((of_kind Queue es ≡ []) × ((t : List (List Agent)) × (o ≡ priorities t) × TableOf order_in [] m (of_kind Priorities es) t))

-- A market holds what the first two lines and the records say, and nothing else: capacities by place, the orders, the nodes and the tenants in file order, and the rankings by agent, empty for an agent without an R line.
pub record Holds (f : Form) (es : List Entry) (h : Held) : Type 0 where
  pub agents : h.agents ≡ f.sizes.agents
  pub places : h.places ≡ f.sizes.places
  pub capacities : TableOf capacity_in 0 f.sizes.places (of_kind Seats es) h.capacities
  pub orders : OrdersHeld f.sizes.places es h.orders
  pub nodes : h.nodes ≡ map node_in (of_kind Heir es)
  pub tenants : h.tenants ≡ map tenant_in (of_kind Tenant es)
  pub rankings : TableOf ranking_in [] f.sizes.agents (of_kind Ranking es) h.rankings

-- A file keeps the format with a market: it has 1 to 65,535 bytes, its lines keep the form that the first two say, the others are its records, and the market holds what these say.
pub record KeepsFormat (file : List ℕ) (h : Held) : Type 0 where
  pub form : Form
  pub records : List Entry
  pub sized : Sized file
  pub kept : KeepsForm (lines file) form
  pub each : Records form.sizes (kinds_of form.contents) (drop 2 (lines file)) records
  pub holds : Holds form records h

-- The orders are right for n agents and m places: a queue is an order of all agents, and so is each of the priorities, one for each place.
abbrev pub OrdersRight : ℕ → ℕ → Orders → Type 0
OrdersRight n m (queue q) = OrderOf n q
OrdersRight n m (priorities t) = (length t ≡ m) × AllByRecursion (OrderOf n) t

-- What every market that a file says satisfies.
pub record SoundMarket (h : Held) : Type 0 where
  pub agents : (1 ≤ h.agents) × (h.agents ≤ 200)
  pub places : (1 ≤ h.places) × (h.places ≤ 40)
  pub seats : length h.capacities ≡ h.places
  pub capacities : AllByRecursion (λ c. (1 ≤ c) × (c ≤ 200)) h.capacities
  pub orders : OrdersRight h.agents h.places h.orders
  pub nodes : TreeOf h.agents h.places h.nodes
  pub tenants : TenantsOf h.agents h.places h.tenants
  pub ranked : length h.rankings ≡ h.agents
  pub rankings : AllByRecursion (RankingOf h.places) h.rankings

-- A file is read as a market exactly when it keeps the format with that market, and with no other; the market is then sound. Otherwise the answer is the fault of its size, or else exactly the first at which its lines break the form. Two files of 1 to 65,535 bytes that differ only in whether their last line has its line feed are read alike.
pub record MarketLaw (file : List ℕ) (r : Result Held MarketFault) : Type 0 where
  pub sound : (h : Held) → r ≡ Ok h → KeepsFormat file h
  pub complete : (h : Held) → KeepsFormat file h → r ≡ Ok h
  pub one : (h k : Held) → KeepsFormat file h → KeepsFormat file k → h ≡ k
  pub right : (h : Held) → KeepsFormat file h → SoundMarket h
  pub first : (e : MarketFault) → r ≡ Err e → ((e ≡ fault.Size) × (Sized file → ⊥)) ⊎ (Sized file × BrokenForm (lines file) e)
  pub outside : (Sized file → ⊥) → r ≡ Err fault.Size
  pub named : (e : MarketFault) → Sized file → BrokenForm (lines file) e → r ≡ Err e
  pub alike : (other : List ℕ) → closed other ≡ closed file → Sized other → Sized file → market_read other ≡ r
