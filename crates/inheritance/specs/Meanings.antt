-- What rules are made of, and what queues and priorities mean.
use Rattle.std.specs.Prelude.{ℕ, List}
use Rattle.market.specs.declared.agent.Agent.{Agent}
use Rattle.market.specs.Rules.{Terms}
use Rattle.succession.specs.Orders.{ordered_terms, OrderedOwns}
use Rattle.succession.specs.Priorities.{order_for}

-- What a queue is made of.
pub record QueueData : Type 0 where
  pub agents : ℕ
  pub places : ℕ
  pub order : List Agent

-- What a queue means: the owner of every place is the first agent in the order that waits.
abbrev pub queue_terms : QueueData → Terms
queue_terms d = ordered_terms d.agents d.places (λ p. d.order)

-- Who owns by a queue: the first agent of the order that waits.
abbrev pub QueueOwns : QueueData → Type 0
QueueOwns d = OrderedOwns d.agents d.places (λ p. d.order)

-- What priorities are made of: the order of place 1 stands first.
pub record PrioritiesData : Type 0 where
  pub agents : ℕ
  pub places : ℕ
  pub orders : List (List Agent)

-- What priorities mean: the owner of a place is the first agent in the place's order that waits.
abbrev pub priorities_terms : PrioritiesData → Terms
priorities_terms d = ordered_terms d.agents d.places (order_for d.orders)

-- Who owns by priorities: the first agent of the place's order that waits.
abbrev pub PrioritiesOwn : PrioritiesData → Type 0
PrioritiesOwn d = OrderedOwns d.agents d.places (order_for d.orders)

-- What a layer is made of: a rule below, and a list.
pub record Layer (R X : Type 0) : Type 0 where
  pub below : R
  pub entries : List X

-- The layer of a rule below and a list.
abbrev pub layer_of : {R X : Type 0} → R → List X → Layer R X
layer_of below entries = record { below = below; entries = entries }
