-- What the rules of the code are made of, and what the one that is either a queue or priorities means.
use Rattle.std.specs.Prelude.{List, map, vec_items}
use Rattle.std.specs.Borrow.{Bor}
use Rattle.std.specs.declared.vec.Vec.{Vec}
use Rattle.std.specs.declared.alloc.Global.{Global}
use Rattle.market.specs.declared.agent.Agent.{Agent}
use Rattle.market.specs.Rules.{Terms, Lawful}
use Rattle.succession.proofs.Ordering.{ordered_lawful}
use Rattle.succession.specs.Priorities.{order_for}
use Rattle.inheritance.specs.declared.base.Base.{Base}
use Rattle.inheritance.specs.declared.base.Base.TheVariants.{ByQueue, ByPriorities}
use Rattle.inheritance.specs.declared.ordered.Ordered.{Ordered}
use Rattle.inheritance.specs.Meanings.{QueueData, queue_terms, PrioritiesData, priorities_terms}

-- What a queue is made of.
abbrev pub queue_data : Ordered (Bor (List Agent)) → QueueData
queue_data q = record { agents = q.sizes.agents; places = q.sizes.places; order = q.orders.now }

-- What priorities are made of.
abbrev pub priorities_data : Ordered (Bor (List (Vec Agent Global))) → PrioritiesData
priorities_data q = record { agents = q.sizes.agents; places = q.sizes.places; orders = map vec_items q.orders.now }

-- What a rule that is either a queue or priorities means.
abbrev pub base_terms : Base → Terms
base_terms (ByQueue q) = queue_terms (queue_data q)
base_terms (ByPriorities q) = priorities_terms (priorities_data q)

-- Either keeps the laws: a proof, which stands here because the rule itself cites it.
pub base_lawful : (b : Base) → Lawful (base_terms b)
base_lawful (ByQueue q) = ordered_lawful q.sizes.agents q.sizes.places (λ p. (queue_data q).order)
base_lawful (ByPriorities q) = ordered_lawful q.sizes.agents q.sizes.places (order_for (priorities_data q).orders)
