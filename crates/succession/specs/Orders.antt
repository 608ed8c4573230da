-- Orders of agents: when a list is one, and who is the first in it that waits.
use Rattle.std.specs.Prelude.{◌≡◌, ℕ, Bool, ◌&&◌, List, [], ◌∷◌, ◌++◌, map, length, Option, ◌==◌}
use Rattle.std.specs.Option.{unwrap_or}
use Rattle.std.specs.List.{AllByRecursion, find, range_with_len}
use Rattle.market.specs.declared.agent.Agent.{Agent}
use Rattle.market.specs.declared.place.Place.{Place}
use Rattle.market.specs.Rows.{Row, Waits, waits, PlaceIn, Proper}
use Rattle.market.specs.Rules.{Terms}
use Rattle.succession.specs.Ranges.{agent_fits}
use Rattle.succession.specs.Right.{entry_right}
use Rattle.succession.specs.Scans.{each_after}

-- Two agents are one.
abbrev pub same_agent : Agent → Agent → Bool
same_agent a b = b.number == a.number

-- A list is an order of all n agents, as a test.
abbrev pub is_order : ℕ → List Agent → Bool
is_order n order = length order == n && each_after (entry_right same_agent (λ earlier a. agent_fits n a)) [] order

-- The first agent of a list that waits.
abbrev pub first_waiting : Row → List Agent → Option Agent
first_waiting A order = find (waits A) order

-- The agent is the first of a list that waits: it waits, and nobody before it in the list does.
pub record FirstWaiting (A : Row) (order : List Agent) (a : Agent) : Type 0 where
  pub before : List Agent
  pub after : List Agent
  pub parts : order ≡ before ++ a ∷ after
  pub departed : AllByRecursion (λ b. Waits A b → ⊥) before
  pub waits : Waits A a

-- So many agents, numbered on from the number k.
abbrev pub agents_from : ℕ → ℕ → List Agent
agents_from k n = map (λ (j : ℕ). record { number = j }) (range_with_len k n)

-- Nobody: no agent has the number 0.
abbrev pub nobody : Agent
nobody = record { number = 0 }

-- The owner by an order: the first that waits in it. All agents 1 to n stand behind the order, so that whatever the list, somebody is found where somebody waits.
abbrev pub owner_by : ℕ → List Agent → Row → Agent
owner_by n order A = unwrap_or (first_waiting A (order ++ agents_from 1 n)) nobody

-- What a rule by orders means: the owner of a place is the first agent in the place's order that waits.
abbrev pub ordered_terms : ℕ → ℕ → (Place → List Agent) → Terms
ordered_terms n m order = record { agents = n; places = m; owner = λ A p. owner_by n (order p) A }

-- Who owns by orders, in every row in which somebody waits: the first agent in the place's order that waits.
abbrev pub OrderedOwns : ℕ → ℕ → (Place → List Agent) → Type 0
OrderedOwns n m order =
    (A : Row) (p : Place) (a : Agent) → Proper n m A → PlaceIn m p → Waits A a → FirstWaiting A (order p) ((ordered_terms n m order).owner A p)
