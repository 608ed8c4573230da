-- Priorities: an order of all agents for each place.
use Rattle.std.specs.Prelude.{◌≡◌, ℕ, Bool, ◌&&◌, List, [], ◌∷◌, length, ◌==◌, slice_index_or}
use Rattle.std.specs.List.{AllByRecursion, list_all}
use Rattle.market.specs.declared.agent.Agent.{Agent}
use Rattle.market.specs.declared.place.Place.{Place}
use Rattle.market.specs.Data.{OrderOf}
use Rattle.succession.specs.Orders.{is_order}

-- The order of a place: that of place 1 stands first. What is no place has an empty one.
abbrev pub order_for : List (List Agent) → Place → List Agent
order_for orders p = slice_index_or ([] ∷ orders) p.number []

-- Lists are orders of all n agents, one for each of the m places, as a test.
abbrev pub are_orders : ℕ → ℕ → List (List Agent) → Bool
are_orders n m orders = length orders == m && list_all (is_order n) orders

-- Orders of all n agents, one for each of the m places.
pub record OrdersOf (n m : ℕ) (orders : List (List Agent)) : Type 0 where
  pub size : length orders ≡ m
  pub each : AllByRecursion (OrderOf n) orders
