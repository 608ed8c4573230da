-- Rows: the standings of the agents 1, 2, .. in order.
use Rattle.std.specs.Prelude.{◌≡◌, ℕ, ◌≤◌, Bool, true, false, List, ◌∷◌, length, slice_index_or}
use Rattle.market.specs.declared.agent.Agent.{Agent}
use Rattle.market.specs.declared.place.Place.{Place}
use Rattle.market.specs.declared.standing.Standing.{Standing}
use Rattle.market.specs.declared.standing.Standing.TheVariants.{Waiting, Placed, Unplaced}

-- A row: agent k stands at index k - 1.
abbrev pub Row : Type 0
Row = List Standing

-- An agent's standing. Whoever is no agent of the row, the number 0 included, counts as departed with nothing.
abbrev pub standing : Row → Agent → Standing
standing A a = slice_index_or (Unplaced ∷ A) a.number Unplaced

-- An agent waits.
abbrev pub Waits : Row → Agent → Type 0
Waits A a = standing A a ≡ Waiting

-- Nobody waits.
abbrev pub NobodyWaits : Row → Type 0
NobodyWaits A = (a : Agent) → Waits A a → ⊥

-- A standing is that of an agent that waits.
abbrev pub is_waiting : Standing → Bool
is_waiting Waiting = true
is_waiting (Placed p) = false
is_waiting Unplaced = false

-- An agent waits, as a test.
abbrev pub waits : Row → Agent → Bool
waits A a = is_waiting (standing A a)

-- Row B continues row A: every agent departed in A has the same standing in B.
pub record Continues (A B : Row) : Type 0 where
  pub kept : (a : Agent) → (Waits A a → ⊥) → standing B a ≡ standing A a

-- An agent is one of the agents 1 to n.
pub record AgentIn (n : ℕ) (a : Agent) : Type 0 where
  pub from_one : 1 ≤ a.number
  pub in_range : a.number ≤ n

-- A place is one of the places 1 to m.
pub record PlaceIn (m : ℕ) (p : Place) : Type 0 where
  pub from_one : 1 ≤ p.number
  pub in_range : p.number ≤ m

-- A row has n standings, and whoever is placed has one of the places 1 to m.
pub record Proper (n m : ℕ) (A : Row) : Type 0 where
  pub size : length A ≡ n
  pub placed : (a : Agent) (p : Place) → standing A a ≡ Placed p → PlaceIn m p
