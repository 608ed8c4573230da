-- Records: how the cycles on record led to the row of a round.
use Rattle.std.specs.Prelude.{◌≡◌, ◌≤◌, true, ◌⊎◌, List, [], ◌∷◌, map, Some, None, Option}
use Rattle.std.specs.List.{AllByRecursion}
use Rattle.market.specs.declared.agent.Agent.{Agent}
use Rattle.market.specs.declared.place.Place.{Place}
use Rattle.market.specs.Rows.{Row, Waits, AgentIn, standing}
use Rattle.trading.specs.Cycles.{among, Cycle}
use Rattle.trading.specs.Economies.{Economy, all_waiting}
use Rattle.trading.specs.Rankings.{Profile}
use Rattle.trading.specs.Runs.{Run}
use Rattle.trading.specs.Trades.{points_at, departed, trade}
use Rattle.round_law.specs.declared.member.Member.{Member}
use Rattle.round_law.specs.States.{State, agents_of}

-- A list of agents begins with its lowest.
abbrev pub FromLowest : List Agent → Type 0
FromLowest [] = ⊥
FromLowest (a ∷ c) = AllByRecursion (λ b. a.number ≤ b.number) c

-- A seat is a place that the agent b owns.
abbrev pub OwnedBy : Economy → Row → Option Place → Agent → Type 0
OwnedBy M A None b = ⊥
OwnedBy M A (Some p) b = M.owner A p ≡ b

-- From a member on each next one owned the place just taken.
abbrev pub GoesOn : Economy → Row → Member → List Member → Type 0
GoesOn M A m [] = Unit {0}
GoesOn M A m (k ∷ ms) = OwnedBy M A m.place k.agent × GoesOn M A k ms

-- A line goes on to the owner of the place just taken, through the whole of it.
abbrev pub GoesThrough : Economy → Row → List Member → Type 0
GoesThrough M A [] = ⊥
GoesThrough M A (m ∷ ms) = GoesOn M A m ms

-- A line of the record, where it is the row A that trades: a cycle from its lowest agent on, each member with what it points at, and after each the owner of the place just taken.
pub record LineOf (M : Economy) (R : Profile) (A : Row) (ms : List Member) : Type 0 where
  pub cycle : Cycle M R A (agents_of ms)
  pub from_lowest : FromLowest (agents_of ms)
  pub took : AllByRecursion (λ m. m.place ≡ points_at M R A m.agent) ms
  pub through : GoesThrough M A ms

-- Lines of the record that lead from one row to another, each one of the row that the cycles before it have left.
pub data Lines (M : Economy) (R : Profile) : Row → List (List Member) → Row → Type 0 where
  none : {A : Row} → Lines M R A [] A
  line : {A E : Row} {rest : List (List Member)} (ms : List Member) → LineOf M R A ms → Lines M R (trade M R A (among (agents_of ms))) rest E → Lines M R A (ms ∷ rest) E

-- An agent is on one of the lines.
abbrev pub OnRecord : List (List Member) → Agent → Type 0
OnRecord [] a = ⊥
OnRecord (ms ∷ rest) a = (among (agents_of ms) a ≡ true) ⊎ OnRecord rest a

-- What a round has on record: lines that lead from all agents waiting to its row, so that their cycles are a run, with everybody that has departed, and with what.
pub record Recorded (M : Economy) (R : Profile) (s : State) : Type 0 where
  pub lines : Lines M R (all_waiting M.agents) s.cycles s.row
  pub run : Run M R (all_waiting M.agents) (map agents_of s.cycles) s.row
  pub seats : AllByRecursion (AllByRecursion (λ m. standing s.row m.agent ≡ departed m.place)) s.cycles
  pub everybody : (a : Agent) → AgentIn M.agents a → (Waits s.row a → ⊥) → OnRecord s.cycles a
