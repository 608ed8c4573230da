-- What a round takes and what it holds, in words.
use Rattle.std.specs.Prelude.{◌≡◌, ℕ, ◌+◌, ◌≤◌, List, [], ◌∷◌, length, ◌≢◌}
use Rattle.std.specs.List.{AllByRecursion}
use Rattle.market.specs.declared.agent.Agent.{Agent}
use Rattle.market.specs.Data.{RankingOf}
use Rattle.market.specs.Rows.{Waits, NobodyWaits, AgentIn, Proper}
use Rattle.market.specs.Rules.{Terms}
use Rattle.trading.specs.Allocations.{WithinCapacities}
use Rattle.trading.specs.Economies.{all_waiting}
use Rattle.trading.specs.Rankings.{Ranking}
use Rattle.trading.specs.Rooms.{waiters}
use Rattle.round_law.specs.declared.member.Member.{Member}
use Rattle.round_law.specs.declared.phase.Phase.TheVariants.{Filing, Trading, Ended}
use Rattle.round_law.specs.States.{State, economy_of, profile}

-- A market that OPEN takes: the numbers of agents and places are those of the rule and in range, and so is each capacity.
pub record MarketFor (T : Terms) (n : ℕ) (capacities : List ℕ) : Type 0 where
  pub agents : n ≡ T.agents
  pub some_agents : 1 ≤ n
  pub few_agents : n ≤ 200
  pub places : length capacities ≡ T.places
  pub some_places : 1 ≤ length capacities
  pub few_places : length capacities ≤ 40
  pub seats : AllByRecursion (λ c. (1 ≤ c) × (c ≤ 200)) capacities

-- What FILE takes, in filing: an agent of the rule, and a ranking of some of its places.
pub record Fileable (T : Terms) (s : State) (a : Agent) (r : Ranking) : Type 0 where
  pub filing : s.phase ≡ Filing
  pub known : AgentIn T.agents a
  pub ranking : RankingOf T.places r

-- An accepted FILE replaces the ranking of its agent, and leaves all else as it was.
pub record Filed (s t : State) (a : Agent) (r : Ranking) : Type 0 where
  pub ranking : profile t a ≡ r
  pub others : (b : Agent) → (b ≢ a) → profile t b ≡ profile s b
  pub phase : t.phase ≡ s.phase
  pub capacities : t.capacities ≡ s.capacities
  pub row : t.row ≡ s.row
  pub cycles : t.cycles ≡ s.cycles

-- How many members the lines of a record have.
abbrev pub count_members : List (List Member) → ℕ
count_members [] = 0
count_members (ms ∷ rest) = length ms + count_members rest

-- What an open round holds: a market of its rule, a ranking for each agent, a row of the rule within the capacities, and on record as many members as agents have departed.
pub record Contents (T : Terms) (s : State) : Type 0 where
  pub market : MarketFor T T.agents s.capacities
  pub agents : length s.rankings ≡ T.agents
  pub rankings : AllByRecursion (RankingOf T.places) s.rankings
  pub row : Proper T.agents T.places s.row
  pub within : WithinCapacities (economy_of T s) s.row
  pub members : count_members s.cycles + waiters s.row ≡ T.agents

-- In filing all agents wait, in trading somebody does, and once it has ended nobody does.
pub record PhasesOf (T : Terms) (s : State) : Type 0 where
  pub filing : s.phase ≡ Filing → s.row ≡ all_waiting T.agents
  pub trading : s.phase ≡ Trading → (a : Agent) × Waits s.row a
  pub ended : s.phase ≡ Ended → NobodyWaits s.row
