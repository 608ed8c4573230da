-- The calls that change a round.
use Rattle.std.specs.Prelude.{ℕ, List}
use Rattle.market.specs.declared.agent.Agent.{Agent}
use Rattle.trading.specs.Rankings.{Ranking}

-- A call: OPEN with n and the row of capacities, FILE with an agent and its list of places, CLOSE, TRADE with an agent, FINISH.
pub data Call : Type 0 where
  OPEN : ℕ → List ℕ → Call
  FILE : Agent → Ranking → Call
  CLOSE : Call
  TRADE : Agent → Call
  FINISH : Call
