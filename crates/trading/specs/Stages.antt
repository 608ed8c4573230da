-- The staged procedure: in each stage all cycles of the row trade together, until nobody waits.
use Rattle.std.specs.Prelude.{◌≡◌, ℕ, zero, suc, true, List, length, is_some, ◌≢◌}
use Rattle.market.specs.declared.agent.Agent.{Agent}
use Rattle.market.specs.Rows.{Row, Waits, NobodyWaits, standing}
use Rattle.trading.specs.Economies.{Economy, Group, all_waiting}
use Rattle.trading.specs.Rankings.{Profile}
use Rattle.trading.specs.Trades.{points_at, departed, trade}
use Rattle.trading.specs.Cycles.{among, Cycle, cycle_through}

-- No cycle of a row passes through an agent.
abbrev pub OnNoCycle : Economy → Profile → Row → Agent → Type 0
OnNoCycle M R A a = (c : List Agent) → Cycle M R A c → among c a ≢ true

-- Row B is the stage of row A: whoever is on a cycle of A departs with what it points at, and all other standings stay.
pub record StageOf (M : Economy) (R : Profile) (A B : Row) : Type 0 where
  pub size : length B ≡ length A
  pub trades : (a : Agent) (c : List Agent) → Cycle M R A c → among c a ≡ true → standing B a ≡ departed (points_at M R A a)
  pub stays : (a : Agent) → OnNoCycle M R A a → standing B a ≡ standing A a

-- Rows from A to E, each the stage of the one before, as long as somebody waits.
pub data StagesTo (M : Economy) (R : Profile) : Row → Row → Type 0 where
  ended : {A : Row} → NobodyWaits A → StagesTo M R A A
  staging : {A B E : Row} (a : Agent) → Waits A a → StageOf M R A B → StagesTo M R B E → StagesTo M R A E

-- E is the last row of the staged procedure, which starts with all agents waiting.
abbrev pub Staged : Economy → Profile → Row → Type 0
Staged M R E = StagesTo M R (all_waiting M.agents) E

-- Who is on a cycle of a row.
abbrev pub on_cycle : Economy → Profile → Row → Group
on_cycle M R A a = is_some (cycle_through M R A a)

-- The stage of a row, computed.
abbrev pub stage : Economy → Profile → Row → Row
stage M R A = trade M R A (on_cycle M R A)

-- The row after k stages. Where nobody waits a stage changes nothing.
abbrev pub stages : Economy → Profile → ℕ → Row → Row
stages M R zero A = A
stages M R (suc k) A = stages M R k (stage M R A)

-- The last row of the staged procedure, computed: n stages suffice for n agents.
abbrev pub last_row : Economy → Profile → Row
last_row M R = stages M R M.agents (all_waiting M.agents)
