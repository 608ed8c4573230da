-- Runs: cycles that trade one after another.
use Rattle.std.specs.Prelude.{List, [], ◌∷◌}
use Rattle.market.specs.declared.agent.Agent.{Agent}
use Rattle.market.specs.Rows.{Row, NobodyWaits}
use Rattle.trading.specs.Economies.{Economy}
use Rattle.trading.specs.Rankings.{Profile}
use Rattle.trading.specs.Trades.{trade}
use Rattle.trading.specs.Cycles.{among, Cycle}

-- A run from one row to another: a series of cycles, each one of the row that the trades before it have left.
pub data Run (M : Economy) (R : Profile) : Row → List (List Agent) → Row → Type 0 where
  done : {A : Row} → Run M R A [] A
  then : {A E : Row} {cs : List (List Agent)} (c : List Agent) → Cycle M R A c → Run M R (trade M R A (among c)) cs E → Run M R A (c ∷ cs) E

-- A complete run leads from one row to another, in which nobody waits.
pub record EndsIn (M : Economy) (R : Profile) (A E : Row) : Type 0 where
  pub cycles : List (List Agent)
  pub run : Run M R A cycles E
  pub nobody : NobodyWaits E
