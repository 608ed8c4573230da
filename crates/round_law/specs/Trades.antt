-- What TRADE and FINISH do, in words: which cycles depart.
use Rattle.std.specs.Prelude.{◌≡◌, ℕ, ◌+◌, ◌≤◌, true, List, [], ◌∷◌, ◌++◌, map, length, Ok}
use Rattle.market.specs.declared.agent.Agent.{Agent}
use Rattle.market.specs.Rows.{Row, Waits, NobodyWaits}
use Rattle.market.specs.Rules.{Terms}
use Rattle.trading.specs.Cycles.{among, Cycle}
use Rattle.trading.specs.Economies.{Economy}
use Rattle.trading.specs.Rankings.{Profile}
use Rattle.trading.specs.Trades.{next, walk, trade}
use Rattle.round_law.specs.declared.phase.Phase.TheVariants.{Ended}
use Rattle.round_law.specs.Calls.{TRADE, FINISH}
use Rattle.round_law.specs.Records.{FromLowest}
use Rattle.round_law.specs.States.{State, economy_of, profile, agents_of}
use Rattle.round_law.specs.Steps.{traded, step, trade_answer, finish_answer}

-- The cycle through an agent departs, and the answer is its number and its length.
pub record Traded (T : Terms) (s : State) (a : Agent) : Type 0 where
  pub cycle : List Agent
  pub is_cycle : Cycle (economy_of T s) (profile s) s.row cycle
  pub through : among cycle a ≡ true
  pub from_lowest : FromLowest cycle
  pub departs : step T s (TRADE a) ≡ traded T s cycle
  pub answers : trade_answer T s a ≡ Ok (length s.cycles + 1, length cycle)

-- An agent waits, and none with a lower number does.
pub record LowestWaiting (A : Row) (a : Agent) : Type 0 where
  pub waiting : Waits A a
  pub lowest : (b : Agent) → Waits A b → a.number ≤ b.number

-- The walk from an agent, each time to the owner of the place pointed at, comes to a list of agents.
abbrev pub WalkMeets : Economy → Profile → Row → Agent → List Agent → Type 0
WalkMeets M R A a c = (k : ℕ) × (among c (walk (next M R A) k a) ≡ true)

-- Cycles trade one after another until nobody waits, each time the one that the walk from the lowest waiting agent meets.
pub data Finishing (M : Economy) (R : Profile) : Row → List (List Agent) → Row → Type 0 where
  over : {A : Row} → NobodyWaits A → Finishing M R A [] A
  turn : {A E : Row} {cs : List (List Agent)} (a : Agent) (c : List Agent) → LowestWaiting A a → Cycle M R A c → FromLowest c → WalkMeets M R A a c
      → Finishing M R (trade M R A (among c)) cs E → Finishing M R A (c ∷ cs) E

-- FINISH trades such cycles, of which there is one series only, and puts them on record, the round ends, and the answer is their number.
pub record Finished (T : Terms) (s : State) : Type 0 where
  pub cycles : List (List Agent)
  pub trades : Finishing (economy_of T s) (profile s) s.row cycles (step T s FINISH).row
  pub only : (cs : List (List Agent)) (E : Row) → Finishing (economy_of T s) (profile s) s.row cs E → cs ≡ cycles
  pub records : map agents_of (step T s FINISH).cycles ≡ map agents_of s.cycles ++ cycles
  pub ends : (step T s FINISH).phase ≡ Ended
  pub answers : finish_answer T s ≡ Ok (length cycles)
