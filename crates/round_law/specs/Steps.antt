-- Steps: what a call makes of a round, and what it answers.
use Rattle.std.specs.Prelude.{ℕ, zero, suc, ◌+◌, ◌-◌, cond, List, [], ◌∷◌, ◌++◌, map, length, replicate, Some, None, Ok, Err, Option, Result, ◌==◌, slice_set}
use Rattle.market.specs.declared.agent.Agent.{Agent}
use Rattle.market.specs.declared.refusal.Refusal.{Refusal}
use Rattle.market.specs.Rows.{Row}
use Rattle.market.specs.Rules.{Terms}
use Rattle.trading.specs.Economies.{Economy, all_waiting}
use Rattle.trading.specs.Rankings.{Ranking, Profile}
use Rattle.trading.specs.Rooms.{waiters}
use Rattle.trading.specs.Trades.{points_at, departed, trade}
use Rattle.trading.specs.Cycles.{among}
use Rattle.round_law.specs.declared.member.Member.{Member}
use Rattle.round_law.specs.declared.phase.Phase.{Phase}
use Rattle.round_law.specs.declared.phase.Phase.TheVariants.{Filing, Trading, Ended}
use Rattle.round_law.specs.Calls.{Call, OPEN, FILE, CLOSE, TRADE, FINISH}
use Rattle.round_law.specs.Choosing.{perhaps, cycle_of, cycle_ahead}
use Rattle.round_law.specs.Refusing.{refusal}
use Rattle.round_law.specs.States.{State, economy_of, profile}

-- WHAT AN ACCEPTED CALL MAKES OF A ROUND

-- OPEN sets up the market: all n agents wait, and all rankings are empty.
abbrev pub opened : ℕ → List ℕ → State
opened n capacities = record { phase = Filing; capacities = capacities; rankings = replicate n []; row = all_waiting n; cycles = [] }

-- FILE replaces the ranking of an agent.
abbrev pub filed : State → Agent → Ranking → State
filed s a r = record { phase = s.phase; capacities = s.capacities; rankings = slice_set s.rankings (a.number - 1) r; row = s.row; cycles = s.cycles }

-- CLOSE ends the filing.
abbrev pub closed : State → State
closed s = record { phase = Trading; capacities = s.capacities; rankings = s.rankings; row = s.row; cycles = s.cycles }

-- The phase once the rankings are closed: the round ends when the last agent departs.
abbrev pub phase_at : Row → Phase
phase_at A = cond (waiters A == 0) Ended Trading

-- The members of a cycle, each with what it points at.
abbrev pub members : Economy → Profile → Row → List Agent → List Member
members M R A c = map (λ a. record { agent = a; place = points_at M R A a }) c

-- The row after a cycle has traded.
abbrev pub row_after : Terms → State → List Agent → Row
row_after T s c = trade (economy_of T s) (profile s) s.row (among c)

-- A cycle trades, and goes on record.
abbrev pub traded : Terms → State → List Agent → State
traded T s c = record {
  phase = phase_at (row_after T s c);
  capacities = s.capacities;
  rankings = s.rankings;
  row = row_after T s c;
  cycles = s.cycles ++ members (economy_of T s) (profile s) s.row c ∷ [];
}

-- The row after members have departed one by one.
abbrev pub depart_all : Row → List Member → Row
depart_all A [] = A
depart_all A (m ∷ ms) = depart_all (slice_set A (m.agent.number - 1) (departed m.place)) ms

-- FINISH trades the cycle that the walk from the lowest waiting agent finds, as long as somebody waits, k times at most.
abbrev pub finished : Terms → ℕ → State → State
finished T zero s = s
finished T (suc k) s = perhaps s (λ c. finished T k (traded T s c)) (cycle_ahead (economy_of T s) (profile s) s.row)

-- What an accepted call makes of a round. As many cycles as there are agents suffice for FINISH.
abbrev pub made : Terms → State → Call → State
made T s (OPEN n capacities) = opened n capacities
made T s (FILE a r) = filed s a r
made T s CLOSE = closed s
made T s (TRADE a) = perhaps s (traded T s) (cycle_of (economy_of T s) (profile s) s.row a)
made T s FINISH = finished T T.agents s

-- What a call makes of a round: a refused call changes nothing.
abbrev pub step : Terms → State → Call → State
step T s call = perhaps (made T s call) (λ reason. s) (refusal T s call)

-- WHAT A CALL ANSWERS

-- The answer x, or the refusal alone.
abbrev pub answered : {X : Type 0} → Option Refusal → X → Result X Refusal
answered None x = Ok x
answered (Some reason) x = Err reason

-- OPEN answers how many places there are.
abbrev pub open_answer : Terms → State → ℕ → List ℕ → Result ℕ Refusal
open_answer T s n capacities = answered (refusal T s (OPEN n capacities)) (length capacities)

-- FILE answers how many places the list has.
abbrev pub file_answer : Terms → State → Agent → Ranking → Result ℕ Refusal
file_answer T s a r = answered (refusal T s (FILE a r)) (length r)

-- CLOSE answers how many agents there are.
abbrev pub close_answer : Terms → State → Result ℕ Refusal
close_answer T s = answered (refusal T s CLOSE) T.agents

-- TRADE answers the number of the cycle, from 1, and how many members it has.
abbrev pub trade_answer : Terms → State → Agent → Result (ℕ × ℕ) Refusal
trade_answer T s a = answered (refusal T s (TRADE a)) (length s.cycles + 1, perhaps 0 length (cycle_of (economy_of T s) (profile s) s.row a))

-- FINISH answers how many cycles it traded.
abbrev pub finish_answer : Terms → State → Result ℕ Refusal
finish_answer T s = answered (refusal T s FINISH) (length (finished T T.agents s).cycles - length s.cycles)
