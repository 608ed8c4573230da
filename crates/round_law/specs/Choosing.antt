-- Which cycle of a row a call trades.
use Rattle.std.specs.Prelude.{ℕ, zero, suc, cond, List, [], ◌∷◌, length, Some, None, Option, nat_lt}
use Rattle.market.specs.declared.agent.Agent.{Agent}
use Rattle.market.specs.Rows.{Row, is_waiting}
use Rattle.trading.specs.Economies.{Economy}
use Rattle.trading.specs.Rankings.{Profile}
use Rattle.trading.specs.Trades.{next}
use Rattle.trading.specs.Cycles.{among, cycle_through}

-- What f makes of a value, and y where there is none.
abbrev pub perhaps : {X Y : Type 0} → Y → (X → Y) → Option X → Y
perhaps y f None = y
perhaps y f (Some x) = f x

-- The lower of two agents.
abbrev pub lower : Agent → Agent → Agent
lower a b = cond (nat_lt b.number a.number) b a

-- The lowest of an agent and a list of agents.
abbrev pub lowest : Agent → List Agent → Agent
lowest a [] = a
lowest a (b ∷ c) = lowest (lower a b) c

-- The cycle of a row that passes through an agent, from its lowest agent on, if there is one.
abbrev pub cycle_of : Economy → Profile → Row → Agent → Option (List Agent)
cycle_of M R A a = perhaps None (λ c. cycle_through M R A (lowest a c)) (cycle_through M R A a)

-- The lowest agent that waits, where the standings are those of agent k and the agents after it.
abbrev pub lowest_from : ℕ → Row → Option Agent
lowest_from k [] = None
lowest_from k (x ∷ A) = cond (is_waiting x) (Some (record { number = k })) (lowest_from (suc k) A)

-- The lowest agent of a row that waits.
abbrev pub lowest_waiting : Row → Option Agent
lowest_waiting A = lowest_from 1 A

-- On a walk along f from a, the first agent that comes up a second time, if that happens within k agents. Those seen have come up before.
abbrev pub first_again : (Agent → Agent) → List Agent → ℕ → Agent → Agent
first_again f seen zero a = a
first_again f seen (suc k) a = cond (among seen a) a (first_again f (a ∷ seen) k (f a))

-- The cycle that the walk from the lowest waiting agent finds. An agent that points at nothing is its own next one, and so comes up a second time at once.
abbrev pub cycle_ahead : Economy → Profile → Row → Option (List Agent)
cycle_ahead M R A = perhaps None (λ a. cycle_of M R A (first_again (next M R A) [] (suc (length A)) a)) (lowest_waiting A)
