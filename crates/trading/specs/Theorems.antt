-- What is proved of top trading cycles, for every economy whose rule keeps the two laws and every profile of rankings.
use Rattle.std.specs.Prelude.{◌≡◌, ℕ, ◌<◌, true, List, ◌∷◌, length, Some, None, Option, ◌≢◌}
use Rattle.market.specs.declared.agent.Agent.{Agent}
use Rattle.market.specs.declared.place.Place.{Place}
use Rattle.market.specs.Rows.{Row, Waits}
use Rattle.market.specs.Rules.{Terms, Lawful}
use Rattle.trading.specs.Economies.{Economy, economy, terms_of, RowIn, all_waiting, Group, SameRule}
use Rattle.trading.specs.Rankings.{Ranking, Profile, DifferWithin, DifferAt, Better, Worse, AtLeast, Preferred}
use Rattle.trading.specs.Allocations.{seat, WithinCapacities, AllocationIn, OthersWorse}
use Rattle.trading.specs.Trades.{Available, points_at, next, walk, trade}
use Rattle.trading.specs.Cycles.{among, Disjoint, Cycle, cycle_through}
use Rattle.trading.specs.Runs.{Run, EndsIn}
use Rattle.trading.specs.Stages.{Staged, last_row}

-- RANKINGS

-- Better is what the words say.
abbrev pub BetterInWords : Type 0
BetterInWords = (r : Ranking) (x y : Option Place) → (Better r x y → Preferred r x y) × (Preferred r x y → Better r x y)

-- Of two seats each at least as good as the other, and as nothing, the one is the other.
abbrev pub EquallyGood : Type 0
EquallyGood = (r : Ranking) (x y : Option Place) → AtLeast r x y → AtLeast r y x → AtLeast r x None → x ≡ y

-- What an agent points at can be had, and all else that can be had is worse by its ranking.
abbrev pub PointsAtBest : Type 0
PointsAtBest =
    (M : Economy) (R : Profile) (A : Row) (a : Agent)
    → Available M A (points_at M R A a) × ((x : Option Place) → Available M A x → (x ≢ points_at M R A a) → Worse (R a) x (points_at M R A a))

-- ROWS

-- The row in which all agents wait is one of the economy.
abbrev pub AllWaitingProper : Type 0
AllWaitingProper = (M : Economy) → RowIn M (all_waiting M.agents)

-- What a cycle's trade makes of a row of the economy is one again.
abbrev pub TradeProper : Type 0
TradeProper = (M : Economy) (R : Profile) (A : Row) (c : List Agent) → RowIn M A → Cycle M R A c → RowIn M (trade M R A (among c))

-- A cycle's trade keeps every place within its capacity.
abbrev pub TradeWithin : Type 0
TradeWithin =
    (M : Economy) (R : Profile) (A : Row) (c : List Agent) → WithinCapacities M A → Cycle M R A c → WithinCapacities M (trade M R A (among c))

-- A complete run from all agents waiting ends in an allocation within the capacities.
abbrev pub OutcomeWithin : Type 0
OutcomeWithin = (M : Economy) (R : Profile) (E : Row) → EndsIn M R (all_waiting M.agents) E → AllocationIn M E

-- CYCLES

-- Walking from an agent that waits, each time to the owner of the place that the agent points at, meets a cycle within n steps. So a row in which somebody waits has a cycle.
abbrev pub WalkMeetsCycle : Type 0
WalkMeetsCycle =
    (M : Economy) (R : Profile) (A : Row) (a : Agent) → Lawful (terms_of M) → RowIn M A → Waits A a
    → (k : ℕ) × (c : List Agent) × (k < M.agents) × Cycle M R A c × (among c (walk (next M R A) k a) ≡ true)

-- What is found as the cycle through an agent is a cycle, and starts with the agent.
abbrev pub FoundIsCycle : Type 0
FoundIsCycle =
    (M : Economy) (R : Profile) (A : Row) (a : Agent) (c : List Agent) → Lawful (terms_of M) → RowIn M A → cycle_through M R A a ≡ Some c
    → Cycle M R A c × ((rest : List Agent) × (c ≡ a ∷ rest))

-- Through each member of a cycle a cycle is found, with the same members.
abbrev pub CycleIsFound : Type 0
CycleIsFound =
    (M : Economy) (R : Profile) (A : Row) (c : List Agent) (a : Agent) → Lawful (terms_of M) → RowIn M A → Cycle M R A c → among c a ≡ true
    → (d : List Agent) × (cycle_through M R A a ≡ Some d) × ((b : Agent) → among d b ≡ among c b)

-- What is found through the first agent of a cycle is the cycle itself. So only one cycle starts with an agent.
abbrev pub FirstFinds : Type 0
FirstFinds = (M : Economy) (R : Profile) (A : Row) (a : Agent) (c : List Agent) → Cycle M R A (a ∷ c) → cycle_through M R A a ≡ Some (a ∷ c)

-- Two cycles with a common agent have the same members.
abbrev pub SameMembers : Type 0
SameMembers =
    (M : Economy) (R : Profile) (A : Row) (c d : List Agent) (a : Agent) → Cycle M R A c → Cycle M R A d → among c a ≡ true → among d a ≡ true
    → (b : Agent) → among c b ≡ among d b

-- Of two cycles without a common agent, when one has traded the other is still a cycle.
abbrev pub CycleLasts : Type 0
CycleLasts =
    (M : Economy) (R : Profile) (A : Row) (c d : List Agent) → Lawful (terms_of M) → RowIn M A → Cycle M R A c → Cycle M R A d → Disjoint c d
    → Cycle M R (trade M R A (among d)) c

-- Whichever of them trades first, the row after both is the same.
abbrev pub TradesCommute : Type 0
TradesCommute =
    (M : Economy) (R : Profile) (A : Row) (c d : List Agent) → Lawful (terms_of M) → RowIn M A → Cycle M R A c → Cycle M R A d → Disjoint c d
    → trade M R (trade M R A (among d)) (among c) ≡ trade M R (trade M R A (among c)) (among d)

-- RUNS AND STAGES

-- From every row a complete run leads somewhere.
abbrev pub RunEnds : Type 0
RunEnds = (M : Economy) (R : Profile) (A : Row) → Lawful (terms_of M) → RowIn M A → (E : Row) × EndsIn M R A E

-- Two complete runs from one row end in the same row.
abbrev pub RunsAgree : Type 0
RunsAgree = (M : Economy) (R : Profile) (A E F : Row) → Lawful (terms_of M) → RowIn M A → EndsIn M R A E → EndsIn M R A F → E ≡ F

-- Under two rules that are one the runs are the same.
abbrev pub SameRuns : Type 0
SameRuns =
    (T U : Terms) (capacities : List ℕ) (R : Profile) (A E : Row) (cs : List (List Agent)) → length capacities ≡ T.places → SameRule T U
    → RowIn (economy T capacities) A → Run (economy U capacities) R A cs E → Run (economy T capacities) R A cs E

-- The staged procedure has exactly one last row, and it is the one that is computed.
abbrev pub StagedOnce : Type 0
StagedOnce = (M : Economy) (R : Profile) → Lawful (terms_of M) → Staged M R (last_row M R) × ((E : Row) → Staged M R E → E ≡ last_row M R)

-- A complete run from all agents waiting ends in the last row of the staged procedure.
abbrev pub RunIsStaged : Type 0
RunIsStaged = (M : Economy) (R : Profile) (E : Row) → Lawful (terms_of M) → EndsIn M R (all_waiting M.agents) E → Staged M R E

-- OTHER RANKINGS

-- No group gains by other rankings: where the rankings of its members alone differ, and each member's second seat is at least as good by its first ranking, all seats are the same.
abbrev pub NoGroupGains : Type 0
NoGroupGains =
    (M : Economy) (R S : Profile) (A E F : Row) (G : Group) → Lawful (terms_of M) → RowIn M A → DifferWithin G R S
    → EndsIn M R A E → EndsIn M S A F → ((a : Agent) → G a ≡ true → AtLeast (R a) (seat F a) (seat E a)) → E ≡ F

-- No agent gains by another ranking: where its ranking alone differs, its second seat is not better by its first ranking.
abbrev pub NoAgentGains : Type 0
NoAgentGains =
    (M : Economy) (R S : Profile) (A E F : Row) (i : Agent) → Lawful (terms_of M) → RowIn M A → DifferAt i R S
    → EndsIn M R A E → EndsIn M S A F → Better (R i) (seat F i) (seat E i) → ⊥

-- No agent changes another's seat without its own: where its ranking alone differs and its seat is the same, all seats are the same.
abbrev pub NobodyBossy : Type 0
NobodyBossy =
    (M : Economy) (R S : Profile) (A E F : Row) (i : Agent) → Lawful (terms_of M) → RowIn M A → DifferAt i R S
    → EndsIn M R A E → EndsIn M S A F → seat F i ≡ seat E i → E ≡ F

-- EFFICIENCY

-- A complete run from all agents waiting ends in an allocation than which every other within the capacities is worse for some agent.
abbrev pub SomebodyWorse : Type 0
SomebodyWorse = (M : Economy) (R : Profile) (E : Row) → EndsIn M R (all_waiting M.agents) E → OthersWorse M R E
