-- A worked round: four agents, three places, a queue with a tenant, and three histories of it.
use Rattle.std.specs.Prelude.{ℕ, List, [], ◌∷◌, ◌++◌, map, slice_index_or}
use Rattle.market.specs.declared.agent.Agent.{Agent}
use Rattle.market.specs.declared.place.Place.{Place}
use Rattle.market.specs.Rules.{Terms, Lawful}
use Rattle.trading.specs.Economies.{economy}
use Rattle.trading.specs.Rankings.{DifferAt}
use Rattle.trading.specs.Examples.{agent, place, by_orders}
use Rattle.round_law.specs.Calls.{Call, OPEN, FILE, CLOSE, TRADE, FINISH}
use Rattle.round_law.specs.Histories.{after, closing_ranking}
use Rattle.round_law.specs.Laws.{SameRankings, Bound}

-- Who comes first: at places 1 and 3 the agents 1 2 3 4 in their order, and at place 2 its tenant, agent 3, before the others.
abbrev pub turns : Place → List Agent
turns p = map agent (slice_index_or ([] ∷ (1 ∷ 2 ∷ 3 ∷ 4 ∷ []) ∷ (3 ∷ 1 ∷ 2 ∷ 4 ∷ []) ∷ (1 ∷ 2 ∷ 3 ∷ 4 ∷ []) ∷ []) p.number [])

-- The rule of four agents and three places.
abbrev pub four : Terms
four = record { agents = 4; places = 3; owner = by_orders turns }

-- It keeps the two laws.
abbrev pub FourLawful : Type 0
FourLawful = Lawful four

-- Agent k files these places.
abbrev pub files : ℕ → List ℕ → Call
files k places = FILE (agent k) (map place places)

-- The market is opened, and all file. Agent 1 files twice.
abbrev pub filings : List Call
filings = OPEN 4 (1 ∷ 1 ∷ 2 ∷ []) ∷ files 1 (1 ∷ []) ∷ files 2 (1 ∷ 3 ∷ []) ∷ files 3 (1 ∷ 2 ∷ []) ∷ files 4 (1 ∷ []) ∷ files 1 (2 ∷ 1 ∷ []) ∷ []

-- The rankings are closed.
abbrev pub closing : List Call
closing = filings ++ CLOSE ∷ []

-- A round in which the cycle through agent 3 trades first and FINISH does the rest. Agent 2 is refused a trade before and after the closing.
abbrev pub finishing : List Call
finishing = filings ++ TRADE (agent 2) ∷ CLOSE ∷ TRADE (agent 2) ∷ TRADE (agent 3) ∷ FINISH ∷ []

-- A round in which the same rankings are filed in another order, and the cycles trade one by one, agent 4 before agent 2.
abbrev pub one_by_one : List Call
one_by_one =
    OPEN 4 (1 ∷ 1 ∷ 2 ∷ []) ∷ files 4 (1 ∷ []) ∷ files 3 (1 ∷ 2 ∷ []) ∷ files 2 (1 ∷ 3 ∷ []) ∷ files 1 (2 ∷ 1 ∷ [])
    ∷ CLOSE ∷ TRADE (agent 1) ∷ TRADE (agent 4) ∷ TRADE (agent 2) ∷ []

-- The rankings at the two closings are the same.
abbrev pub FourAlike : Type 0
FourAlike = SameRankings (closing_ranking four finishing) (closing_ranking four one_by_one)

-- The law of rounds binds the two.
abbrev pub FourBound : Type 0
FourBound =
    Bound (economy four (1 ∷ 1 ∷ 2 ∷ [])) (closing_ranking four finishing) (closing_ranking four one_by_one) (after four finishing).row (after four one_by_one).row

-- A round in which agent 4 files place 3 alone.
abbrev pub otherwise : List Call
otherwise = filings ++ files 4 (3 ∷ []) ∷ CLOSE ∷ FINISH ∷ []

-- The rankings at the closing differ from the first in that of agent 4 alone.
abbrev pub FourDiffer : Type 0
FourDiffer = DifferAt (agent 4) (closing_ranking four finishing) (closing_ranking four otherwise)

-- The law of rounds binds these two as well.
abbrev pub FourBoundStill : Type 0
FourBoundStill =
    Bound (economy four (1 ∷ 1 ∷ 2 ∷ [])) (closing_ranking four finishing) (closing_ranking four otherwise) (after four finishing).row (after four otherwise).row
