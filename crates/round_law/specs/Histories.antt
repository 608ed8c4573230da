-- Histories: calls in the order in which they were made, accepted or refused.
use Rattle.std.specs.Prelude.{◌≡◌, cond, List, [], ◌∷◌, Some, None, Option}
use Rattle.market.specs.declared.agent.Agent.{Agent}
use Rattle.market.specs.Rules.{Terms}
use Rattle.trading.specs.Cycles.{same_agent}
use Rattle.trading.specs.Rankings.{Ranking, Profile}
use Rattle.round_law.specs.Calls.{Call, OPEN, FILE, CLOSE, TRADE, FINISH}
use Rattle.round_law.specs.Choosing.{perhaps}
use Rattle.round_law.specs.Refusing.{refusal}
use Rattle.round_law.specs.States.{State, blank}
use Rattle.round_law.specs.Steps.{step}

-- What calls make of a round, one after another.
abbrev pub from : Terms → State → List Call → State
from T s [] = s
from T s (call ∷ calls) = from T (step T s call) calls

-- A round that was made new and then had these calls.
abbrev pub after : Terms → List Call → State
after T calls = from T blank calls

-- Some calls have led from a new round to this one.
abbrev pub Reached : Terms → State → Type 0
Reached T s = (h : List Call) × (s ≡ after T h)

-- The calls that are accepted, of those that a round has from now on.
abbrev pub accepted_from : Terms → State → List Call → List Call
accepted_from T s [] = []
accepted_from T s (call ∷ calls) = perhaps (call ∷ accepted_from T (step T s call) calls) (λ reason. accepted_from T (step T s call) calls) (refusal T s call)

-- The calls of a history that were accepted.
abbrev pub accepted : Terms → List Call → List Call
accepted T calls = accepted_from T blank calls

-- The list of an agent's last FILE before the CLOSE, and r where there is none.
abbrev pub last_filed : Agent → Ranking → List Call → Ranking
last_filed a r [] = r
last_filed a r (OPEN n capacities ∷ calls) = last_filed a r calls
last_filed a r (FILE b places ∷ calls) = last_filed a (cond (same_agent b a) places r) calls
last_filed a r (CLOSE ∷ calls) = r
last_filed a r (TRADE b ∷ calls) = last_filed a r calls
last_filed a r (FINISH ∷ calls) = last_filed a r calls

-- The ranking of each agent at the closing: the list of its last accepted FILE before the accepted CLOSE, and the empty one where there was none.
abbrev pub closing_ranking : Terms → List Call → Profile
closing_ranking T calls a = last_filed a [] (accepted T calls)

-- The first OPEN of some calls.
abbrev pub opening : List Call → Option Call
opening [] = None
opening (OPEN n capacities ∷ calls) = Some (OPEN n capacities)
opening (FILE a r ∷ calls) = opening calls
opening (CLOSE ∷ calls) = opening calls
opening (TRADE a ∷ calls) = opening calls
opening (FINISH ∷ calls) = opening calls
