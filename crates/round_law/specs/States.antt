-- States: what a round holds.
use Rattle.std.specs.Prelude.{ℕ, Bool, true, false, List, [], ◌∷◌, map, slice_index_or}
use Rattle.market.specs.declared.agent.Agent.{Agent}
use Rattle.market.specs.Rows.{Row}
use Rattle.market.specs.Rules.{Terms}
use Rattle.trading.specs.Economies.{Economy, economy}
use Rattle.trading.specs.Rankings.{Ranking, Profile}
use Rattle.round_law.specs.declared.member.Member.{Member}
use Rattle.round_law.specs.declared.phase.Phase.{Phase}
use Rattle.round_law.specs.declared.phase.Phase.TheVariants.{Blank, Filing, Trading, Ended}

-- What a round holds: its phase, the capacities, the rankings of the agents 1, 2, .. in order, the row, and the cycles that traded, in order, each with the places that its members took.
pub record State : Type 0 where
  pub phase : Phase
  pub capacities : List ℕ
  pub rankings : List Ranking
  pub row : Row
  pub cycles : List (List Member)

-- A round as it is made.
abbrev pub blank : State
blank = record { phase = Blank; capacities = []; rankings = []; row = []; cycles = [] }

-- The economy of a round: that of its rule and its capacities.
abbrev pub economy_of : Terms → State → Economy
economy_of T s = economy T s.capacities

-- The ranking of each agent. Whoever is no agent of the round has the empty one.
abbrev pub profile : State → Profile
profile s a = slice_index_or ([] ∷ s.rankings) a.number []

-- The agents of a cycle on record.
abbrev pub agents_of : List Member → List Agent
agents_of ms = map (λ m. m.agent) ms

-- The round is blank.
abbrev pub is_blank : Phase → Bool
is_blank Blank = true
is_blank Filing = false
is_blank Trading = false
is_blank Ended = false

-- Rankings can be filed.
abbrev pub is_filing : Phase → Bool
is_filing Blank = false
is_filing Filing = true
is_filing Trading = false
is_filing Ended = false

-- Cycles can trade.
abbrev pub is_trading : Phase → Bool
is_trading Blank = false
is_trading Filing = false
is_trading Trading = true
is_trading Ended = false

-- The phases in their sequence.
abbrev pub phase_number : Phase → ℕ
phase_number Blank = 0
phase_number Filing = 1
phase_number Trading = 2
phase_number Ended = 3
