-- Ranges: which numbers are those of agents and places.
use Rattle.std.specs.Prelude.{ℕ, Bool, ◌&&◌, nat_le}
use Rattle.market.specs.declared.agent.Agent.{Agent}
use Rattle.market.specs.declared.place.Place.{Place}

-- An agent is one of the agents 1 to n, as a test.
abbrev pub agent_fits : ℕ → Agent → Bool
agent_fits n a = nat_le 1 a.number && nat_le a.number n

-- A place is one of the places 1 to m, as a test.
abbrev pub place_fits : ℕ → Place → Bool
place_fits m p = nat_le 1 p.number && nat_le p.number m
