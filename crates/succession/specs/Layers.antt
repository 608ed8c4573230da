-- Layers: claims that come before the rule below.
use Rattle.std.specs.Option.{unwrap_or}
use Rattle.std.specs.Prelude.{Option}
use Rattle.market.specs.declared.agent.Agent.{Agent}
use Rattle.market.specs.declared.place.Place.{Place}
use Rattle.market.specs.Rows.{Row}
use Rattle.market.specs.Rules.{Terms}

-- Who claims a place in a row, if anybody does.
abbrev pub Claims : Type 0
Claims = Row → Place → Option Agent

-- A layer over a rule: whoever claims a place owns it, and otherwise the rule below answers, with the same row and the same place.
abbrev pub layered : Terms → Claims → Terms
layered T claims = record { agents = T.agents; places = T.places; owner = λ A p. unwrap_or (claims A p) (T.owner A p) }
