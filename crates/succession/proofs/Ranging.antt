-- Ranges: what their tests mean. Assumes nothing.
use Rattle.std.proofs.Common.{◌≡◌, ℕ, true, leb}
use Rattle.std.proofs.lemmas.Bool.{and_parts, and_from, leb-true, le-leb}
use Rattle.market.specs.declared.agent.Agent.{Agent}
use Rattle.market.specs.declared.place.Place.{Place}
use Rattle.market.specs.Rows.{AgentIn, PlaceIn}
use Rattle.succession.specs.Ranges.{agent_fits, place_fits}

pub agent_right : (n : ℕ) (a : Agent) → agent_fits n a ≡ true → AgentIn n a
agent_right n a e =
    let q = and_parts (leb 1 a.number) (leb a.number n) e in
    record { from_one = leb-true 1 a.number q.0; in_range = leb-true a.number n q.1 }

pub agent_fits_true : (n : ℕ) (a : Agent) → AgentIn n a → agent_fits n a ≡ true
agent_fits_true n a h = and_from _ _ (le-leb 1 a.number h.from_one) (le-leb a.number n h.in_range)

pub place_right : (m : ℕ) (p : Place) → place_fits m p ≡ true → PlaceIn m p
place_right m p e =
    let q = and_parts (leb 1 p.number) (leb p.number m) e in
    record { from_one = leb-true 1 p.number q.0; in_range = leb-true p.number m q.1 }

pub place_fits_true : (m : ℕ) (p : Place) → PlaceIn m p → place_fits m p ≡ true
place_fits_true m p h = and_from _ _ (le-leb 1 p.number h.from_one) (le-leb p.number m h.in_range)
