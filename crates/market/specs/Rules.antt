-- Inheritance rules: who owns a place in a row, and the two laws that every rule keeps.
use Rattle.std.specs.Prelude.{◌≡◌, ℕ}
use Rattle.market.specs.declared.agent.Agent.{Agent}
use Rattle.market.specs.declared.place.Place.{Place}
use Rattle.market.specs.Rows.{Row, Waits, Continues, PlaceIn, Proper}

-- Who owns a place in a row.
abbrev pub Ownership : Type 0
Ownership = Row → Place → Agent

-- What a rule means: how many agents and places it is for, and who owns a place in a row.
pub record Terms : Type 0 where
  pub agents : ℕ
  pub places : ℕ
  pub owner : Ownership

-- The first law: where somebody waits, the owner of a place waits.
abbrev pub OwnerWaits : Terms → Type 0
OwnerWaits T =
    (A : Row) (a : Agent) (p : Place) → Proper T.agents T.places A → Waits A a → PlaceIn T.places p → Waits A (T.owner A p)

-- The second law: if row B continues row A and the owner of a place in A still waits in B, it owns the place in B.
abbrev pub OwnerStays : Terms → Type 0
OwnerStays T =
    (A B : Row) (p : Place) → Proper T.agents T.places A → Proper T.agents T.places B → Continues A B → PlaceIn T.places p → Waits B (T.owner A p) → T.owner B p ≡ T.owner A p

-- A rule keeps both laws.
pub record Lawful (T : Terms) : Type 0 where
  pub waits : OwnerWaits T
  pub stays : OwnerStays T
