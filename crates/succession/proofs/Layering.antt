-- Layers over a rule keep the laws. Assumes nothing.
use Rattle.std.proofs.Common.{◌≡◌, Some, None, Option, unwrap_or, refl, ap, ◌∙◌}
use Rattle.market.specs.declared.agent.Agent.{Agent}
use Rattle.market.specs.declared.place.Place.{Place}
use Rattle.market.specs.Rows.{Row, Waits, Continues, PlaceIn, Proper}
use Rattle.market.specs.Rules.{Terms, Lawful}
use Rattle.succession.specs.Layers.{Claims, layered}

-- Claims that last: whoever claims a place waits, goes on claiming it for as long as it waits, and where nobody claims it nobody will.
pub record Lasting (claims : Claims) : Type 0 where
  pub waits : (A : Row) (p : Place) (a : Agent) → claims A p ≡ Some a → Waits A a
  pub stays : (A B : Row) (p : Place) (a : Agent) → Continues A B → claims A p ≡ Some a → Waits B a → claims B p ≡ Some a
  pub none : (A B : Row) (p : Place) → Continues A B → claims A p ≡ None → claims B p ≡ None

pub layered_lawful : (T : Terms) (claims : Claims) → Lawful T → Lasting claims → Lawful (layered T claims)
layered_lawful T claims lawful lasting = record { waits = waits; stays = stays }
  where
    waits : (A : Row) (a : Agent) (p : Place) → Proper T.agents T.places A → Waits A a → PlaceIn T.places p → Waits A (unwrap_or (claims A p) (T.owner A p))
    waits A a p row w known = go (claims A p) refl
      where
        go : (o : Option Agent) → claims A p ≡ o → Waits A (unwrap_or o (T.owner A p))
        go None e = lawful.waits A a p row w known
        go (Some b) e = lasting.waits A p b e

    stays : (A B : Row) (p : Place) → Proper T.agents T.places A → Proper T.agents T.places B → Continues A B → PlaceIn T.places p → Waits B (unwrap_or (claims A p) (T.owner A p)) → unwrap_or (claims B p) (T.owner B p) ≡ unwrap_or (claims A p) (T.owner A p)
    stays A B p rowA rowB more known w = go (claims A p) refl w
      where
        go : (o : Option Agent) → claims A p ≡ o → Waits B (unwrap_or o (T.owner A p)) → unwrap_or (claims B p) (T.owner B p) ≡ unwrap_or o (T.owner A p)
        go None e v = ap (λ o. unwrap_or o (T.owner B p)) (lasting.none A B p more e) ∙ lawful.stays A B p rowA rowB more known v
        go (Some b) e v = ap (λ o. unwrap_or o (T.owner B p)) (lasting.stays A B p b more e v)
