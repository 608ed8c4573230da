-- What the data of rules keep, whatever kind they are of.
use Rattle.std.specs.Prelude.{◌≡◌, ℕ, Bool, true, List}
use Rattle.market.specs.declared.agent.Agent.{Agent}
use Rattle.market.specs.declared.place.Place.{Place}
use Rattle.market.specs.Data.{OrderOf}
use Rattle.market.specs.Rows.{PlaceIn}
use Rattle.market.specs.Rules.{Terms, Lawful}
use Rattle.succession.specs.Layers.{Claims, layered}

-- A test tells what is right for n agents and m places.
pub record Tells {X : Type 0} (fits : ℕ → ℕ → X → Bool) (Right : ℕ → ℕ → X → Type 0) : Type 0 where
  pub right : (n m : ℕ) (x : X) → fits n m x ≡ true → Right n m x
  pub passes : (n m : ℕ) (x : X) → Right n m x → fits n m x ≡ true

-- Claims: the test tells which entries are right; a layer of them over a lawful rule is lawful; and where they are right, they own as they should.
pub record ClaimLaws {X : Type 0} (fits : ℕ → ℕ → List X → Bool) (Right : ℕ → ℕ → List X → Type 0) (claims : List X → Claims) (Owns : Terms → List X → Type 0) : Type 0 where
  pub test : Tells fits Right
  pub lawful : (T : Terms) (entries : List X) → Lawful T → Lawful (layered T (claims entries))
  pub owns : (T : Terms) (entries : List X) → Right T.agents T.places entries → Owns T entries

-- Orders: the test tells which are right; and where they are, the order for each place is one of all agents.
pub record OrdersLaws {X : Type 0} (fits : ℕ → ℕ → X → Bool) (Right : ℕ → ℕ → X → Type 0) (order : X → Place → List Agent) : Type 0 where
  pub test : Tells fits Right
  pub each : (n m : ℕ) (orders : X) → Right n m orders → (p : Place) → PlaceIn m p → OrderOf n (order orders p)
