-- The owner question: when it is proper, and what is answered.
use Rattle.std.specs.Prelude.{◌≡◌, ℕ, Bool, true, cond, ◌&&◌, length, Ok, Err, Result, ◌==◌}
use Rattle.std.specs.List.{list_all, list_any}
use Rattle.market.specs.declared.agent.Agent.{Agent}
use Rattle.market.specs.declared.place.Place.{Place}
use Rattle.market.specs.declared.refusal.Refusal.{Refusal}
use Rattle.market.specs.declared.refusal.Refusal.TheVariants.{Question}
use Rattle.market.specs.declared.standing.Standing.{Standing}
use Rattle.market.specs.declared.standing.Standing.TheVariants.{Waiting, Placed, Unplaced}
use Rattle.market.specs.Rows.{Row, Waits, PlaceIn, Proper, is_waiting}
use Rattle.market.specs.Rules.{Terms}
use Rattle.succession.specs.Ranges.{place_fits}

-- A standing has no place outside 1 to m.
abbrev pub standing_fits : ℕ → Standing → Bool
standing_fits m Waiting = true
standing_fits m (Placed p) = place_fits m p
standing_fits m Unplaced = true

-- The owner question is proper, as a test.
abbrev pub question_fits : ℕ → ℕ → Row → Place → Bool
question_fits n m A p = length A == n && list_all (standing_fits m) A && list_any is_waiting A && place_fits m p

-- What a rule answers to the owner question: the owner where the question is proper, and otherwise a refusal.
abbrev pub owner_answer : Terms → Row → Place → Result Agent Refusal
owner_answer T A p = cond (question_fits T.agents T.places A p) (Ok (T.owner A p)) (Err Question)

-- The owner question is proper: the row has n standings and no place outside 1 to m, somebody waits in it, and the place asked about is one of 1 to m.
pub record QuestionRight (n m : ℕ) (A : Row) (p : Place) : Type 0 where
  pub row : Proper n m A
  pub waiting : (a : Agent) × Waits A a
  pub place : PlaceIn m p

-- A proper question is answered with the owner, who waits, and a question is refused exactly when it is not proper.
pub record QuestionLaw (T : Terms) (A : Row) (p : Place) (r : Result Agent Refusal) : Type 0 where
  pub answered : QuestionRight T.agents T.places A p → r ≡ Ok (T.owner A p)
  pub proper : (a : Agent) → r ≡ Ok a → QuestionRight T.agents T.places A p
  pub waits : (a : Agent) → r ≡ Ok a → Waits A a
  pub refused : (QuestionRight T.agents T.places A p → ⊥) → r ≡ Err Question
