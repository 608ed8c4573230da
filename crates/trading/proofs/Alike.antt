-- Two rules that are one: they have the same runs.
use Rattle.std.proofs.Common.{◌≡◌, ℕ, List, length, Some, None, Option, refl, subst}
use Rattle.market.specs.declared.agent.Agent.{Agent}
use Rattle.market.specs.declared.place.Place.{Place}
use Rattle.market.specs.Rows.{Row, Waits, PlaceIn}
use Rattle.market.specs.Rules.{Terms}
use Rattle.trading.specs.Economies.{economy, RowIn, SameRule}
use Rattle.trading.specs.Rankings.{Profile}
use Rattle.trading.specs.Trades.{Available, points_at, owner_of, next}
use Rattle.trading.specs.Cycles.{Cycle}
use Rattle.trading.specs.Runs.{Run, done, then}
use Rattle.trading.proofs.Economies.{row_economy}
use Rattle.trading.proofs.Points.{room_known, best_open}
use Rattle.trading.proofs.Circles.{trade_proper}
use Rattle.trading.proofs.Cycles.{linked_same, cycle_linked, cycle_different, linked_cycle, cycle_circles}

module _ (T U : Terms) (capacities : List ℕ) (R : Profile) (size : length capacities ≡ T.places) (same : SameRule T U) where
  next_same : (A : Row) → RowIn (economy T capacities) A → (a : Agent) → Waits A a → next (economy T capacities) R A a ≡ next (economy U capacities) R A a
  next_same A proper a w = go (points_at (economy T capacities) R A a) (best_open (economy T capacities) A (R a))
    where
      go : (x : Option Place) → Available (economy T capacities) A x → owner_of (economy T capacities) A a x ≡ owner_of (economy U capacities) A a x
      go None o = refl
      go (Some p) o = same.owner A a p (row_economy T capacities size A proper) w (subst (λ (m : ℕ). PlaceIn m p) size (room_known (economy T capacities) A p o))

  cycle_same : {A : Row} {c : List Agent} → RowIn (economy T capacities) A → Cycle (economy U capacities) R A c → Cycle (economy T capacities) R A c
  cycle_same {A} {c} proper y = linked_cycle (cycle_different y) y.waiting
      (linked_same (next (economy U capacities) R A) (next (economy T capacities) R A) c (λ a m. next_same A proper a ((cycle_circles y).waiting a m)) (cycle_linked y))

  pub run_same : {A E : Row} {cs : List (List Agent)} → RowIn (economy T capacities) A → Run (economy U capacities) R A cs E → Run (economy T capacities) R A cs E
  run_same proper done = done
  run_same proper (then c y rest) = let z = cycle_same proper y in then c z (run_same (trade_proper (cycle_circles z) proper) rest)
