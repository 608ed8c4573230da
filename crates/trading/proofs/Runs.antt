-- Runs as exchanges: what lasts along them, and one cycle more.
use Rattle.std.proofs.Common.{◌≡◌, true, List, [], ◌∷◌, ◌++◌, Some, None, Option, sym, ap, ◌∙◌, inl, inr}
use Rattle.std.proofs.lemmas.Bool.{cases_Bool}
use Rattle.market.specs.declared.agent.Agent.{Agent}
use Rattle.market.specs.declared.place.Place.{Place}
use Rattle.market.specs.Rows.{Row, Waits}
use Rattle.trading.specs.Economies.{Economy, RowIn, Group}
use Rattle.trading.specs.Rankings.{Profile}
use Rattle.trading.specs.Allocations.{seat_of, seat}
use Rattle.trading.specs.Trades.{Available, points_at, trade}
use Rattle.trading.specs.Cycles.{among, Cycle}
use Rattle.trading.specs.Runs.{Run, done, then}
use Rattle.trading.proofs.Rows.{departed_waits, seat_departed, Later, later_same, later_on}
use Rattle.trading.proofs.Points.{room_before, best_open}
use Rattle.trading.proofs.Circles.{Circles, Exchanges, over, step, trade_inside, trade_outside, trade_later, trade_proper}
use Rattle.trading.proofs.Cycles.{cycle_circles}

pub run_exchanges : {M : Economy} {R : Profile} {A E : Row} {cs : List (List Agent)} → Run M R A cs E → Exchanges M R A E
run_exchanges done = over
run_exchanges (then c y rest) = step (among c) (cycle_circles y) (run_exchanges rest)

-- A cycle of the last row makes the run longer.
pub run_more : {M : Economy} {R : Profile} {A B : Row} {cs : List (List Agent)} {c : List Agent} → Run M R A cs B → Cycle M R B c → Run M R A (cs ++ c ∷ []) (trade M R B (among c))
run_more {c} done y = then c y done
run_more (then d z rest) y = then d z (run_more rest y)

pub run_proper : {M : Economy} {R : Profile} {A E : Row} {cs : List (List Agent)} → RowIn M A → Run M R A cs E → RowIn M E
run_proper proper done = proper
run_proper proper (then c y rest) = run_proper (trade_proper (cycle_circles y) proper) rest

-- WHAT LASTS

open_before : (M : Economy) {A B : Row} (x : Option Place) → Later A B → Available M B x → Available M A x
open_before M None more o = tt
open_before M (Some p) more o = room_before M more p o

module _ {M : Economy} {R : Profile} where
  pub exchanges_later : {A E : Row} → Exchanges M R A E → Later A E
  exchanges_later over = later_same
  exchanges_later (step D d rest) = later_on (trade_later d) (exchanges_later rest)

  -- Who trades keeps what it gets.
  pub trader_seat : {A E : Row} {D : Group} → Circles M R A D → Exchanges M R (trade M R A D) E → (a : Agent) → D a ≡ true → seat E a ≡ points_at M R A a
  trader_seat {A} d rest a m =
      let got = trade_inside d a m in
      ap seat_of ((exchanges_later rest).kept a (λ w. departed_waits (points_at M R A a) (sym got ∙ w)) ∙ got) ∙ seat_departed (points_at M R A a)

  -- Who waits can still have what it gets in the end.
  pub waiter_open : {A E : Row} → Exchanges M R A E → (a : Agent) → Waits A a → Available M A (seat E a)
  waiter_open over a w = rw w tt
  waiter_open {A} {E} (step D d rest) a w = elim (cases_Bool (D a)) [
    | inl m ↦ rw (trader_seat d rest a m) (best_open M A (R a))
    | inr m ↦ open_before M (seat E a) (trade_later d) (waiter_open rest a (trade_outside d a m ∙ w))
  ]
