-- Efficiency: every allocation within the capacities but the one that a run ends in is worse for some agent.
use Rattle.std.proofs.Common.{◌≡◌, true, false, ◌⊎◌, List, [], ◌∷◌, sym, refl, ap, ◌∙◌, subst, inl, inr, arith}
use Rattle.std.proofs.lemmas.Bool.{both_ways, lt-ltb, cases_Bool, cases_lt}
use Rattle.market.specs.declared.agent.Agent.{Agent}
use Rattle.market.specs.declared.standing.Standing.{Standing}
use Rattle.market.specs.declared.standing.Standing.TheVariants.{Waiting, Placed, Unplaced}
use Rattle.market.specs.Rows.{Row, standing, Waits, NobodyWaits}
use Rattle.trading.specs.Economies.{Economy, capacity, all_waiting}
use Rattle.trading.specs.Rooms.{taken}
use Rattle.trading.specs.Rankings.{Profile, rank, Worse, AtLeast}
use Rattle.trading.specs.Allocations.{seat_of, seat, WithinCapacities, OthersWorse}
use Rattle.trading.specs.Trades.{Available, departed, trade}
use Rattle.trading.specs.Cycles.{among}
use Rattle.trading.specs.Runs.{Run, done, then, EndsIn}
use Rattle.trading.proofs.Rows.{departed_seat, same_rows, Later, later_placed, later_all_waiting}
use Rattle.trading.proofs.Counts.{taken_lt}
use Rattle.trading.proofs.Points.{best_only}
use Rattle.trading.proofs.Agents.{among_cases}
use Rattle.trading.proofs.Circles.{Circles, length_trade, trade_inside, trade_outside}
use Rattle.trading.proofs.Cycles.{cycle_circles}
use Rattle.trading.proofs.Runs.{run_exchanges, trader_seat}

-- A place that X gives to an agent that waits in A has room in A.
seat_open : (M : Economy) {A X : Row} → WithinCapacities M X → Later A X → (a : Agent) → Waits A a → Available M A (seat X a)
seat_open M {A} {X} within more a w = go (standing X a) refl
  where
    go : (s : Standing) → standing X a ≡ s → Available M A (seat_of s)
    go Waiting e = tt
    go (Placed p) e = lt-ltb (taken A p) (capacity M p) (omega (arith, within p, taken_lt A X p more.size (later_placed more p) a w e))
    go Unplaced e = tt

-- Every agent of a list finds its seat in X at least as good as that in E, or some agent finds it worse.
each_or_worse : (R : Profile) (E X : Row) (c : List Agent)
    → ((a : Agent) → among c a ≡ true → AtLeast (R a) (seat X a) (seat E a)) ⊎ ((a : Agent) × Worse (R a) (seat X a) (seat E a))
each_or_worse R E X [] = inl (λ a m. absurd (both_ways false refl m))
each_or_worse R E X (b ∷ c) = elim (cases_lt (rank (R b) (seat E b)) (rank (R b) (seat X b))) [
  | inl h ↦ inr (b, h)
  | inr h ↦ elim (each_or_worse R E X c) [
    | inl good ↦ inl (λ a m. elim (among_cases b c a m) [ inl s ↦ subst (λ (x : Agent). AtLeast (R x) (seat X x) (seat E x)) s h | inr n ↦ good a n ])
    | inr some ↦ inr some
  ]
]

-- Along a run from A to E, an allocation X that comes later than A is E, or worse for some agent.
same_or_worse : {M : Economy} {R : Profile} {A E X : Row} {cs : List (List Agent)} → WithinCapacities M X → NobodyWaits X → NobodyWaits E → Later A X → Run M R A cs E
    → (X ≡ E) ⊎ ((a : Agent) × Worse (R a) (seat X a) (seat E a))
same_or_worse {A} {X} within x nobody more done = inl (same_rows X A more.size (λ a. more.kept a (nobody a)))
same_or_worse {M} {R} {A} {E} {X} within x nobody more (then c y rest) = elim (each_or_worse R E X c) [
  | inl good ↦ same_or_worse within x nobody (still good) rest
  | inr some ↦ inr some
]
  where
    circles : Circles M R A (among c)
    circles = cycle_circles y

    -- Where no member of the cycle finds X worse, each has in X too the best that it can have.
    still : ((a : Agent) → among c a ≡ true → AtLeast (R a) (seat X a) (seat E a)) → Later (trade M R A (among c)) X
    still good = record {
      size = more.size ∙ sym (length_trade circles);
      kept = λ a w. elim (cases_Bool (among c a)) [
        | inl m ↦ (let at = trader_seat circles (run_exchanges rest) a m in
            let same = best_only M A (R a) (seat X a) (seat_open M within more a (circles.waiting a m)) (rw at at (good a m)) in
            departed_seat (standing X a) (x a) ∙ ap departed same ∙ sym (trade_inside circles a m))
        | inr m ↦ (let out = trade_outside circles a m in more.kept a (λ v. w (out ∙ v)) ∙ sym out)
      ];
    }

pub somebody_worse : {M : Economy} {R : Profile} {E : Row} → EndsIn M R (all_waiting M.agents) E → OthersWorse M R E
somebody_worse {M} e X x other = elim (same_or_worse x.within x.nobody e.nobody (later_all_waiting M.agents X x.size) e.run) [
  | inl same ↦ absurd (other same)
  | inr some ↦ some
]
