-- Capacities: a cycle's trade gives each place to at most one more agent, and only where it has room.
use Rattle.std.proofs.Common.{◌≡◌, ℕ, zero, suc, true, false, cond, ◌⊎◌, List, [], ◌∷◌, length, Some, sym, refl, ap, ◌∙◌, subst, inl, inr, arith}
use Rattle.std.proofs.lemmas.List.{length-replicate}
use Rattle.std.proofs.lemmas.List.Sums.{sum_by-cons}
use Rattle.std.proofs.lemmas.Bool.{both_ways, eq-eqb, ltb-true, cases_Bool}
use Rattle.market.specs.declared.agent.Agent.{Agent}
use Rattle.market.specs.declared.place.Place.{Place}
use Rattle.market.specs.declared.standing.Standing.{Standing}
use Rattle.market.specs.declared.standing.Standing.TheVariants.{Waiting, Placed}
use Rattle.market.specs.Rows.{Row, standing}
use Rattle.trading.specs.Economies.{Economy, capacity, all_waiting}
use Rattle.trading.specs.Rooms.{is_at, taken}
use Rattle.trading.specs.Rankings.{Profile, is_place}
use Rattle.trading.specs.Allocations.{WithinCapacities, AllocationIn}
use Rattle.trading.specs.Trades.{Available, points_at, owner_of, next, walk, trade}
use Rattle.trading.specs.Cycles.{among, Cycle}
use Rattle.trading.specs.Runs.{Run, done, then, EndsIn}
use Rattle.trading.proofs.Rows.{departed_placed}
use Rattle.trading.proofs.Counts.{taken_le, taken_one}
use Rattle.trading.proofs.Rankings.{is_place_some}
use Rattle.trading.proofs.Points.{best_open}
use Rattle.trading.proofs.Agents.{among_cases, among_first, among_more}
use Rattle.trading.proofs.Circles.{Circles, length_trade, trade_inside, trade_outside}
use Rattle.trading.proofs.Cycles.{Linked, walk_around, cycle_linked, cycle_circles}
use Rattle.trading.proofs.Runs.{run_exchanges, exchanges_later}

-- Whether one of a list points at a place.
pointed_at : (M : Economy) (R : Profile) (A : Row) (p : Place) (c : List Agent)
    → ((a : Agent) × (among c a ≡ true) × (points_at M R A a ≡ Some p)) ⊎ ((a : Agent) → among c a ≡ true → points_at M R A a ≡ Some p → ⊥)
pointed_at M R A p [] = inr (λ a m e. both_ways false refl m)
pointed_at M R A p (b ∷ c) = elim (cases_Bool (is_place p (points_at M R A b))) [
  | inl i ↦ inl (b, among_first b c, is_place_some p (points_at M R A b) i)
  | inr i ↦ elim (pointed_at M R A p c) [
    | inl r ↦ inl (r.0, among_more b c r.0 r.1, r.2)
    | inr none ↦ inr (λ a m e. elim (among_cases b c a m) [
      | inl s ↦ (let here = ap (is_place p) (ap (points_at M R A) s ∙ e) ∙ eq-eqb p.number p.number refl in both_ways (is_place p (points_at M R A b)) i here)
      | inr n ↦ none a n e
    ])
  ]
]

module _ {M : Economy} {R : Profile} {A : Row} where
  -- No two members of a cycle have the same next: a walk leads from the next back to each.
  next_apart : {c : List Agent} → Cycle M R A c → (a b : Agent) → among c a ≡ true → among c b ≡ true → next M R A a ≡ next M R A b → a ≡ b
  next_apart {c} y a b i j e = go c (cycle_linked y) i j
    where
      go : (c : List Agent) → Linked (next M R A) c → among c a ≡ true → among c b ≡ true → a ≡ b
      go [] l i j = absurd l
      go (x ∷ c) l i j =
          sym (walk_around (next M R A) (x ∷ c) a l i) ∙ ap (walk (next M R A) (length c)) e ∙ walk_around (next M R A) (x ∷ c) b l j

  -- So no two point at the same place.
  points_apart : {c : List Agent} → Cycle M R A c → (p : Place) (a b : Agent) → among c a ≡ true → among c b ≡ true
      → points_at M R A a ≡ Some p → points_at M R A b ≡ Some p → a ≡ b
  points_apart y p a b i j e f = next_apart y a b i j (ap (owner_of M A a) e ∙ sym (ap (owner_of M A b) f))

  pub trade_within : {c : List Agent} → Cycle M R A c → WithinCapacities M A → WithinCapacities M (trade M R A (among c))
  trade_within {c} y within p = elim (pointed_at M R A p c) [
    | inl r ↦ (let room = subst (Available M A) r.2 (best_open M A (R r.0)) in
        omega (
          arith,
          ltb-true (taken A p) (capacity M p) room,
          taken_one B A p r.0 (sym (length_trade d)) (λ a n s. old a (λ m e. n (points_apart y p a r.0 m r.1 e r.2)) s),
        ))
    | inr none ↦ omega (arith, within p, taken_le B A p (sym (length_trade d)) (λ a s. old a (none a) s))
  ]
    where
      B : Row
      B = trade M R A (among c)

      d : Circles M R A (among c)
      d = cycle_circles y

      -- Who holds the place after the trade, and does not point at it in the cycle, held it before.
      old : (a : Agent) → (among c a ≡ true → points_at M R A a ≡ Some p → ⊥) → standing B a ≡ Placed p → standing A a ≡ Placed p
      old a not s = elim (cases_Bool (among c a)) [
        | inl m ↦ absurd (not m (departed_placed p (points_at M R A a) (sym (trade_inside d a m) ∙ s)))
        | inr m ↦ sym (trade_outside d a m) ∙ s
      ]

pub run_within : {M : Economy} {R : Profile} {A E : Row} {cs : List (List Agent)} → Run M R A cs E → WithinCapacities M A → WithinCapacities M E
run_within done within = within
run_within (then c y rest) within = run_within rest (trade_within y within)

pub none_taken : (n : ℕ) (p : Place) → taken (all_waiting n) p ≡ 0
none_taken zero p = refl
none_taken (suc n) p = omega (arith, none_taken n p, sum_by-cons (λ (s : Standing). cond (is_at p s) 1 0) Waiting (all_waiting n))

pub outcome_within : {M : Economy} {R : Profile} {E : Row} → EndsIn M R (all_waiting M.agents) E → AllocationIn M E
outcome_within {M} e = record {
  size = (exchanges_later (run_exchanges e.run)).size ∙ length-replicate M.agents Waiting;
  nobody = e.nobody;
  within = run_within e.run (λ p. omega (arith, none_taken M.agents p));
}
