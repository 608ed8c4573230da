-- Runs under two profiles: a ranking matters only where its agent departs, and no group gains by other rankings.
use Rattle.std.proofs.Common.{◌≡◌, true, cond, ◌⊎◌, List, [], ◌∷◌, length, Some, None, Option, sym, refl, ap, ◌∙◌, subst, inl, inr, le_refl, arith}
use mathlib.Core.Path.{fun_ext}
use Rattle.std.proofs.lemmas.Bool.{cases_Bool}
use Rattle.market.specs.declared.agent.Agent.{Agent}
use Rattle.market.specs.declared.place.Place.{Place}
use Rattle.market.specs.Rows.{Row, NobodyWaits}
use Rattle.market.specs.Rules.{Lawful}
use Rattle.trading.specs.Economies.{Economy, terms_of, RowIn, Group}
use Rattle.trading.specs.Rankings.{Ranking, Profile, DifferWithin, DifferAt, rank, Better, AtLeast}
use Rattle.trading.specs.Allocations.{seat}
use Rattle.trading.specs.Trades.{Available, best, points_at, owner_of, next, departed, row_of, trade}
use Rattle.trading.specs.Cycles.{same_agent, among, Cycle}
use Rattle.trading.specs.Runs.{Run, done, then, EndsIn}
use Rattle.trading.proofs.Points.{best_open, best_only}
use Rattle.trading.proofs.Agents.{same_agents, other_agents}
use Rattle.trading.proofs.Circles.{Circles, Exchanges, trade_proper, strip, none_left}
use Rattle.trading.proofs.Cycles.{linked_same, cycle_linked, cycle_different, linked_cycle, cycle_circles}
use Rattle.trading.proofs.Runs.{run_exchanges, trader_seat, waiter_open}

-- The ranking that lists a seat and nothing else.
abbrev only : Option Place → Ranking
only None = []
only (Some p) = p ∷ []

best_of_one : (M : Economy) (A : Row) (x : Option Place) → Available M A x → best M A (only x) ≡ x
best_of_one M A None o = refl
best_of_one M A (Some p) o = rw o

-- A CYCLE WHOSE MEMBERS POINT THE SAME UNDER TWO PROFILES

module _ (M : Economy) (R S : Profile) (A : Row) where
  trade_same : (D : Group) → ((a : Agent) → D a ≡ true → points_at M S A a ≡ points_at M R A a) → trade M S A D ≡ trade M R A D
  trade_same D same = ap (row_of (length A)) (fun_ext (λ a. elim (cases_Bool (D a)) [ inl m ↦ rw m (ap departed (same a m)) | inr m ↦ rw m ]))

  cycle_same : (c : List Agent) → ((a : Agent) → among c a ≡ true → points_at M S A a ≡ points_at M R A a) → Cycle M R A c → Cycle M S A c
  cycle_same c same y = linked_cycle (cycle_different y) y.waiting (linked_same (next M R A) (next M S A) c (λ a m. ap (owner_of M A a) (same a m)) (cycle_linked y))

  -- Who lists only what it points at points at it.
  points_only : (a : Agent) → S a ≡ only (points_at M R A a) → points_at M S A a ≡ points_at M R A a
  points_only a e = ap (best M A) e ∙ best_of_one M A (points_at M R A a) (best_open M A (R a))

-- Any agents may list just the seat that they get: the run stays a run.
pub seats_suffice : {M : Economy} {R S : Profile} {A E : Row} {cs : List (List Agent)} → ((a : Agent) → (S a ≡ R a) ⊎ (S a ≡ only (seat E a))) → Run M R A cs E → Run M S A cs E
seats_suffice either done = done
seats_suffice {M} {R} {S} {A} {E} either (then {cs = ds} c y rest) =
    then c (cycle_same M R S A c same y) (subst (λ (B : Row). Run M S B ds E) (sym (trade_same M R S A (among c) same)) (seats_suffice either rest))
  where
    same : (a : Agent) → among c a ≡ true → points_at M S A a ≡ points_at M R A a
    same a m = elim (either a) [
      | inl e ↦ ap (best M A) e
      | inr e ↦ points_only M R S A a (e ∙ ap only (trader_seat (cycle_circles y) (run_exchanges rest) a m))
    ]

-- Where S has for each agent its ranking in R, or only its seat in F, which is at least as good by R as that in E: the seat in F is the best that it can have when it trades under R.
group_run : {M : Economy} {R S : Profile} {A E F : Row} {cs : List (List Agent)} → Lawful (terms_of M) → RowIn M A → NobodyWaits E → NobodyWaits F
    → ((a : Agent) → (S a ≡ R a) ⊎ ((S a ≡ only (seat F a)) × AtLeast (R a) (seat F a) (seat E a)))
    → Exchanges M S A F → Run M R A cs E → E ≡ F
group_run law proper e f either other done = none_left law e other
group_run {M} {R} {S} {A} {E} {F} law proper e f either other (then c y rest) =
    group_run law (trade_proper circles proper) e f either
    (subst (λ (B : Row). Exchanges M S B F) (trade_same M R S A (among c) same) (strip law proper f (cycle_circles (cycle_same M R S A c same y)) other)) rest
  where
    circles : Circles M R A (among c)
    circles = cycle_circles y

    same : (a : Agent) → among c a ≡ true → points_at M S A a ≡ points_at M R A a
    same a m = elim (either a) [
      | inl s ↦ ap (best M A) s
      | inr s ↦ (let at = trader_seat circles (run_exchanges rest) a m in
          points_only M R S A a (s.0 ∙ ap only (best_only M A (R a) (seat F a) (waiter_open other a (circles.waiting a m)) (rw at at s.1))))
    ]

module _ {M : Economy} {R S : Profile} {A E F : Row} (law : Lawful (terms_of M)) (proper : RowIn M A) (e : EndsIn M R A E) (f : EndsIn M S A F) where
  pub no_group_gains : (G : Group) → DifferWithin G R S → ((a : Agent) → G a ≡ true → AtLeast (R a) (seat F a) (seat E a)) → E ≡ F
  no_group_gains G differ good =
      group_run law proper e.nobody f.nobody
      (λ a. elim (cases_Bool (G a)) [ inl g ↦ inr (rw g, good a g) | inr g ↦ inl (rw g) ])
      (run_exchanges (seats_suffice {S = P} (λ a. elim (cases_Bool (G a)) [ inl g ↦ inr (rw g) | inr g ↦ inl (rw g (sym (differ a g))) ]) f.run))
      e.run
    where
      P : Profile
      P a = cond (G a) (only (seat F a)) (R a)

  -- Where the ranking of i alone differs, and its second seat is at least as good.
  alone : (i : Agent) → DifferAt i R S → AtLeast (R i) (seat F i) (seat E i) → E ≡ F
  alone i differ good = no_group_gains (same_agent i)
      (λ a o. differ a (λ s. other_agents i a o (sym s)))
      (λ a s. subst (λ (x : Agent). AtLeast (R x) (seat F x) (seat E x)) (same_agents i a s) good)

  pub no_agent_gains : (i : Agent) → DifferAt i R S → Better (R i) (seat F i) (seat E i) → ⊥
  no_agent_gains i differ h =
      let same = alone i differ (omega arith) in
      omega (arith, ap (λ (X : Row). rank (R i) (seat X i)) same)

  pub nobody_bossy : (i : Agent) → DifferAt i R S → seat F i ≡ seat E i → E ≡ F
  nobody_bossy i differ s = alone i differ (rw s (le_refl (rank (R i) (seat E i))))
