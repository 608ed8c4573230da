-- The record: its lines are a run, they can be made longer, and everybody that departed is on them.
use Rattle.std.proofs.Common.{◌≡◌, true, ◌⊎◌, List, [], ◌∷◌, ◌++◌, map, Option, sym, refl, ap, ◌∙◌, subst, inl, inr}
use Rattle.std.proofs.lemmas.Bool.{cases_Bool}
use Rattle.std.specs.List.{AllByRecursion}
use Rattle.market.specs.declared.agent.Agent.{Agent}
use Rattle.market.specs.declared.place.Place.{Place}
use Rattle.market.specs.Rows.{Row, Waits, standing}
use Rattle.trading.specs.Cycles.{among, PointsTo, Chain, Closes, Cycle}
use Rattle.trading.specs.Economies.{Economy}
use Rattle.trading.specs.Rankings.{Profile}
use Rattle.trading.specs.Runs.{Run, done, then}
use Rattle.trading.specs.Trades.{points_at, departed, trade}
use Rattle.trading.proofs.Agents.{all_among}
use Rattle.trading.proofs.Circles.{trade_inside, trade_outside}
use Rattle.trading.proofs.Cycles.{cycle_circles}
use Rattle.trading.proofs.Rows.{departed_waits}
use Rattle.trading.proofs.Runs.{run_exchanges, exchanges_later}
use Rattle.round_law.specs.declared.member.Member.{Member}
use Rattle.round_law.specs.Records.{FromLowest, OwnedBy, GoesOn, GoesThrough, LineOf, Lines, none, line, OnRecord}
use Rattle.round_law.specs.States.{agents_of}
use Rattle.round_law.specs.Steps.{members}

-- A LINE

pub agents_of_members : (M : Economy) (R : Profile) (A : Row) (c : List Agent) → agents_of (members M R A c) ≡ c
agents_of_members M R A [] = refl
agents_of_members M R A (a ∷ c) = ap (λ (x : List Agent). a ∷ x) (agents_of_members M R A c)

module _ (M : Economy) (R : Profile) (A : Row) where
  -- An agent as a member, with what it points at.
  abbrev member : Agent → Member
  member a = record { agent = a; place = points_at M R A a }

  took : (c : List Agent) → AllByRecursion (λ m. m.place ≡ points_at M R A m.agent) (members M R A c)
  took [] = tt
  took (a ∷ c) = (refl, took c)

  owned : (a b : Agent) → PointsTo M R A a b → OwnedBy M A (points_at M R A a) b
  owned a b h = subst (λ (x : Option Place). OwnedBy M A x b) (sym h.1) h.2

  goes_on : (a : Agent) (c : List Agent) (z : Agent) → Chain M R A a c z → GoesOn M A (member a) (members M R A c)
  goes_on a [] z h = tt
  goes_on a (b ∷ c) z h = (owned a b h.0, goes_on b c z h.1)

  goes_through : (c : List Agent) → Closes M R A c → GoesThrough M A (members M R A c)
  goes_through [] h = h
  goes_through (a ∷ c) h = elim h [
    | inl chain ↦ goes_on a c a chain
    | inr alone ↦ subst (λ (x : List Agent). GoesOn M A (member a) (members M R A x)) (sym alone.0) tt
  ]

  -- A cycle from its lowest agent on makes a line.
  pub line_of_cycle : (c : List Agent) → Cycle M R A c → FromLowest c → LineOf M R A (members M R A c)
  line_of_cycle c y low = record {
    cycle = subst (Cycle M R A) (sym (agents_of_members M R A c)) y;
    from_lowest = subst FromLowest (sym (agents_of_members M R A c)) low;
    took = took c;
    through = goes_through c y.closes;
  }

-- LINES

module _ {M : Economy} {R : Profile} where
  pub lines_run : {A E : Row} {lines : List (List Member)} → Lines M R A lines E → Run M R A (map agents_of lines) E
  lines_run none = done
  lines_run (line ms l rest) = then (agents_of ms) l.cycle (lines_run rest)

  pub lines_more : {A B : Row} {lines : List (List Member)} {ms : List Member} → Lines M R A lines B → LineOf M R B ms
      → Lines M R A (lines ++ ms ∷ []) (trade M R B (among (agents_of ms)))
  lines_more {ms} none l = line ms l none
  lines_more (line ks k rest) l = line ks k (lines_more rest l)

  -- Who waits at first waits at last, or is on a line.
  pub waits_or_recorded : {A E : Row} {lines : List (List Member)} → Lines M R A lines E → (a : Agent) → Waits A a → Waits E a ⊎ OnRecord lines a
  waits_or_recorded none a w = inl w
  waits_or_recorded (line ms l rest) a w = elim (cases_Bool (among (agents_of ms) a)) [
    | inl i ↦ inr (inl i)
    | inr i ↦ elim (waits_or_recorded rest a (trade_outside (cycle_circles l.cycle) a i ∙ w)) [ inl v ↦ inl v | inr r ↦ inr (inr r) ]
  ]

  -- Everybody on a line stands in the last row as departed with the place recorded.
  pub lines_seats : {A E : Row} {lines : List (List Member)} → Lines M R A lines E → AllByRecursion (AllByRecursion (λ m. standing E m.agent ≡ departed m.place)) lines
  lines_seats none = tt
  lines_seats {A} {E} (line ms l rest) = (both ms (all_among (λ a. standing E a ≡ departed (points_at M R A a)) (agents_of ms) stands) l.took, lines_seats rest)
    where
      stands : (a : Agent) → among (agents_of ms) a ≡ true → standing E a ≡ departed (points_at M R A a)
      stands a i =
          let got = trade_inside (cycle_circles l.cycle) a i in
          (exchanges_later (run_exchanges (lines_run rest))).kept a (λ w. departed_waits (points_at M R A a) (sym got ∙ w)) ∙ got

      both : (ks : List Member) → AllByRecursion (λ a. standing E a ≡ departed (points_at M R A a)) (agents_of ks) → AllByRecursion (λ m. m.place ≡ points_at M R A m.agent) ks
          → AllByRecursion (λ m. standing E m.agent ≡ departed m.place) ks
      both [] s t = tt
      both (k ∷ ks) s t = (s.0 ∙ ap departed (sym t.0), both ks s.1 t.1)
