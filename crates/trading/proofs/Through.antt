-- The cycle through an agent: that it is found exactly where there is one, that every walk meets one, and all of them together.
use Rattle.std.proofs.Common.{◌≡◌, ℕ, suc, ◌<◌, true, false, List, [], ◌∷◌, ◌++◌, map, length, is_some, Some, None, Option, sym, refl, ap, subst, inl, inr}
use Rattle.std.proofs.lemmas.Bool.{both_ways, cases_Bool}
use Rattle.market.specs.declared.agent.Agent.{Agent}
use Rattle.market.specs.declared.place.Place.{Place}
use Rattle.market.specs.Rows.{Row, Waits, is_waiting, waits}
use Rattle.market.specs.Rules.{Lawful}
use Rattle.trading.specs.Economies.{Economy, terms_of, RowIn}
use Rattle.trading.specs.Rankings.{Profile}
use Rattle.trading.specs.Trades.{Available, points_at, owner_of, next, walk}
use Rattle.trading.specs.Cycles.{among, Cycle, cycle_through}
use Rattle.trading.specs.Stages.{on_cycle, stage}
use Rattle.trading.proofs.Rows.{none≢some, waits_true}
use Rattle.trading.proofs.Points.{room_known, best_open}
use Rattle.trading.proofs.Agents.{among_first}
use Rattle.trading.proofs.Circles.{Circles, trade_proper}
use Rattle.trading.proofs.Cycles.{Linked, cycle_linked, cycle_different, linked_cycle, cycle_circles}
use Rattle.trading.proofs.Paths.{PathTo, path_different, path_linked, path_all, walk_path, linked_path, path_found, path_is, different_wait, comes_back}

linked_from : (f : Agent → Agent) (a : Agent) (c d : List Agent) → c ≡ a ∷ d → map f c ≡ d ++ a ∷ [] → Linked f c
linked_from f a c d e l = subst (Linked f) (sym e) (subst (λ (x : List Agent). map f x ≡ d ++ a ∷ []) e l)

-- A cycle is found through its first agent, as it stands.
pub cycle_from : {M : Economy} {R : Profile} {A : Row} {a : Agent} {c : List Agent} → Cycle M R A (a ∷ c) → cycle_through M R A a ≡ Some (a ∷ c)
cycle_from {A} {a} {c} y =
    let d = cycle_different y in
    rw (ap is_waiting y.waiting.0) (path_found (length A) (linked_path a c d.0 (cycle_linked y)) (different_wait A (a ∷ c) d (cycle_circles y).waiting))

module _ (M : Economy) (R : Profile) {A : Row} (law : Lawful (terms_of M)) (proper : RowIn M A) where
  pub next_waits : (a : Agent) → Waits A a → Waits A (next M R A a)
  next_waits a w = go (points_at M R A a) (best_open M A (R a))
    where
      go : (x : Option Place) → Available M A x → Waits A (owner_of M A a x)
      go None o = w
      go (Some p) o = law.waits A a p proper w (room_known M A p o)

  -- THE CYCLE THROUGH AN AGENT

  through_path : (a : Agent) (c : List Agent) → cycle_through M R A a ≡ Some c → Waits A a × PathTo (next M R A) a a c
  through_path a c e = elim (cases_Bool (waits A a)) [
    | inl w ↦ (waits_true A a w, path_is (length A) a c (rw w at e))
    | inr w ↦ (let z : ◌≡◌ {A = Option (List Agent)} None (Some c) = rw w at e in absurd (none≢some z))
  ]

  path_cycle : (a : Agent) (c : List Agent) → Waits A a → PathTo (next M R A) a a c → Cycle M R A c
  path_cycle a c w p =
      let l = path_linked p in
      linked_cycle (path_different p) (path_all (Waits A) next_waits w p) (linked_from (next M R A) a c l.0 l.1 l.2)

  pub through_is_cycle : (a : Agent) (c : List Agent) → cycle_through M R A a ≡ Some c → Cycle M R A c × ((rest : List Agent) × (c ≡ a ∷ rest))
  through_is_cycle a c e =
      let r = through_path a c e in
      let l = path_linked r.1 in
      (path_cycle a c r.0 r.1, (l.0, l.1))

  -- Through an agent to which a walk comes back a cycle is found.
  pub through_found : (a : Agent) (k : ℕ) → Waits A a → walk (next M R A) (suc k) a ≡ a → (c : List Agent) × (cycle_through M R A a ≡ Some c)
  through_found a k w e =
      let r = walk_path k a e in
      let few = different_wait A r.0 (path_different r.1) (cycle_circles (path_cycle a r.0 w r.1)).waiting in
      (r.0, rw (ap is_waiting w) (path_found (length A) r.1 few))

  pub cycle_found : (c : List Agent) → Cycle M R A c → (a : Agent) → among c a ≡ true → (d : List Agent) × (cycle_through M R A a ≡ Some d)
  cycle_found c y a i = let d = cycle_circles y in let home = d.back a i in through_found a home.0 (d.waiting a i) home.1

  -- A walk from an agent that waits meets a cycle, which is found.
  pub meets_cycle : (a : Agent) → Waits A a → (k : ℕ) × (c : List Agent) × (k < length A) × (cycle_through M R A (walk (next M R A) k a) ≡ Some c)
  meets_cycle a w =
      let r = comes_back A (next M R A) next_waits a w in
      let t = through_found (walk (next M R A) r.0 a) r.1 r.3 r.4 in
      (r.0, t.0, r.2, t.1)

  -- ALL CYCLES TOGETHER

  -- Whoever is found to be on a cycle is on one.
  pub on_cycle_found : (a : Agent) → on_cycle M R A a ≡ true → (c : List Agent) × Cycle M R A c × (among c a ≡ true)
  on_cycle_found a e = go (cycle_through M R A a) refl e
    where
      go : (x : Option (List Agent)) → cycle_through M R A a ≡ x → is_some x ≡ true → (c : List Agent) × Cycle M R A c × (among c a ≡ true)
      go None q t = absurd (both_ways false refl t)
      go (Some c) q t = let y = through_is_cycle a c q in (c, y.0, subst (λ (x : List Agent). among x a ≡ true) (sym y.1.1) (among_first a y.1.0))

  pub on_cycle_circles : Circles M R A (on_cycle M R A)
  on_cycle_circles = record {
    waiting = λ a e. let y = on_cycle_found a e in (cycle_circles y.1).waiting a y.2;
    closed = λ a e. let y = on_cycle_found a e in ap is_some (cycle_found y.0 y.1 (next M R A a) ((cycle_circles y.1).closed a y.2)).1;
    back = λ a e. let y = on_cycle_found a e in (cycle_circles y.1).back a y.2;
  }

  pub stage_proper : RowIn M (stage M R A)
  stage_proper = trade_proper on_cycle_circles proper
