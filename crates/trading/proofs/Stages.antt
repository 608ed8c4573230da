-- The staged procedure and complete runs: both end, and in the same row.
use Rattle.std.proofs.Common.{◌≡◌, ℕ, zero, suc, ◌<◌, ◌≤◌, true, false, [], ◌∷◌, is_some, sym, ap, ◌∙◌, subst, inl, inr, arith}
use Rattle.std.proofs.lemmas.List.Sums.{count_by-le-length}
use Rattle.std.proofs.lemmas.Bool.{both_ways, cases_Bool}
use Rattle.market.specs.declared.agent.Agent.{Agent}
use Rattle.market.specs.Rows.{Row, Waits, NobodyWaits, is_waiting}
use Rattle.market.specs.Rules.{Lawful}
use Rattle.trading.specs.Economies.{Economy, terms_of, RowIn, Group}
use Rattle.trading.specs.Rooms.{waiters}
use Rattle.trading.specs.Rankings.{Profile}
use Rattle.trading.specs.Trades.{points_at, next, walk, trade}
use Rattle.trading.specs.Runs.{done, then, EndsIn}
use Rattle.trading.specs.Stages.{OnNoCycle, StageOf, StagesTo, ended, staging, on_cycle, stage, stages}
use Rattle.trading.proofs.Rows.{departed_waits, same_rows, somebody_waits}
use Rattle.trading.proofs.Counts.{waiters_lt}
use Rattle.trading.proofs.Circles.{Circles, Exchanges, over, step, length_trade, trade_inside, trade_outside, trade_proper, none_left}
use Rattle.trading.proofs.Cycles.{cycle_circles}
use Rattle.trading.proofs.Through.{cycle_found, meets_cycle, on_cycle_found, on_cycle_circles, stage_proper}

-- A trade leaves fewer waiting.
pub fewer_wait : {M : Economy} {R : Profile} {A : Row} {D : Group} → Circles M R A D → (a : Agent) → D a ≡ true → waiters (trade M R A D) < waiters A
fewer_wait {M} {R} {A} {D} d a m = waiters_lt (trade M R A D) A (sym (length_trade d))
    (λ b w. elim (cases_Bool (D b)) [ inl n ↦ d.waiting b n | inr n ↦ sym (trade_outside d b n) ∙ w ]) a
    (λ w. departed_waits (points_at M R A a) (sym (trade_inside d a m) ∙ w)) (d.waiting a m)

-- THE STAGE OF A ROW

module _ (M : Economy) (R : Profile) {A : Row} (law : Lawful (terms_of M)) (proper : RowIn M A) where
  circles : Circles M R A (on_cycle M R A)
  circles = on_cycle_circles M R law proper

  off_cycle : (a : Agent) → on_cycle M R A a ≡ false → OnNoCycle M R A a
  off_cycle a n c y i = both_ways (on_cycle M R A a) n (ap is_some (cycle_found M R law proper c y a i).1)

  stage_fewer : (a : Agent) → Waits A a → waiters (stage M R A) < waiters A
  stage_fewer a w = let t = meets_cycle M R law proper a w in fewer_wait circles (walk (next M R A) t.0 a) (ap is_some t.3)

  nobody_left : waiters A ≤ 0 → NobodyWaits A
  nobody_left few a w = omega (arith, stage_fewer a w)

  pub stage_is : StageOf M R A (stage M R A)
  stage_is = record {
    size = length_trade circles;
    trades = λ a c y i. trade_inside circles a (ap is_some (cycle_found M R law proper c y a i).1);
    stays = λ a none. elim (cases_Bool (on_cycle M R A a)) [
      | inl t ↦ (let y = on_cycle_found M R law proper a t in absurd (none y.0 y.1 y.2))
      | inr t ↦ trade_outside circles a t
    ];
  }

  pub stage_only : {B : Row} → StageOf M R A B → B ≡ stage M R A
  stage_only {B} s = same_rows B (stage M R A) (s.size ∙ sym stage_is.size) (λ a. elim (cases_Bool (on_cycle M R A a)) [
    | inl t ↦ (let y = on_cycle_found M R law proper a t in s.trades a y.0 y.1 y.2 ∙ sym (stage_is.trades a y.0 y.1 y.2))
    | inr t ↦ s.stays a (off_cycle a t) ∙ sym (stage_is.stays a (off_cycle a t))
  ])

-- STAGE BY STAGE

pub stages_nobody : {M : Economy} {R : Profile} {A E : Row} → StagesTo M R A E → NobodyWaits E
stages_nobody (ended nobody) = nobody
stages_nobody (staging a w s rest) = stages_nobody rest

module _ (M : Economy) (R : Profile) (law : Lawful (terms_of M)) where
  stages_exchange : (k : ℕ) {A : Row} → RowIn M A → Exchanges M R A (stages M R k A)
  stages_exchange zero proper = over
  stages_exchange (suc k) {A} proper = step (on_cycle M R A) (on_cycle_circles M R law proper) (stages_exchange k (stage_proper M R law proper))

  -- As many stages as agents wait suffice,
  in_stages : (k : ℕ) {A : Row} → RowIn M A → waiters A ≤ k → StagesTo M R A (stages M R k A)
  in_stages zero proper few = ended (nobody_left M R law proper few)
  in_stages (suc k) {A} proper few = elim (somebody_waits A) [
    | inl nobody ↦ subst (StagesTo M R A) (none_left law nobody (stages_exchange (suc k) proper)) (ended nobody)
    | inr some ↦ staging some.0 some.1 (stage_is M R law proper) (in_stages k (stage_proper M R law proper) (omega (arith, stage_fewer M R law proper some.0 some.1)))
  ]

  -- and as many cycles.
  some_run : (k : ℕ) {A : Row} → RowIn M A → waiters A ≤ k → (E : Row) × EndsIn M R A E
  some_run zero {A} proper few = (A, record { cycles = []; run = done; nobody = nobody_left M R law proper few })
  some_run (suc k) {A} proper few = elim (somebody_waits A) [
    | inl nobody ↦ (A, record { cycles = []; run = done; nobody = nobody })
    | inr some ↦ (let t = meets_cycle M R law proper some.0 some.1 in
        let c = on_cycle_found M R law proper (walk (next M R A) t.0 some.0) (ap is_some t.3) in
        let d = cycle_circles c.1 in
        let rest = some_run k (trade_proper d proper) (omega (arith, fewer_wait d (walk (next M R A) t.0 some.0) c.2)) in
        (rest.0, record { cycles = c.0 ∷ rest.1.cycles; run = then c.0 c.1 rest.1.run; nobody = rest.1.nobody }))
  ]

  few_wait : {A : Row} → RowIn M A → waiters A ≤ M.agents
  few_wait {A} proper = omega (arith, count_by-le-length is_waiting A, proper.size)

  pub run_ends : {A : Row} → RowIn M A → (E : Row) × EndsIn M R A E
  run_ends proper = some_run M.agents proper (few_wait proper)

  pub stages_end : {A : Row} → RowIn M A → StagesTo M R A (stages M R M.agents A)
  stages_end proper = in_stages M.agents proper (few_wait proper)

  -- Stages are trades of groups that are made of cycles, so all that holds of these holds of them.
  pub stages_exchanges : {A E : Row} → RowIn M A → StagesTo M R A E → Exchanges M R A E
  stages_exchanges proper (ended nobody) = over
  stages_exchanges {A} {E} proper (staging {B} a w s rest) =
      let same = stage_only M R law proper s in
      step (on_cycle M R A) (on_cycle_circles M R law proper)
      (subst (λ (X : Row). Exchanges M R X E) same (stages_exchanges (subst (RowIn M) (sym same) (stage_proper M R law proper)) rest))
