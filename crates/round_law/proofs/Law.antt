-- The law of rounds, the law of outcomes and the law of records.
use Rattle.std.proofs.Common.{◌≡◌, ℕ, zero, suc, ◌≤◌, List, map, length, sym, ap, ◌∙◌, subst, inl, inr, arith}
use mathlib.Core.Path.{fun_ext}
use Rattle.std.proofs.lemmas.List.{get_or-replicate}
use Rattle.market.specs.declared.agent.Agent.{Agent}
use Rattle.market.specs.declared.standing.Standing.TheVariants.{Waiting, Unplaced}
use Rattle.market.specs.Rows.{Row, Waits, AgentIn}
use Rattle.market.specs.Rules.{Terms, Lawful}
use Rattle.trading.specs.Allocations.{seat}
use Rattle.trading.specs.Economies.{Economy, economy, terms_of, all_waiting, SameRule}
use Rattle.trading.specs.Rankings.{Profile}
use Rattle.trading.specs.Runs.{Run, EndsIn}
use Rattle.trading.proofs.Alike.{run_same}
use Rattle.trading.proofs.Economies.{economy_lawful, all_waiting_row}
use Rattle.trading.proofs.Theorems.{runs_agree, run_is_staged, no_agent_gains, nobody_bossy, somebody_worse, outcome_within}
use Rattle.round_law.specs.declared.phase.Phase.TheVariants.{Ended}
use Rattle.round_law.specs.Calls.{Call}
use Rattle.round_law.specs.Histories.{after, closing_ranking}
use Rattle.round_law.specs.Laws.{OpenedWith, SameOutcome, Bound, RoundsAgree, Outcome, OutcomesStaged, RecordsTrue}
use Rattle.round_law.specs.Records.{Lines, Recorded}
use Rattle.round_law.specs.States.{State, agents_of}
use Rattle.round_law.proofs.Histories.{begun_with}
use Rattle.round_law.proofs.Records.{lines_run, waits_or_recorded, lines_seats}
use Rattle.round_law.proofs.Sound.{Opened}
use Rattle.round_law.proofs.Waiting.{none_wait}

-- FOR TWO ROWS that are the ends of complete runs in one economy

same_outcome : (E F : Row) → E ≡ F → SameOutcome E F
same_outcome E F e = record { seats = λ a. ap (λ (A : Row). seat A a) e; rows = e }

bound : (M : Economy) → Lawful (terms_of M) → (R S : Profile) (E F : Row) → EndsIn M R (all_waiting M.agents) E → EndsIn M S (all_waiting M.agents) F → Bound M R S E F
bound M law R S E F e f =
    let start = all_waiting M.agents in
    let proper = all_waiting_row M in
    record {
      same_seats = λ same. (
        same_outcome E F (runs_agree M R start E F law proper e (subst (λ (P : Profile). EndsIn M P start F) (sym (fun_ext same)) f)),
        run_is_staged M R E law e,
      );
      no_gain = λ i differ. no_agent_gains M R S start E F i law proper differ e f;
      no_bossing = λ i differ s. same_outcome E F (nobody_bossy M R S start E F i law proper differ e f s);
      first_best = somebody_worse M R E e;
      second_best = somebody_worse M S F f;
    }

-- FOR A ROUND that was opened with n agents and the capacities cs

waits_at_first : (n : ℕ) (a : Agent) → AgentIn n a → Waits (all_waiting n) a
waits_at_first n a known = go a.number known.from_one known.in_range
  where
    go : (j : ℕ) → 1 ≤ j → j ≤ n → Waits (all_waiting n) (record { number = j })
    go zero one most = absurd (omega arith)
    go (suc i) one most = get_or-replicate n i Waiting Unplaced most

module _ (T : Terms) (law : Lawful T) (h : List Call) (n : ℕ) (cs : List ℕ) (with' : OpenedWith n cs T h) where
  sound : Opened T (after T h)
  sound = (begun_with T law h n cs with').0.sound

  holds : (after T h).capacities ≡ cs
  holds = (begun_with T law h n cs with').1

  size : length cs ≡ T.places
  size = ap length (sym holds) ∙ sound.market.places

  lines : Lines (economy T cs) (closing_ranking T h) (all_waiting T.agents) (after T h).cycles (after T h).row
  lines = subst (λ (xs : List ℕ). Lines (economy T xs) (closing_ranking T h) (all_waiting T.agents) (after T h).cycles (after T h).row) holds
      (subst (λ (P : Profile). Lines (economy T (after T h).capacities) P (all_waiting T.agents) (after T h).cycles (after T h).row) (fun_ext (begun_with T law h n cs with').0.rankings) sound.lines)

  recorded : Recorded (economy T cs) (closing_ranking T h) (after T h)
  recorded = record {
    lines = lines;
    run = lines_run lines;
    seats = lines_seats lines;
    everybody = λ a known departed. elim (waits_or_recorded lines a (waits_at_first T.agents a known)) [ inl w ↦ absurd (departed w) | inr r ↦ r ];
  }

  ends : (after T h).phase ≡ Ended → EndsIn (economy T cs) (closing_ranking T h) (all_waiting T.agents) (after T h).row
  ends at = record { cycles = map agents_of (after T h).cycles; run = lines_run lines; nobody = none_wait (after T h).row (sound.ended at) }

  outcome : (after T h).phase ≡ Ended → Outcome (economy T cs) (closing_ranking T h) (after T h).row
  outcome at = let e = ends at in let M = economy T cs in let R = closing_ranking T h in record {
    allocation = outcome_within M R (after T h).row e;
    staged = run_is_staged M R (after T h).row (economy_lawful T cs size law) e;
    best = somebody_worse M R (after T h).row e;
  }

pub law_of_records : RecordsTrue
law_of_records T law X h x n cs with' = subst (Recorded (economy T cs) (closing_ranking T h)) (sym x) (recorded T law h n cs with')

pub law_of_outcomes : OutcomesStaged
law_of_outcomes T law X h x n cs with' end =
    subst (λ (s : State). Outcome (economy T cs) (closing_ranking T h) s.row) (sym x) (outcome T law h n cs with' (ap (λ (s : State). s.phase) (sym x) ∙ end))

-- THE LAW OF ROUNDS

-- The end of a round under a rule that is the same.
ends_there : (T U : Terms) (cs : List ℕ) (R : Profile) (F : Row) → SameRule T U → length cs ≡ T.places
    → EndsIn (economy U cs) R (all_waiting U.agents) F → EndsIn (economy T cs) R (all_waiting T.agents) F
ends_there T U cs R F same size f = record {
  cycles = f.cycles;
  run = run_same T U cs R size same (all_waiting_row (economy T cs)) (subst (λ (n : ℕ). Run (economy U cs) R (all_waiting n) f.cycles F) (sym same.agents) f.run);
  nobody = f.nobody;
}

pub law_of_rounds : RoundsAgree
law_of_rounds T U t u X Y h k x y same n cs withX withY endX endY =
    let M = economy T cs in
    let R = closing_ranking T h in
    let S = closing_ranking U k in
    let e : EndsIn M R (all_waiting T.agents) X.row = subst (λ (s : State). EndsIn M R (all_waiting T.agents) s.row) (sym x) (ends T t h n cs withX (ap (λ (s : State). s.phase) (sym x) ∙ endX)) in
    let g : EndsIn (economy U cs) S (all_waiting U.agents) Y.row = subst (λ (s : State). EndsIn (economy U cs) S (all_waiting U.agents) s.row) (sym y) (ends U u k n cs withY (ap (λ (s : State). s.phase) (sym y) ∙ endY)) in
    let f = ends_there T U cs S Y.row same (size T t h n cs withX) g in
    bound M (economy_lawful T cs (size T t h n cs withX) t) R S X.row Y.row e f
