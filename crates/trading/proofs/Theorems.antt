-- The theorems, as the contracts cite them.
use Rattle.std.proofs.Common.{◌≡◌, true, List, is_some, sym, ap, subst, inl, inr, arith}
use Rattle.std.proofs.lemmas.Bool.{cases_lt}
use Rattle.market.specs.declared.agent.Agent.{Agent}
use Rattle.market.specs.Rows.{Row}
use Rattle.trading.specs.Economies.{RowIn, all_waiting}
use Rattle.trading.specs.Rankings.{rank}
use Rattle.trading.specs.Trades.{points_at, next, walk}
use Rattle.trading.specs.Cycles.{among}
use Rattle.trading.specs.Stages.{Staged, last_row}
use Rattle.trading.specs.Theorems.{BetterInWords, EquallyGood, PointsAtBest, AllWaitingProper, TradeProper, TradeWithin, OutcomeWithin, WalkMeetsCycle, FoundIsCycle, CycleIsFound, FirstFinds, SameMembers, CycleLasts, TradesCommute, RunEnds, RunsAgree, SameRuns, StagedOnce, RunIsStaged, NoGroupGains, NoAgentGains, NobodyBossy, SomebodyWorse}
use Rattle.trading.proofs.Economies.{all_waiting_row}
use Rattle.trading.proofs.Rankings.{better_preferred, preferred_better}
use Rattle.trading.proofs.Points.{best_open, best_only}
use Rattle.trading.proofs.Agents.{among_first}
use Rattle.trading.proofs.Circles.{Exchanges, exchanges_agree}
use Rattle.trading.proofs.Cycles.{cycle_circles, same_cycle}
use Rattle.trading.proofs.Runs.{run_exchanges}
use Rattle.trading.proofs.Alike.{run_same}
use Rattle.trading.proofs.Through.{cycle_from, through_is_cycle, cycle_found, meets_cycle, on_cycle_found}
use Rattle.trading.proofs.Stages.{stages_nobody, stages_end, stages_exchanges}
use Rattle.trading.proofs.Lasting.{cycles_commute}
use Rattle.trading.proofs.Capacities as capacities
use Rattle.trading.proofs.Circles as circles
use Rattle.trading.proofs.Efficiency as efficiency
use Rattle.trading.proofs.Lasting as lasting
use Rattle.trading.proofs.Profiles as profiles
use Rattle.trading.proofs.Rankings as rankings
use Rattle.trading.proofs.Stages as stages

pub better_in_words : BetterInWords
better_in_words r x y = (better_preferred r x y, preferred_better r x y)

pub equally_good : EquallyGood
equally_good = rankings.equally_good

pub points_at_best : PointsAtBest
points_at_best M R A a = (
  best_open M A (R a),
  λ x o other. elim (cases_lt (rank (R a) (points_at M R A a)) (rank (R a) x)) [
    | inl h ↦ h
    | inr h ↦ absurd (other (best_only M A (R a) x o h))
  ],
)

pub all_waiting_proper : AllWaitingProper
all_waiting_proper = all_waiting_row

pub trade_proper : TradeProper
trade_proper M R A c proper y = circles.trade_proper (cycle_circles y) proper

pub trade_within : TradeWithin
trade_within M R A c within y = capacities.trade_within y within

pub outcome_within : OutcomeWithin
outcome_within M R E e = capacities.outcome_within e

pub walk_meets_cycle : WalkMeetsCycle
walk_meets_cycle M R A a law proper w =
    let t = meets_cycle M R law proper a w in
    let c = on_cycle_found M R law proper (walk (next M R A) t.0 a) (ap is_some t.3) in
    (t.0, c.0, omega (arith, t.2, proper.size), c.1, c.2)

pub found_is_cycle : FoundIsCycle
found_is_cycle M R A a c law proper = through_is_cycle M R law proper a c

pub cycle_is_found : CycleIsFound
cycle_is_found M R A c a law proper y i =
    let r = cycle_found M R law proper c y a i in
    let f = through_is_cycle M R law proper a r.0 r.1 in
    (r.0, r.1, same_cycle f.0 y a (subst (λ (x : List Agent). among x a ≡ true) (sym f.1.1) (among_first a f.1.0)) i)

pub first_finds : FirstFinds
first_finds M R A a c y = cycle_from y

pub same_members : SameMembers
same_members M R A c d a y z i j = same_cycle y z a i j

pub cycle_lasts : CycleLasts
cycle_lasts M R A c d law proper y z apart = lasting.cycle_lasts law proper y z apart

pub trades_commute : TradesCommute
trades_commute M R A c d law proper y z apart = cycles_commute law proper y z apart

pub run_ends : RunEnds
run_ends M R A law proper = stages.run_ends M R law proper

pub runs_agree : RunsAgree
runs_agree M R A E F law proper e f = exchanges_agree law proper e.nobody f.nobody (run_exchanges e.run) (run_exchanges f.run)

pub same_runs : SameRuns
same_runs T U capacities R A E cs size same proper run = run_same T U capacities R size same proper run

pub staged_once : StagedOnce
staged_once M R law = (last, λ E staged. exchanges_agree law proper (stages_nobody staged) (stages_nobody last) (exchanges staged) (exchanges last))
  where
    proper : RowIn M (all_waiting M.agents)
    proper = all_waiting_row M

    last : Staged M R (last_row M R)
    last = stages_end M R law proper

    exchanges : {E : Row} → Staged M R E → Exchanges M R (all_waiting M.agents) E
    exchanges = stages_exchanges M R law proper

pub run_is_staged : RunIsStaged
run_is_staged M R E law e =
    let proper = all_waiting_row M in
    let last = stages_end M R law proper in
    subst (Staged M R) (exchanges_agree law proper (stages_nobody last) e.nobody (stages_exchanges M R law proper last) (run_exchanges e.run)) last

pub no_group_gains : NoGroupGains
no_group_gains M R S A E F G law proper differ e f good = profiles.no_group_gains law proper e f G differ good

pub no_agent_gains : NoAgentGains
no_agent_gains M R S A E F i law proper differ e f = profiles.no_agent_gains law proper e f i differ

pub nobody_bossy : NobodyBossy
nobody_bossy M R S A E F i law proper differ e f same = profiles.nobody_bossy law proper e f i differ same

pub somebody_worse : SomebodyWorse
somebody_worse M R E e = efficiency.somebody_worse e
