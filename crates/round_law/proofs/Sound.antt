-- What holds of an open round after every call: the lines of its record lead from all agents waiting to its row.
use Rattle.std.proofs.Common.{◌≡◌, ℕ, zero, suc, ◌-◌, ◌≤◌, ◌⊎◌, List, [], ◌∷◌, ◌++◌, length, replicate, Some, None, Option, sym, refl, ap, ◌∙◌, subst, inl, inr, arith}
use Rattle.std.proofs.ByRecursion.{All-set}
use Rattle.std.proofs.lemmas.List.{length-replicate, length-set}
use Rattle.std.proofs.lemmas.List.Sums.{count_by-le-length}
use Rattle.std.specs.List.{AllByRecursion}
use Rattle.market.specs.declared.agent.Agent.{Agent}
use Rattle.market.specs.Data.{RankingOf}
use Rattle.market.specs.Rows.{Row, is_waiting}
use Rattle.market.specs.Rules.{Terms, Lawful}
use Rattle.trading.specs.Cycles.{among, Cycle}
use Rattle.trading.specs.Economies.{economy, terms_of, RowIn, all_waiting}
use Rattle.trading.specs.Rankings.{Ranking}
use Rattle.trading.specs.Rooms.{waiters}
use Rattle.trading.specs.Trades.{next, walk, trade}
use Rattle.trading.proofs.Cycles.{cycle_circles}
use Rattle.trading.proofs.Economies.{economy_lawful, all_waiting_row}
use Rattle.trading.proofs.Runs.{run_proper}
use Rattle.trading.proofs.Stages.{fewer_wait}
use Rattle.round_law.specs.declared.member.Member.{Member}
use Rattle.round_law.specs.declared.phase.Phase.TheVariants.{Blank, Filing, Trading, Ended}
use Rattle.round_law.specs.Calls.{Call, OPEN, FILE, CLOSE, TRADE, FINISH}
use Rattle.round_law.specs.Choosing.{perhaps, cycle_of}
use Rattle.round_law.specs.Contents.{MarketFor, Fileable}
use Rattle.round_law.specs.Histories.{from}
use Rattle.round_law.specs.Records.{FromLowest, Lines, none}
use Rattle.round_law.specs.Refusing.{refusal}
use Rattle.round_law.specs.States.{State, economy_of, profile}
use Rattle.round_law.specs.Steps.{opened, filed, closed, members, row_after, traded, finished, made, step}
use Rattle.round_law.proofs.Accepting.{open_accepted, file_accepted}
use Rattle.round_law.proofs.Choosing.{cycle_of_is, Found, ahead}
use Rattle.round_law.proofs.Records.{agents_of_members, line_of_cycle, lines_run, lines_more}
use Rattle.round_law.proofs.Refusing.{blank≢filing, blank≢trading, blank≢ended, filing≢trading, filing≢ended, trading≢ended, step_cases, close_parts, finish_parts}
use Rattle.round_law.proofs.Waiting.{nobody_counts, waiters_all, phase_at_either}

-- The rankings are closed.
abbrev pub Closed : State → Type 0
Closed s = (s.phase ≡ Trading) ⊎ (s.phase ≡ Ended)

pub traded_closed : (T : Terms) (s : State) (c : List Agent) → Closed (traded T s c)
traded_closed T s c = elim (phase_at_either (row_after T s c)) [ inl t ↦ inl t.0 | inr e ↦ inr e.0 ]

-- A round is open, and its row is where its record has led.
pub record Opened (T : Terms) (s : State) : Type 0 where
  pub past_blank : s.phase ≡ Blank → ⊥
  pub market : MarketFor T T.agents s.capacities
  pub agents : length s.rankings ≡ T.agents
  pub rankings : AllByRecursion (RankingOf T.places) s.rankings
  pub lines : Lines (economy_of T s) (profile s) (all_waiting T.agents) s.cycles s.row
  pub filing : s.phase ≡ Filing → (s.cycles ≡ []) × (s.row ≡ all_waiting T.agents)
  pub trading : s.phase ≡ Trading → 1 ≤ waiters s.row
  pub ended : s.phase ≡ Ended → waiters s.row ≡ 0

module _ (T : Terms) (s : State) (o : Opened T s) where
  pub row_proper : RowIn (economy_of T s) s.row
  row_proper = run_proper (all_waiting_row (economy_of T s)) (lines_run o.lines)

  pub round_lawful : Lawful T → Lawful (terms_of (economy_of T s))
  round_lawful = economy_lawful T s.capacities o.market.places

-- OPEN, FILE AND CLOSE

none_ranked : (m n : ℕ) → AllByRecursion (RankingOf m) (replicate n [])
none_ranked m zero = tt
none_ranked m (suc n) = (record { known = tt; once = tt }, none_ranked m n)

pub opened_opened : (T : Terms) (n : ℕ) (cs : List ℕ) → MarketFor T n cs → Opened T (opened n cs)
opened_opened T n cs m = record {
  past_blank = λ b. blank≢filing (sym b);
  market = subst (λ (k : ℕ). MarketFor T k cs) m.agents m;
  agents = length-replicate n [] ∙ m.agents;
  rankings = none_ranked T.places n;
  lines = subst (λ (k : ℕ). Lines (economy T cs) (profile (opened n cs)) (all_waiting k) [] (all_waiting n)) m.agents none;
  filing = λ f. (refl, ap all_waiting m.agents);
  trading = λ t. absurd (filing≢trading t);
  ended = λ t. absurd (filing≢ended t);
}

pub filed_opened : (T : Terms) (s : State) → Opened T s → (a : Agent) (r : Ranking) → Fileable T s a r → Opened T (filed s a r)
filed_opened T s o a r fit =
    let f = o.filing fit.filing in
    record {
      past_blank = o.past_blank;
      market = o.market;
      agents = length-set s.rankings (a.number - 1) r ∙ o.agents;
      rankings = All-set (RankingOf T.places) s.rankings (a.number - 1) r fit.ranking o.rankings;
      lines = subst (λ (cs : List (List Member)). Lines (economy_of T s) (profile (filed s a r)) (all_waiting T.agents) cs s.row) (sym f.0)
          (subst (λ (A : Row). Lines (economy_of T s) (profile (filed s a r)) (all_waiting T.agents) [] A) (sym f.1) none);
      filing = o.filing;
      trading = o.trading;
      ended = o.ended;
    }

pub closed_opened : (T : Terms) (s : State) → Opened T s → s.phase ≡ Filing → Opened T (closed s)
closed_opened T s o at = record {
  past_blank = λ b. blank≢trading (sym b);
  market = o.market;
  agents = o.agents;
  rankings = o.rankings;
  lines = o.lines;
  filing = λ f. absurd (filing≢trading (sym f));
  trading = λ t. let w : waiters s.row ≡ T.agents = ap waiters (o.filing at).1 ∙ waiters_all T.agents in let n = o.market.some_agents in omega arith;
  ended = λ e. absurd (trading≢ended e);
}

-- TRADE AND FINISH

module _ (T : Terms) (law : Lawful T) where
  -- A cycle trades.
  pub traded_opened : (s : State) → Opened T s → (c : List Agent) → Cycle (economy_of T s) (profile s) s.row c → FromLowest c → Opened T (traded T s c)
  traded_opened s o c y low = record {
    past_blank = λ b. elim (phase_at_either (row_after T s c)) [ inl t ↦ blank≢trading (sym b ∙ t.0) | inr e ↦ blank≢ended (sym b ∙ e.0) ];
    market = o.market;
    agents = o.agents;
    rankings = o.rankings;
    lines = subst (λ (d : List Agent). Lines (economy_of T s) (profile s) (all_waiting T.agents) (s.cycles ++ members (economy_of T s) (profile s) s.row c ∷ []) (trade (economy_of T s) (profile s) s.row (among d)))
        (agents_of_members (economy_of T s) (profile s) s.row c)
        (lines_more o.lines (line_of_cycle (economy_of T s) (profile s) s.row c y low));
    filing = λ f. elim (phase_at_either (row_after T s c)) [ inl t ↦ absurd (filing≢trading (sym f ∙ t.0)) | inr e ↦ absurd (filing≢ended (sym f ∙ e.0)) ];
    trading = λ f. elim (phase_at_either (row_after T s c)) [ inl t ↦ t.1 | inr e ↦ absurd (trading≢ended (sym f ∙ e.0)) ];
    ended = λ f. elim (phase_at_either (row_after T s c)) [ inl t ↦ absurd (trading≢ended (sym t.0 ∙ f)) | inr e ↦ e.1 ];
  }

  pub trade_opened : (s : State) → Opened T s → (a : Agent) → Opened T (perhaps s (traded T s) (cycle_of (economy_of T s) (profile s) s.row a))
  trade_opened s o a = go (cycle_of (economy_of T s) (profile s) s.row a) refl
    where
      go : (x : Option (List Agent)) → cycle_of (economy_of T s) (profile s) s.row a ≡ x → Opened T (perhaps s (traded T s) x)
      go None e = o
      go (Some c) e = let y = cycle_of_is (economy_of T s) (profile s) (round_lawful T s o law) (row_proper T s o) a c e in traded_opened s o c y.0 y.2

  -- The cycle that is found trades: the round stays open, and fewer wait.
  pub found_opened : (s : State) (o : Opened T s) (a : Agent) (c : List Agent) (i : ℕ) → Found (economy_of T s) (profile s) (round_lawful T s o law) (row_proper T s o) a c i
      → Opened T (traded T s c) × (suc (waiters (row_after T s c)) ≤ waiters s.row)
  found_opened s o a c i f = (traded_opened s o c f.is_cycle f.from_lowest, fewer_wait (cycle_circles f.is_cycle) (walk (next (economy_of T s) (profile s) s.row) i a) f.on)

  -- FINISH trades cycles only, until nobody waits.
  pub finished_opened : (k : ℕ) (s : State) → Opened T s → Closed s → waiters s.row ≤ k → Opened T (finished T k s) × ((finished T k s).phase ≡ Ended)
  finished_opened zero s o at h = (o, elim at [ inl t ↦ absurd (let w = o.trading t in omega arith) | inr e ↦ e ])
  finished_opened (suc k) s o at h = elim (ahead (economy_of T s) (profile s) (round_lawful T s o law) (row_proper T s o)) [
    | inl r ↦ (let e = r.0 in rw e (o, elim at [ inl t ↦ absurd (let w = o.trading t in let n = nobody_counts s.row r.1 in omega arith) | inr d ↦ d ]))
    | inr r ↦ (let c = r.1 in let e = r.3.found in let f = found_opened s o r.0 c r.2 r.3 in
        rw e (finished_opened k (traded T s c) f.0 (traded_closed T s c) (omega (arith, f.1))))
  ]

  pub finish_opened : (s : State) → Opened T s → Closed s → Opened T (finished T T.agents s) × ((finished T T.agents s).phase ≡ Ended)
  finish_opened s o at = finished_opened T.agents s o at (omega (arith, count_by-le-length is_waiting s.row, (row_proper T s o).size))

  -- EVERY CALL

  made_opened : (s : State) (call : Call) → Opened T s → refusal T s call ≡ None → Opened T (made T s call)
  made_opened s (OPEN n cs) o e = absurd (o.past_blank ((open_accepted T s n cs).0 e).0)
  made_opened s (FILE a r) o e = filed_opened T s o a r ((file_accepted T s a r).0 e)
  made_opened s CLOSE o e = closed_opened T s o (close_parts T s e)
  made_opened s (TRADE a) o e = trade_opened s o a
  made_opened s FINISH o e = (finish_opened s o (inl (finish_parts T s e))).0

  pub step_opened : (s : State) (call : Call) → Opened T s → Opened T (step T s call)
  step_opened s call o = elim (step_cases T s call) [
    | inl m ↦ subst (Opened T) (sym m.1) (made_opened s call o m.0)
    | inr r ↦ subst (Opened T) (sym r.2) o
  ]

  pub from_opened : (calls : List Call) (s : State) → Opened T s → Opened T (from T s calls)
  from_opened [] s o = o
  from_opened (call ∷ calls) s o = from_opened calls (step T s call) (step_opened s call o)
