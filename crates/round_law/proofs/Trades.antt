-- TRADE and FINISH: the cycle through an agent departs where there is one, and cycles depart until nobody waits.
use Rattle.std.proofs.Common.{◌≡◌, ℕ, zero, suc, ◌+◌, ◌-◌, ◌≤◌, Bool, true, false, leb, ◌⊎◌, List, [], ◌∷◌, ◌++◌, map, length, is_some, Some, None, Ok, Err, Option, sym, refl, ap, ◌∙◌, subst, inl, inr, arith}
use Rattle.std.proofs.lemmas.List.{length-append, length-map, map_push, append_assoc, append-nil}
use Rattle.std.proofs.lemmas.List.Sums.{count_by-le-length}
use Rattle.std.proofs.lemmas.Bool.{le-leb, and_from}
use Rattle.market.specs.declared.agent.Agent.{Agent}
use Rattle.market.specs.declared.refusal.Refusal.{Refusal}
use Rattle.market.specs.Rows.{Row, Waits, is_waiting, waits}
use Rattle.market.specs.Rules.{Terms, Lawful}
use Rattle.trading.specs.Cycles.{among}
use Rattle.trading.specs.Economies.{Economy}
use Rattle.trading.specs.Rankings.{Profile}
use Rattle.trading.specs.Rooms.{waiters}
use Rattle.trading.specs.Stages.{OnNoCycle}
use Rattle.trading.specs.Trades.{trade}
use Rattle.trading.proofs.Rows.{none≢some, waits_true, waiter_in}
use Rattle.round_law.specs.declared.phase.Phase.{Phase}
use Rattle.round_law.specs.declared.phase.Phase.TheVariants.{Trading}
use Rattle.round_law.specs.Calls.{TRADE, FINISH}
use Rattle.round_law.specs.Choosing.{perhaps, cycle_of}
use Rattle.round_law.specs.Histories.{Reached}
use Rattle.round_law.specs.Laws.{TradesRight, FinishRight}
use Rattle.round_law.specs.Trades.{Traded, WalkMeets, Finishing, over, turn, Finished}
use Rattle.round_law.specs.Refusing.{in_range, unless, refusal}
use Rattle.round_law.specs.States.{State, economy_of, profile, agents_of, is_trading}
use Rattle.round_law.specs.Steps.{members, traded, finished, step, answered, trade_answer}
use Rattle.round_law.proofs.Choosing.{lowest_only, meets_only, cycle_of_is, cycle_of_none, Found, ahead}
use Rattle.round_law.proofs.Histories.{past_blank_opened}
use Rattle.round_law.proofs.Records.{agents_of_members}
use Rattle.round_law.proofs.Refusing.{blank≢trading, trading_phase, step_made}
use Rattle.round_law.proofs.Sound.{Opened, row_proper, round_lawful, found_opened, finish_opened}
use Rattle.round_law.proofs.Waiting.{waiter_counts}

-- A round in trading is open.
trading_opened : (T : Terms) → Lawful T → (X : State) → Reached T X → X.phase ≡ Trading → Opened T X
trading_opened T law X x at = past_blank_opened T law X x (λ b. blank≢trading (sym b ∙ at))

-- TRADE

unless_fine : (a b c : Bool) (q r t : Refusal) (others : Option Refusal) → a ≡ true → b ≡ true → c ≡ true → unless a q (unless b r (unless c t others)) ≡ others
unless_fine a b c q r t others x y z = rw (x, y, z)

module _ (T : Terms) (law : Lawful T) (s : State) (o : Opened T s) (a : Agent) (at : s.phase ≡ Trading) (w : Waits s.row a) where
  -- The cycle that is found through the agent.
  abbrev found : Option (List Agent)
  found = cycle_of (economy_of T s) (profile s) s.row a

  -- Of an agent that waits only the cycle is still asked for.
  trade_refusal_is : refusal T s (TRADE a) ≡ unless (is_some found) Refusal.Cycle None
  trade_refusal_is =
      let r = waiter_in s.row a w in
      let size = (row_proper T s o).size in
      unless_fine (is_trading s.phase) (in_range 1 T.agents a.number) (waits s.row a) Refusal.Phase Refusal.Agent Refusal.Departed (unless (is_some found) Refusal.Cycle None)
      (ap is_trading at)
      (and_from (leb 1 a.number) (leb a.number T.agents) (le-leb 1 a.number r.from_one) (le-leb a.number T.agents (omega (arith, r.in_range))))
      (ap is_waiting w)

  pub trade_is : ((trade_answer T s a ≡ Err Refusal.Cycle) × OnNoCycle (economy_of T s) (profile s) s.row a) ⊎ Traded T s a
  trade_is = go found refl
    where
      go : (x : Option (List Agent)) → found ≡ x → ((trade_answer T s a ≡ Err Refusal.Cycle) × OnNoCycle (economy_of T s) (profile s) s.row a) ⊎ Traded T s a
      go None e =
          let no : refusal T s (TRADE a) ≡ Some Refusal.Cycle = trade_refusal_is ∙ ap (λ (y : Option (List Agent)). unless (is_some y) Refusal.Cycle None) e in
          inl (
            ap (λ (y : Option Refusal). answered y (length s.cycles + 1, perhaps 0 length found)) no,
            cycle_of_none (economy_of T s) (profile s) (round_lawful T s o law) (row_proper T s o) a e,
          )
      go (Some c) e =
          let fine : refusal T s (TRADE a) ≡ None = trade_refusal_is ∙ ap (λ (y : Option (List Agent)). unless (is_some y) Refusal.Cycle None) e in
          let y = cycle_of_is (economy_of T s) (profile s) (round_lawful T s o law) (row_proper T s o) a c e in
          inr (record {
            cycle = c;
            is_cycle = y.0;
            through = y.1;
            from_lowest = y.2;
            departs = step_made T s (TRADE a) fine ∙ ap (perhaps s (traded T s)) e;
            answers = ap (λ (z : Option Refusal). answered z (length s.cycles + 1, perhaps 0 length found)) fine
                ∙ ap (λ (z : Option (List Agent)). Ok (length s.cycles + 1, perhaps 0 length z)) e;
          })

answer_refused : {Y : Type 0} (x : Option Refusal) (y : Y) (reason : Refusal) → answered x y ≡ Err reason → x ≡ Some reason
answer_refused None y reason e = let z : ◌≡◌ {A = ℕ} 0 1 = cc in absurd (omega arith)
answer_refused (Some r) y reason e = let same : r ≡ reason = cc in ap (λ (x : Refusal). Some x) same

-- A refusal that is not that of the first check comes from the others.
unless_later : (fine : Bool) (first : Refusal) (others : Option Refusal) → (first ≡ Refusal.Cycle → ⊥) → unless fine first others ≡ Some Refusal.Cycle → (fine ≡ true) × (others ≡ Some Refusal.Cycle)
unless_later true first others other e = (refl, e)
unless_later false first others other e = let same : first ≡ Refusal.Cycle = cc in absurd (other same)

none_found : (x : Option (List Agent)) → unless (is_some x) Refusal.Cycle None ≡ Some Refusal.Cycle → x ≡ None
none_found None e = refl
none_found (Some c) e = absurd (none≢some e)

trade_refused : (T : Terms) → Lawful T → (X : State) → Reached T X → (a : Agent) → trade_answer T X a ≡ Err Refusal.Cycle
    → (X.phase ≡ Trading) × Waits X.row a × OnNoCycle (economy_of T X) (profile X) X.row a
trade_refused T law X x a e =
    let found = cycle_of (economy_of T X) (profile X) X.row a in
    let r = answer_refused (refusal T X (TRADE a)) (length X.cycles + 1, perhaps 0 length found) Refusal.Cycle e in
    let p = unless_later (is_trading X.phase) Refusal.Phase _ (λ z. let y : ◌≡◌ {A = ℕ} 0 1 = cc in omega arith) r in
    let q = unless_later (in_range 1 T.agents a.number) Refusal.Agent _ (λ z. let y : ◌≡◌ {A = ℕ} 0 1 = cc in omega arith) p.1 in
    let w = unless_later (waits X.row a) Refusal.Departed _ (λ z. let y : ◌≡◌ {A = ℕ} 0 1 = cc in omega arith) q.1 in
    let at = trading_phase X.phase p.0 in
    let o = trading_opened T law X x at in
    (at, waits_true X.row a w.0, cycle_of_none (economy_of T X) (profile X) (round_lawful T X o law) (row_proper T X o) a (none_found found w.1))

pub law_of_trade : TradesRight
law_of_trade T law X x a = record {
  refused = trade_refused T law X x a;
  either = λ at w. trade_is T law X (trading_opened T law X x at) a at w;
}

-- FINISH

-- Only one series of cycles finishes a row.
pub finishing_only : {M : Economy} {R : Profile} {A E F : Row} {cs ds : List (List Agent)} → Finishing M R A cs E → Finishing M R A ds F → cs ≡ ds
finishing_only (over n) (over m) = refl
finishing_only (over n) (turn b d low z first on rest) = absurd (n b low.waiting)
finishing_only (turn a c low y first on rest) (over n) = absurd (n a low.waiting)
finishing_only {M} {R} {A} {E} {F} (turn {cs} a c low y first on rest) (turn {cs = ds} b d low' z first' on' rest') =
    let there = subst (λ (x : Agent). WalkMeets M R A x d) (sym (lowest_only low low')) on' in
    let same = meets_only c d a y first on z first' there in
    let others = finishing_only rest (subst (λ (x : List Agent). Finishing M R (trade M R A (among x)) ds F) (sym same) rest') in
    cc

-- Cycles trade from one round to another, until nobody waits, and go on record.
pub record TradesOn (T : Terms) (s t : State) : Type 0 where
  pub cycles : List (List Agent)
  pub trades : Finishing (economy_of T s) (profile s) s.row cycles t.row
  pub records : map agents_of t.cycles ≡ map agents_of s.cycles ++ cycles

-- One cycle first.
trades_first : (T : Terms) (law : Lawful T) (s t : State) (o : Opened T s) (a : Agent) (c : List Agent) (i : ℕ)
    → Found (economy_of T s) (profile s) (round_lawful T s o law) (row_proper T s o) a c i → TradesOn T (traded T s c) t → TradesOn T s t
trades_first T law s t o a c i f rest = record {
  cycles = c ∷ rest.cycles;
  trades = turn a c f.start f.is_cycle f.from_lowest (i, f.on) rest.trades;
  records =
      let M = economy_of T s in
      let R = profile s in
      rest.records
      ∙ ap (λ (x : List (List Agent)). x ++ rest.cycles) (map_push agents_of s.cycles (members M R s.row c) ∙ ap (λ (x : List Agent). map agents_of s.cycles ++ x ∷ []) (agents_of_members M R s.row c))
      ∙ append_assoc (map agents_of s.cycles) (c ∷ []) rest.cycles;
}

finished_trades : (T : Terms) → Lawful T → (k : ℕ) (s : State) → Opened T s → waiters s.row ≤ k → TradesOn T s (finished T k s)
finished_trades T law zero s o few = record {
  cycles = [];
  trades = over (λ a w. omega (arith, waiter_counts s.row a w));
  records = sym (append-nil (map agents_of s.cycles));
}
finished_trades T law (suc k) s o few = elim (ahead (economy_of T s) (profile s) (round_lawful T s o law) (row_proper T s o)) [
  | inl r ↦ (let e = r.0 in rw e (record { cycles = []; trades = over r.1; records = sym (append-nil (map agents_of s.cycles)) }))
  | inr r ↦ (let e = r.3.found in let c = r.1 in
      let f = found_opened T law s o r.0 c r.2 r.3 in
      rw e (trades_first T law s (finished T k (traded T s c)) o r.0 c r.2 r.3 (finished_trades T law k (traded T s c) f.0 (omega (arith, f.1)))))
]

pub finish_is : (T : Terms) → Lawful T → (s : State) → Opened T s → s.phase ≡ Trading → Finished T s
finish_is T law s o at =
    let fine : refusal T s FINISH ≡ None = ap (λ (p : Phase). unless (is_trading p) Refusal.Phase None) at in
    let t = finished T T.agents s in
    let is : step T s FINISH ≡ t = step_made T s FINISH fine in
    let r = finished_trades T law T.agents s o (omega (arith, count_by-le-length is_waiting s.row, (row_proper T s o).size)) in
    let f = finish_opened T law s o (inl at) in
    let n : length t.cycles - length s.cycles ≡ length r.cycles =
    omega (arith, simp (length-append, length-map) at (ap length r.records)) in
    record {
      cycles = r.cycles;
      trades = subst (λ (x : State). Finishing (economy_of T s) (profile s) s.row r.cycles x.row) (sym is) r.trades;
      only = λ cs E f. finishing_only f r.trades;
      records = ap (λ (x : State). map agents_of x.cycles) is ∙ r.records;
      ends = ap (λ (x : State). x.phase) is ∙ f.1;
      answers = ap (λ (z : Option Refusal). answered z (length t.cycles - length s.cycles)) fine ∙ ap (λ (x : ℕ). Ok x) n;
    }

pub law_of_finish : FinishRight
law_of_finish T law X x at = finish_is T law X (trading_opened T law X x at) at
