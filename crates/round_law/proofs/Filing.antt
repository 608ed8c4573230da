-- FILE touches one record only, and what a round holds is in range.
use Rattle.std.proofs.Common.{◌≡◌, ℕ, ◌≤◌, None, sym, refl, ap, ◌∙◌, subst, inl, inr, le_refl, arith, lit≤}
use Rattle.std.proofs.lemmas.Bool.{eq-eqb, ne_eqb}
use Rattle.market.specs.declared.agent.Agent.{Agent}
use Rattle.market.specs.Rows.{AgentIn}
use Rattle.market.specs.Rules.{Terms}
use Rattle.trading.specs.Rankings.{Ranking}
use Rattle.trading.proofs.Capacities.{run_within, none_taken}
use Rattle.trading.proofs.Economies.{row_economy}
use Rattle.round_law.specs.Calls.{Call, OPEN, FILE, CLOSE, TRADE, FINISH}
use Rattle.round_law.specs.declared.phase.Phase.{Phase}
use Rattle.round_law.specs.declared.phase.Phase.TheVariants.{Trading}
use Rattle.round_law.specs.Contents.{Filed, Contents}
use Rattle.round_law.specs.Laws.{FilingRight, ContentsRight, PhasesForward}
use Rattle.round_law.specs.Refusing.{refusal}
use Rattle.round_law.specs.States.{State, phase_number}
use Rattle.round_law.specs.Steps.{filed, made}
use Rattle.round_law.proofs.Accepting.{open_accepted, file_accepted}
use Rattle.round_law.proofs.Departing.{lines_waiters}
use Rattle.round_law.proofs.Histories.{filed_profile, made_kept, past_blank_opened}
use Rattle.round_law.proofs.Records.{lines_run}
use Rattle.round_law.proofs.Refusing.{blank≢filing, blank≢trading, blank≢ended, step_cases, step_made, close_parts, trade_parts, finish_parts}
use Rattle.round_law.proofs.Sound.{Closed, Opened, row_proper}
use Rattle.round_law.proofs.Waiting.{none_wait, somebody, waiters_all}

filed_is : (T : Terms) (s : State) → Opened T s → (a : Agent) (r : Ranking) → AgentIn T.agents a → Filed s (filed s a r) a r
filed_is T s o a r known =
    let profiles = filed_profile s a r (subst (λ (n : ℕ). AgentIn n a) (sym o.agents) known) in
    record {
      ranking = rw (eq-eqb a.number a.number refl) at (profiles a);
      others = λ b n. let other : a.number ≡ b.number → ⊥ = λ e. n (ap (λ (k : ℕ). record { number = k }) (sym e)) in rw (ne_eqb a.number b.number other) at (profiles b);
      phase = refl;
      capacities = refl;
      row = refl;
      cycles = refl;
    }

pub law_of_filing : FilingRight
law_of_filing T law X x a r fine =
    let fit = (file_accepted T X a r).0 fine in
    let o = past_blank_opened T law X x (λ b. blank≢filing (sym b ∙ fit.filing)) in
    subst (λ (t : State). Filed X t a r) (sym (step_made T X (FILE a r) fine)) (filed_is T X o a r fit.known)

pub contents : (T : Terms) (s : State) → Opened T s → Contents T s
contents T s o = record {
  market = o.market;
  agents = o.agents;
  rankings = o.rankings;
  row = row_economy T s.capacities o.market.places s.row (row_proper T s o);
  within = run_within (lines_run o.lines) (λ p. omega (arith, none_taken T.agents p));
  members = sym (lines_waiters o.lines) ∙ waiters_all T.agents;
}

pub law_of_contents : ContentsRight
law_of_contents T law X x = (
  record {
    filing = λ at. ((past_blank_opened T law X x (λ b. blank≢filing (sym b ∙ at))).filing at).1;
    trading = λ at. somebody X.row ((past_blank_opened T law X x (λ b. blank≢trading (sym b ∙ at))).trading at);
    ended = λ at. none_wait X.row ((past_blank_opened T law X x (λ b. blank≢ended (sym b ∙ at))).ended at);
  },
  λ past. contents T X (past_blank_opened T law X x past),
)

-- NO CALL LEADS BACK

closed_late : (s : State) → Closed s → 2 ≤ phase_number s.phase
closed_late s at = elim at [ inl t ↦ rw t (lit≤ tt) | inr e ↦ rw e (lit≤ tt) ]

trading_forward : (T : Terms) (s : State) (call : Call) → refusal T s call ≡ None → s.phase ≡ Trading → phase_number s.phase ≤ phase_number (made T s call).phase
trading_forward T s call e t = subst (λ (p : Phase). phase_number p ≤ phase_number (made T s call).phase) (sym t) (closed_late (made T s call) (made_kept T s call (inl t) e).closed_still)

made_forward : (T : Terms) (s : State) (call : Call) → refusal T s call ≡ None → phase_number s.phase ≤ phase_number (made T s call).phase
made_forward T s (OPEN n cs) e = rw ((open_accepted T s n cs).0 e).0 (lit≤ tt)
made_forward T s (FILE a r) e = le_refl (phase_number s.phase)
made_forward T s CLOSE e = rw (close_parts T s e) (lit≤ tt)
made_forward T s (TRADE a) e = trading_forward T s (TRADE a) e (trade_parts T s a e)
made_forward T s FINISH e = trading_forward T s FINISH e (finish_parts T s e)

pub phases_forward : PhasesForward
phases_forward T s call = elim (step_cases T s call) [
  | inl m ↦ rw m.1 (made_forward T s call m.0)
  | inr r ↦ rw r.2 (le_refl (phase_number s.phase))
]
