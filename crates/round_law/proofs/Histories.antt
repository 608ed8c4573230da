-- Histories: what a round holds after its calls, read off those that were accepted.
use Rattle.std.proofs.Common.{◌≡◌, ℕ, zero, suc, cond, ◌⊎◌, List, [], ◌∷◌, ◌++◌, length, get_or, replicate, Some, None, Option, sym, refl, ap, ◌∙◌, subst, inl, inr}
use Rattle.market.specs.declared.agent.Agent.{Agent}
use Rattle.market.specs.declared.refusal.Refusal.{Refusal}
use Rattle.market.specs.Rows.{AgentIn}
use Rattle.market.specs.Rules.{Terms, Lawful}
use Rattle.trading.specs.Cycles.{same_agent}
use Rattle.trading.specs.Rankings.{Ranking}
use Rattle.trading.proofs.Rows.{none≢some}
use Rattle.round_law.specs.declared.phase.Phase.TheVariants.{Blank, Filing}
use Rattle.round_law.specs.Calls.{Call, OPEN, FILE, CLOSE, TRADE, FINISH}
use Rattle.round_law.specs.Choosing.{perhaps, cycle_of, cycle_ahead}
use Rattle.round_law.specs.Histories.{from, after, Reached, accepted_from, accepted, last_filed, opening}
use Rattle.round_law.specs.Laws.{OpenedWith}
use Rattle.round_law.specs.Refusing.{refusal}
use Rattle.round_law.specs.States.{State, blank, economy_of, profile}
use Rattle.round_law.specs.Steps.{opened, filed, closed, traded, finished, made, step}
use Rattle.round_law.proofs.Accepting.{open_accepted, file_accepted}
use Rattle.round_law.proofs.Departing.{set_agent}
use Rattle.round_law.proofs.Refusing.{blank≢filing, blank≢trading, blank≢ended, filing≢trading, filing≢ended, step_cases, close_parts, trade_parts, finish_parts}
use Rattle.round_law.proofs.Sound.{Closed, traded_closed, Opened, opened_opened, filed_opened, from_opened}

-- ONE CALL MORE

from_more : (T : Terms) (calls : List Call) (s : State) (call : Call) → from T s (calls ++ call ∷ []) ≡ step T (from T s calls) call
from_more T [] s call = refl
from_more T (first ∷ calls) s call = from_more T calls (step T s first) call

-- A call that makes of a round what `step` says takes its history on.
pub after_more : (T : Terms) (h : List Call) (X Y : State) (call : Call) → X ≡ after T h → Y ≡ step T X call → Y ≡ after T (h ++ call ∷ [])
after_more T h X Y call x y = y ∙ ap (λ (s : State). step T s call) x ∙ sym (from_more T h blank call)

-- So what can be reached goes on from call to call.
pub reached_new : (T : Terms) → Reached T blank
reached_new T = ([], refl)

pub reached_more : (T : Terms) (X Y : State) (call : Call) → Reached T X → Y ≡ step T X call → Reached T Y
reached_more T X Y call x y = (x.0 ++ call ∷ [], after_more T x.0 X Y call x.1 y)

-- ONCE CLOSED a round keeps its capacities and rankings

-- A round is closed still, with the same capacities and rankings.
pub record Kept (s t : State) : Type 0 where
  pub capacities : t.capacities ≡ s.capacities
  pub rankings : t.rankings ≡ s.rankings
  pub closed_still : Closed t

kept_on : {s t u : State} → Kept s t → Kept t u → Kept s u
kept_on k l = record { capacities = l.capacities ∙ k.capacities; rankings = l.rankings ∙ k.rankings; closed_still = l.closed_still }

kept_same : (s : State) → Closed s → Kept s s
kept_same s at = record { capacities = refl; rankings = refl; closed_still = at }

not_filing : (s : State) → Closed s → s.phase ≡ Filing → ⊥
not_filing s at f = elim at [ inl t ↦ filing≢trading (sym f ∙ t) | inr e ↦ filing≢ended (sym f ∙ e) ]

not_blank : (s : State) → Closed s → s.phase ≡ Blank → ⊥
not_blank s at b = elim at [ inl t ↦ blank≢trading (sym b ∙ t) | inr e ↦ blank≢ended (sym b ∙ e) ]

module _ (T : Terms) where
  traded_kept : (s : State) (c : List Agent) → Kept s (traded T s c)
  traded_kept s c = record { capacities = refl; rankings = refl; closed_still = traded_closed T s c }

  trade_kept : (s : State) → Closed s → (x : Option (List Agent)) → Kept s (perhaps s (traded T s) x)
  trade_kept s at None = kept_same s at
  trade_kept s at (Some c) = traded_kept s c

  pub finished_kept : (k : ℕ) (s : State) → Closed s → Kept s (finished T k s)
  finished_kept zero s at = kept_same s at
  finished_kept (suc k) s at = go (finished_kept k) (cycle_ahead (economy_of T s) (profile s) s.row)
    where
      go : ((t : State) → Closed t → Kept t (finished T k t)) → (x : Option (List Agent)) → Kept s (perhaps s (λ c. finished T k (traded T s c)) x)
      go ih None = kept_same s at
      go ih (Some c) = kept_on (traded_kept s c) (ih (traded T s c) (traded_closed T s c))

  pub made_kept : (s : State) (call : Call) → Closed s → refusal T s call ≡ None → Kept s (made T s call)
  made_kept s (OPEN n cs) at e = absurd (not_blank s at ((open_accepted T s n cs).0 e).0)
  made_kept s (FILE a r) at e = absurd (not_filing s at ((file_accepted T s a r).0 e).filing)
  made_kept s CLOSE at e = absurd (not_filing s at (close_parts T s e))
  made_kept s (TRADE a) at e = trade_kept s at (cycle_of (economy_of T s) (profile s) s.row a)
  made_kept s FINISH at e = finished_kept T.agents s at

  pub from_kept : (calls : List Call) (s : State) → Closed s → Kept s (from T s calls)
  from_kept [] s at = kept_same s at
  from_kept (call ∷ calls) s at =
      let k = first in
      kept_on k (from_kept calls (step T s call) k.closed_still)
    where
      first : Kept s (step T s call)
      first = elim (step_cases T s call) [
        | inl m ↦ subst (Kept s) (sym m.1) (made_kept s call at m.0)
        | inr r ↦ subst (Kept s) (sym r.2) (kept_same s at)
      ]

-- IN FILING a round holds for each agent the list of its last FILE

pub filed_profile : (s : State) (a : Agent) (r : Ranking) → AgentIn (length s.rankings) a → (b : Agent) → profile (filed s a r) b ≡ cond (same_agent a b) r (profile s b)
filed_profile s a r known b = set_agent [] s.rankings a b r known

-- What follows from a round in filing: its capacities stay, and its rankings are those last filed.
pub record Follows (T : Terms) (s : State) (calls : List Call) : Type 0 where
  pub capacities : (from T s calls).capacities ≡ s.capacities
  pub rankings : (a : Agent) → profile (from T s calls) a ≡ last_filed a (profile s a) (accepted_from T s calls)

-- The same of the state t to which a call leads from s, with the calls that are accepted from s on.
abbrev Fits : Terms → State → List Call → State → List Call → Type 0
Fits T s calls t accepted = ((from T t calls).capacities ≡ s.capacities) × ((a : Agent) → profile (from T t calls) a ≡ last_filed a (profile s a) accepted)

module _ (T : Terms) (s : State) (o : Opened T s) (at : s.phase ≡ Filing) (calls : List Call) (ih : (t : State) → Opened T t → t.phase ≡ Filing → Follows T t calls) where
  made_follows : (call : Call) → refusal T s call ≡ None → Fits T s calls (made T s call) (call ∷ accepted_from T (made T s call) calls)
  made_follows (OPEN n cs) e = absurd (o.past_blank ((open_accepted T s n cs).0 e).0)
  made_follows (FILE b r) e =
      let fit = (file_accepted T s b r).0 e in
      let f = ih (filed s b r) (filed_opened T s o b r fit) at in
      let known = subst (λ (n : ℕ). AgentIn n b) (sym o.agents) fit.known in
      (f.capacities, λ a. f.rankings a ∙ ap (λ (x : Ranking). last_filed a x (accepted_from T (filed s b r) calls)) (filed_profile s b r known a))
  made_follows CLOSE e = let k = from_kept T calls (closed s) (inl refl) in (k.capacities, λ a. ap (λ (x : List Ranking). get_or ([] ∷ x) a.number []) k.rankings)
  made_follows (TRADE b) e = absurd (filing≢trading (sym at ∙ trade_parts T s b e))
  made_follows FINISH e = absurd (filing≢trading (sym at ∙ finish_parts T s e))

  step_follows : (call : Call) → Fits T s calls (step T s call) (accepted_from T s (call ∷ calls))
  step_follows call = go (refusal T s call) refl
    where
      go : (x : Option Refusal) → refusal T s call ≡ x → Fits T s calls (perhaps (made T s call) (λ reason. s) x)
          (perhaps (call ∷ accepted_from T (perhaps (made T s call) (λ reason. s) x) calls) (λ reason. accepted_from T (perhaps (made T s call) (λ reason. s) x) calls) x)
      go None e = made_follows call e
      go (Some reason) e = let f = ih s o at in (f.capacities, f.rankings)

pub follows : (T : Terms) (calls : List Call) (s : State) → Opened T s → s.phase ≡ Filing → Follows T s calls
follows T [] s o at = record { capacities = refl; rankings = λ a. refl }
follows T (call ∷ calls) s o at = let f = step_follows T s o at calls (follows T calls) call in record { capacities = f.0; rankings = f.1 }

-- FROM THE BEGINNING a round is blank, or was opened once

-- A round that was opened, and what it holds by the calls that were accepted.
pub record Begun (T : Terms) (s : State) (calls : List Call) : Type 0 where
  pub agents : ℕ
  pub capacities : List ℕ
  pub opening_call : opening calls ≡ Some (OPEN agents capacities)
  pub holds : s.capacities ≡ capacities
  pub sound : Opened T s
  pub rankings : (a : Agent) → profile s a ≡ last_filed a [] calls

-- A round is still blank, or begun.
abbrev BlankOrBegun : Terms → State → List Call → Type 0
BlankOrBegun T s calls = ((s ≡ blank) × (calls ≡ [])) ⊎ Begun T s calls

no_rankings : (n j : ℕ) → get_or {A = Ranking} ([] ∷ replicate n []) j [] ≡ []
no_rankings n zero = refl
no_rankings zero (suc j) = refl
no_rankings (suc n) (suc j) = no_rankings n j

module _ (T : Terms) (law : Lawful T) where
  made_begun : (calls : List Call) (call : Call) → refusal T blank call ≡ None → Begun T (from T (made T blank call) calls) (call ∷ accepted_from T (made T blank call) calls)
  made_begun calls (OPEN n cs) e =
      let o = opened_opened T n cs ((open_accepted T blank n cs).0 e).1 in
      let f = follows T calls (opened n cs) o refl in
      record {
        agents = n;
        capacities = cs;
        opening_call = refl;
        holds = f.capacities;
        sound = from_opened T law calls (opened n cs) o;
        rankings = λ a. f.rankings a ∙ ap (λ (x : Ranking). last_filed a x (accepted_from T (opened n cs) calls)) (no_rankings n a.number);
      }
  made_begun calls (FILE a r) e = absurd (blank≢filing ((file_accepted T blank a r).0 e).filing)
  made_begun calls CLOSE e = absurd (blank≢filing (close_parts T blank e))
  made_begun calls (TRADE a) e = absurd (blank≢trading (trade_parts T blank a e))
  made_begun calls FINISH e = absurd (blank≢trading (finish_parts T blank e))

  begun : (calls : List Call) → BlankOrBegun T (after T calls) (accepted T calls)
  begun [] = inl (refl, refl)
  begun (call ∷ calls) = go (begun calls) (refusal T blank call) refl
    where
      go : BlankOrBegun T (after T calls) (accepted T calls) → (x : Option Refusal) → refusal T blank call ≡ x
          → BlankOrBegun T (from T (perhaps (made T blank call) (λ reason. blank) x) calls)
          (perhaps (call ∷ accepted_from T (perhaps (made T blank call) (λ reason. blank) x) calls) (λ reason. accepted_from T (perhaps (made T blank call) (λ reason. blank) x) calls) x)
      go ih None e = inr (made_begun calls call e)
      go ih (Some reason) e = ih

  -- A round that was opened with n agents and the capacities cs holds these.
  pub begun_with : (h : List Call) (n : ℕ) (cs : List ℕ) → OpenedWith n cs T h → Begun T (after T h) (accepted T h) × ((after T h).capacities ≡ cs)
  begun_with h n cs e = elim (begun h) [
    | inl b ↦ absurd (none≢some (ap opening (sym b.1) ∙ e))
    | inr b ↦ (b, b.holds ∙ one b.agents b.capacities (sym b.opening_call ∙ e))
  ]
    where
      one : (m : ℕ) (ds : List ℕ) → Some (OPEN m ds) ≡ Some (OPEN n cs) → ds ≡ cs
      one m ds e = cc

  -- A round that calls have led to is blank or open.
  pub blank_or_opened : (X : State) → Reached T X → (X ≡ blank) ⊎ Opened T X
  blank_or_opened X x = elim (begun x.0) [ inl b ↦ inl (x.1 ∙ b.0) | inr b ↦ inr (subst (Opened T) (sym x.1) b.sound) ]

  pub past_blank_opened : (X : State) → Reached T X → (X.phase ≡ Blank → ⊥) → Opened T X
  past_blank_opened X x n = elim (blank_or_opened X x) [ inl b ↦ absurd (n (ap (λ (s : State). s.phase) b)) | inr o ↦ o ]
