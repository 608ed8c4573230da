-- Refusals: what an accepted call tells of the round, and the two ways of a step.
use Rattle.std.proofs.Common.{◌≡◌, ℕ, Bool, true, false, ◌⊎◌, Some, None, Option, refl, ap, inl, inr, arith}
use Rattle.std.proofs.lemmas.Bool.{both_ways}
use Rattle.market.specs.declared.agent.Agent.{Agent}
use Rattle.market.specs.declared.refusal.Refusal.{Refusal}
use Rattle.market.specs.Rules.{Terms}
use Rattle.round_law.specs.declared.phase.Phase.{Phase}
use Rattle.round_law.specs.declared.phase.Phase.TheVariants.{Blank, Filing, Trading, Ended}
use Rattle.round_law.specs.Calls.{Call, CLOSE, TRADE, FINISH}
use Rattle.round_law.specs.Choosing.{perhaps}
use Rattle.round_law.specs.Laws.{RefusalsKeep}
use Rattle.round_law.specs.Refusing.{unless, refusal}
use Rattle.round_law.specs.States.{State, is_blank, is_filing, is_trading}
use Rattle.round_law.specs.Steps.{made, step}

-- PHASES

pub blank≢filing : Blank ≡ Filing → ⊥
blank≢filing e = let z : ◌≡◌ {A = ℕ} 0 1 = cc in omega arith

pub blank≢trading : Blank ≡ Trading → ⊥
blank≢trading e = let z : ◌≡◌ {A = ℕ} 0 1 = cc in omega arith

pub blank≢ended : Blank ≡ Ended → ⊥
blank≢ended e = let z : ◌≡◌ {A = ℕ} 0 1 = cc in omega arith

pub filing≢trading : Filing ≡ Trading → ⊥
filing≢trading e = let z : ◌≡◌ {A = ℕ} 0 1 = cc in omega arith

pub filing≢ended : Filing ≡ Ended → ⊥
filing≢ended e = let z : ◌≡◌ {A = ℕ} 0 1 = cc in omega arith

pub trading≢ended : Trading ≡ Ended → ⊥
trading≢ended e = let z : ◌≡◌ {A = ℕ} 0 1 = cc in omega arith

pub blank_phase : (p : Phase) → is_blank p ≡ true → p ≡ Blank
blank_phase Blank e = refl
blank_phase Filing e = absurd (both_ways false refl e)
blank_phase Trading e = absurd (both_ways false refl e)
blank_phase Ended e = absurd (both_ways false refl e)

pub filing_phase : (p : Phase) → is_filing p ≡ true → p ≡ Filing
filing_phase Blank e = absurd (both_ways false refl e)
filing_phase Filing e = refl
filing_phase Trading e = absurd (both_ways false refl e)
filing_phase Ended e = absurd (both_ways false refl e)

pub trading_phase : (p : Phase) → is_trading p ≡ true → p ≡ Trading
trading_phase Blank e = absurd (both_ways false refl e)
trading_phase Filing e = absurd (both_ways false refl e)
trading_phase Trading e = refl
trading_phase Ended e = absurd (both_ways false refl e)

-- THE TWO WAYS OF A STEP

-- A call is accepted and makes of the round what it should, or is refused and changes nothing.
pub step_cases : (T : Terms) (s : State) (call : Call)
    → ((refusal T s call ≡ None) × (step T s call ≡ made T s call)) ⊎ ((reason : Refusal) × (refusal T s call ≡ Some reason) × (step T s call ≡ s))
step_cases T s call = go (refusal T s call) refl
  where
    go : (x : Option Refusal) → refusal T s call ≡ x → ((refusal T s call ≡ None) × (step T s call ≡ made T s call)) ⊎ ((reason : Refusal) × (refusal T s call ≡ Some reason) × (step T s call ≡ s))
    go None e = inl (e, ap (perhaps (made T s call) (λ reason. s)) e)
    go (Some r) e = inr (r, e, ap (perhaps (made T s call) (λ reason. s)) e)

pub step_made : (T : Terms) (s : State) (call : Call) → refusal T s call ≡ None → step T s call ≡ made T s call
step_made T s call e = ap (perhaps (made T s call) (λ reason. s)) e

pub refusals_keep : RefusalsKeep
refusals_keep T s call reason e = ap (perhaps (made T s call) (λ reason. s)) e

-- WHAT AN ACCEPTED CALL TELLS

pub unless_parts : (fine : Bool) (reason : Refusal) (others : Option Refusal) → unless fine reason others ≡ None → (fine ≡ true) × (others ≡ None)
unless_parts true reason others e = (refl, e)
unless_parts false reason others e = let z : ◌≡◌ {A = ℕ} 0 1 = cc in absurd (omega arith)

pub close_parts : (T : Terms) (s : State) → refusal T s CLOSE ≡ None → s.phase ≡ Filing
close_parts T s e = filing_phase s.phase (unless_parts (is_filing s.phase) Refusal.Phase None e).0

pub trade_parts : (T : Terms) (s : State) (a : Agent) → refusal T s (TRADE a) ≡ None → s.phase ≡ Trading
trade_parts T s a e = trading_phase s.phase (unless_parts (is_trading s.phase) Refusal.Phase _ e).0

pub finish_parts : (T : Terms) (s : State) → refusal T s FINISH ≡ None → s.phase ≡ Trading
finish_parts T s e = trading_phase s.phase (unless_parts (is_trading s.phase) Refusal.Phase None e).0
