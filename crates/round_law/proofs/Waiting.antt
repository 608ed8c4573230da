-- Who waits, by count: the phase once the rankings are closed.
use Rattle.std.proofs.Common.{◌≡◌, ℕ, zero, suc, ◌≤◌, cond, eqb, ◌⊎◌, [], ◌∷◌, get_or, sym, refl, ap, inl, inr, arith}
use Rattle.std.proofs.lemmas.List.Sums.{sum_by-cons}
use Rattle.std.proofs.lemmas.Bool.{cases_Bool, eqb-true, eqb-false}
use Rattle.market.specs.declared.agent.Agent.{Agent}
use Rattle.market.specs.declared.standing.Standing.{Standing}
use Rattle.market.specs.declared.standing.Standing.TheVariants.{Waiting, Placed, Unplaced}
use Rattle.market.specs.Rows.{Row, Waits, NobodyWaits, is_waiting}
use Rattle.trading.specs.Economies.{all_waiting}
use Rattle.trading.specs.Rooms.{waiters}
use Rattle.trading.proofs.Rows.{waiting≢unplaced, somebody_waits}
use Rattle.round_law.specs.declared.phase.Phase.TheVariants.{Trading, Ended}
use Rattle.round_law.specs.Steps.{phase_at}

-- How much a standing adds to the count.
abbrev share : Standing → ℕ
share s = cond (is_waiting s) 1 0

some_waiter : (A : Row) (i : ℕ) → get_or A i Unplaced ≡ Waiting → 1 ≤ waiters A
some_waiter [] i w = absurd (waiting≢unplaced (sym w))
some_waiter (x ∷ A) zero w = let here : share x ≡ 1 = ap share w in omega (arith, sum_by-cons share x A)
some_waiter (x ∷ A) (suc i) w = omega (arith, sum_by-cons share x A, some_waiter A i w)

pub waiter_counts : (A : Row) (a : Agent) → Waits A a → 1 ≤ waiters A
waiter_counts A a w = go a.number w
  where
    go : (j : ℕ) → Waits A (record { number = j }) → 1 ≤ waiters A
    go zero v = absurd (waiting≢unplaced (sym v))
    go (suc i) v = some_waiter A i v

pub none_wait : (A : Row) → waiters A ≡ 0 → NobodyWaits A
none_wait A none a w = omega (arith, waiter_counts A a w)

no_waiters : (A : Row) → ((i : ℕ) → get_or A i Unplaced ≡ Waiting → ⊥) → waiters A ≡ 0
no_waiters [] none = refl
no_waiters (x ∷ A) none =
    let rest : waiters A ≡ 0 = no_waiters A (λ i. none (suc i)) in
    let here : share x ≡ 0 = still x (none 0) in
    omega (arith, sum_by-cons share x A)
  where
    still : (x : Standing) → (x ≡ Waiting → ⊥) → share x ≡ 0
    still Waiting h = absurd (h refl)
    still (Placed p) h = refl
    still Unplaced h = refl

pub nobody_counts : (A : Row) → NobodyWaits A → waiters A ≡ 0
nobody_counts A nobody = no_waiters A (λ i. nobody (record { number = suc i }))

pub somebody : (A : Row) → 1 ≤ waiters A → (a : Agent) × Waits A a
somebody A some = elim (somebody_waits A) [ inl nobody ↦ absurd (omega (arith, nobody_counts A nobody)) | inr a ↦ a ]

pub waiters_all : (n : ℕ) → waiters (all_waiting n) ≡ n
waiters_all zero = refl
waiters_all (suc n) = let rest = waiters_all n in omega (arith, sum_by-cons share Waiting (all_waiting n))

-- The phase is trading while somebody waits, and then ended.
pub phase_at_either : (A : Row) → ((phase_at A ≡ Trading) × (1 ≤ waiters A)) ⊎ ((phase_at A ≡ Ended) × (waiters A ≡ 0))
phase_at_either A = elim (cases_Bool (eqb (waiters A) 0)) [
  | inl e ↦ inr (rw e, eqb-true (waiters A) 0 e)
  | inr e ↦ inl (rw e, some (waiters A) (eqb-false (waiters A) 0 e))
]
  where
    some : (n : ℕ) → (n ≡ 0 → ⊥) → 1 ≤ n
    some zero h = absurd (h refl)
    some (suc n) h = omega arith
