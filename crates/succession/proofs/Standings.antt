-- Standings in a row: who waits, and what a later row keeps. Assumes nothing.
use Rattle.std.proofs.Common.{◌≡◌, ℕ, zero, suc, ◌≤◌, true, false, length, sym, refl, ap, ◌∙◌, inl, inr, arith}
use Rattle.std.proofs.lemmas.List.{get_or_past}
use Rattle.std.proofs.lemmas.Bool.{cases_Bool, cases_lt, both_ways}
use Rattle.market.specs.declared.agent.Agent.{Agent}
use Rattle.market.specs.declared.standing.Standing.{Standing}
use Rattle.market.specs.declared.standing.Standing.TheVariants.{Waiting, Placed, Unplaced}
use Rattle.market.specs.Rows.{Row, standing, Waits, is_waiting, waits, Continues}

pub unplaced≢waiting : Unplaced ≡ Waiting → ⊥
unplaced≢waiting e = let z : ◌≡◌ {A = ℕ} 0 1 = cc in omega arith

pub waiting_true : (s : Standing) → is_waiting s ≡ true → s ≡ Waiting
waiting_true Waiting e = refl
waiting_true (Placed p) e = let z : ◌≡◌ {A = ℕ} 0 1 = cc in absurd (omega arith)
waiting_true Unplaced e = let z : ◌≡◌ {A = ℕ} 0 1 = cc in absurd (omega arith)

pub waits_true : (A : Row) (a : Agent) → waits A a ≡ true → Waits A a
waits_true A a e = waiting_true (standing A a) e

pub waits_false : (A : Row) (a : Agent) → waits A a ≡ false → Waits A a → ⊥
waits_false A a e w = both_ways (waits A a) e (ap is_waiting w)

pub not_waits : (A : Row) (a : Agent) → (Waits A a → ⊥) → waits A a ≡ false
not_waits A a h = elim (cases_Bool (waits A a)) [ inl e ↦ absurd (h (waits_true A a e)) | inr e ↦ e ]

-- Whoever waits has a number from 1 to the length of the row.
pub waits_in : (A : Row) (a : Agent) → Waits A a → (1 ≤ a.number) × (a.number ≤ length A)
waits_in A a w = go a.number w
  where
    go : (j : ℕ) → Waits A (record { number = j }) → (1 ≤ j) × (j ≤ length A)
    go zero v = absurd (unplaced≢waiting v)
    go (suc i) v =
        elim (cases_lt i (length A)) [
          | inl h ↦ (omega arith, omega arith)
          | inr h ↦ absurd (unplaced≢waiting (sym (get_or_past A i Unplaced h) ∙ v))
        ]

-- Who has departed stays as it is.
pub kept_false : (A B : Row) → Continues A B → (a : Agent) → waits A a ≡ false → standing B a ≡ standing A a
kept_false A B more a e = more.kept a (waits_false A a e)
