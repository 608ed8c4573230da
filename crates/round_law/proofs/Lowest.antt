-- The lowest agent: of a list, and of those that wait.
use Rattle.std.proofs.Common.{◌≡◌, ℕ, zero, suc, ◌+◌, ◌≤◌, true, false, ltb, List, [], ◌∷◌, get_or, Some, None, sym, refl, ap, ◌∙◌, subst, inl, inr, le_refl, arith}
use Rattle.std.proofs.lemmas.Bool.{both_ways, cases_Bool, ltb-true, ltb-false}
use Rattle.market.specs.declared.agent.Agent.{Agent}
use Rattle.market.specs.declared.standing.Standing.TheVariants.{Waiting, Unplaced}
use Rattle.market.specs.Rows.{Row, Waits, NobodyWaits, is_waiting}
use Rattle.trading.specs.Cycles.{among}
use Rattle.trading.proofs.Agents.{among_cases, among_first, among_more, among_all}
use Rattle.trading.proofs.Rows.{none≢some, waiting≢unplaced, waits_true}
use Rattle.round_law.specs.Choosing.{lower, lowest, lowest_from, lowest_waiting}
use Rattle.round_law.specs.Records.{FromLowest}
use Rattle.round_law.specs.Trades.{LowestWaiting}

-- OF A LIST

lower_among : (a b : Agent) (c : List Agent) (m : Agent) → among (lower a b ∷ c) m ≡ true → among (a ∷ b ∷ c) m ≡ true
lower_among a b c m i = elim (cases_Bool (ltb b.number a.number)) [
  | inl e ↦ (let j : among (b ∷ c) m ≡ true = rw e at i in among_more a (b ∷ c) m j)
  | inr e ↦ (let j : among (a ∷ c) m ≡ true = rw e at i in elim (among_cases a c m j) [
    | inl s ↦ subst (λ (x : Agent). among (a ∷ b ∷ c) x ≡ true) s (among_first a (b ∷ c))
    | inr n ↦ among_more a (b ∷ c) m (among_more b c m n)
  ])
]

lowest_among : (a : Agent) (c : List Agent) → among (a ∷ c) (lowest a c) ≡ true
lowest_among a [] = among_first a []
lowest_among a (b ∷ c) = lower_among a b c (lowest (lower a b) c) (lowest_among (lower a b) c)

pub lowest_inside : (a : Agent) (c : List Agent) → among c a ≡ true → among c (lowest a c) ≡ true
lowest_inside a c i = elim (among_cases a c (lowest a c) (lowest_among a c)) [
  | inl s ↦ subst (λ (x : Agent). among c x ≡ true) s i
  | inr m ↦ m
]

lower_first : (a b : Agent) → (lower a b).number ≤ a.number
lower_first a b = elim (cases_Bool (ltb b.number a.number)) [
  | inl e ↦ rw e (omega (arith, ltb-true b.number a.number e))
  | inr e ↦ rw e (le_refl a.number)
]

lower_second : (a b : Agent) → (lower a b).number ≤ b.number
lower_second a b = elim (cases_Bool (ltb b.number a.number)) [ inl e ↦ rw e (le_refl b.number) | inr e ↦ rw e (ltb-false b.number a.number e) ]

lowest_first : (a : Agent) (c : List Agent) → (lowest a c).number ≤ a.number
lowest_first a [] = le_refl a.number
lowest_first a (b ∷ c) = omega (arith, lowest_first (lower a b) c, lower_first a b)

pub lowest_le : (a : Agent) (c : List Agent) (m : Agent) → among c m ≡ true → (lowest a c).number ≤ m.number
lowest_le a [] m i = absurd (both_ways false refl i)
lowest_le a (b ∷ c) m i = elim (among_cases b c m i) [
  | inl s ↦ subst (λ (x : Agent). (lowest (lower a b) c).number ≤ x.number) s (omega (arith, lowest_first (lower a b) c, lower_second a b))
  | inr n ↦ lowest_le (lower a b) c m n
]

pub first_lowest : (a : Agent) (c : List Agent) (m : Agent) → FromLowest (a ∷ c) → among (a ∷ c) m ≡ true → a.number ≤ m.number
first_lowest a c m low i = elim (among_cases a c m i) [
  | inl s ↦ subst (λ (x : Agent). a.number ≤ x.number) s (le_refl a.number)
  | inr n ↦ among_all (λ b. a.number ≤ b.number) c m low n
]

-- OF THOSE THAT WAIT

from_some : (k : ℕ) (A : Row) (a : Agent) → lowest_from k A ≡ Some a → (i : ℕ) × (a ≡ record { number = k + i }) × (get_or A i Unplaced ≡ Waiting)
from_some k [] a e = absurd (none≢some e)
from_some k (x ∷ A) a e = elim (cases_Bool (is_waiting x)) [
  | inl w ↦ (let f : Some (record { number = k }) ≡ Some a = rw w at e in let g : record { number = k } ≡ a = cc in
      (0, sym g ∙ ap (λ (n : ℕ). record { number = n }) (omega arith), waits_true (x ∷ []) (record { number = 1 }) w))
  | inr w ↦ (let r = from_some (suc k) A a (rw w at e) in (suc r.0, r.1 ∙ ap (λ (n : ℕ). record { number = n }) (omega arith), r.2))
]

from_least : (k : ℕ) (A : Row) (a : Agent) → lowest_from k A ≡ Some a → (i : ℕ) → get_or A i Unplaced ≡ Waiting → a.number ≤ k + i
from_least k [] a e i w = absurd (none≢some e)
from_least k (x ∷ A) a e i w = elim (cases_Bool (is_waiting x)) [
  | inl t ↦ (let f : Some (record { number = k }) ≡ Some a = rw t at e in let g : record { number = k } ≡ a = cc in let n : k ≡ a.number = ap (λ (b : Agent). b.number) g in omega arith)
  | inr t ↦ go t i w (from_least (suc k) A a (rw t at e))
]
  where
    go : is_waiting x ≡ false → (i : ℕ) → get_or (x ∷ A) i Unplaced ≡ Waiting → ((i : ℕ) → get_or A i Unplaced ≡ Waiting → a.number ≤ suc k + i) → a.number ≤ k + i
    go t zero w rest = absurd (both_ways (is_waiting x) t (ap is_waiting w))
    go t (suc i) w rest = let h = rest i w in omega arith

from_none : (k : ℕ) (A : Row) → lowest_from k A ≡ None → (i : ℕ) → get_or A i Unplaced ≡ Waiting → ⊥
from_none k [] e i w = waiting≢unplaced (sym w)
from_none k (x ∷ A) e i w = elim (cases_Bool (is_waiting x)) [
  | inl t ↦ (let f : Some (record { number = k }) ≡ None = rw t at e in absurd (none≢some (sym f)))
  | inr t ↦ go t i w (from_none (suc k) A (rw t at e))
]
  where
    go : is_waiting x ≡ false → (i : ℕ) → get_or (x ∷ A) i Unplaced ≡ Waiting → ((i : ℕ) → get_or A i Unplaced ≡ Waiting → ⊥) → ⊥
    go t zero w none = both_ways (is_waiting x) t (ap is_waiting w)
    go t (suc i) w none = none i w

pub lowest_none : (A : Row) → lowest_waiting A ≡ None → NobodyWaits A
lowest_none A e a = go a.number
  where
    go : (j : ℕ) → Waits A (record { number = j }) → ⊥
    go zero w = waiting≢unplaced (sym w)
    go (suc i) w = from_none 1 A e i w

pub lowest_some : (A : Row) (a : Agent) → lowest_waiting A ≡ Some a → LowestWaiting A a
lowest_some A a e = record { waiting = waiting; lowest = λ b. least b.number }
  where
    waiting : Waits A a
    waiting =
        let r = from_some 1 A a e in
        let n : 1 + r.0 ≡ suc r.0 = omega arith in
        subst (Waits A) (sym (r.1 ∙ ap (λ (x : ℕ). record { number = x }) n)) r.2

    least : (j : ℕ) → Waits A (record { number = j }) → a.number ≤ j
    least zero w = absurd (waiting≢unplaced (sym w))
    least (suc i) w = let h = from_least 1 A a e i w in omega arith
