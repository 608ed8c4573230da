-- Priorities keep the two laws: a place belongs to the first of its order that waits.
use Rattle.std.proofs.Common.{◌≡◌, ℕ, zero, suc, true, false, List, [], ◌∷◌, sym, refl, ap, ◌∙◌, subst, inl, inr, arith}
use Rattle.std.proofs.lemmas.Bool.{both_ways, cases_Bool}
use Rattle.market.specs.declared.agent.Agent.{Agent}
use Rattle.market.specs.Rows.{Row, Waits, is_waiting, waits, Continues, AgentIn, PlaceIn}
use Rattle.trading.specs.Cycles.{among}
use Rattle.trading.specs.Examples.{agent, place, first_waiting, PrioritiesLawful, orders, ThreeLawful}
use Rattle.trading.proofs.Rows.{waits_true, waits_false, waiter_in}
use Rattle.trading.proofs.Agents.{among_cases}

first_waits : (A : Row) (order : List Agent) (a : Agent) → among order a ≡ true → Waits A a → Waits A (first_waiting A order)
first_waits A [] a i w = absurd (both_ways false refl i)
first_waits A (b ∷ order) a i w = elim (cases_Bool (waits A b)) [
  | inl v ↦ rw v (waits_true A b v)
  | inr v ↦ rw v (elim (among_cases b order a i) [ inl s ↦ absurd (waits_false A b v (subst (Waits A) (sym s) w)) | inr j ↦ first_waits A order a j w ])
]

first_stays : (A B : Row) (order : List Agent) → Continues A B → Waits B (first_waiting A order) → first_waiting B order ≡ first_waiting A order
first_stays A B [] more w = refl
first_stays A B (a ∷ order) more w = elim (cases_Bool (waits A a)) [
  | inl v ↦ (let w' : Waits B a = rw v at w in rw (v, ap is_waiting w'))
  | inr v ↦ (let w' : Waits B (first_waiting A order) = rw v at w in rw (v, ap is_waiting (more.kept a (waits_false A a v)) ∙ v) (first_stays A B order more w'))
]

pub priorities_lawful : PrioritiesLawful
priorities_lawful n m order all = record {
  waits = λ A a p proper w known. first_waits A (order p) a (all p a known (subst (λ (k : ℕ). AgentIn k a) proper.size (waiter_in A a w))) w;
  stays = λ A B p a b more known w. first_stays A B (order p) more w;
}

-- THE EXAMPLE

all_first : (j : ℕ) → AgentIn 3 (agent j) → among (agent 1 ∷ agent 2 ∷ agent 3 ∷ []) (agent j) ≡ true
all_first zero h = absurd (omega (arith, h.from_one))
all_first (suc zero) h = refl
all_first (suc (suc zero)) h = refl
all_first (suc (suc (suc zero))) h = refl
all_first (suc (suc (suc (suc k)))) h = absurd (omega (arith, h.in_range))

all_second : (j : ℕ) → AgentIn 3 (agent j) → among (agent 2 ∷ agent 1 ∷ agent 3 ∷ []) (agent j) ≡ true
all_second zero h = absurd (omega (arith, h.from_one))
all_second (suc zero) h = refl
all_second (suc (suc zero)) h = refl
all_second (suc (suc (suc zero))) h = refl
all_second (suc (suc (suc (suc k)))) h = absurd (omega (arith, h.in_range))

pub three_lawful : ThreeLawful
three_lawful = priorities_lawful 3 2 orders (λ p a known. all p.number known a)
  where
    all : (j : ℕ) → PlaceIn 2 (place j) → (a : Agent) → AgentIn 3 a → among (orders (place j)) a ≡ true
    all zero known a h = absurd (omega (arith, known.from_one))
    all (suc zero) known a h = all_first a.number h
    all (suc (suc zero)) known a h = all_second a.number h
    all (suc (suc (suc k))) known a h = absurd (omega (arith, known.in_range))
