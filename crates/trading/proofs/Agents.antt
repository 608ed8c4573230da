-- Agents in lists: who is among them, and that none stands twice.
use Rattle.std.proofs.Common.{◌≡◌, ℕ, true, false, ◌⊎◌, List, [], ◌∷◌, ◌++◌, map, sym, refl, ap, subst, inl, inr}
use Rattle.std.proofs.lemmas.Bool.{both_ways, eqb-true, eqb-false, eq-eqb, ne_eqb, cases_Bool}
use Rattle.std.specs.List.{AllByRecursion}
use Rattle.market.proofs.Pigeonhole.{Apart}
use Rattle.market.specs.declared.agent.Agent.{Agent}
use Rattle.market.specs.Data.{agent_numbers}
use Rattle.market.specs.Distinct.{Absent}
use Rattle.trading.specs.Cycles.{same_agent, among}

pub same_agents : (a b : Agent) → same_agent a b ≡ true → a ≡ b
same_agents a b e = ap (λ (k : ℕ). record { number = k }) (eqb-true a.number b.number e)

pub other_agents : (a b : Agent) → same_agent a b ≡ false → a ≡ b → ⊥
other_agents a b s e = both_ways (same_agent a b) s (eq-eqb a.number b.number (ap (λ (x : Agent). x.number) e))

-- Who is among b and c is b or among c.
pub among_cases : (b : Agent) (c : List Agent) (a : Agent) → among (b ∷ c) a ≡ true → (b ≡ a) ⊎ (among c a ≡ true)
among_cases b c a e = elim (cases_Bool (same_agent b a)) [ inl s ↦ inl (same_agents b a s) | inr s ↦ inr (rw s at e) ]

pub among_first : (b : Agent) (c : List Agent) → among (b ∷ c) b ≡ true
among_first b c = rw (eq-eqb b.number b.number refl)

pub among_more : (b : Agent) (c : List Agent) (a : Agent) → among c a ≡ true → among (b ∷ c) a ≡ true
among_more b c a e = elim (cases_Bool (same_agent b a)) [ inl s ↦ rw s | inr s ↦ rw s e ]

pub among_all : (P : Agent → Type 0) (c : List Agent) (a : Agent) → AllByRecursion P c → among c a ≡ true → P a
among_all P [] a all e = absurd (both_ways false refl e)
among_all P (b ∷ c) a all e = elim (among_cases b c a e) [ inl s ↦ subst P s all.0 | inr m ↦ among_all P c a all.1 m ]

pub all_among : (P : Agent → Type 0) (c : List Agent) → ((a : Agent) → among c a ≡ true → P a) → AllByRecursion P c
all_among P [] each = tt
all_among P (b ∷ c) each = (each b (among_first b c), all_among P c (λ a m. each a (among_more b c a m)))

pub among_map : (f : Agent → Agent) (c : List Agent) (a : Agent) → among c a ≡ true → among (map f c) (f a) ≡ true
among_map f [] a e = absurd (both_ways false refl e)
among_map f (b ∷ c) a e = elim (among_cases b c a e) [
  | inl s ↦ subst (λ (x : Agent). among (f b ∷ map f c) (f x) ≡ true) s (among_first (f b) (map f c))
  | inr m ↦ among_more (f b) (map f c) (f a) (among_map f c a m)
]

pub among_turned : (c : List Agent) (b a : Agent) → among (c ++ b ∷ []) a ≡ true → among (b ∷ c) a ≡ true
among_turned [] b a e = e
among_turned (x ∷ c) b a e = elim (among_cases x (c ++ b ∷ []) a e) [
  | inl s ↦ among_more b (x ∷ c) a (subst (λ (y : Agent). among (x ∷ c) y ≡ true) s (among_first x c))
  | inr m ↦ elim (among_cases b c a (among_turned c b a m)) [
    | inl s ↦ subst (λ (y : Agent). among (b ∷ (x ∷ c)) y ≡ true) s (among_first b (x ∷ c))
    | inr n ↦ among_more b (x ∷ c) a (among_more x c a n)
  ]
]

pub not_first : (b : Agent) (c : List Agent) (a : Agent) → among (b ∷ c) a ≡ false → same_agent b a ≡ false
not_first b c a n = elim (cases_Bool (same_agent b a)) [ inl s ↦ absurd (both_ways true (rw s at n) refl) | inr s ↦ s ]

pub not_more : (b : Agent) (c : List Agent) (a : Agent) → among (b ∷ c) a ≡ false → among c a ≡ false
not_more b c a n = rw (not_first b c a n) at n

pub not_same : (a b : Agent) → same_agent b a ≡ false → same_agent a b ≡ false
not_same a b n = ne_eqb a.number b.number (λ e. eqb-false b.number a.number n (sym e))

-- No agent stands twice in a list: as `Distinct` says of their numbers, but from the front.
abbrev pub Different : List Agent → Type 0
Different [] = Unit {0}
Different (a ∷ c) = (among c a ≡ false) × Different c

absent : (c : List Agent) (a : Agent) → among c a ≡ false → Absent a.number (agent_numbers c)
absent [] a e = tt
absent (b ∷ c) a e = elim (cases_Bool (same_agent b a)) [
  | inl s ↦ absurd (both_ways true (rw s at e) refl)
  | inr s ↦ (eqb-false b.number a.number s, absent c a (rw s at e))
]

not_among : (c : List Agent) (a : Agent) → Absent a.number (agent_numbers c) → among c a ≡ false
not_among [] a h = refl
not_among (b ∷ c) a h = rw (ne_eqb b.number a.number h.0) (not_among c a h.1)

pub different_apart : (c : List Agent) → Different c → Apart (agent_numbers c)
different_apart [] d = tt
different_apart (a ∷ c) d = (absent c a d.0, different_apart c d.1)

pub apart_different : (c : List Agent) → Apart (agent_numbers c) → Different c
apart_different [] d = tt
apart_different (a ∷ c) d = (not_among c a d.0, apart_different c d.1)
