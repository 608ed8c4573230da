-- Walks that come back: shortest paths, the cycle through an agent, and that some waiting agent has one.
use Rattle.std.proofs.Common.{◌≡◌, ℕ, zero, suc, ◌+◌, ◌<◌, ◌≤◌, true, false, ◌⊎◌, List, [], ◌∷◌, ◌++◌, map, length, Some, None, Option, sym, refl, ap, ◌∙◌, subst, inl, inr, le_refl, arith}
use Rattle.std.proofs.lemmas.List.{length-map}
use Rattle.std.proofs.lemmas.Bool.{both_ways, eq-eqb, ne_eqb, cases_Bool}
use Rattle.std.specs.Option.{option_map}
use Rattle.std.specs.List.{AllByRecursion}
use Rattle.market.proofs.Pigeonhole.{UpTo, no_more}
use Rattle.market.specs.declared.agent.Agent.{Agent}
use Rattle.market.specs.Data.{agent_numbers}
use Rattle.market.specs.Rows.{Row, Waits}
use Rattle.trading.specs.Trades.{walk}
use Rattle.trading.specs.Cycles.{same_agent, among, path_to}
use Rattle.trading.proofs.Rows.{none≢some, waiter_in}
use Rattle.trading.proofs.Agents.{same_agents, other_agents, among_cases, among_first, among_more, not_first, not_more, Different, different_apart}
use Rattle.trading.proofs.Circles.{walk_keeps}

-- The list c is the path along f from b to the first agent whose next is a.
pub data PathTo (f : Agent → Agent) (a : Agent) : Agent → List Agent → Type 0 where
  arrives : {b : Agent} → f b ≡ a → PathTo f a b (b ∷ [])
  onward : {b : Agent} {c : List Agent} → (f b ≡ a → ⊥) → PathTo f a (f b) c → PathTo f a b (b ∷ c)

module _ {f : Agent → Agent} {a : Agent} where
  only_path : {b : Agent} {c d : List Agent} → PathTo f a b c → PathTo f a b d → c ≡ d
  only_path (arrives e) (arrives e') = refl
  only_path (arrives e) (onward n p) = absurd (n e)
  only_path (onward n p) (arrives e) = absurd (n e)
  only_path {b} (onward n p) (onward n' q) = ap (λ (x : List Agent). b ∷ x) (only_path p q)

  -- From each agent of a path a path leads on that is no longer.
  path_on : {b : Agent} {c : List Agent} → PathTo f a b c → (m : Agent) → among c m ≡ true → (d : List Agent) × PathTo f a m d × (length d ≤ length c)
  path_on {b} (arrives e) m i = elim (among_cases b [] m i) [ inl s ↦ (m ∷ [], arrives (ap f (sym s) ∙ e), omega arith) | inr j ↦ absurd (both_ways false refl j) ]
  path_on {b} (onward {c} n p) m i = elim (among_cases b c m i) [
    | inl s ↦ (b ∷ c, subst (λ (x : Agent). PathTo f a x (b ∷ c)) s (onward n p), le_refl (length (b ∷ c)))
    | inr j ↦ (let r = path_on p m j in (r.0, r.1, omega arith))
  ]

  pub path_different : {b : Agent} {c : List Agent} → PathTo f a b c → Different c
  path_different (arrives e) = (refl, tt)
  path_different {b} (onward {c} n p) = (
    elim (cases_Bool (among c b)) [
      | inl i ↦ (let r = path_on p b i in absurd (omega (arith, ap length (only_path r.1 (onward n p)))))
      | inr i ↦ i
    ],
    path_different p,
  )

  pub path_linked : {b : Agent} {c : List Agent} → PathTo f a b c → (d : List Agent) × (c ≡ b ∷ d) × (map f c ≡ d ++ a ∷ [])
  path_linked (arrives e) = ([], refl, ap (λ (x : Agent). x ∷ []) e)
  path_linked {b} (onward {c} n p) = let r = path_linked p in (c, refl, ap (λ (x : List Agent). f b ∷ x) r.2 ∙ ap (λ (x : List Agent). x ++ a ∷ []) (sym r.1))

  pub path_all : (P : Agent → Type 0) → ((b : Agent) → P b → P (f b)) → {b : Agent} {c : List Agent} → P b → PathTo f a b c → AllByRecursion P c
  path_all P closed h (arrives e) = (h, tt)
  path_all P closed {b} h (onward n p) = (h, path_all P closed (closed b h) p)

  -- Where a walk comes to a, a path leads there.
  pub walk_path : (k : ℕ) (b : Agent) → walk f (suc k) b ≡ a → (c : List Agent) × PathTo f a b c
  walk_path zero b e = (b ∷ [], arrives e)
  walk_path (suc k) b e = elim (cases_Bool (same_agent (f b) a)) [
    | inl s ↦ (b ∷ [], arrives (same_agents (f b) a s))
    | inr s ↦ (let r = walk_path k (f b) e in (b ∷ r.0, onward (other_agents (f b) a s) r.1))
  ]

  -- A list in which each one's next is the one after it, and the last one's is a, which only the first may be, is a path.
  pub linked_path : (b : Agent) (c : List Agent) → among c a ≡ false → map f (b ∷ c) ≡ c ++ a ∷ [] → PathTo f a b (b ∷ c)
  linked_path b [] n e = let first : f b ≡ a = cc in arrives first
  linked_path b (d ∷ c) n e =
      let first : f b ≡ d = cc in
      let rest : map f (d ∷ c) ≡ c ++ a ∷ [] = cc in
      onward (λ s. other_agents d a (not_first d c a n) (sym first ∙ s)) (subst (λ (x : Agent). PathTo f a x (d ∷ c)) (sym first) (linked_path d c (not_more d c a n) rest))

  -- The function `path_to` finds the path.
  pub path_found : (k : ℕ) {b : Agent} {c : List Agent} → PathTo f a b c → length c ≤ k → path_to f a k b ≡ Some c
  path_found zero (arrives e) h = absurd (omega arith)
  path_found zero (onward n p) h = absurd (omega arith)
  path_found (suc k) {b} (arrives e) h = rw (eq-eqb (f b).number a.number (ap (λ (x : Agent). x.number) e))
  path_found (suc k) {b} (onward n p) h = rw (ne_eqb (f b).number a.number (λ e. n (ap (λ (x : ℕ). record { number = x }) e)), path_found k p (omega arith))

  pub path_is : (k : ℕ) (b : Agent) (c : List Agent) → path_to f a k b ≡ Some c → PathTo f a b c
  path_is zero b c e = absurd (none≢some e)
  path_is (suc k) b c e = elim (cases_Bool (same_agent (f b) a)) [
    | inl s ↦ is (b ∷ []) (rw s at e) (arrives (same_agents (f b) a s))
    | inr s ↦ go (path_is k (f b)) (path_to f a k (f b)) refl (rw s at e) s
  ]
    where
      is : (d : List Agent) → Some d ≡ Some c → PathTo f a b d → PathTo f a b c
      is d e p = let same : d ≡ c = cc in subst (PathTo f a b) same p

      go : ((d : List Agent) → path_to f a k (f b) ≡ Some d → PathTo f a (f b) d) → (x : Option (List Agent)) → path_to f a k (f b) ≡ x
          → option_map (λ d. b ∷ d) x ≡ Some c → same_agent (f b) a ≡ false → PathTo f a b c
      go ih None q e s = absurd (none≢some e)
      go ih (Some d) q e s = is (b ∷ d) e (onward (other_agents (f b) a s) (ih d q))

-- PIGEONHOLES: different agents that wait are no more than the row has agents

waiters_up : (A : Row) (c : List Agent) → ((a : Agent) → among c a ≡ true → Waits A a) → AllByRecursion (UpTo (length A)) (agent_numbers c)
waiters_up A [] w = tt
waiters_up A (b ∷ c) w = let i = waiter_in A b (w b (among_first b c)) in ((i.from_one, i.in_range), waiters_up A c (λ a m. w a (among_more b c a m)))

pub different_wait : (A : Row) (c : List Agent) → Different c → ((a : Agent) → among c a ≡ true → Waits A a) → length c ≤ length A
different_wait A c d w = rw length-map at (no_more (length A) (agent_numbers c) (different_apart c d) (waiters_up A c w))

-- The agents of a walk, k of them, from a on.
abbrev trail : (Agent → Agent) → ℕ → Agent → List Agent
trail f zero a = []
trail f (suc k) a = a ∷ trail f k (f a)

length_trail : (f : Agent → Agent) (k : ℕ) (a : Agent) → length (trail f k a) ≡ k
length_trail f zero a = refl
length_trail f (suc k) a = ap suc (length_trail f k (f a))

trail_walk : (f : Agent → Agent) (k : ℕ) (b m : Agent) → among (trail f k b) m ≡ true → (i : ℕ) × (i < k) × (walk f i b ≡ m)
trail_walk f zero b m e = absurd (both_ways false refl e)
trail_walk f (suc k) b m e = elim (among_cases b (trail f k (f b)) m e) [
  | inl s ↦ (0, omega arith, s)
  | inr i ↦ (let r = trail_walk f k (f b) m i in (suc r.0, omega arith, r.2))
]

-- They are all different, or a walk from one of them comes back to it.
repeats : (f : Agent → Agent) (k : ℕ) (a : Agent) → Different (trail f k a) ⊎ ((i : ℕ) × (j : ℕ) × (i + suc j < k) × (walk f (suc j) (walk f i a) ≡ walk f i a))
repeats f zero a = inl tt
repeats f (suc k) a = elim (repeats f k (f a)) [
  | inr r ↦ inr (suc r.0, r.1, omega arith, r.3)
  | inl d ↦ elim (cases_Bool (among (trail f k (f a)) a)) [
    | inl i ↦ (let r = trail_walk f k (f a) a i in inr (0, r.0, omega arith, r.2))
    | inr i ↦ inl (i, d)
  ]
]

-- Where all walks stay among those that wait, each leads within n steps to an agent to which a walk comes back.
module _ (A : Row) (f : Agent → Agent) (closed : (a : Agent) → Waits A a → Waits A (f a)) where
  pub comes_back : (a : Agent) → Waits A a → (i : ℕ) × (j : ℕ) × (i < length A) × Waits A (walk f i a) × (walk f (suc j) (walk f i a) ≡ walk f i a)
  comes_back a w = elim (repeats f (suc (length A)) a) [
    | inr r ↦ (r.0, r.1, omega arith, walk_keeps (Waits A) f closed r.0 a w, r.3)
    | inl d ↦ absurd (omega (
      arith,
      length_trail f (suc (length A)) a,
      different_wait A (trail f (suc (length A)) a) d (λ m i. let r = trail_walk f (suc (length A)) a m i in subst (Waits A) r.2 (walk_keeps (Waits A) f closed r.0 a w)),
    ))
  ]
