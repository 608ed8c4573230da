-- Cycles as lists: their members are a group that is made of cycles.
use Rattle.std.proofs.Common.{◌≡◌, ℕ, zero, suc, ◌+◌, Bool, true, false, List, [], ◌∷◌, ◌++◌, map, length, Some, None, Option, sym, refl, ap, ◌∙◌, subst, inl, inr, arith}
use Rattle.std.proofs.lemmas.Bool.{both_ways}
use Rattle.std.specs.List.{AllByRecursion}
use Rattle.market.proofs.Pigeonhole.{apart, distinct}
use Rattle.market.specs.declared.agent.Agent.{Agent}
use Rattle.market.specs.declared.place.Place.{Place}
use Rattle.market.specs.Data.{agent_numbers}
use Rattle.market.specs.Rows.{Row, Waits}
use Rattle.trading.specs.Economies.{Economy, Group}
use Rattle.trading.specs.Rankings.{Profile}
use Rattle.trading.specs.Trades.{points_at, owner_of, next, walk}
use Rattle.trading.specs.Cycles.{same_agent, among, PointsTo, Chain, Closes, Cycle}
use Rattle.trading.proofs.Agents.{other_agents, among_cases, among_first, among_more, among_all, among_map, among_turned, not_first, not_more, not_same, Different, different_apart, apart_different}
use Rattle.trading.proofs.Circles.{Circles, walk_keeps}

-- WALKS ROUND A CYCLE

-- Each one's next is the one after it, and the last one's is the first.
abbrev pub Linked : (Agent → Agent) → List Agent → Type 0
Linked f [] = ⊥
Linked f (a ∷ c) = map f (a ∷ c) ≡ c ++ a ∷ []

pub walk_walk : (f : Agent → Agent) (i j : ℕ) (a : Agent) → walk f i (walk f j a) ≡ walk f (j + i) a
walk_walk f i zero a = let e : i ≡ 0 + i = omega arith in ap (λ (n : ℕ). walk f n a) e
walk_walk f i (suc j) a = let e : suc (j + i) ≡ suc j + i = omega arith in walk_walk f i j (f a) ∙ ap (λ (n : ℕ). walk f n a) e

pub walk_next : (f : Agent → Agent) (k : ℕ) (a : Agent) → walk f k (f a) ≡ f (walk f k a)
walk_next f zero a = refl
walk_next f (suc k) a = walk_next f k (f a)

-- Along a list in which each one's next is the one after it.
walk_through : (f : Agent → Agent) (a : Agent) (c : List Agent) (z : Agent) → map f (a ∷ c) ≡ c ++ z ∷ [] → walk f (length (a ∷ c)) a ≡ z
walk_through f a [] z e = cc
walk_through f a (b ∷ c) z e = let h : f a ≡ b = cc in let t : map f (b ∷ c) ≡ c ++ z ∷ [] = cc in ap (walk f (length (b ∷ c))) h ∙ walk_through f b c z t

walk_parts : (f : Agent → Agent) (a : Agent) (c : List Agent) (z m : Agent) → map f (a ∷ c) ≡ c ++ z ∷ [] → among (a ∷ c) m ≡ true
    → (i : ℕ) × (j : ℕ) × (walk f i a ≡ m) × (walk f j m ≡ z) × (j + i ≡ length (a ∷ c))
walk_parts f a [] z m e i = elim (among_cases a [] m i) [ inl s ↦ (0, 1, s, ap f (sym s) ∙ walk_through f a [] z e, omega arith) | inr n ↦ absurd (both_ways false refl n) ]
walk_parts f a (b ∷ c) z m e i = elim (among_cases a (b ∷ c) m i) [
  | inl s ↦ (0, length (a ∷ b ∷ c), s, subst (λ (x : Agent). walk f (length (a ∷ b ∷ c)) x ≡ z) s (walk_through f a (b ∷ c) z e), omega arith)
  | inr n ↦ (let h : f a ≡ b = cc in let t : map f (b ∷ c) ≡ c ++ z ∷ [] = cc in
      let r = walk_parts f b c z m t n in
      (suc r.0, r.1, ap (walk f r.0) h ∙ r.2, r.3, omega arith))
]

-- A walk from a member of a cycle is back after as many steps as the cycle has members.
pub walk_around : (f : Agent → Agent) (c : List Agent) (m : Agent) → Linked f c → among c m ≡ true → walk f (length c) m ≡ m
walk_around f [] m l i = absurd l
walk_around f (a ∷ c) m l i =
    let r = walk_parts f a c a m l i in
    ap (λ (n : ℕ). walk f n m) (sym r.4) ∙ sym (walk_walk f r.0 r.1 m) ∙ ap (walk f r.0) r.3 ∙ r.2

linked_closed : (f : Agent → Agent) (c : List Agent) (m : Agent) → Linked f c → among c m ≡ true → among c (f m) ≡ true
linked_closed f [] m l i = absurd l
linked_closed f (a ∷ c) m l i = among_turned c a (f m) (subst (λ (d : List Agent). among d (f m) ≡ true) l (among_map f (a ∷ c) m i))

-- A group that is closed under f and has one member of a cycle has all.
linked_inside : (f : Agent → Agent) (D : Group) → ((a : Agent) → D a ≡ true → D (f a) ≡ true) → (c : List Agent) (a b : Agent)
    → Linked f c → among c a ≡ true → among c b ≡ true → D a ≡ true → D b ≡ true
linked_inside f D closed [] a b l i j d = absurd l
linked_inside f D closed (x ∷ c) a b l i j d =
    let to = walk_parts f x c x a l i in
    let from = walk_parts f x c x b l j in
    let inside = walk_keeps (λ y. D y ≡ true) f closed in
    subst (λ (y : Agent). D y ≡ true) (ap (walk f from.0) to.3 ∙ from.2) (inside from.0 (walk f to.1 a) (inside to.1 a d))

linked_back : (f : Agent → Agent) (c : List Agent) (m : Agent) → Linked f c → among c m ≡ true → (k : ℕ) × (walk f (suc k) m ≡ m)
linked_back f [] m l i = absurd l
linked_back f (a ∷ c) m l i = (length c, walk_around f (a ∷ c) m l i)

-- Only the next agents of the members matter.
pub linked_same : (f g : Agent → Agent) (c : List Agent) → ((a : Agent) → among c a ≡ true → g a ≡ f a) → Linked f c → Linked g c
linked_same f g [] same l = l
linked_same f g (b ∷ c) same l = maps (b ∷ c) same ∙ l
  where
    maps : (c : List Agent) → ((a : Agent) → among c a ≡ true → g a ≡ f a) → map g c ≡ map f c
    maps [] same = refl
    maps (b ∷ c) same = let h = same b (among_first b c) in let t = maps c (λ a m. same a (among_more b c a m)) in cc

same_tests : (b c : Bool) → (b ≡ true → c ≡ true) → (c ≡ true → b ≡ true) → b ≡ c
same_tests true c f g = sym (f refl)
same_tests false true f g = g refl
same_tests false false f g = refl

-- A CYCLE IS LINKED by `next`, and different waiting agents that are so linked are a cycle

module _ (M : Economy) (R : Profile) (A : Row) where
  points_next : (a b : Agent) → PointsTo M R A a b → next M R A a ≡ b
  points_next a b h = ap (owner_of M A a) h.1 ∙ h.2

  next_points : (a b : Agent) → next M R A a ≡ b → same_agent a b ≡ false → PointsTo M R A a b
  next_points a b e n = go (points_at M R A a) refl e
    where
      go : (x : Option Place) → points_at M R A a ≡ x → owner_of M A a x ≡ b → PointsTo M R A a b
      go None q e = absurd (other_agents a b n e)
      go (Some p) q e = (p, q, e)

  chain_linked : (a : Agent) (c : List Agent) (z : Agent) → Chain M R A a c z → map (next M R A) (a ∷ c) ≡ c ++ z ∷ []
  chain_linked a [] z h = ap (λ (x : Agent). x ∷ []) (points_next a z h)
  chain_linked a (b ∷ c) z h = let first = points_next a b h.0 in let rest = chain_linked b c z h.1 in cc

  -- The agent z is none of the list, and so nobody is its own next.
  linked_chain : (a : Agent) (c : List Agent) (z : Agent) → Different (a ∷ c) → among (a ∷ c) z ≡ false → map (next M R A) (a ∷ c) ≡ c ++ z ∷ [] → Chain M R A a c z
  linked_chain a [] z d n e = let first : next M R A a ≡ z = cc in next_points a z first (not_first a [] z n)
  linked_chain a (b ∷ c) z d n e =
      let first : next M R A a ≡ b = cc in
      let rest : map (next M R A) (b ∷ c) ≡ c ++ z ∷ [] = cc in
      (next_points a b first (not_same a b (not_first b c a d.0)), linked_chain b c z d.1 (not_more a (b ∷ c) z n) rest)

  closes_linked : (c : List Agent) → Closes M R A c → Linked (next M R A) c
  closes_linked [] h = h
  closes_linked (a ∷ c) h = elim h [
    | inl chain ↦ chain_linked a c a chain
    | inr alone ↦ subst (λ (d : List Agent). Linked (next M R A) (a ∷ d)) (sym alone.0) (ap (λ (x : Agent). x ∷ []) (ap (owner_of M A a) alone.1))
  ]

  linked_closes : (c : List Agent) → Different c → Linked (next M R A) c → Closes M R A c
  linked_closes [] d l = l
  linked_closes (a ∷ []) d l = go (points_at M R A a) refl (let e : next M R A a ≡ a = cc in e)
    where
      go : (x : Option Place) → points_at M R A a ≡ x → owner_of M A a x ≡ a → Closes M R A (a ∷ [])
      go None q e = inr (refl, q)
      go (Some p) q e = inl (p, q, e)
  linked_closes (a ∷ b ∷ c) d l =
      let first : next M R A a ≡ b = cc in
      let rest : map (next M R A) (b ∷ c) ≡ c ++ a ∷ [] = cc in
      inl (next_points a b first (not_same a b (not_first b c a d.0)), linked_chain b c a d.1 d.0 rest)

module _ {M : Economy} {R : Profile} {A : Row} where
  pub cycle_linked : {c : List Agent} → Cycle M R A c → Linked (next M R A) c
  cycle_linked {c} y = closes_linked M R A c y.closes

  pub cycle_different : {c : List Agent} → Cycle M R A c → Different c
  cycle_different {c} y = apart_different c (apart (agent_numbers c) y.different)

  pub linked_cycle : {c : List Agent} → Different c → AllByRecursion (Waits A) c → Linked (next M R A) c → Cycle M R A c
  linked_cycle {c} d w l = record { different = distinct (agent_numbers c) (different_apart c d); waiting = w; closes = linked_closes M R A c d l }

module _ {M : Economy} {R : Profile} where
  pub cycle_circles : {A : Row} {c : List Agent} → Cycle M R A c → Circles M R A (among c)
  cycle_circles {A} {c} y = record {
    waiting = λ a. among_all (Waits A) c a y.waiting;
    closed = λ a. linked_closed (next M R A) c a (cycle_linked y);
    back = λ a. linked_back (next M R A) c a (cycle_linked y);
  }

  -- Two cycles of one row that share an agent have the same members.
  pub same_cycle : {A : Row} {c d : List Agent} → Cycle M R A c → Cycle M R A d → (a : Agent) → among c a ≡ true → among d a ≡ true → (b : Agent) → among c b ≡ among d b
  same_cycle {A} {c} {d} y z a i j b = same_tests (among c b) (among d b)
      (λ m. linked_inside (next M R A) (among d) (cycle_circles z).closed c a b (cycle_linked y) i m j)
      (λ m. linked_inside (next M R A) (among c) (cycle_circles y).closed d a b (cycle_linked z) j m i)
