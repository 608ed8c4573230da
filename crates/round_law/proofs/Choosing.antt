-- The cycle that a call trades: that it is one, that it is found where there is one, and that there is only one.
use Rattle.std.proofs.Common.{◌≡◌, ℕ, zero, suc, ◌+◌, ◌-◌, ◌<◌, ◌≤◌, true, false, ◌⊎◌, List, [], ◌∷◌, length, Some, None, Option, sym, refl, ap, ◌∙◌, subst, inl, inr, arith}
use Rattle.std.proofs.lemmas.Bool.{both_ways, cases_Bool}
use Rattle.std.specs.List.{AllByRecursion}
use Rattle.market.specs.declared.agent.Agent.{Agent}
use Rattle.market.specs.Rows.{Row, Waits, NobodyWaits}
use Rattle.market.specs.Rules.{Lawful}
use Rattle.trading.specs.Economies.{Economy, terms_of, RowIn}
use Rattle.trading.specs.Rankings.{Profile}
use Rattle.trading.specs.Trades.{next, walk}
use Rattle.trading.specs.Cycles.{among, Cycle, cycle_through}
use Rattle.trading.specs.Stages.{OnNoCycle}
use Rattle.trading.proofs.Agents.{among_cases, among_first, among_more, all_among, Different}
use Rattle.trading.proofs.Circles.{walk_keeps}
use Rattle.trading.proofs.Cycles.{walk_walk, walk_next, cycle_circles, same_cycle}
use Rattle.trading.proofs.Paths.{different_wait}
use Rattle.trading.proofs.Rows.{none≢some}
use Rattle.trading.proofs.Through.{cycle_from, next_waits, through_is_cycle, through_found}
use Rattle.trading.proofs.Theorems.{cycle_is_found}
use Rattle.round_law.specs.Choosing.{lowest, cycle_of, lowest_waiting, first_again, cycle_ahead}
use Rattle.round_law.specs.Records.{FromLowest}
use Rattle.round_law.specs.Trades.{LowestWaiting, WalkMeets}
use Rattle.round_law.proofs.Lowest.{lowest_inside, lowest_le, first_lowest, lowest_none, lowest_some}

-- A cycle through an agent that begins with its lowest agent is the only one.
pub only_cycle : {M : Economy} {R : Profile} {A : Row} (c d : List Agent) (a : Agent) → Cycle M R A c → FromLowest c → Cycle M R A d → FromLowest d
    → among c a ≡ true → among d a ≡ true → c ≡ d
only_cycle [] d a y low z low' i j = absurd low
only_cycle (x ∷ c) [] a y low z low' i j = absurd low'
only_cycle (x ∷ c) (v ∷ d) a y low z low' i j =
    let same = same_cycle y z a i j in
    let one = first_lowest x c v low (same v ∙ among_first v d) in
    let two = first_lowest v d x low' (sym (same x) ∙ among_first x c) in
    let number : x.number ≡ v.number = omega arith in
    let first : x ≡ v = ap (λ (k : ℕ). record { number = k }) number in
    let from-x = cycle_from y in
    let from-v = cycle_from z in
    cc

-- THE CYCLE THAT A WALK MEETS

pub lowest_only : {A : Row} {a b : Agent} → LowestWaiting A a → LowestWaiting A b → a ≡ b
lowest_only {a} {b} one two =
    let below = one.lowest b two.waiting in
    let above = two.lowest a one.waiting in
    let number : a.number ≡ b.number = omega arith in
    ap (λ (x : ℕ). record { number = x }) number

-- A walk that is on a cycle stays there.
stays_on : {M : Economy} {R : Profile} {A : Row} (c : List Agent) (a : Agent) (i j : ℕ) → Cycle M R A c → among c (walk (next M R A) i a) ≡ true → among c (walk (next M R A) (i + j) a) ≡ true
stays_on {M} {R} {A} c a i j y on = subst (λ (x : Agent). among c x ≡ true) (walk_walk (next M R A) j i a)
    (walk_keeps (λ x. among c x ≡ true) (next M R A) (cycle_circles y).closed j (walk (next M R A) i a) on)

-- So a walk meets one cycle only.
pub meets_only : {M : Economy} {R : Profile} {A : Row} (c d : List Agent) (a : Agent) → Cycle M R A c → FromLowest c → WalkMeets M R A a c → Cycle M R A d → FromLowest d → WalkMeets M R A a d → c ≡ d
meets_only {M} {R} {A} c d a y low on z low' on' =
    let swap : on'.0 + on.0 ≡ on.0 + on'.0 = omega arith in
    only_cycle c d (walk (next M R A) (on.0 + on'.0) a) y low z low' (stays_on c a on.0 on'.0 y on.1)
    (subst (λ (x : ℕ). among d (walk (next M R A) x a) ≡ true) swap (stays_on d a on'.0 on.0 z on'.1))

-- THE FIRST THAT COMES UP AGAIN

-- Where all walks stay among those that wait, an agent comes up again on each, and a walk from it comes back to it.
module _ (A : Row) (f : Agent → Agent) (closed : (a : Agent) → Waits A a → Waits A (f a)) where
  again : (k : ℕ) (seen : List Agent) (b : Agent) → Different seen → ((m : Agent) → among seen m ≡ true → Waits A m)
      → ((m : Agent) → among seen m ≡ true → (j : ℕ) × (walk f (suc j) m ≡ b)) → Waits A b → length A < length seen + k
      → (i : ℕ) × (j : ℕ) × (i < k) × (first_again f seen k b ≡ walk f i b) × Waits A (walk f i b) × (walk f (suc j) (walk f i b) ≡ walk f i b)
  again zero seen b d w to wb h = absurd (omega (arith, different_wait A seen d w))
  again (suc k) seen b d w to wb h = elim (cases_Bool (among seen b)) [
    | inl i ↦ (let r = to b i in (0, r.0, omega arith, rw i, wb, r.1))
    | inr i ↦ (let r = again k (b ∷ seen) (f b) (i, d)
        (λ m j. elim (among_cases b seen m j) [ inl s ↦ subst (Waits A) s wb | inr n ↦ w m n ])
        (λ m j. elim (among_cases b seen m j) [
          | inl s ↦ (0, ap f (sym s))
          | inr n ↦ (let r = to m n in (suc r.0, walk_next f (suc r.0) m ∙ ap f r.1))
        ])
        (closed b wb) (omega arith) in
        (suc r.0, r.1, omega arith, rw i r.3, r.4, r.5))
  ]

module _ (M : Economy) (R : Profile) {A : Row} (law : Lawful (terms_of M)) (proper : RowIn M A) where
  -- THE CYCLE THROUGH AN AGENT

  -- Through the lowest of a cycle the same cycle is found.
  through_lowest : (a : Agent) (c : List Agent) → cycle_through M R A a ≡ Some c
      → (d : List Agent) × (cycle_through M R A (lowest a c) ≡ Some d) × Cycle M R A d × (among d a ≡ true) × FromLowest d
  through_lowest a c e =
      let f = through_is_cycle M R law proper a c e in
      let i : among c a ≡ true = subst (λ (x : List Agent). among x a ≡ true) (sym f.1.1) (among_first a f.1.0) in
      let d = cycle_is_found M R A c (lowest a c) law proper f.0 (lowest_inside a c i) in
      let g = through_is_cycle M R law proper (lowest a c) d.0 d.1 in
      let rest = g.1.0 in
      let all : AllByRecursion (λ b. (lowest a c).number ≤ b.number) rest = all_among (λ b. (lowest a c).number ≤ b.number) rest
      (λ m n. lowest_le a c m (sym (d.2 m) ∙ subst (λ (x : List Agent). among x m ≡ true) (sym g.1.1) (among_more (lowest a c) rest m n))) in
      (d.0, d.1, g.0, d.2 a ∙ i, subst FromLowest (sym g.1.1) all)

  -- What is found is a cycle through the agent, from its lowest agent on.
  pub cycle_of_is : (a : Agent) (d : List Agent) → cycle_of M R A a ≡ Some d → Cycle M R A d × (among d a ≡ true) × FromLowest d
  cycle_of_is a d e = go (cycle_through M R A a) refl
    where
      go : (x : Option (List Agent)) → cycle_through M R A a ≡ x → Cycle M R A d × (among d a ≡ true) × FromLowest d
      go None q = let z : ◌≡◌ {A = Option (List Agent)} None (Some d) = rw q at e in absurd (none≢some z)
      go (Some c) q =
          let r = through_lowest a c q in
          let z : cycle_through M R A (lowest a c) ≡ Some d = rw q at e in
          let same : r.0 ≡ d = cc in
          subst (λ (x : List Agent). Cycle M R A x × (among x a ≡ true) × FromLowest x) same (r.2, r.3, r.4)

  -- It is found where there is one,
  pub cycle_of_some : (c : List Agent) (a : Agent) → Cycle M R A c → among c a ≡ true → (d : List Agent) × (cycle_of M R A a ≡ Some d)
  cycle_of_some c a y i =
      let f = cycle_is_found M R A c a law proper y i in
      let r = through_lowest a f.0 f.1 in
      (r.0, rw f.1 r.1)

  -- and as it stands, if it begins with its lowest agent.
  pub cycle_of_found : (c : List Agent) (a : Agent) → Cycle M R A c → FromLowest c → among c a ≡ true → cycle_of M R A a ≡ Some c
  cycle_of_found c a y low i =
      let r = cycle_of_some c a y i in
      let d = cycle_of_is a r.0 r.1 in
      r.1 ∙ ap (λ (x : List Agent). Some x) (only_cycle r.0 c a d.0 d.2 y low d.1 i)

  -- Where none is found there is none.
  pub cycle_of_none : (a : Agent) → cycle_of M R A a ≡ None → OnNoCycle M R A a
  cycle_of_none a e c y i = none≢some (sym e ∙ (cycle_of_some c a y i).1)

  -- THE CYCLE AHEAD

  -- The walk from the agent a, which is the lowest that waits, finds the cycle c after i steps.
  pub record Found (a : Agent) (c : List Agent) (i : ℕ) : Type 0 where
    pub start : LowestWaiting A a
    pub found : cycle_ahead M R A ≡ Some c
    pub is_cycle : Cycle M R A c
    pub from_lowest : FromLowest c
    pub soon : i ≤ length A
    pub on : among c (walk (next M R A) i a) ≡ true

  -- Nobody waits, or a cycle is found.
  pub ahead : ((cycle_ahead M R A ≡ None) × NobodyWaits A) ⊎ ((a : Agent) × (c : List Agent) × (i : ℕ) × Found a c i)
  ahead = go (lowest_waiting A) refl
    where
      go : (x : Option Agent) → lowest_waiting A ≡ x → ((cycle_ahead M R A ≡ None) × NobodyWaits A) ⊎ ((a : Agent) × (c : List Agent) × (i : ℕ) × Found a c i)
      go None q = inl (rw q, lowest_none A q)
      go (Some a) q =
          let low = lowest_some A a q in
          let f = next M R A in
          let r = again A f (next_waits M R law proper) (suc (length A)) [] a tt (λ m i. absurd (both_ways false refl i)) (λ m i. absurd (both_ways false refl i)) low.waiting (omega arith) in
          let b = walk f r.0 a in
          let t = through_found M R law proper b r.1 r.4 r.5 in
          let d = through_lowest b t.0 t.1 in
          let is : cycle_of M R A b ≡ Some d.0 = rw t.1 d.1 in
          inr (
            a,
            d.0,
            r.0,
            record {
              start = low;
              found = rw (q, r.3) is;
              is_cycle = d.2;
              from_lowest = d.4;
              soon = omega (arith, r.2);
              on = d.3;
            },
          )

  -- Whichever cycle the walk from the lowest waiting agent is on at some time, it is the one that is found.
  pub ahead_is : (a : Agent) (k : ℕ) (d : List Agent) → LowestWaiting A a → cycle_of M R A (walk (next M R A) k a) ≡ Some d → cycle_ahead M R A ≡ Some d
  ahead_is a k d low e = elim ahead [
    | inl n ↦ absurd (n.1 a low.waiting)
    | inr f ↦ (let r = f.3 in let z = cycle_of_is (walk (next M R A) k a) d e in
        let on : WalkMeets M R A a f.1 = subst (λ (x : Agent). WalkMeets M R A x f.1) (lowest_only r.start low) (f.2, r.on) in
        r.found ∙ ap (λ (x : List Agent). Some x) (meets_only f.1 d a r.is_cycle r.from_lowest on z.0 z.2 (k, z.1)))
  ]

  -- After n steps the walk is on it.
  pub ahead_after : (a : Agent) (k : ℕ) → LowestWaiting A a → length A ≤ k → (d : List Agent) × (cycle_of M R A (walk (next M R A) k a) ≡ Some d) × (cycle_ahead M R A ≡ Some d)
  ahead_after a k low far = elim ahead [
    | inl n ↦ absurd (n.1 a low.waiting)
    | inr f ↦ (let r = f.3 in let c = f.1 in let i = f.2 in
        let on : among c (walk (next M R A) i a) ≡ true = subst (λ (x : Agent). among c (walk (next M R A) i x) ≡ true) (lowest_only r.start low) r.on in
        let rest : i + (k - i) ≡ k = omega (arith, r.soon) in
        let there : among c (walk (next M R A) k a) ≡ true = subst (λ (x : ℕ). among c (walk (next M R A) x a) ≡ true) rest (stays_on c a i (k - i) r.is_cycle on) in
        (c, cycle_of_found c (walk (next M R A) k a) r.is_cycle r.from_lowest there, r.found))
  ]
