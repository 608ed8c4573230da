-- Departing one by one: members that are written into the row one after another make the row that the trade makes.
use Rattle.std.proofs.Common.{◌≡◌, ℕ, zero, suc, ◌+◌, ◌-◌, ◌≤◌, Bool, true, cond, List, [], ◌∷◌, length, get_or, set, Some, None, count_by, Option, sym, refl, ap, ◌∙◌, subst, inl, inr, arith}
use Rattle.std.proofs.lemmas.List.{get_or-set_same, get_or-set_other, length-set, length-map}
use Rattle.std.proofs.lemmas.List.Sums.{sum_by-cons}
use Rattle.std.proofs.lemmas.Bool.{both_ways, cases_Bool, cases_eq, eq-eqb, ne_eqb}
use Rattle.market.specs.declared.agent.Agent.{Agent}
use Rattle.market.specs.declared.place.Place.{Place}
use Rattle.market.specs.declared.standing.Standing.{Standing}
use Rattle.market.specs.declared.standing.Standing.TheVariants.{Waiting, Unplaced}
use Rattle.market.specs.Rows.{Row, Waits, AgentIn, is_waiting, standing}
use Rattle.trading.specs.Cycles.{same_agent, among, Cycle}
use Rattle.trading.specs.Economies.{Economy}
use Rattle.trading.specs.Rankings.{Profile, is_place}
use Rattle.trading.specs.Rooms.{is_at, taken, waiters}
use Rattle.trading.specs.Trades.{points_at, departed, trade}
use Rattle.trading.proofs.Agents.{same_agents, among_first, among_more, Different}
use Rattle.trading.proofs.Circles.{length_trade, standing_trade}
use Rattle.trading.proofs.Cycles.{cycle_circles, cycle_different}
use Rattle.trading.proofs.Rows.{waiting≢unplaced, same_rows, waiter_in}
use Rattle.round_law.specs.declared.member.Member.{Member}
use Rattle.round_law.specs.Contents.{count_members}
use Rattle.round_law.specs.Records.{Lines, none, line}
use Rattle.round_law.specs.States.{agents_of}
use Rattle.round_law.specs.Steps.{members, depart_all}

-- A list with an entry for each agent, after a write to the entry of one.
pub set_agent : {X : Type 0} (d : X) (xs : List X) (a b : Agent) (x : X) → AgentIn (length xs) a → get_or (d ∷ set xs (a.number - 1) x) b.number d ≡ cond (same_agent a b) x (get_or (d ∷ xs) b.number d)
set_agent {X} d xs a b x known = go b.number known.from_one known.in_range
  where
    go : (j : ℕ) → 1 ≤ a.number → a.number ≤ length xs
        → get_or (d ∷ set xs (a.number - 1) x) j d ≡ cond (same_agent a (record { number = j })) x (get_or (d ∷ xs) j d)
    go zero one most = rw (ne_eqb a.number 0 (λ e. omega arith))
    go (suc j) one most = elim (cases_eq a.number (suc j)) [
      | inl e ↦ (let i : a.number - 1 ≡ j = omega arith in rw (eq-eqb a.number (suc j) e, i) (get_or-set_same xs j x d (omega arith)))
      | inr n ↦ rw (ne_eqb a.number (suc j) n) (get_or-set_other xs (a.number - 1) j x d (λ e. n (omega arith)))
    ]

-- THE ROW

length_depart_all : (B : Row) (ms : List Member) → length (depart_all B ms) ≡ length B
length_depart_all B [] = refl
length_depart_all B (m ∷ ms) = length_depart_all (set B (m.agent.number - 1) (departed m.place)) ms ∙ length-set B (m.agent.number - 1) (departed m.place)

module _ (M : Economy) (R : Profile) (A : Row) where
  standing_depart_all : (c : List Agent) (B : Row) → ((a : Agent) → among c a ≡ true → AgentIn (length B) a) → (a : Agent)
      → standing (depart_all B (members M R A c)) a ≡ cond (among c a) (departed (points_at M R A a)) (standing B a)
  standing_depart_all [] B known a = refl
  standing_depart_all (b ∷ c) B known a =
      let C = set B (b.number - 1) (departed (points_at M R A b)) in
      let size : length C ≡ length B = length-set B (b.number - 1) (departed (points_at M R A b)) in
      let rest = standing_depart_all c C (λ m i. subst (λ (n : ℕ). AgentIn n m) (sym size) (known m (among_more b c m i))) a in
      let here = set_agent Unplaced B b a (departed (points_at M R A b)) (known b (among_first b c)) in
      elim (cases_Bool (same_agent b a)) [
        | inl s ↦ (let same = same_agents b a s in
            elim (cases_Bool (among c a)) [
              | inl i ↦ rw s (rw i at rest)
              | inr i ↦ (let got : standing C a ≡ departed (points_at M R A b) = rw s at here in let left : standing (depart_all C (members M R A c)) a ≡ standing C a = rw i at rest in
                  rw s (left ∙ got ∙ ap (λ (x : Agent). departed (points_at M R A x)) same))
            ])
        | inr s ↦ (let kept : standing C a ≡ standing B a = rw s at here in rw s (rest ∙ ap (λ (x : Standing). cond (among c a) (departed (points_at M R A a)) x) kept))
      ]

-- The members of a cycle that depart one by one leave the row that its trade leaves.
pub trade_departs : {M : Economy} {R : Profile} {A : Row} (c : List Agent) → Cycle M R A c → depart_all A (members M R A c) ≡ trade M R A (among c)
trade_departs {M} {R} {A} c y =
    let d = cycle_circles y in
    same_rows (depart_all A (members M R A c)) (trade M R A (among c)) (length_depart_all A (members M R A c) ∙ sym (length_trade d))
    (λ a. standing_depart_all M R A c A (λ m i. waiter_in A m (d.waiting m i)) a ∙ sym (standing_trade d a))

-- HOW MANY WAIT, AND HOW MANY HAVE A PLACE

-- How much a standing adds to a count.
abbrev share : (Standing → Bool) → Standing → ℕ
share test x = cond (test x) 1 0

count_list : (test : Standing → Bool) (B : Row) (i : ℕ) (x : Standing) → get_or B i Unplaced ≡ Waiting → count_by test (set B i x) + share test Waiting ≡ count_by test B + share test x
count_list test [] i x w = absurd (waiting≢unplaced (sym w))
count_list test (y ∷ B) zero x w =
    let here : share test y ≡ share test Waiting = ap (share test) w in
    omega (arith, sum_by-cons (share test) y B, sum_by-cons (share test) x B)
count_list test (y ∷ B) (suc i) x w = omega (arith, sum_by-cons (share test) y B, sum_by-cons (share test) y (set B i x), count_list test B i x w)

-- What a count becomes when an agent that waits departs.
count_departs : (test : Standing → Bool) (B : Row) (b : Agent) (x : Standing) → Waits B b → count_by test (set B (b.number - 1) x) + share test Waiting ≡ count_by test B + share test x
count_departs test B b x w = go b.number w
  where
    go : (j : ℕ) → Waits B (record { number = j }) → count_by test (set B (j - 1) x) + share test Waiting ≡ count_by test B + share test x
    go zero v = absurd (waiting≢unplaced (sym v))
    go (suc i) v = let e : suc i - 1 ≡ i = omega arith in rw e (count_list test B i x v)

-- One fewer waits,
one_fewer : (B : Row) (b : Agent) (x : Option Place) → Waits B b → waiters B ≡ suc (waiters (set B (b.number - 1) (departed x)))
one_fewer B b x w = go x (count_departs is_waiting B b (departed x) w)
  where
    go : (x : Option Place) → waiters (set B (b.number - 1) (departed x)) + 1 ≡ waiters B + share is_waiting (departed x) → waiters B ≡ suc (waiters (set B (b.number - 1) (departed x)))
    go None e = omega arith
    go (Some p) e = omega arith

-- and one more has the place that it departed with.
pub one_taken : (B : Row) (b : Agent) (x : Option Place) (q : Place) → Waits B b → taken (set B (b.number - 1) (departed x)) q ≡ taken B q + cond (is_place q x) 1 0
one_taken B b x q w = go x (count_departs (is_at q) B b (departed x) w)
  where
    go : (x : Option Place) → taken (set B (b.number - 1) (departed x)) q + 0 ≡ taken B q + share (is_at q) (departed x) → taken (set B (b.number - 1) (departed x)) q ≡ taken B q + cond (is_place q x) 1 0
    go None e = omega arith
    go (Some p) e = omega arith

module _ (M : Economy) (R : Profile) (A : Row) where
  fewer_all : (c : List Agent) (B : Row) → Different c → ((a : Agent) → among c a ≡ true → Waits B a) → waiters B ≡ length c + waiters (depart_all B (members M R A c))
  fewer_all [] B d w = omega arith
  fewer_all (b ∷ c) B d w =
      let x = points_at M R A b in
      let C = set B (b.number - 1) (departed x) in
      let wb = w b (among_first b c) in
      let still : (a : Agent) → among c a ≡ true → Waits C a = λ a i. stays a i in
      omega (arith, one_fewer B b x wb, fewer_all c C d.1 still)
    where
      stays : (a : Agent) → among c a ≡ true → Waits (set B (b.number - 1) (departed (points_at M R A b))) a
      stays a i = elim (cases_Bool (same_agent b a)) [
        | inl s ↦ absurd (both_ways (among c b) d.0 (subst (λ (m : Agent). among c m ≡ true) (sym (same_agents b a s)) i))
        | inr s ↦ (let kept = set_agent Unplaced B b a (departed (points_at M R A b)) (waiter_in B b (w b (among_first b c))) in let same : standing (set B (b.number - 1) (departed (points_at M R A b))) a ≡ standing B a = rw s at kept in
            same ∙ w a (among_more b c a i))
      ]

-- As many agents fewer wait after a trade as the cycle has members.
pub trade_waiters : {M : Economy} {R : Profile} {A : Row} (c : List Agent) → Cycle M R A c → waiters A ≡ length c + waiters (trade M R A (among c))
trade_waiters {M} {R} {A} c y = fewer_all M R A c A (cycle_different y) (cycle_circles y).waiting ∙ ap (λ (B : Row). length c + waiters B) (trade_departs c y)

pub lines_waiters : {M : Economy} {R : Profile} {A E : Row} {lines : List (List Member)} → Lines M R A lines E → waiters A ≡ count_members lines + waiters E
lines_waiters none = omega arith
lines_waiters (line ms l rest) = omega (arith, trade_waiters (agents_of ms) l.cycle, lines_waiters rest, length-map ms (λ m. m.agent))
