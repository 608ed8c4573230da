-- Counts over rows: how many hold a place, and how many wait.
use Rattle.std.proofs.Common.{◌≡◌, ℕ, zero, suc, ◌<◌, ◌≤◌, Bool, true, false, cond, [], ◌∷◌, length, get_or, count_by, sym, refl, ap, ◌∙◌, subst, inl, inr, zero-le, arith}
use Rattle.std.proofs.lemmas.List.{get_or_past}
use Rattle.std.proofs.lemmas.List.Sums.{sum_by-cons}
use Rattle.std.proofs.lemmas.Bool.{false≢true, both_ways, eqb-true, eq-eqb, cases_Bool, cases_lt}
use Rattle.market.specs.declared.agent.Agent.{Agent}
use Rattle.market.specs.declared.place.Place.{Place}
use Rattle.market.specs.declared.standing.Standing.{Standing}
use Rattle.market.specs.declared.standing.Standing.TheVariants.{Waiting, Placed, Unplaced}
use Rattle.market.specs.Rows.{Row, standing, Waits, is_waiting, waits}
use Rattle.trading.specs.Rooms.{is_at, taken, waiters}
use Rattle.trading.proofs.Rows.{waits_true}

-- HOW MANY PASS A TEST, in two rows of the same length

module _ (test : Standing → Bool) where
  -- What a standing adds to the count.
  abbrev share : Standing → ℕ
  share s = cond (test s) 1 0

  share_le : (x y : Standing) → (test x ≡ true → test y ≡ true) → share x ≤ share y
  share_le x y h = elim (cases_Bool (test x)) [ inl e ↦ rw (e, h e) (omega arith) | inr e ↦ rw e zero-le ]

  share_le_one : (x : Standing) → share x ≤ 1
  share_le_one x = elim (cases_Bool (test x)) [ inl e ↦ rw e (omega arith) | inr e ↦ rw e (omega arith) ]

  -- Whoever passes in A passes in B.
  count_le_list : (A B : Row) → length B ≡ length A → ((i : ℕ) → test (get_or A i Unplaced) ≡ true → test (get_or B i Unplaced) ≡ true) → count_by test A ≤ count_by test B
  count_le_list [] B size h = zero-le
  count_le_list (x ∷ A) [] size h = omega arith
  count_le_list (x ∷ A) (y ∷ B) size h =
      let rest : count_by test A ≤ count_by test B = count_le_list A B (omega arith) (λ i. h (suc i)) in
      omega (arith, share_le x y (h 0), sum_by-cons share x A, sum_by-cons share y B)

  -- Whoever passes in A passes in B, and one passes only in B.
  count_lt_list : (A B : Row) (i : ℕ) → length B ≡ length A → ((j : ℕ) → test (get_or A j Unplaced) ≡ true → test (get_or B j Unplaced) ≡ true)
      → i < length A → test (get_or A i Unplaced) ≡ false → test (get_or B i Unplaced) ≡ true → count_by test A < count_by test B
  count_lt_list [] B i size h l w e = omega arith
  count_lt_list (x ∷ A) [] i size h l w e = omega arith
  count_lt_list (x ∷ A) (y ∷ B) zero size h l w e =
      let rest : count_by test A ≤ count_by test B = count_le_list A B (omega arith) (λ j. h (suc j)) in
      let none : share x ≡ 0 = rw w in
      let one : share y ≡ 1 = rw e in
      omega (arith, sum_by-cons share x A, sum_by-cons share y B)
  count_lt_list (x ∷ A) (y ∷ B) (suc i) size h l w e =
      let rest : count_by test A < count_by test B = count_lt_list A B i (omega arith) (λ j. h (suc j)) (omega arith) w e in
      omega (arith, share_le x y (h 0), sum_by-cons share x A, sum_by-cons share y B)

  -- Whoever passes in A passes in B, but for one.
  count_one_list : (A B : Row) (k : ℕ) → length B ≡ length A
      → ((i : ℕ) → (i ≡ k → ⊥) → test (get_or A i Unplaced) ≡ true → test (get_or B i Unplaced) ≡ true) → count_by test A ≤ suc (count_by test B)
  count_one_list [] B k size h = zero-le
  count_one_list (x ∷ A) [] k size h = omega arith
  count_one_list (x ∷ A) (y ∷ B) zero size h =
      let rest : count_by test A ≤ count_by test B = count_le_list A B (omega arith) (λ i. h (suc i) (omega arith)) in
      omega (arith, share_le_one x, sum_by-cons share x A, sum_by-cons share y B)
  count_one_list (x ∷ A) (y ∷ B) (suc k) size h =
      let rest : count_by test A ≤ suc (count_by test B) = count_one_list A B k (omega arith) (λ i n. h (suc i) (λ e. n (omega arith))) in
      omega (arith, share_le x y (h 0 (omega arith)), sum_by-cons share x A, sum_by-cons share y B)

  module _ (A B : Row) (size : length B ≡ length A) (h : (a : Agent) → test (standing A a) ≡ true → test (standing B a) ≡ true) where
    pub count_le : count_by test A ≤ count_by test B
    count_le = count_le_list A B size (λ i. h (record { number = suc i }))

    pub count_lt : (a : Agent) → test Unplaced ≡ false → test (standing A a) ≡ false → test (standing B a) ≡ true → count_by test A < count_by test B
    count_lt a out = go a.number
      where
        go : (j : ℕ) → test (standing A (record { number = j })) ≡ false → test (standing B (record { number = j })) ≡ true → count_by test A < count_by test B
        go zero w e = absurd (both_ways (test Unplaced) out e)
        go (suc i) w e = elim (cases_lt i (length A)) [
          | inl l ↦ count_lt_list A B i size (λ j. h (record { number = suc j })) l w e
          | inr l ↦ absurd (both_ways (test Unplaced) out (subst (λ (s : Standing). test s ≡ true) (get_or_past B i Unplaced (rw size l)) e))
        ]

  pub count_one : (A B : Row) (b : Agent) → length B ≡ length A
      → ((a : Agent) → (a ≡ b → ⊥) → test (standing A a) ≡ true → test (standing B a) ≡ true) → count_by test A ≤ suc (count_by test B)
  count_one A B b size h = go b.number h
    where
      go : (j : ℕ) → ((a : Agent) → (a ≡ record { number = j } → ⊥) → test (standing A a) ≡ true → test (standing B a) ≡ true) → count_by test A ≤ suc (count_by test B)
      go zero h = let rest = count_le_list A B size (λ i. h (record { number = suc i }) (λ e. let z : suc i ≡ 0 = ap (λ (x : Agent). x.number) e in omega arith)) in omega arith
      go (suc k) h = count_one_list A B k size (λ i n. h (record { number = suc i }) (λ e. n (let z : suc i ≡ suc k = ap (λ (x : Agent). x.number) e in omega arith)))

-- HOW MANY HOLD A PLACE

is_at_placed : (p : Place) (s : Standing) → is_at p s ≡ true → s ≡ Placed p
is_at_placed p Waiting e = absurd (false≢true e)
is_at_placed p (Placed q) e = ap (λ (k : ℕ). Placed (record { number = k })) (sym (eqb-true p.number q.number e))
is_at_placed p Unplaced e = absurd (false≢true e)

placed_is_at : (p : Place) (s : Standing) → s ≡ Placed p → is_at p s ≡ true
placed_is_at p s e = ap (is_at p) e ∙ eq-eqb p.number p.number refl

module _ (A B : Row) (p : Place) (size : length B ≡ length A) (h : (a : Agent) → standing A a ≡ Placed p → standing B a ≡ Placed p) where
  holders : (a : Agent) → is_at p (standing A a) ≡ true → is_at p (standing B a) ≡ true
  holders a e = placed_is_at p (standing B a) (h a (is_at_placed p (standing A a) e))

  pub taken_le : taken A p ≤ taken B p
  taken_le = count_le (is_at p) A B size holders

  pub taken_lt : (a : Agent) → standing A a ≡ Waiting → standing B a ≡ Placed p → taken A p < taken B p
  taken_lt a w e = count_lt (is_at p) A B size holders a refl (ap (is_at p) w) (placed_is_at p (standing B a) e)

pub taken_one : (A B : Row) (p : Place) (b : Agent) → length B ≡ length A
    → ((a : Agent) → (a ≡ b → ⊥) → standing A a ≡ Placed p → standing B a ≡ Placed p) → taken A p ≤ suc (taken B p)
taken_one A B p b size h = count_one (is_at p) A B b size (λ a n e. placed_is_at p (standing B a) (h a n (is_at_placed p (standing A a) e)))

-- HOW MANY WAIT

module _ (A B : Row) (size : length B ≡ length A) (h : (a : Agent) → Waits A a → Waits B a) where
  pub waiters_lt : (a : Agent) → (Waits A a → ⊥) → Waits B a → waiters A < waiters B
  waiters_lt a w e = count_lt is_waiting A B size (λ b t. ap is_waiting (h b (waits_true A b t))) a refl
      (elim (cases_Bool (waits A a)) [ inl t ↦ absurd (w (waits_true A a t)) | inr t ↦ t ]) (ap is_waiting e)
