-- Groups that are made of cycles, and what is left of one when another has traded: whatever the order of the trades, the last row is the same.
use Rattle.std.proofs.Common.{◌≡◌, ℕ, zero, suc, Bool, true, false, cond, length, Some, None, Option, sym, refl, ap, ◌∙◌, subst, inl, inr}
use Rattle.std.proofs.lemmas.Bool.{both_ways, cases_Bool}
use Rattle.market.specs.declared.agent.Agent.{Agent}
use Rattle.market.specs.declared.place.Place.{Place}
use Rattle.market.specs.declared.standing.Standing.TheVariants.{Placed}
use Rattle.market.specs.Rows.{Row, standing, Waits, NobodyWaits}
use Rattle.market.specs.Rules.{Lawful}
use Rattle.trading.specs.Economies.{Economy, terms_of, RowIn, Group}
use Rattle.trading.specs.Rankings.{Profile}
use Rattle.trading.specs.Trades.{Available, points_at, owner_of, next, walk, departed, trade}
use Rattle.trading.proofs.Rows.{waiting≢unplaced, departed_placed, same_rows, length_row_from, standing_row_of, Later, later_continues}
use Rattle.trading.proofs.Counts.{taken_le}
use Rattle.trading.proofs.Points.{room_known, room_where_fewer, room_before, best_open, best_kept}

-- A group is made of cycles: its members wait, each one's next is of the group, and a walk from a member comes back to it.
pub record Circles (M : Economy) (R : Profile) (A : Row) (D : Group) : Type 0 where
  pub waiting : (a : Agent) → D a ≡ true → Waits A a
  pub closed : (a : Agent) → D a ≡ true → D (next M R A a) ≡ true
  pub back : (a : Agent) → D a ≡ true → (k : ℕ) × (walk (next M R A) (suc k) a ≡ a)

-- Such groups trade one after another.
pub data Exchanges (M : Economy) (R : Profile) : Row → Row → Type 0 where
  over : {A : Row} → Exchanges M R A A
  step : {A E : Row} (D : Group) → Circles M R A D → Exchanges M R (trade M R A D) E → Exchanges M R A E

-- The members of C that are not of D.
abbrev pub without : Group → Group → Group
without D C a = cond (D a) false (C a)

without_parts : (D C : Group) (a : Agent) → without D C a ≡ true → (D a ≡ false) × (C a ≡ true)
without_parts D C a e = elim (cases_Bool (D a)) [ inl d ↦ absurd (both_ways false refl (rw d at e)) | inr d ↦ (d, rw d at e) ]

pub walk_keeps : (P : Agent → Type 0) (f : Agent → Agent) → ((a : Agent) → P a → P (f a)) → (k : ℕ) (a : Agent) → P a → P (walk f k a)
walk_keeps P f closed zero a h = h
walk_keeps P f closed (suc k) a h = walk_keeps P f closed k (f a) (closed a h)

walk_same : (f g : Agent → Agent) (D : Group) → ((a : Agent) → D a ≡ true → D (f a) ≡ true) → ((a : Agent) → D a ≡ true → g a ≡ f a)
    → (k : ℕ) (a : Agent) → D a ≡ true → walk g k a ≡ walk f k a
walk_same f g D closed same zero a d = refl
walk_same f g D closed same (suc k) a d = ap (walk g k) (same a d) ∙ walk_same f g D closed same k (f a) (closed a d)

-- WHAT A TRADE MAKES OF A ROW

module _ {M : Economy} {R : Profile} {A : Row} {D : Group} (d : Circles M R A D) where
  pub length_trade : length (trade M R A D) ≡ length A
  length_trade = length_row_from 1 (length A) (λ a. cond (D a) (departed (points_at M R A a)) (standing A a))

  pub standing_trade : (a : Agent) → standing (trade M R A D) a ≡ cond (D a) (departed (points_at M R A a)) (standing A a)
  standing_trade = standing_row_of A (λ a. cond (D a) (departed (points_at M R A a)) (standing A a)) (λ a u. elim (cases_Bool (D a)) [
    | inl m ↦ absurd (waiting≢unplaced (sym (d.waiting a m) ∙ u))
    | inr m ↦ rw m u
  ])

  pub trade_inside : (a : Agent) → D a ≡ true → standing (trade M R A D) a ≡ departed (points_at M R A a)
  trade_inside a m = standing_trade a ∙ rw m

  pub trade_outside : (a : Agent) → D a ≡ false → standing (trade M R A D) a ≡ standing A a
  trade_outside a m = standing_trade a ∙ rw m

  pub trade_later : Later A (trade M R A D)
  trade_later = record { size = length_trade; kept = λ a w. elim (cases_Bool (D a)) [ inl m ↦ absurd (w (d.waiting a m)) | inr m ↦ trade_outside a m ] }

  pub trade_proper : RowIn M A → RowIn M (trade M R A D)
  trade_proper proper = record {
    size = length_trade ∙ proper.size;
    placed = λ a p e. elim (cases_Bool (D a)) [
      | inl m ↦ room_known M A p (subst (Available M A) (departed_placed p (points_at M R A a) (sym (trade_inside a m) ∙ e)) (best_open M A (R a)))
      | inr m ↦ proper.placed a p (sym (trade_outside a m) ∙ e)
    ];
  }

  -- Where nobody waits, a trade changes nothing.
  pub trade_idle : NobodyWaits A → trade M R A D ≡ A
  trade_idle nobody = same_rows (trade M R A D) A length_trade (λ a. trade_later.kept a (nobody a))

-- WHAT IS LEFT of C when D has traded is still made of cycles, if C and D are.

module _ {M : Economy} {R : Profile} {A : Row} {C D : Group} (law : Lawful (terms_of M)) (proper : RowIn M A) (c : Circles M R A C) (d : Circles M R A D) where
  -- A member of C whose next is of D is of D: its walk comes back to it.
  outside : (a : Agent) → without D C a ≡ true → D (next M R A a) ≡ false
  outside a e = elim (cases_Bool (D (next M R A a))) [
    | inl n ↦ (let home = c.back a (without_parts D C a e).1 in
        absurd (both_ways (D a) (without_parts D C a e).0 (subst (λ (x : Agent). D x ≡ true) home.1 (walk_keeps (λ x. D x ≡ true) (next M R A) d.closed home.0 (next M R A a) n))))
    | inr n ↦ n
  ]

  stays_inside : (a : Agent) → without D C a ≡ true → without D C (next M R A a) ≡ true
  stays_inside a e = rw (outside a e) (c.closed a (without_parts D C a e).1)

  pub rest_waits : (a : Agent) → without D C a ≡ true → Waits (trade M R A D) a
  rest_waits a e = trade_outside d a (without_parts D C a e).0 ∙ c.waiting a (without_parts D C a e).1

  -- Nobody of D takes a seat of a place that one of C points at: its owner would be of D.
  holders_kept : (a : Agent) → without D C a ≡ true → (p : Place) → points_at M R A a ≡ Some p
      → (b : Agent) → standing (trade M R A D) b ≡ Placed p → standing A b ≡ Placed p
  holders_kept a e p at b s = elim (cases_Bool (D b)) [
    | inl m ↦ (let at' = departed_placed p (points_at M R A b) (sym (trade_inside d b m) ∙ s) in
        let same : next M R A b ≡ next M R A a = ap (owner_of M A b) at' ∙ sym (ap (owner_of M A a) at) in
        absurd (both_ways (D (next M R A a)) (outside a e) (subst (λ (x : Agent). D x ≡ true) same (d.closed b m))))
    | inr m ↦ sym (trade_outside d b m) ∙ s
  ]

  points_kept : (a : Agent) → without D C a ≡ true → points_at M R (trade M R A D) a ≡ points_at M R A a
  points_kept a e = best_kept M A (trade M R A D) (R a) (room_before M (trade_later d)) (go (points_at M R A a) refl (best_open M A (R a)))
    where
      go : (x : Option Place) → points_at M R A a ≡ x → Available M A x → Available M (trade M R A D) x
      go None at o = tt
      go (Some p) at o = room_where_fewer M A (trade M R A D) p (taken_le (trade M R A D) A p (sym (length_trade d)) (holders_kept a e p at)) o

  pub next_kept : (a : Agent) → without D C a ≡ true → next M R (trade M R A D) a ≡ next M R A a
  next_kept a e = ap (owner_of M (trade M R A D) a) (points_kept a e) ∙ go (points_at M R A a) refl (best_open M A (R a))
    where
      go : (x : Option Place) → points_at M R A a ≡ x → Available M A x → owner_of M (trade M R A D) a x ≡ owner_of M A a x
      go None at o = refl
      go (Some p) at o = law.stays A (trade M R A D) p proper (trade_proper d proper) (later_continues (trade_later d)) (room_known M A p o)
          (subst (Waits (trade M R A D)) (ap (owner_of M A a) at) (rest_waits (next M R A a) (stays_inside a e)))

  pub rest_circles : Circles M R (trade M R A D) (without D C)
  rest_circles = record {
    waiting = rest_waits;
    closed = λ a e. rw (next_kept a e) (stays_inside a e);
    back = λ a e. let home = c.back a (without_parts D C a e).1 in
        (home.0, walk_same (next M R A) (next M R (trade M R A D)) (without D C) stays_inside next_kept (suc home.0) a e ∙ home.1);
  }

  -- Each of C and D departs with what it points at in A.
  standing_both : (a : Agent) → standing (trade M R (trade M R A D) (without D C)) a ≡ cond (D a) (departed (points_at M R A a)) (cond (C a) (departed (points_at M R A a)) (standing A a))
  standing_both a = standing_trade rest_circles a ∙ elim (cases_Bool (D a)) [
    | inl m ↦ rw m (trade_inside d a m)
    | inr m ↦ elim (cases_Bool (C a)) [
      | inl n ↦ rw (m, n) (ap departed (points_kept a (rw m n)))
      | inr n ↦ rw (m, n) (trade_outside d a m)
    ]
  ]

cond_swap : {X : Type 0} (b c : Bool) (x y : X) → cond b x (cond c x y) ≡ cond c x (cond b x y)
cond_swap true true x y = refl
cond_swap true false x y = refl
cond_swap false true x y = refl
cond_swap false false x y = refl

module _ {M : Economy} {R : Profile} (law : Lawful (terms_of M)) where
  pub groups_commute : {A : Row} {C D : Group} → RowIn M A → Circles M R A C → Circles M R A D → trade M R (trade M R A D) (without D C) ≡ trade M R (trade M R A C) (without C D)
  groups_commute {A} {C} {D} proper c d = same_rows (trade M R (trade M R A D) (without D C)) (trade M R (trade M R A C) (without C D)) (simp length_row_from)
      (λ a. standing_both law proper c d a ∙ cond_swap (D a) (C a) (departed (points_at M R A a)) (standing A a) ∙ sym (standing_both law proper d c a))

  -- After any trade, a row still ends in what it ended in.
  pub strip : {A E : Row} {C : Group} → RowIn M A → NobodyWaits E → Circles M R A C → Exchanges M R A E → Exchanges M R (trade M R A C) E
  strip {A} proper nobody c over = subst (λ (X : Row). Exchanges M R X A) (sym (trade_idle c nobody)) over
  strip {E} {C} proper nobody c (step D d rest) =
      step (without C D) (rest_circles law proper d c)
      (subst (λ (X : Row). Exchanges M R X E) (groups_commute proper c d) (strip (trade_proper d proper) nobody (rest_circles law proper c d) rest))

  pub none_left : {A E : Row} → NobodyWaits A → Exchanges M R A E → A ≡ E
  none_left nobody over = refl
  none_left nobody (step D d rest) = let idle = trade_idle d nobody in sym idle ∙ none_left (subst NobodyWaits (sym idle) nobody) rest

  -- All trades from one row that go on until nobody waits end in the same row.
  pub exchanges_agree : {A E F : Row} → RowIn M A → NobodyWaits E → NobodyWaits F → Exchanges M R A E → Exchanges M R A F → E ≡ F
  exchanges_agree proper e f over other = none_left e other
  exchanges_agree proper e f (step D d rest) other = exchanges_agree (trade_proper d proper) e f rest (strip proper f d other)
