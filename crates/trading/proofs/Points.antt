-- The best place with room: that nothing better can be had, and when it stays the best.
use Rattle.std.proofs.Common.{◌≡◌, ℕ, zero, suc, ◌<◌, ◌≤◌, true, [], ◌∷◌, length, get_or, Some, None, Option, refl, subst, inl, inr, arith}
use Rattle.std.proofs.lemmas.List.{get_or_past}
use Rattle.std.proofs.lemmas.Bool.{both_ways, eq-eqb, ltb-true, lt-ltb, cases_Bool, cases_lt}
use Rattle.market.specs.declared.place.Place.{Place}
use Rattle.market.specs.Rows.{Row, PlaceIn}
use Rattle.trading.specs.Economies.{Economy, capacity}
use Rattle.trading.specs.Rooms.{taken, has_room}
use Rattle.trading.specs.Rankings.{Ranking, is_place, rank}
use Rattle.trading.specs.Trades.{Available, best}
use Rattle.trading.proofs.Rows.{Later, later_placed}
use Rattle.trading.proofs.Counts.{taken_le}
use Rattle.trading.proofs.Rankings.{is_place_some}

rank_cons : (q : Place) (qs : Ranking) (x : Option Place) → rank (q ∷ qs) x ≤ suc (rank qs x)
rank_cons q qs x = elim (cases_Bool (is_place q x)) [ inl i ↦ rw i (omega arith) | inr i ↦ rw i (omega arith) ]

module _ (M : Economy) where
  -- What has room is a place of the economy.
  pub room_known : (A : Row) (p : Place) → has_room M A p ≡ true → PlaceIn (length M.capacities) p
  room_known A p e = go p.number (ltb-true (taken A p) (capacity M p) e)
    where
      go : (j : ℕ) → taken A p < get_or (0 ∷ M.capacities) j 0 → PlaceIn (length M.capacities) (record { number = j })
      go zero h = absurd (omega arith)
      go (suc i) h = elim (cases_lt i (length M.capacities)) [
        | inl l ↦ record { from_one = omega arith; in_range = l }
        | inr l ↦ absurd (omega (arith, get_or_past M.capacities i 0 l))
      ]

  pub room_where_fewer : (A B : Row) (p : Place) → taken B p ≤ taken A p → has_room M A p ≡ true → has_room M B p ≡ true
  room_where_fewer A B p fewer e = lt-ltb (taken B p) (capacity M p) (omega (arith, ltb-true (taken A p) (capacity M p) e))

  -- No place gains room.
  pub room_before : {A B : Row} → Later A B → (p : Place) → has_room M B p ≡ true → has_room M A p ≡ true
  room_before {A} {B} more p = room_where_fewer B A p (taken_le A B p more.size (later_placed more p))

  pub best_open : (A : Row) (r : Ranking) → Available M A (best M A r)
  best_open A [] = tt
  best_open A (q ∷ qs) = elim (cases_Bool (has_room M A q)) [ inl e ↦ rw e e | inr e ↦ rw e (best_open A qs) ]

  -- What can be had is no better than the best, and only the best is as good.
  pub best_only : (A : Row) (r : Ranking) (x : Option Place) → Available M A x → rank r x ≤ rank r (best M A r) → x ≡ best M A r
  best_only A [] None o h = refl
  best_only A [] (Some p) o h = absurd (omega arith)
  best_only A (q ∷ qs) x o h = elim (cases_Bool (has_room M A q)) [
    | inl e ↦ (let h₁ : rank (q ∷ qs) x ≤ rank (q ∷ qs) (Some q) = rw e at h in
        let h₂ : rank (q ∷ qs) x ≤ 0 = rw (eq-eqb q.number q.number refl) at h₁ in
        elim (cases_Bool (is_place q x)) [ inl i ↦ rw e (is_place_some q x i) | inr i ↦ (let h₃ : suc (rank qs x) ≤ 0 = rw i at h₂ in absurd (omega arith)) ])
    | inr e ↦ (let h₁ : rank (q ∷ qs) x ≤ rank (q ∷ qs) (best M A qs) = rw e at h in
        elim (cases_Bool (is_place q x)) [
          | inl i ↦ absurd (both_ways (has_room M A q) e (subst (Available M A) (is_place_some q x i) o))
          | inr i ↦ (let h₂ : suc (rank qs x) ≤ rank (q ∷ qs) (best M A qs) = rw i at h₁ in
              rw e (best_only A qs x o (omega (arith, rank_cons q qs (best M A qs)))))
        ])
  ]

  -- The best stays the best where no place gains room and it loses none.
  pub best_kept : (A B : Row) (r : Ranking) → ((p : Place) → has_room M B p ≡ true → has_room M A p ≡ true) → Available M B (best M A r) → best M B r ≡ best M A r
  best_kept A B [] before o = refl
  best_kept A B (q ∷ qs) before o = elim (cases_Bool (has_room M A q)) [
    | inl e ↦ (let o' : has_room M B q ≡ true = rw e at o in rw (e, o'))
    | inr e ↦ elim (cases_Bool (has_room M B q)) [
      | inl e' ↦ absurd (both_ways (has_room M A q) e (before q e'))
      | inr e' ↦ (let o' : Available M B (best M A qs) = rw e at o in rw (e, e') (best_kept A B qs before o'))
    ]
  ]
