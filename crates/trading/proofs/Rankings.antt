-- Rankings: that better is what the words say, and when two seats are the same.
use Rattle.std.proofs.Common.{◌≡◌, ℕ, zero, suc, ◌<◌, ◌≤◌, true, false, [], ◌∷◌, Some, None, Option, sym, refl, ap, ◌∙◌, subst, inl, inr, arith}
use Rattle.std.proofs.lemmas.Bool.{both_ways, eqb-true, eq-eqb, cases_Bool}
use Rattle.std.specs.List.{slice_get}
use Rattle.market.specs.declared.place.Place.{Place}
use Rattle.trading.specs.Rankings.{Ranking, is_place, rank, Better, Preferred}
use Rattle.trading.proofs.Rows.{none≢some}

pub is_place_some : (p : Place) (x : Option Place) → is_place p x ≡ true → x ≡ Some p
is_place_some p None e = let z : ◌≡◌ {A = ℕ} 0 1 = cc in absurd (omega arith)
is_place_some p (Some q) e = ap (λ (k : ℕ). Some (record { number = k })) (sym (eqb-true p.number q.number e))

pub equally_good : (r : Ranking) (x y : Option Place) → rank r x ≤ rank r y → rank r y ≤ rank r x → rank r x ≤ rank r None → x ≡ y
equally_good [] None None h k l = refl
equally_good [] None (Some q) h k l = absurd (omega arith)
equally_good [] (Some p) y h k l = absurd (omega arith)
equally_good (q ∷ qs) x y h k l = elim (cases_Bool (is_place q x)) [
  | inl i ↦ (let k' : rank (q ∷ qs) y ≤ 0 = rw i at k in elim (cases_Bool (is_place q y)) [
    | inl j ↦ is_place_some q x i ∙ sym (is_place_some q y j)
    | inr j ↦ (let z : suc (rank qs y) ≤ 0 = rw j at k' in absurd (omega arith))
  ])
  | inr i ↦ (let h' : suc (rank qs x) ≤ rank (q ∷ qs) y = rw i at h in elim (cases_Bool (is_place q y)) [
    | inl j ↦ (let z : suc (rank qs x) ≤ 0 = rw j at h' in absurd (omega arith))
    | inr j ↦ (let h'' : suc (rank qs x) ≤ suc (rank qs y) = rw j at h' in
        let k' : suc (rank qs y) ≤ suc (rank qs x) = rw (i, j) at k in
        let l' : suc (rank qs x) ≤ suc (rank qs None) = rw i at l in
        equally_good qs x y (omega arith) (omega arith) (omega arith))
  ])
]

-- BETTER, IN WORDS

-- What is not first in a ranking stands further down.
listed_later : (q : Place) (qs : Ranking) (s : Place) → is_place q (Some s) ≡ false → (i : ℕ) → slice_get (q ∷ qs) i ≡ Some s → (j : ℕ) × (i ≡ suc j) × (slice_get qs j ≡ Some s)
listed_later q qs s n zero e =
    let same : q ≡ s = cc in
    absurd (both_ways (is_place q (Some s)) n (eq-eqb q.number s.number (ap (λ (x : Place). x.number) same)))
listed_later q qs s n (suc i) e = (i, refl, e)

-- A place in front of the ranking changes nothing for other seats.
preferred_more : (q : Place) (qs : Ranking) (x y : Option Place) → is_place q x ≡ false → is_place q y ≡ false → Preferred qs x y → Preferred (q ∷ qs) x y
preferred_more q qs (Some p) (Some s) n m h = (suc h.0, h.1, λ j g. let r = listed_later q qs s m j g in omega (arith, r.1, h.2 r.0 r.2))
preferred_more q qs (Some p) None n m h = (suc h.0, h.1)
preferred_more q qs None (Some s) n m h = λ l. let r = listed_later q qs s m l.0 l.1 in h (r.0, r.2)
preferred_more q qs None None n m h = h

preferred_fewer : (q : Place) (qs : Ranking) (x y : Option Place) → is_place q x ≡ false → is_place q y ≡ false → Preferred (q ∷ qs) x y → Preferred qs x y
preferred_fewer q qs (Some p) (Some s) n m h = let r = listed_later q qs p n h.0 h.1 in (r.0, r.2, λ j g. omega (arith, r.1, h.2 (suc j) g))
preferred_fewer q qs (Some p) None n m h = let r = listed_later q qs p n h.0 h.1 in (r.0, r.2)
preferred_fewer q qs None (Some s) n m h = λ l. h (suc l.0, l.1)
preferred_fewer q qs None None n m h = h

-- The first place is preferred to every other seat, and no seat to it.
first_preferred : (q : Place) (qs : Ranking) (y : Option Place) → is_place q y ≡ false → Preferred (q ∷ qs) (Some q) y
first_preferred q qs (Some s) m = (0, refl, λ j g. omega (arith, (listed_later q qs s m j g).1))
first_preferred q qs None m = (0, refl)

none_first : (q : Place) (qs : Ranking) (x : Option Place) → Preferred (q ∷ qs) x (Some q) → ⊥
none_first q qs (Some p) h = omega (arith, h.2 0 refl)
none_first q qs None h = h (0, refl)

pub better_preferred : (r : Ranking) (x y : Option Place) → Better r x y → Preferred r x y
better_preferred [] None None h = absurd (omega arith)
better_preferred [] None (Some q) h = λ l. none≢some l.1
better_preferred [] (Some p) None h = absurd (omega arith)
better_preferred [] (Some p) (Some q) h = absurd (omega arith)
better_preferred (q ∷ qs) x y h = elim (cases_Bool (is_place q y)) [
  | inl j ↦ (let z : rank (q ∷ qs) x < 0 = rw j at h in absurd (omega arith))
  | inr j ↦ elim (cases_Bool (is_place q x)) [
    | inl i ↦ subst (λ (z : Option Place). Preferred (q ∷ qs) z y) (sym (is_place_some q x i)) (first_preferred q qs y j)
    | inr i ↦ (let h' : suc (rank qs x) < suc (rank qs y) = rw (i, j) at h in preferred_more q qs x y i j (better_preferred qs x y (omega arith)))
  ]
]

pub preferred_better : (r : Ranking) (x y : Option Place) → Preferred r x y → Better r x y
preferred_better [] None None h = absurd h
preferred_better [] None (Some q) h = omega arith
preferred_better [] (Some p) None h = absurd (none≢some h.1)
preferred_better [] (Some p) (Some q) h = absurd (none≢some h.1)
preferred_better (q ∷ qs) x y h = elim (cases_Bool (is_place q y)) [
  | inl j ↦ absurd (none_first q qs x (subst (Preferred (q ∷ qs) x) (is_place_some q y j) h))
  | inr j ↦ elim (cases_Bool (is_place q x)) [
    | inl i ↦ rw (i, j) (omega arith)
    | inr i ↦ (let rest = preferred_better qs x y (preferred_fewer q qs x y i j h) in rw (i, j) (omega arith))
  ]
]
