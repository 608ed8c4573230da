-- When OPEN and FILE are accepted, in words.
use Rattle.std.proofs.Common.{◌≡◌, ℕ, ◌≤◌, Bool, true, false, not, ◌&&◌, eqb, leb, List, [], ◌∷◌, length, None, Option, refl, ap, inl, inr}
use Rattle.std.proofs.lemmas.List.{length-map}
use Rattle.std.proofs.lemmas.Bool.{both_ways, cases_Bool, and_parts, and_from, eqb-true, eqb-false, eq-eqb, ne_eqb, leb-true, le-leb}
use Rattle.std.specs.List.{AllByRecursion}
use Rattle.market.proofs.Pigeonhole.{Apart, UpTo, apart, distinct, no_more}
use Rattle.market.specs.declared.place.Place.{Place}
use Rattle.market.specs.declared.refusal.Refusal.{Refusal}
use Rattle.market.specs.Data.{place_numbers}
use Rattle.market.specs.Distinct.{Absent}
use Rattle.market.specs.Rows.{PlaceIn}
use Rattle.trading.specs.Rankings.{Ranking}
use Rattle.trading.specs.Rooms.{same_place}
use Rattle.round_law.specs.Laws.{OpenAccepted, FileAccepted}
use Rattle.round_law.specs.Refusing.{in_range, all_of, place_known, lists, none_twice, sizes_fit, unless}
use Rattle.round_law.specs.States.{is_blank, is_filing}
use Rattle.round_law.proofs.Refusing.{blank_phase, filing_phase, unless_parts}

unless_from : (fine : Bool) (reason : Refusal) (others : Option Refusal) → fine ≡ true → others ≡ None → unless fine reason others ≡ None
unless_from fine reason others f o = rw f o

-- TESTS

range_parts : (low high x : ℕ) → in_range low high x ≡ true → (low ≤ x) × (x ≤ high)
range_parts low high x e = let p = and_parts (leb low x) (leb x high) e in (leb-true low x p.0, leb-true x high p.1)

range_from : (low high x : ℕ) → low ≤ x → x ≤ high → in_range low high x ≡ true
range_from low high x l h = and_from (leb low x) (leb x high) (le-leb low x l) (le-leb x high h)

all_of_parts : {X : Type 0} (P : X → Type 0) (test : X → Bool) → ((x : X) → test x ≡ true → P x) → (xs : List X) → all_of test xs ≡ true → AllByRecursion P xs
all_of_parts P test tells [] e = tt
all_of_parts P test tells (x ∷ xs) e = let p = and_parts (test x) (all_of test xs) e in (tells x p.0, all_of_parts P test tells xs p.1)

all_of_from : {X : Type 0} (P : X → Type 0) (test : X → Bool) → ((x : X) → P x → test x ≡ true) → (xs : List X) → AllByRecursion P xs → all_of test xs ≡ true
all_of_from P test passes [] all = refl
all_of_from P test passes (x ∷ xs) all = and_from (test x) (all_of test xs) (passes x all.0) (all_of_from P test passes xs all.1)

not_listed : (r : Ranking) (p : Place) → lists r p ≡ false → Absent p.number (place_numbers r)
not_listed [] p e = tt
not_listed (q ∷ r) p e = elim (cases_Bool (same_place q p)) [
  | inl s ↦ absurd (both_ways true (rw s at e) refl)
  | inr s ↦ (eqb-false q.number p.number s, not_listed r p (rw s at e))
]

absent_listed : (r : Ranking) (p : Place) → Absent p.number (place_numbers r) → lists r p ≡ false
absent_listed [] p h = refl
absent_listed (q ∷ r) p h = rw (ne_eqb q.number p.number h.0) (absent_listed r p h.1)

not_true : (b : Bool) → not b ≡ true → b ≡ false
not_true true e = absurd (both_ways false refl e)
not_true false e = refl

twice_apart : (r : Ranking) → none_twice r ≡ true → Apart (place_numbers r)
twice_apart [] e = tt
twice_apart (p ∷ r) e = let q = and_parts (not (lists r p)) (none_twice r) e in (not_listed r p (not_true (lists r p) q.0), twice_apart r q.1)

apart_twice : (r : Ranking) → Apart (place_numbers r) → none_twice r ≡ true
apart_twice [] d = refl
apart_twice (p ∷ r) d = and_from (not (lists r p)) (none_twice r) (ap not (absent_listed r p d.0)) (apart_twice r d.1)

up_to : (m : ℕ) (r : Ranking) → AllByRecursion (PlaceIn m) r → AllByRecursion (UpTo m) (place_numbers r)
up_to m [] all = tt
up_to m (p ∷ r) all = ((all.0.from_one, all.0.in_range), up_to m r all.1)

-- OPEN

pub open_accepted : OpenAccepted
open_accepted T s n cs = (
  λ e.
      let p = unless_parts (is_blank s.phase) Refusal.Phase _ e in
      let q = unless_parts (sizes_fit T n (length cs)) Refusal.Sizes _ p.1 in
      let c = unless_parts (all_of (in_range 1 200) cs) Refusal.Capacity None q.1 in
      let a = and_parts (in_range 1 200 n && in_range 1 40 (length cs)) (eqb n T.agents && eqb (length cs) T.places) q.0 in
      let b = and_parts (in_range 1 200 n) (in_range 1 40 (length cs)) a.0 in
      let d = and_parts (eqb n T.agents) (eqb (length cs) T.places) a.1 in
      let agents = range_parts 1 200 n b.0 in
      let places = range_parts 1 40 (length cs) b.1 in (
        blank_phase s.phase p.0,
        record {
          agents = eqb-true n T.agents d.0;
          some_agents = agents.0;
          few_agents = agents.1;
          places = eqb-true (length cs) T.places d.1;
          some_places = places.0;
          few_places = places.1;
          seats = all_of_parts (λ c. (1 ≤ c) × (c ≤ 200)) (in_range 1 200) (range_parts 1 200) cs c.0;
        },
      ),
  λ h.
      let m = h.1 in
      unless_from (is_blank s.phase) Refusal.Phase _ (ap is_blank h.0)
      (unless_from (sizes_fit T n (length cs)) Refusal.Sizes _
      (and_from (in_range 1 200 n && in_range 1 40 (length cs)) (eqb n T.agents && eqb (length cs) T.places)
      (and_from (in_range 1 200 n) (in_range 1 40 (length cs)) (range_from 1 200 n m.some_agents m.few_agents) (range_from 1 40 (length cs) m.some_places m.few_places))
      (and_from (eqb n T.agents) (eqb (length cs) T.places) (eq-eqb n T.agents m.agents) (eq-eqb (length cs) T.places m.places)))
      (unless_from (all_of (in_range 1 200) cs) Refusal.Capacity None (all_of_from (λ c. (1 ≤ c) × (c ≤ 200)) (in_range 1 200) (λ c r. range_from 1 200 c r.0 r.1) cs m.seats) refl)),
)

-- FILE

pub file_accepted : FileAccepted
file_accepted T s a r = (
  λ e.
      let p = unless_parts (is_filing s.phase) Refusal.Phase _ e in
      let q = unless_parts (in_range 1 T.agents a.number) Refusal.Agent _ p.1 in
      let l = unless_parts (leb (length r) T.places) Refusal.Length _ q.1 in
      let k = unless_parts (all_of (place_known T.places) r) Refusal.Place _ l.1 in
      let t = unless_parts (none_twice r) Refusal.Repeat None k.1 in
      let known = range_parts 1 T.agents a.number q.0 in
      record {
        filing = filing_phase s.phase p.0;
        known = record { from_one = known.0; in_range = known.1 };
        ranking = record {
          known = all_of_parts (PlaceIn T.places) (place_known T.places) (λ p t. let x = range_parts 1 T.places p.number t in record { from_one = x.0; in_range = x.1 }) r k.0;
          once = distinct (place_numbers r) (twice_apart r t.0);
        };
      },
  λ f.
      let m = T.places in
      let d = apart (place_numbers r) f.ranking.once in
      let few : length r ≤ m = rw length-map at (no_more m (place_numbers r) d (up_to m r f.ranking.known)) in
      unless_from (is_filing s.phase) Refusal.Phase _ (ap is_filing f.filing)
      (unless_from (in_range 1 T.agents a.number) Refusal.Agent _ (range_from 1 T.agents a.number f.known.from_one f.known.in_range)
      (unless_from (leb (length r) m) Refusal.Length _ (le-leb (length r) m few)
      (unless_from (all_of (place_known m) r) Refusal.Place _ (all_of_from (PlaceIn m) (place_known m) (λ p k. range_from 1 m p.number k.from_one k.in_range) r f.ranking.known)
      (unless_from (none_twice r) Refusal.Repeat None (apart_twice r d) refl)))),
)
