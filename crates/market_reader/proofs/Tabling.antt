-- Lists filled by numbers. Assumes nothing.
use Rattle.std.proofs.Common.{◌≡◌, ℕ, zero, suc, ◌+◌, ◌-◌, ◌<◌, ◌≤◌, true, leb, List, [], ◌∷◌, ◌++◌, Some, None, map, length, take, drop, set, replicate, sym, refl, ap, ◌∙◌, inl, inr, add-one, arith}
use lib.Seq.{map-set, map-set_same, take-set-lt, take-set-le}
use Rattle.std.proofs.lemmas.Grind.{common_steps}
use Rattle.std.proofs.lemmas.Option.{gets}
use Rattle.std.proofs.lemmas.List.{length-map, length-take, take-map}
use Rattle.std.proofs.lemmas.Bool.{and_parts, leb-true, cases_lt}
use Rattle.market_reader.specs.Rooms.{room_for}
use Rattle.market_reader.specs.Tables.{set_at, entry_at}

set_past : {X : Type 0} (t : List X) (i : ℕ) (x : X) → length t ≤ i → set t i x ≡ t
set_past [] i x h = refl
set_past (y ∷ t) zero x h = absurd (omega arith)
set_past (y ∷ t) (suc i) x h = ap (λ l. y ∷ l) (set_past t i x (omega arith))

-- Another element at a number, in a list and in what is read from each of its elements.
pub map_set_at : {X Y : Type 0} (f : X → Y) (t : List X) (n : ℕ) (x y : X) → Some y ≡ entry_at t n → map f (set t (n - 1) x) ≡ set_at (map f t) n (f x)
map_set_at f t zero x y e = absurd cc
map_set_at f t (suc i) x y e = ap (λ k. map f (set t k x)) (omega arith) ∙ map-set f t i x

-- What is read is the same where it is the same of the old element and the new.
pub map_set_at_same : {X Y : Type 0} (f : X → Y) (t : List X) (n : ℕ) (x y : X) → Some y ≡ entry_at t n → f x ≡ f y → map f (set t (n - 1) x) ≡ map f t
map_set_at_same f t zero x y e same = absurd cc
map_set_at_same f t (suc i) x y e same = grind (arith, common_steps, gets, map-set, map-set_same)

-- Where there is no such number nothing changes.
pub set_at_missing : {X Y : Type 0} (f : X → Y) (t : List X) (n : ℕ) (x : Y) → None ≡ entry_at t n → map f t ≡ set_at (map f t) n x
set_at_missing f t zero x e = refl
set_at_missing f t (suc i) x e = grind (arith, common_steps, gets)

-- The first entries of a list with another element.
pub take_set_at : {X : Type 0} (m : ℕ) (t : List X) (n : ℕ) (x : X) → take m (set_at t n x) ≡ set_at (take m t) n x
take_set_at m t zero x = refl
take_set_at m t (suc i) x =
    elim (cases_lt i m) [
      | inl h ↦ take-set-lt m t i x h
      | inr h ↦ take-set-le m t i x h ∙ sym (set_past (take m t) i x (omega (arith, length-take m t)))
    ]

-- One more from the front is the same element.
pub emptied_more : {X : Type 0} (i : ℕ) (t : List X) (y : X) → i < length t → set (replicate i y ++ drop i t) i y ≡ replicate (i + 1) y ++ drop (i + 1) t
emptied_more {X = X} i t y h = go i t h ∙ ap (λ k. replicate k y ++ drop k t) (sym (add-one i))
  where
    go : (i : ℕ) (t : List X) → i < length t → set (replicate i y ++ drop i t) i y ≡ replicate (suc i) y ++ drop (suc i) t
    go i [] h = absurd (omega arith)
    go zero (x ∷ t) h = refl
    go (suc i) (x ∷ t) h = ap (λ l. y ∷ l) (go i t (omega arith))

-- ---- room

-- Each of the lists has room for as many as all have.
pub room_at : {X : Type 0} (k : ℕ) (capacity : X → ℕ) (t : List X) (n : ℕ) (y : X) → Some y ≡ entry_at t n → room_for k (map capacity t) ≡ true → k ≤ capacity y
room_at k capacity t zero y e r = absurd cc
room_at k capacity [] (suc i) y e r = absurd cc
room_at k capacity (x ∷ t) (suc zero) y e r = let same : y ≡ x = cc in rw same (leb-true k (capacity x) (and_parts (leb k (capacity x)) (room_for k (map capacity t)) r).0)
room_at k capacity (x ∷ t) (suc (suc i)) y e r = room_at k capacity t (suc i) y e (and_parts (leb k (capacity x)) (room_for k (map capacity t)) r).1

-- The first of what is read from the elements of a list.
pub ruleset first_read = (take-map)

-- Another entry in a list of lists.
pub ruleset another_entry = (map_set_at, map_set_at_same, set_at_missing, room_at)

-- One list more is empty.
pub ruleset emptied = (map-set, map-set_same, emptied_more, length-map)
