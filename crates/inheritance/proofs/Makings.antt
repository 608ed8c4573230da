-- Making a rule: what the tests of sizes and data mean. Assumes nothing.
use Rattle.std.proofs.Common.{◌≡◌, ℕ, Bool, true, ◌&&◌, leb, Ok, refl}
use Rattle.std.proofs.lemmas.Bool.{and_parts, and_from, leb-true, le-leb}
use Rattle.inheritance.specs.Making.{SizesRight, sizes_fit, MadeExactly, OrderedRight}

pub sizes_right : (n m : ℕ) → sizes_fit n m ≡ true → SizesRight n m
sizes_right n m e =
    let q = and_parts (leb 1 n && leb n 200) (leb 1 m && leb m 40) e in
    let a = and_parts (leb 1 n) (leb n 200) q.0 in
    let b = and_parts (leb 1 m) (leb m 40) q.1 in
    record { some_agents = leb-true 1 n a.0; most_agents = leb-true n 200 a.1; some_places = leb-true 1 m b.0; most_places = leb-true m 40 b.1 }

pub sizes_fit_true : (n m : ℕ) → SizesRight n m → sizes_fit n m ≡ true
sizes_fit_true n m s =
    and_from _ _ (and_from _ _ (le-leb 1 n s.some_agents) (le-leb n 200 s.most_agents)) (and_from _ _ (le-leb 1 m s.some_places) (le-leb m 40 s.most_places))

-- Sizes and orders are right exactly when both tests are passed.
module _ (n m : ℕ) (fits : Bool) (Right : Type 0) where
  pub ordered_right : (fits ≡ true → Right) → (sizes_fit n m && fits) ≡ true → OrderedRight n m Right
  ordered_right right e = let q = and_parts (sizes_fit n m) fits e in record { sizes = sizes_right n m q.0; all = right q.1 }

  pub ordered_fits : (Right → fits ≡ true) → OrderedRight n m Right → (sizes_fit n m && fits) ≡ true
  ordered_fits passes r = and_from _ _ (sizes_fit_true n m r.sizes) (passes r.all)

-- A rule that is made from right data.
pub made_right : {X : Type 0} {Right : Type 0} → Right → (x : X) → MadeExactly Right (Ok x)
made_right right x = record { made = λ _. (x, refl); right = λ _ _. right; refused = λ wrong. absurd (wrong right) }
