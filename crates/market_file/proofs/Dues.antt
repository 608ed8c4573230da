-- The kinds of lines that the contents say, one section after another. Assumes nothing.
use Rattle.std.proofs.Common.{◌≡◌, ℕ, zero, suc, ◌+◌, ◌<◌, List, ◌++◌, replicate, Some, refl, ap, arith}
use Rattle.std.specs.List.{slice_get}

-- Within a section its kind is due.
pub inside : {X : Type 0} (n i : ℕ) (k : X) (xs : List X) → i < n → slice_get (replicate n k ++ xs) i ≡ Some k
inside zero i k xs h = absurd (omega arith)
inside (suc n) zero k xs h = refl
inside (suc n) (suc i) k xs h = inside n i k xs (omega arith)

-- Past a section the others decide: i is the place in the whole, and j the place after the section.
pub past : {X : Type 0} (n i j : ℕ) (k : X) (xs : List X) → i ≡ n + j → slice_get (replicate n k ++ xs) i ≡ slice_get xs j
past zero i j k xs e = let same : i ≡ j = omega arith in ap (slice_get xs) same
past (suc n) zero j k xs e = absurd (omega arith)
past (suc n) (suc i) j k xs e = past n i j k xs (omega arith)
