-- Numbers of which none stands twice.
use Rattle.std.specs.Prelude.{ℕ, List, [], ◌∷◌, ◌++◌, ◌≢◌}
use Rattle.std.specs.List.{AllByRecursion}

-- A number is none of a list.
abbrev pub Absent : ℕ → List ℕ → Type 0
Absent x ys = AllByRecursion (λ y. y ≢ x) ys

-- Each number differs from all before it: seen are those before the list.
abbrev pub DistinctAfter : List ℕ → List ℕ → Type 0
DistinctAfter seen [] = Unit {0}
DistinctAfter seen (x ∷ xs) = Absent x seen × DistinctAfter (seen ++ x ∷ []) xs

-- No number stands twice in a list.
abbrev pub Distinct : List ℕ → Type 0
Distinct xs = DistinctAfter [] xs
