-- Numbers that repeat within a list.
use Rattle.std.specs.Prelude.{◌≡◌, ℕ, suc, Bool, cond, List, [], ◌∷◌, ◌++◌, length, Some, None, Option, nat_eq}
use Rattle.std.specs.List.{list_any}
use Rattle.market.specs.Distinct.{Absent, Distinct}

-- A number is in a list.
abbrev pub has : ℕ → List ℕ → Bool
has x ys = list_any (λ y. nat_eq y x) ys

-- The index of the first number that repeats an earlier one, where the numbers seen come before and the next has index i.
abbrev pub repeat_after : ℕ → List ℕ → List ℕ → Option ℕ
repeat_after i seen [] = None
repeat_after i seen (x ∷ xs) = cond (has x seen) (Some i) (repeat_after (suc i) (seen ++ x ∷ []) xs)

-- The index of the first number of a list that repeats an earlier one.
abbrev pub repeat_in : List ℕ → Option ℕ
repeat_in xs = repeat_after 0 [] xs

-- The number at index i repeats an earlier one, and none before it does.
pub record LeftmostRepeat (xs : List ℕ) (i : ℕ) : Type 0 where
  pub before : List ℕ
  pub number : ℕ
  pub after : List ℕ
  pub parts : xs ≡ before ++ number ∷ after
  pub index : i ≡ length before
  pub distinct : Distinct before
  pub repeats : Absent number before → ⊥

-- The answer is none exactly when no number stands twice, and otherwise exactly the leftmost that repeats an earlier one.
pub record RepeatsExactly (xs : List ℕ) (r : Option ℕ) : Type 0 where
  pub none : r ≡ None → Distinct xs
  pub distinct : Distinct xs → r ≡ None
  pub some : (i : ℕ) → r ≡ Some i → LeftmostRepeat xs i
  pub named : (i : ℕ) → LeftmostRepeat xs i → r ≡ Some i
