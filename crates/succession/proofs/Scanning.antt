-- Tests of a whole list, and what they mean. Assumes nothing.
use Rattle.std.proofs.Common.{◌≡◌, Bool, true, false, List, [], ◌∷◌, refl}
use Rattle.std.proofs.lemmas.Bool.{and_parts, and_from, or_parts, or_from}
use Rattle.std.specs.List.{AllByRecursion, list_all, list_any}

module _ {X : Type 0} (p : X → Bool) (P : X → Type 0) where
  -- A test of every element is passed exactly when each passes it.
  pub every_all : ((x : X) → p x ≡ true → P x) → (xs : List X) → list_all p xs ≡ true → AllByRecursion P xs
  every_all one [] e = tt
  every_all one (x ∷ xs) e = let q = and_parts (p x) (list_all p xs) e in (one x q.0, every_all one xs q.1)

  pub all_every : ((x : X) → P x → p x ≡ true) → (xs : List X) → AllByRecursion P xs → list_all p xs ≡ true
  all_every one [] a = refl
  all_every one (x ∷ xs) a = and_from (p x) (list_all p xs) (one x a.0) (all_every one xs a.1)

  -- A test of some element is failed exactly when each fails it.
  pub none_all : ((x : X) → p x ≡ false → P x) → (xs : List X) → list_any p xs ≡ false → AllByRecursion P xs
  none_all one [] e = tt
  none_all one (x ∷ xs) e = let q = or_parts (p x) (list_any p xs) e in (one x q.0, none_all one xs q.1)

  pub all_none : ((x : X) → P x → p x ≡ false) → (xs : List X) → AllByRecursion P xs → list_any p xs ≡ false
  all_none one [] a = refl
  all_none one (x ∷ xs) a = or_from (p x) (list_any p xs) (one x a.0) (all_none one xs a.1)
