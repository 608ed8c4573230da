-- Tables: lists that are filled by numbers.
use Rattle.std.specs.Prelude.{◌≡◌, ℕ, zero, suc, ◌⊎◌, List, [], ◌∷◌, length, Some, None, Option, ◌≢◌, slice_index, slice_set}
use Rattle.std.specs.List.{slice_get, AllByRecursion}

-- A list with another element at a number, counted from 1; the same list where it has no such place.
abbrev pub set_at : {X : Type 0} → List X → ℕ → X → List X
set_at t zero x = t
set_at t (suc i) x = slice_set t i x

-- The element at a number, counted from 1, where there is such a place.
abbrev pub entry_at : {X : Type 0} → List X → ℕ → Option X
entry_at t zero = None
entry_at t (suc i) = slice_get t i

-- The first number of a record: the place or the agent that it is about.
abbrev pub about : List ℕ → ℕ
about ns = slice_index ns 0

-- A table after records: each puts its value at the number that it is about.
abbrev pub filled : {X : Type 0} → (List ℕ → X) → List X → List (List ℕ) → List X
filled value t [] = t
filled value t (ns ∷ records) = filled value (set_at t (about ns) (value ns)) records

-- A record is one of a list.
abbrev pub Among : List (List ℕ) → List ℕ → Type 0
Among records ns = (j : ℕ) × (slice_get records j ≡ Some ns)

-- No record is about a number.
abbrev pub NoneAbout : ℕ → List (List ℕ) → Type 0
NoneAbout k records = AllByRecursion (λ ns. about ns ≢ k) records

-- A table has so many entries, one for each number from 1: the value of the record that is about the number, and the default where no record is.
pub record TableOf {X : Type 0} (value : List ℕ → X) (default : X) (size : ℕ) (records : List (List ℕ)) (t : List X) : Type 0 where
  pub entries : length t ≡ size
  pub told : (ns : List ℕ) (i : ℕ) → Among records ns → about ns ≡ suc i → slice_get t i ≡ Some (value ns)
  pub said : (i : ℕ) (x : X) → slice_get t i ≡ Some x → ((ns : List ℕ) × Among records ns × (about ns ≡ suc i) × (x ≡ value ns)) ⊎ (NoneAbout (suc i) records × (x ≡ default))
