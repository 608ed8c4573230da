-- The lines of a file.
use Rattle.std.specs.Prelude.{◌≡◌, ℕ, zero, suc, cond, List, [], ◌∷◌, ◌++◌, drop, Some, None, Option, ◌==◌, ◌≢◌}
use Rattle.std.specs.Borrow.{Bor}
use Rattle.std.specs.List.{slice_get, AllByRecursion}
use Rattle.spelling.specs.Cuts.{since}

-- A byte put before the first line, which is begun by it where there is none.
abbrev pub onto : ℕ → List (List ℕ) → List (List ℕ)
onto b [] = (b ∷ []) ∷ []
onto b (l ∷ ls) = (b ∷ l) ∷ ls

-- The lines of a file: each ends at a line feed, byte 10, which the last may lack.
abbrev pub lines : List ℕ → List (List ℕ)
lines [] = []
lines (b ∷ bs) = cond (b == 10) ([] ∷ lines bs) (onto b (lines bs))

-- What stands after the first line and its line feed.
abbrev pub past : List ℕ → List ℕ
past bs = drop 1 (since 10 bs)

-- One call of `next` on the lines of s gives the first of them, and leaves those of t; where there is none, none is left.
abbrev pub Gives : List ℕ → Option (Bor (List ℕ)) → List ℕ → Type 0
Gives s None t = (lines s ≡ []) × (lines t ≡ [])
Gives s (Some x) t = lines s ≡ x.now ∷ lines t

-- The one of a list with a number, counted from 1.
abbrev pub numbered : {X : Type 0} → List X → ℕ → Option X
numbered xs zero = None
numbered xs (suc k) = slice_get xs k

-- Lines written one after another, each with its line feed.
abbrev pub fed : List (List ℕ) → List ℕ
fed [] = []
fed (l ∷ ls) = l ++ (10 ∷ fed ls)

-- No byte is a line feed.
abbrev pub Unfed : List ℕ → Type 0
Unfed bs = AllByRecursion (λ b. b ≢ 10) bs

-- A file with the line feed that its last line may lack.
abbrev pub closed : List ℕ → List ℕ
closed [] = []
closed (b ∷ []) = cond (b == 10) (b ∷ []) (b ∷ 10 ∷ [])
closed (b ∷ c ∷ bs) = b ∷ closed (c ∷ bs)

-- Lines are the lines of a file: none has a line feed within, joined with their line feeds they give the file, the last line feed supplied where it is missing, and no other lines do.
pub record Rejoins (file : List ℕ) (ls : List (List ℕ)) : Type 0 where
  pub whole : fed ls ≡ closed file
  pub apart : AllByRecursion Unfed ls
  pub only : (ms : List (List ℕ)) → AllByRecursion Unfed ms → fed ms ≡ closed file → ms ≡ ls
