-- Tests of a whole list, element by element.
use Rattle.std.specs.Prelude.{Bool, true, ◌&&◌, List, [], ◌∷◌, ◌++◌}

-- Each element passes a test after those before it: earlier are the elements before the list.
abbrev pub each_after : {X : Type 0} → (List X → X → Bool) → List X → List X → Bool
each_after p earlier [] = true
each_after p earlier (x ∷ xs) = p earlier x && each_after p (earlier ++ x ∷ []) xs
