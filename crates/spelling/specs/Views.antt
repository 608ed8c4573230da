-- What the views of words and of lines stand for.
use Rattle.std.specs.Prelude.{◌≡◌, ℕ, List, [], ◌∷◌, Some, None, Option}
use Rattle.spelling.specs.declared.lines.Lines.{Lines}
use Rattle.spelling.specs.declared.words.Readings.{Readings}
use Rattle.spelling.specs.declared.words.Words.{Words}
use Rattle.spelling.specs.Lines.{lines}
use Rattle.spelling.specs.Words.{numbers_in, readings}

-- The numbers of the words that are still to come.
abbrev pub numbers_of : Words → List ℕ
numbers_of w = numbers_in w.rest.now

-- The readings of the words that are still to come.
abbrev pub readings_left : Readings → List (Option ℕ)
readings_left r = readings r.rest.now

-- One call of `next` gives the first of the numbers, and leaves the others; where there is none, none is left.
abbrev pub Yields : List ℕ → Option ℕ → List ℕ → Type 0
Yields before None after = (before ≡ []) × (after ≡ [])
Yields before (Some n) after = before ≡ n ∷ after

-- The lines that are still to come.
abbrev pub lines_of : Lines → List (List ℕ)
lines_of l = lines l.rest.now
