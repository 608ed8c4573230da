-- The faults of the word layer.
use Rattle.std.specs.Prelude.{ℕ}
use Rattle.spelling.specs.declared.fault.WordFault.{WordFault}
use Rattle.spelling.specs.declared.fault.WordFault.TheVariants.{Letter, Malformed}

-- The number of each fault of the word layer.
abbrev pub word_cause : WordFault → ℕ
word_cause Letter = 1
word_cause (Malformed k) = 2

-- The word that a fault names, from 1; 0 where it names none.
abbrev pub word_at : WordFault → ℕ
word_at Letter = 0
word_at (Malformed k) = k
