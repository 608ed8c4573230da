-- What the words of a text are read as, and what it means that this is what the grammar says.
use Rattle.std.specs.Prelude.{◌≡◌, ℕ, List, Some, None, Ok, Err, Option, Result}
use Rattle.spelling.specs.declared.fault.WordFault.{WordFault}
use Rattle.spelling.specs.declared.fault.WordFault.TheVariants.{Malformed}
use Rattle.spelling.specs.Grammar.{Spelled, LeftmostMalformed, Small, spell}
use Rattle.spelling.specs.Words.{malformed, numbers_in}

-- A value where no word is malformed, else the fault of the leftmost malformed word.
abbrev pub unless : {X : Type 0} → Option ℕ → X → Result X WordFault
unless None x = Ok x
unless (Some k) x = Err (Malformed k)

-- The numbers of the words of a text, or the fault of its leftmost malformed word.
abbrev pub words_read : List ℕ → Result (List ℕ) WordFault
words_read bs = unless (malformed bs) (numbers_in bs)

-- A text is read as numbers exactly when it spells them, the spelling of numbers is read as those numbers, and a fault is exactly that of the leftmost malformed word.
pub record ReadsByGrammar (text : List ℕ) (r : Result (List ℕ) WordFault) : Type 0 where
  pub sound : (ns : List ℕ) → r ≡ Ok ns → Spelled text ns
  pub complete : (ns : List ℕ) → Spelled text ns → r ≡ Ok ns
  pub returns : (ns : List ℕ) → Small ns → text ≡ spell ns → r ≡ Ok ns
  pub leftmost : (k : ℕ) → r ≡ Err (Malformed k) → LeftmostMalformed text k
  pub named : (k : ℕ) → LeftmostMalformed text k → r ≡ Err (Malformed k)
  pub only : (e : WordFault) → r ≡ Err e → (k : ℕ) × (e ≡ Malformed k)
