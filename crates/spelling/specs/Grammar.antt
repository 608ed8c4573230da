-- The grammar of words, as relations between a text and the numbers that it spells.
use Rattle.std.specs.Prelude.{◌≡◌, ℕ, ◌+◌, ◌≤◌, List, [], ◌∷◌, ◌++◌, length, Some, decimal, Option, slice_index_or}
use Rattle.std.specs.List.{AllByRecursion}
use Rattle.spelling.specs.Words.{read_on}

-- A byte is a decimal digit: 48 is 0 and 57 is 9.
abbrev pub Digit : ℕ → Type 0
Digit b = (48 ≤ b) × (b ≤ 57)

-- The bytes w are a word for the number n: 1 to 5 decimal digits that write n, which is at most 65,535, with no leading zero unless the word is 0 itself.
pub record Word (w : List ℕ) (n : ℕ) : Type 0 where
  pub digits : AllByRecursion Digit w
  pub some : 1 ≤ length w
  pub few : length w ≤ 5
  pub lead : slice_index_or w 0 0 ≡ 48 → length w ≡ 1
  pub value : read_on 0 w ≡ n
  pub small : n ≤ 65535

-- A text spells numbers: it is a word for each in their order, one space before each word, and nothing else.
abbrev pub Spelled : List ℕ → List ℕ → Type 0
Spelled text [] = text ≡ []
Spelled text (n ∷ ns) = (w : List ℕ) × (rest : List ℕ) × (text ≡ 32 ∷ (w ++ rest)) × Word w n × Spelled rest ns

-- Nothing is left, or a space comes next: a word ends here.
abbrev pub Ends : List ℕ → Type 0
Ends [] = Unit {0}
Ends (b ∷ bs) = b ≡ 32

-- A text begins with a space and a whole word.
abbrev pub BeginsWithWord : List ℕ → Type 0
BeginsWithWord text = (w : List ℕ) × (rest : List ℕ) × (n : ℕ) × (text ≡ 32 ∷ (w ++ rest)) × Ends rest × Word w n

-- The word at place k is malformed, and no word before it: k - 1 words are spelled, the last of them ends where the rest begins, and the rest is neither empty nor begins with a word.
pub record LeftmostMalformed (text : List ℕ) (k : ℕ) : Type 0 where
  pub before : List ℕ
  pub rest : List ℕ
  pub numbers : List ℕ
  pub parts : text ≡ before ++ rest
  pub spelled : Spelled before numbers
  pub place : k ≡ length numbers + 1
  pub more : 1 ≤ length rest
  pub edge : 1 ≤ length numbers → Ends rest
  pub broken : BeginsWithWord rest → ⊥

-- The bytes are read as a number exactly when they are a word for it.
pub record WordExactly (w : List ℕ) (r : Option ℕ) : Type 0 where
  pub sound : (n : ℕ) → r ≡ Some n → Word w n
  pub complete : (n : ℕ) → Word w n → r ≡ Some n

-- Numbers written as words: a space and the decimal digits of each.
abbrev pub spell : List ℕ → List ℕ
spell [] = []
spell (n ∷ ns) = 32 ∷ (decimal n ++ spell ns)

-- Each number is at most 65,535.
abbrev pub Small : List ℕ → Type 0
Small ns = AllByRecursion (λ n. n ≤ 65535) ns
