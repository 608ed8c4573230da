-- Lines as records: what a line is read as, and what it means that this is what the grammar says.
use Rattle.std.specs.Prelude.{◌≡◌, ℕ, cond, List, [], ◌∷◌, Ok, Err, Result, ◌==◌, ◌≢◌}
use Rattle.spelling.specs.declared.fault.WordFault.{WordFault}
use Rattle.spelling.specs.declared.fault.WordFault.TheVariants.{Letter, Malformed}
use Rattle.spelling.specs.Grammar.{Spelled, LeftmostMalformed}
use Rattle.spelling.specs.Reading.{words_read}
use Rattle.spelling.specs.Views.{numbers_of}
use Rattle.market_lines.specs.declared.fault.LineFault.{LineFault}
use Rattle.market_lines.specs.declared.fault.LineFault.TheVariants.{InWord, Count, Range}
use Rattle.market_lines.specs.declared.kind.Kind.{Kind}
use Rattle.market_lines.specs.declared.kind.Kind.TheVariants.{Market, Contents, Seats, Queue, Priorities, Heir, Tenant, Ranking}
use Rattle.market_lines.specs.declared.line.Line.{Line}
use Rattle.market_lines.specs.declared.line.Line.TheVariants as line
use Rattle.market_lines.specs.Kinds.{letter_of}

-- A line that was read: its kind, its stretch of the file, and its words' numbers.
pub record Read : Type 0 where
  pub kind : Kind
  pub text : List ℕ
  pub numbers : List ℕ

-- A line of kind k with the bytes text and the numbers ns.
abbrev pub whole : Kind → List ℕ → List ℕ → Read
whole k text ns = record { kind = k; text = text; numbers = ns }

-- What a `Line` holds.
abbrev pub seen : Line → Read
seen (line.Market t ws) = whole Market t.now (numbers_of ws)
seen (line.Contents t ws) = whole Contents t.now (numbers_of ws)
seen (line.Seats t ws) = whole Seats t.now (numbers_of ws)
seen (line.Queue t ws) = whole Queue t.now (numbers_of ws)
seen (line.Priorities t ws) = whole Priorities t.now (numbers_of ws)
seen (line.Heir t ws) = whole Heir t.now (numbers_of ws)
seen (line.Tenant t ws) = whole Tenant t.now (numbers_of ws)
seen (line.Ranking t ws) = whole Ranking t.now (numbers_of ws)

-- A line of kind k whose words were read, or had a fault.
abbrev pub worded : Kind → List ℕ → Result (List ℕ) WordFault → Result Read LineFault
worded k text (Err e) = Err (InWord e)
worded k text (Ok ns) = Ok (whole k text ns)

-- A line of the kind due: its letter, then words.
abbrev pub line_read : Kind → List ℕ → Result Read LineFault
line_read k [] = Err (InWord Letter)
line_read k (b ∷ bs) = cond (b == letter_of k) (worded k (b ∷ bs) (words_read bs)) (Err (InWord Letter))

-- A text is a line of kind k with the numbers ns: the letter of the kind, and then words that spell the numbers.
abbrev pub SpelledLine : Kind → List ℕ → List ℕ → Type 0
SpelledLine k ns text = (rest : List ℕ) × (text ≡ letter_of k ∷ rest) × Spelled rest ns

-- A text does not begin with the letter of kind k.
abbrev pub LetterMissing : Kind → List ℕ → Type 0
LetterMissing k text = (rest : List ℕ) → text ≢ letter_of k ∷ rest

-- A text begins with the letter of kind k, and the word at place j is its leftmost malformed word.
abbrev pub WordBroken : Kind → ℕ → List ℕ → Type 0
WordBroken k j text = (rest : List ℕ) × (text ≡ letter_of k ∷ rest) × LeftmostMalformed rest j

-- A text is no line of kind k, and this is its first fault of the word layer: the letter due is missing, or else the leftmost malformed word.
abbrev pub Misread : Kind → LineFault → List ℕ → Type 0
Misread k (InWord Letter) text = LetterMissing k text
Misread k (InWord (Malformed j)) text = WordBroken k j text
Misread k Count text = ⊥
Misread k (Range j) text = ⊥

-- A line of the kind due is read exactly when it is spelled as the grammar says, with the numbers spelled, and otherwise answered with exactly its first fault of the word layer.
pub record LineByGrammar (k : Kind) (text : List ℕ) (r : Result Read LineFault) : Type 0 where
  pub sound : (l : Read) → r ≡ Ok l → (l ≡ whole k text l.numbers) × SpelledLine k l.numbers text
  pub complete : (ns : List ℕ) → SpelledLine k ns text → r ≡ Ok (whole k text ns)
  pub fault : (e : LineFault) → r ≡ Err e → Misread k e text
  pub named : (e : LineFault) → Misread k e text → r ≡ Err e
