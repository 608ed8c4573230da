-- A line of the kind due, with the right count of words, each in its range.
use Rattle.std.specs.Prelude.{◌≡◌, ℕ, ◌+◌, cond, List, [], ◌∷◌, ◌++◌, length, Some, None, Ok, Err, Option, Result}
use Rattle.market_lines.specs.declared.fault.LineFault.{LineFault}
use Rattle.market_lines.specs.declared.fault.LineFault.TheVariants.{InWord, Count, Range}
use Rattle.market_lines.specs.declared.kind.Kind.{Kind}
use Rattle.market_lines.specs.Records.{Read, whole, line_read, SpelledLine, Misread}
use Rattle.market.specs.declared.sizes.Sizes.{Sizes}
use Rattle.market_file.specs.Bounds.{count_fits, misfit, CountRight, InRange}

-- Nothing where all numbers are in range, else the fault of the leftmost that is not.
abbrev pub ranged : Option ℕ → Result Unit LineFault
ranged None = Ok tt
ranged (Some j) = Err (Range j)

-- What the count and the ranges of a line's numbers say.
abbrev pub fitting : Kind → Sizes → List ℕ → Result Unit LineFault
fitting k z ns = cond (count_fits k z (length ns)) (ranged (misfit k z 1 ns)) (Err Count)

-- A line that was read, where its numbers fit.
abbrev pub passed : Result Unit LineFault → Read → Result Read LineFault
passed (Ok u) l = Ok l
passed (Err e) l = Err e

-- A line of the kind due after its count and ranges were checked.
abbrev pub fitted : Kind → Sizes → Result Read LineFault → Result Read LineFault
fitted k z (Err e) = Err e
fitted k z (Ok l) = passed (fitting k z l.numbers) l

-- A line of the kind due: its letter, its words, their count, their ranges, in this order.
abbrev pub line_formed : Kind → Sizes → List ℕ → Result Read LineFault
line_formed k z text = fitted k z (line_read k text)

-- A text is a line of kind k with the numbers ns, as many as the kind has, and each in its range.
pub record FormedLine (z : Sizes) (k : Kind) (ns : List ℕ) (text : List ℕ) : Type 0 where
  pub spelled : SpelledLine k ns text
  pub count : CountRight k z (length ns)
  pub ranges : InRange k z 1 ns

-- The number at place j is the leftmost out of its range.
pub record LeftmostOutside (z : Sizes) (k : Kind) (j : ℕ) (ns : List ℕ) : Type 0 where
  pub before : List ℕ
  pub number : ℕ
  pub after : List ℕ
  pub parts : ns ≡ before ++ number ∷ after
  pub place : j ≡ length before + 1
  pub ranges : InRange k z 1 before
  pub outside : InRange k z j (number ∷ []) → ⊥

-- A text is no line of kind k, and this is its first fault: the letter due is missing; else the leftmost malformed word; else the count of words; else the leftmost number out of its range.
abbrev pub BrokenLine : Sizes → Kind → LineFault → List ℕ → Type 0
BrokenLine z k (InWord e) text = Misread k (InWord e) text
BrokenLine z k Count text = (ns : List ℕ) × SpelledLine k ns text × (CountRight k z (length ns) → ⊥)
BrokenLine z k (Range j) text = (ns : List ℕ) × SpelledLine k ns text × CountRight k z (length ns) × LeftmostOutside z k j ns

-- A line is accepted exactly when it is formed as the kind due asks, as a line of that kind with its stretch and its numbers, and otherwise answered with exactly its first fault.
pub record LineByForm (z : Sizes) (k : Kind) (text : List ℕ) (r : Result Read LineFault) : Type 0 where
  pub sound : (l : Read) → r ≡ Ok l → (l ≡ whole k text l.numbers) × FormedLine z k l.numbers text
  pub complete : (ns : List ℕ) → FormedLine z k ns text → r ≡ Ok (whole k text ns)
  pub fault : (e : LineFault) → r ≡ Err e → BrokenLine z k e text
  pub named : (e : LineFault) → BrokenLine z k e text → r ≡ Err e
