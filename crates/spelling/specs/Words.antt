-- What a word's bytes spell, and the words of a text.
use Rattle.std.specs.Prelude.{ℕ, ◌+◌, ◌-◌, ◌*◌, Bool, cond, not, ◌&&◌, List, [], ◌∷◌, map, length, Some, None, Option, ◌==◌, nat_le, nat_lt, slice_index}
use Rattle.std.specs.List.{position_from}
use Rattle.std.specs.Option.{is_none, some_prefix}
use Rattle.std.specs.Str.{all_ascii_digits}
use Rattle.spelling.specs.Cuts.{until, afters, none}

-- The number that digits write after the number n.
abbrev pub read_on : ℕ → List ℕ → ℕ
read_on n [] = n
read_on n (c ∷ cs) = read_on (10 * n + (c - 48)) cs

-- The number that decimal digits write after the number n; none where a byte is no digit.
abbrev pub digits_after : ℕ → List ℕ → Option ℕ
digits_after n bs = cond (all_ascii_digits bs) (Some (read_on n bs)) None

-- The text has 1 to 5 bytes, and begins with the digit 0 only if that is all of it.
abbrev pub shaped : List ℕ → Bool
shaped bs = nat_lt 0 (length bs) && nat_le (length bs) 5 && not (slice_index bs 0 == 48 && nat_lt 1 (length bs))

-- A word's bytes spell a number: they are shaped as a word, all digits, and write at most 65,535.
abbrev pub spells : List ℕ → Bool
spells bs = shaped bs && all_ascii_digits bs && nat_le (read_on 0 bs) 65535

-- The number that a word's bytes spell, if they spell one.
abbrev pub spelled : List ℕ → Option ℕ
spelled bs = cond (spells bs) (Some (read_on 0 bs)) None

-- What the words of a text spell: a word is what stands after a space, up to the next space or the end. Text that does not begin with a space has a malformed first word.
abbrev pub readings : List ℕ → List (Option ℕ)
readings bs = cond (none (until 32 bs)) (map spelled (afters 32 bs)) (None ∷ [])

-- The place, from 1, of the leftmost malformed word of a text, where there is one.
abbrev pub malformed : List ℕ → Option ℕ
malformed bs = position_from is_none 1 (readings bs)

-- The numbers of the words of a text, up to its leftmost malformed word.
abbrev pub numbers_in : List ℕ → List ℕ
numbers_in bs = some_prefix (readings bs)
