use Rattle.std.proofs.Common.{◌≡◌, ◌+◌, ◌*◌, ◌≤◌, ◌++◌, length, drop}
use Rattle.spelling.specs.Grammar.{spell}
use Rattle.console.proofs.page.Page.put_words.Given as goal

-- What was put and the words to come are all.
abbrev pub invariant-loop-number : goal.invariant-loop-number
invariant-loop-number l =
    (l.self ++ spell (drop l.number-index l.numbers) ≡ l.initial.self ++ spell l.numbers)
    × (length l.self ≤ length l.initial.self + 21 * l.number-index)
