use Rattle.std.proofs.Common.{◌≡◌, ◌+◌, ◌≤◌, length}
use Rattle.std.specs.Iterator.Adapters.{enumerate_source, enumerate_count}
use Rattle.spelling.specs.Views.{lines_of}
use Rattle.market_file.specs.Contents.{kinds_of, kinds_left}
use Rattle.market_file.specs.Files.{sections_checked}
use Rattle.market_file.specs.Ledgers.{known, blank}
use Rattle.market_file.proofs.sections.check_sections.Given as goal

-- What is left is checked against the kinds still due and what is known; no more lines were noted than passed.
abbrev pub invariant-loop-after : goal.invariant-loop-after
invariant-loop-after l =
    let passed = enumerate_count l.after-iterator in
    let due = kinds_left (enumerate_source l.after-iterator) in
    (sections_checked l.sizes (passed + 2) (known l.ledger) due (lines_of l.lines) ≡ sections_checked l.sizes 2 blank (kinds_of l.contents) (lines_of l.fn.others))
    × (passed + length due ≡ length (kinds_of l.contents))
    × (length (known l.ledger).names + length (known l.ledger).nodes ≤ passed)
    × (goal.iterator-loop-after).can_next l.after-iterator
    × (goal.iterator-loop-after).is_finite l.after-iterator
