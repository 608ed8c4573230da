use Rattle.std.proofs.Common.{◌≡◌, ◌+◌, ◌-◌, ◌*◌, ◌≤◌, ◌++◌, length}
use Rattle.console.specs.declared.page.TheConstants.{ROOM}
use Rattle.console.specs.Printed.{owners_from, owners_text}
use Rattle.console.proofs.page.Page.put_owners.Given as goal

-- What was put and the owners of the other places are all; there is room for these.
abbrev pub invariant-loop-number : goal.invariant-loop-number
invariant-loop-number g l =
    let T = g.R.Rule.terms l.rule in
    let left = T.places + 1 - l.number in
    (l.self ++ owners_from T l.row l.number left ≡ l.initial.self ++ owners_text T l.row) × (length l.self + 48 * left ≤ ROOM)
