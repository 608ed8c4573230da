use Rattle.std.proofs.Common.{◌≡◌, take, drop}
use Rattle.naming.specs.Repeats.{repeat_after, repeat_in}
use Rattle.naming.proofs.repeat.first_repeat.Given as goal

-- What is left decides, after what was passed.
abbrev pub invariant-loop-i : goal.invariant-loop-i
invariant-loop-i l = repeat_after l.i (take l.i l.numbers) (drop l.i l.numbers) ≡ repeat_in l.numbers
