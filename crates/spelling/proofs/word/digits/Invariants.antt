use Rattle.std.proofs.Common.{◌≡◌, ◌^◌, ◌<◌, drop}
use Rattle.spelling.specs.Words.{digits_after}
use Rattle.spelling.proofs.word.digits.Given as goal

-- What is left reads on from the number so far, which has at most as many digits as were passed.
abbrev pub invariant-loop-b : goal.invariant-loop-b
invariant-loop-b l = (digits_after l.n (drop l.b-index l.text) ≡ digits_after 0 l.text) × (l.n < 10 ^ l.b-index)
