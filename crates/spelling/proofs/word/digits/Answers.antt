use Rattle.std.proofs.Common.{◌+◌, ◌*◌, drop, sym, ap, ◌∙◌, pow-suc, add-one, arith}
use Rattle.std.proofs.lemmas.List.{at_drop_all}
use Rattle.spelling.specs.Words.{digits_after}
use Rattle.spelling.proofs.Numbers.{digit_more, digit_none}
use Rattle.spelling.proofs.word.digits.Goals as goal

pub returns-then-not-is_ascii_digit : goal.returns-then-not-is_ascii_digit
returns-then-not-is_ascii_digit c =
    sym (digit_none _ _ _ c.loop-b-test.true (sym c.if-not-is_ascii_digit.ensures.value)) ∙ c.loop-b.invariant.0

pub loop-b-preserved : goal.loop-b-preserved
loop-b-preserved c = (
  ap (λ d. digits_after (10 * c.loop-b.n + d) (drop (c.loop-b.b-index + 1) c.args.text.now)) c.from.ensures ∙ sym (digit_more _ _ _ c.loop-b-test.true (sym c.if-not-is_ascii_digit.ensures.value)) ∙ c.loop-b.invariant.0,
  rw (add-one, pow-suc) (omega (arith, c.if-not-is_ascii_digit.ensures.cases)),
)

pub returns : goal.returns
returns c = sym (at_drop_all (digits_after c.loop-b.n) _ _ c.loop-b-test.false) ∙ c.loop-b.invariant.0
